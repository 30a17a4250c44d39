use Rattle.std.proofs.Common.{◌∙◌}
use Rattle.rest_codes.proofs.HeadLemmas.{head_pieces}
use Rattle.rest_codes.proofs.response.put_head.Goals as goal

pub returns : goal.returns
returns c =
    head_pieces c.args.out.now.items c.extend_from_slice.new.self.items c.extend_from_slice-2.new.self.items c.extend_from_slice-3.new.self.items c.extend_from_slice-4.new.self.items
    c.extend_from_slice-5.new.self.items c.extend_from_slice-6.new.self.items c.extend_from_slice-7.new.self.items c.extend_from_slice-8.new.self.items c.extend_from_slice-9.new.self.items
    c.as_bytes.result.now c.as_bytes-4.result.now c.args.status c.reason.result.now c.as_bytes-2.result.now c.args.media.now c.as_bytes-3.result.now c.args.size c.reason.ensures
    c.in_ok-extend_from_slice.ensures.items c.in_ok-extend_from_slice-2.ensures.items (c.as_bytes.ensures.value ∙ c.format.ensures.text) c.in_ok-extend_from_slice-3.ensures.items
    c.in_ok-extend_from_slice-4.ensures.items c.as_bytes-2.ensures.value c.in_ok-extend_from_slice-5.ensures.items c.in_ok-extend_from_slice-6.ensures.items c.as_bytes-3.ensures.value
    c.in_ok-extend_from_slice-7.ensures.items c.in_ok-extend_from_slice-8.ensures.items (c.as_bytes-4.ensures.value ∙ c.format-2.ensures.text) c.in_ok-extend_from_slice-9.ensures.items
