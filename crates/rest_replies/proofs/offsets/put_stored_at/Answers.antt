use Rattle.std.specs.Prelude.{string_bytes}
use Rattle.rest_replies.proofs.OffsetsLemmas.{stored_put}
use Rattle.rest_replies.proofs.offsets.put_stored_at.Goals as goal

pub returns : goal.returns
returns c =
    stored_put c.args.partition c.args.offset (string_bytes c.args.text.now) (string_bytes c.push_str.new.self) c.format.result.now (string_bytes c.push_str-2.new.self) (string_bytes c.push_str-3.new.self) c.format-2.result.now
    (string_bytes c.push_str-4.new.self) (string_bytes c.push_str-5.new.self) c.in_ok-push_str.ensures.bytes c.format.ensures.text c.in_ok-push_str-2.ensures.bytes c.in_ok-push_str-3.ensures.bytes c.format-2.ensures.text
    c.in_ok-push_str-4.ensures.bytes c.in_ok-push_str-5.ensures.bytes
