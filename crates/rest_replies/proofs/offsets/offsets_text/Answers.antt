use Rattle.std.specs.Prelude.{codes, string_bytes, pos}
use Rattle.rest_replies.specs.declared.answer.Told.{Told}
use Rattle.rest_replies.proofs.OffsetsLemmas.{answers_more, answers_whole}
use Rattle.rest_replies.proofs.offsets.offsets_text.Goals as goal

pub loop-i-preserved : goal.loop-i-preserved
loop-i-preserved c =
    let any : Told = record { partition = 0; code = pos 0; offset = 0 } in
    answers_more c.args.told.now c.loop-i.i any (codes "{\"offsets\":[") (string_bytes c.loop-i.text) (string_bytes c.push_one.new.text) c.loop-i-test.true c.loop-i.invariant c.in_ok-push_one.ensures

pub returns : goal.returns
returns c = answers_whole c.args.told.now c.loop-i.i (string_bytes c.loop-i.text) (string_bytes c.push_str-2.new.self) c.loop-i-test.false c.loop-i.invariant c.in_ok-push_str-2.ensures.bytes
