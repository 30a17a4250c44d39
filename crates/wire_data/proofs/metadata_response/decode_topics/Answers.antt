use Rattle.wire_layout.proofs.Loops.{many_more, many_refused}
use Rattle.wire_data.proofs.Topics.{told_more}
use Rattle.wire_data.proofs.metadata_response.decode_topics.Goals as goal

pub returns-in-Err-clause-answer : goal.returns-in-Err-clause-answer
returns-in-Err-clause-answer c = many_refused c.args.count c.loop.counter _ _ _ _ _ c.loop-test.true c.loop.invariant.behind c.in-Err.ensures.answer

pub loop-preserved : goal.loop-preserved
loop-preserved c =
    let kept = c.loop.invariant in
    record {
      told = rw c.in_ok-push.ensures.ok (told_more c.loop.counter _ _ _ _ _ kept.told c.in-Ok.ensures.value);
      behind = many_more c.args.count c.loop.counter _ _ _ _ c.loop-test.true kept.behind c.in-Ok.ensures.answer;
    }
