use Rattle.std.proofs.Common.{arith, length-append}
use Rattle.wire_layout.proofs.Loops.{taken_more, each_more, many_more, many_refused}
use Rattle.wire_layout.proofs.array.decode_items.Goals as goal

pub returns-in-Err-clause-answer : goal.returns-in-Err-clause-answer
returns-in-Err-clause-answer g c = many_refused c.args.count c.loop.counter _ _ _ _ _ c.loop-test.true c.loop.invariant.behind c.in-Err.ensures.answer

pub loop-preserved : goal.loop-preserved
loop-preserved g c =
    let kept = c.loop.invariant in
    let grown = c.in_ok-push.ensures.ok in
    record {
      taken = rw grown (taken_more g.T.Put.layout.spelling _ _ _ _ _ kept.taken c.in-Ok.ensures.value);
      fits = rw grown (each_more g.T.Put.layout.fits _ _ kept.fits c.in-Ok.ensures.fits);
      counted = rw (grown, length-append) (omega (arith, kept.counted));
      behind = many_more c.args.count c.loop.counter _ _ _ _ c.loop-test.true kept.behind c.in-Ok.ensures.answer;
    }
