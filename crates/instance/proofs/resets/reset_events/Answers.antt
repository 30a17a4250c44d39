use Rattle.std.proofs.Common.{arith, None}
use Rattle.std.proofs.lemmas.List.{get_or_default}
use Rattle.instance.proofs.Resetting.{events_more}
use Rattle.instance.proofs.resets.reset_events.Goals as goal

pub loop-i-preserved : goal.loop-i-preserved
loop-i-preserved c =
    events_more c.args.places.now c.args.told.now c.loop-i.i c.index-places-i.result _ c.loop-i.events c.put_event.new.events c.loop-i-test.true (omega (arith, c.requires.same)) c.index-places-i.is (get_or_default c.args.told.now c.loop-i.i None _ (omega (arith, c.loop-i-test.true, c.requires.same))) c.loop-i.invariant c.in_ok-put_event.ensures
