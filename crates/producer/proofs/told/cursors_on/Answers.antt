use Rattle.std.proofs.Common.{refl}
use Rattle.producer.specs.Groups.{cursor_of}
use Rattle.producer.proofs.MappedLemmas.{mapped_all, mapped_more}
use Rattle.producer.proofs.told.cursors_on.Goals as goal

pub loop-one-preserved : goal.loop-one-preserved
loop-one-preserved c =
    mapped_more cursor_of c.args.placed.now c.args.placed.now c.loop-one.cursors.items c.push.new.self.items c.loop-one.one-index _ c.cursor_on.result
    refl c.loop-one-test.true c.loop-one.invariant c.cursor_on.ensures c.in_ok-push.ensures.items

pub returns : goal.returns
returns c = mapped_all cursor_of c.args.placed.now c.args.placed.now c.loop-one.cursors.items c.loop-one.one-index refl c.loop-one-test.false c.loop-one.invariant
