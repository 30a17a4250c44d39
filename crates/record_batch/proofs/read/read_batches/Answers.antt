use Rattle.std.proofs.Common.{ℤ, inr, ap, ◌∙◌, of_z, to_z}
use Rattle.std.specs.Int.{w64}
use Rattle.std.proofs.lemmas.Int.{to_z-of_z}
use Rattle.record_batch.proofs.BatchLemmas.{next_framed, none_framed, bad_framed}
use Rattle.record_batch.proofs.Adding.{joined_more, fault_passes, held_alone}
use Rattle.record_batch.specs.Batch.{added}
use Rattle.record_batch.proofs.read.read_batches.Goals as goal

pub returns-in-Ok-None : goal.returns-in-Ok-None
returns-in-Ok-None c =
    let from : ℤ = to_z w64 (of_z w64 c.args.from) in
    let framed = rw c.in-Ok-None.field-0-is at c.in-Ok-None.ensures in
    let whole = c.loop.invariant ∙ ap (added from c.loop.rows.items) (none_framed _ c.loop.counter c.loop.cursor c.loop-test.true framed) ∙ held_alone from c.loop.rows.items in
    rw (to_z-of_z w64 c.args.from c.ranges.from) at whole

pub returns-in-Err : goal.returns-in-Err
returns-in-Err c =
    let from : ℤ = to_z w64 (of_z w64 c.args.from) in
    let whole = c.loop.invariant ∙ ap (added from c.loop.rows.items) (bad_framed _ c.loop.counter c.loop.cursor c.in-Err.place c.loop-test.true c.in-Err.ensures) in
    inr (rw (to_z-of_z w64 c.args.from c.ranges.from) at whole)

pub returns-in-Err-take_batch : goal.returns-in-Err-take_batch
returns-in-Err-take_batch c =
    let from : ℤ = to_z w64 (of_z w64 c.args.from) in
    let framed = rw c.in-Ok-Some.field-0-is at c.in-Ok-Some.ensures in
    let next = next_framed _ c.loop.counter c.loop.cursor _ _ c.loop-test.true framed in
    let passed = fault_passes from c.loop.rows.items _ _ _ c.in-Err-take_batch.fault (c.loop.invariant ∙ ap (added from c.loop.rows.items) next) c.in-Err-take_batch.ensures in
    rw (to_z-of_z w64 c.args.from c.ranges.from) at passed

pub loop-preserved : goal.loop-preserved
loop-preserved c =
    let from : ℤ = to_z w64 (of_z w64 c.args.from) in
    let framed = rw c.in-Ok-Some.field-0-is at c.in-Ok-Some.ensures in
    let next = next_framed _ c.loop.counter c.loop.cursor _ _ c.loop-test.true framed in
    c.loop.invariant ∙ ap (added from c.loop.rows.items) next ∙ joined_more from c.loop.rows.items _ _ _ c.in-Ok.ensures
