use Rattle.std.proofs.Common.{◌≡◌, inr, pos, arith, rules, FitsSigned, of_z, to_z, ◌+ℤ◌, ◌∙◌}
use Rattle.std.specs.Int.{w64}
use Rattle.std.proofs.lemmas.Int.{ints, to_z-of_z}
use Rattle.record_batch.proofs.Adding.{one_record, bad_record}
use Rattle.record_batch.proofs.read.take_records.Goals as goal

pub returns-in-Err : goal.returns-in-Err
returns-in-Err c =
    let whole = c.loop.invariant ∙ bad_record _ _ _ _ c.args.count c.loop.counter _ _ c.loop-test.true c.in-Err.ensures.gives in
    inr (rw (to_z-of_z w64 c.args.from c.ranges.from, to_z-of_z w64 c.args.base c.ranges.base) at whole)

pub loop-preserved : goal.loop-preserved
loop-preserved c =
    let fits : FitsSigned w64 c.in-Ok.row.offset = search rules in
    let below = c.in-Ok.ensures.bound in
    let next : to_z w64 (of_z w64 (to_z w64 (of_z w64 c.in-Ok.row.offset) +ℤ pos 1)) ≡ c.in-Ok.row.offset +ℤ pos 1 = omega (arith, ints) in
    rw next (c.loop.invariant ∙ one_record _ _ _ _ _ c.args.count c.loop.counter _ _ _ c.loop-test.true c.in-Ok.ensures.gives c.in_ok-keep.ensures.ok)
