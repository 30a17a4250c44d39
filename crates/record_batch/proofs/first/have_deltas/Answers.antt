use Rattle.std.proofs.Common.{◌≡◌, ◌-◌, length, refl, pos, arith, rules, FitsSigned, of_z, to_z, ◌+ℤ◌, ◌∙◌}
use Rattle.std.specs.Prelude.{◌&&◌}
use Rattle.std.specs.Ordering.{int_eq}
use Rattle.record_batch.specs.Seen.{seen}
use Rattle.std.specs.Int.{w64}
use Rattle.std.proofs.lemmas.Int.{ints, to_z-of_z}
use Rattle.record_batch.proofs.FirstLemmas.{all_faulty, all_told, none_ended, record_judged, record_not_judged}
use Rattle.record_batch.proofs.first.have_deltas.Goals as goal

pub returns-in-Err : goal.returns-in-Err
returns-in-Err c =
    let rest = c.loop.invariant ∙ record_not_judged _ _ _ _ c.args.count c.loop.counter _ _ c.loop-test.true c.in-Err.ensures.gives in
    rw (to_z-of_z w64 c.args.base c.ranges.base) at (all_faulty _ _ c.in-Err.place rest)

pub loop-preserved : goal.loop-preserved
loop-preserved c =
    let fits : FitsSigned w64 c.in-Ok.row.offset = search rules in
    let below = c.in-Ok.ensures.bound in
    let next : to_z w64 (of_z w64 (to_z w64 (of_z w64 c.in-Ok.row.offset) +ℤ pos 1)) ≡ c.in-Ok.row.offset +ℤ pos 1 = omega (arith, ints) in
    let own = to_z-of_z w64 c.in-Ok.row.offset fits in
    let next_fits : FitsSigned w64 c.loop.next = search rules in
    let wanted = to_z-of_z w64 c.loop.next next_fits in
    let told : c.goes_on-contiguous.result ≡ (c.loop.contiguous && int_eq c.in-Ok.row.offset c.loop.next) = cc (c.goes_on-contiguous.ensures, own, wanted) in
    rw next (c.loop.invariant ∙ record_judged c.loop.contiguous c.goes_on-contiguous.result (to_z w64 c.loop.next-bits) c.loop.next c.in-Ok.row.offset _ _ c.args.count c.loop.counter _ _ (seen c.in-Ok.row) c.loop-test.true c.in-Ok.ensures.gives told refl (cc c.loop.next-is))

pub returns-then-left-eq0 : goal.returns-then-left-eq0
returns-then-left-eq0 c =
    let none : c.args.count - c.loop.counter ≡ 0 = omega arith in
    let ended : length c.loop.cursor.left ≡ 0 = omega arith in
    rw (to_z-of_z w64 c.args.base c.ranges.base) at (all_told c.loop.contiguous _ _ _ _ c.loop.invariant (none_ended (c.args.count - c.loop.counter) _ _ c.loop.cursor none ended))
