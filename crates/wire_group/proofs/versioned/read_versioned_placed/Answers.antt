use Rattle.std.proofs.Common.{ap, rules, arith, FitsSigned, pos, ◌≤ℤ◌}
use Rattle.std.proofs.lemmas.Int.{ints}
use Rattle.std.specs.Int.{w16}
use Rattle.wire_prim.specs.Reading.{Reading}
use Rattle.wire_group.proofs.VersionedReads.{versioned_read, empty_is}
use Rattle.wire_group.proofs.versioned.read_versioned_placed.Goals as goal

pub returns-then-version-gt0-clause-read : goal.returns-then-version-gt0-clause-read
returns-then-version-gt0-clause-read g c =
    let start = ap (λ (r : Reading). r.left) c.new-cursor.ensures in
    let small : FitsSigned w16 c.in-Ok.version = search rules in
    let above : pos 0 ≤ℤ c.in-Ok.version = omega (arith, ints) in
    versioned_read g.T.Put.layout g.met.T.Laid.laid c.args.bytes.now _ _ c.in-Ok.version c.in-Ok-decode.value small above
    (rw start at c.in-Ok.ensures.value.left) (rw start at c.in-Ok.ensures.answer) (rw start at c.in-Ok.ensures.at)
    c.in-Ok-decode.ensures.value.left c.in-Ok-decode.ensures.fits c.in-Ok-decode.ensures.answer (λ zero. absurd (omega (arith, ints, zero)))

pub returns-clause-read : goal.returns-clause-read
returns-clause-read g c =
    let start = ap (λ (r : Reading). r.left) c.new-cursor.ensures in
    let small : FitsSigned w16 c.in-Ok.version = search rules in
    let above : pos 0 ≤ℤ c.in-Ok.version = omega (arith, ints) in
    let none = empty_is _ (omega arith) in
    versioned_read g.T.Put.layout g.met.T.Laid.laid c.args.bytes.now _ _ c.in-Ok.version c.in-Ok-decode.value small above
    (rw start at c.in-Ok.ensures.value.left) (rw start at c.in-Ok.ensures.answer) (rw start at c.in-Ok.ensures.at)
    c.in-Ok-decode.ensures.value.left c.in-Ok-decode.ensures.fits c.in-Ok-decode.ensures.answer (λ zero. none)
