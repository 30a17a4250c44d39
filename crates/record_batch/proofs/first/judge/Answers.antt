use Rattle.std.proofs.Common.{pos, refl, rules, FitsSigned, ◌∙◌}
use Rattle.std.specs.Int.{w64}
use Rattle.std.proofs.lemmas.Int.{to_z-of_z}
use Rattle.record_batch.proofs.FirstLemmas.{told_rows}
use Rattle.record_batch.proofs.first.judge.Goals as goal

pub returns-in-Ok-have_deltas : goal.returns-in-Ok-have_deltas
returns-in-Ok-have_deltas c =
    let fits : FitsSigned w64 c.in-Ok.found.1 = search rules in
    let base = to_z-of_z w64 c.in-Ok.found.1 fits in
    let tells = rw base at c.in-Ok-have_deltas.ensures in
    let rows = told_rows _ c.in-Ok.found.0 c.in-Ok.found.1 (pos 0) c.in-Ok.found.2 c.in-Ok-have_deltas.contiguous refl tells in
    rw base (rows.0, c.in-Ok.ensures.counts ∙ rows.1, c.left-size.ensures, c.in-Ok.ensures.base, rows.2, rows.3)
