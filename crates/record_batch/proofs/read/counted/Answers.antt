use Rattle.std.proofs.Common.{ap, ◌∙◌, sym, FitsSigned, rules, ◌+◌, Err}
use Rattle.record_batch.specs.declared.fault.BatchFault.TheVariants.{BadRecord}
use Rattle.std.specs.Int.{w32, w64}
use Rattle.std.proofs.lemmas.Int.{to_z-of_z}
use Rattle.record_batch.proofs.BatchLemmas.{batch_below, batch_counted}
use Rattle.record_batch.specs.Seen.{fields_seen}
use Rattle.record_batch.proofs.read.counted.Goals as goal

pub returns-then-head-lt0-clause-counts : goal.returns-then-head-lt0-clause-counts
returns-then-head-lt0-clause-counts c =
    let count_fits : FitsSigned w32 c.fields-head.result.count = search rules in
    let test = rw (to_z-of_z w32 c.fields-head.result.count count_fits) at c.if-head-lt0.true in
    let whole = batch_below c.args.batch (fields_seen c.fields-head.result) c.fields-head.ensures.fields (sym c.in_default.ensures) test in
    whole ∙ ap (λ p. Err (BadRecord (p + 57))) (sym c.place-place.ensures)

pub returns-clause-counts : goal.returns-clause-counts
returns-clause-counts c =
    let count_fits : FitsSigned w32 c.fields-head.result.count = search rules in
    let base_fits : FitsSigned w64 c.fields-head.result.base = search rules in
    let count = to_z-of_z w32 c.fields-head.result.count count_fits in
    let test = rw count at c.if-head-lt0.false in
    let whole = batch_counted c.args.batch (fields_seen c.fields-head.result) c.fields-head.ensures.fields (sym c.in_default.ensures) test in
    rw (count, to_z-of_z w64 c.fields-head.result.base base_fits, c.fields-head.ensures.moves) whole
