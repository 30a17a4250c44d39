use Rattle.std.proofs.Common.{subst, sym, List, ℕ}
use Rattle.http_head.specs.Parts.{FoundIs}
use Rattle.http_head.proofs.FieldLemmas.{values_more}
use Rattle.http_head.proofs.fields.find_values.Goals as goal

pub loop-header-preserved : goal.loop-header-preserved
loop-header-preserved c =
    subst (λ (vs : List (List ℕ)). FoundIs c.args.buf.now vs c.noted-found.result)
    (sym (values_more c.args.name.now c.args.buf.now c.args.headers.now c.loop-header.header-index
    (record { name = record { start = 0; end = 0 }; value = record { start = 0; end = 0 } }) c.loop-header-test.true))
    (c.noted-found.ensures _ c.loop-header.invariant)
