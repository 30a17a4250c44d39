use Rattle.std.proofs.Common.{subst, sym, List, ℕ}
use Rattle.http_head.specs.Parts.{JoinedIs}
use Rattle.http_head.proofs.FieldLemmas.{values_more}
use Rattle.http_head.proofs.fields.joined_values.Goals as goal

pub loop-header-preserved : goal.loop-header-preserved
loop-header-preserved c =
    subst (λ (vs : List (List ℕ)). JoinedIs vs c.in_ok-is_found.is_found c.add_value.new.text.items)
    (sym (values_more c.args.name.now c.args.buf.now c.args.headers.now c.loop-header.header-index
    (record { name = record { start = 0; end = 0 }; value = record { start = 0; end = 0 } }) c.loop-header-test.true))
    (c.in_ok-is_found.ensures _ c.loop-header.invariant)
