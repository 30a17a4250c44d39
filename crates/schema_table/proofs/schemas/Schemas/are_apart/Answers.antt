use Rattle.std.proofs.Common.{◌≡◌, slice_get, Some, sym, subst}
use Rattle.schema_table.proofs.IndexLemmas.{index_apart}
use Rattle.schema_table.proofs.schemas.Schemas.are_apart.Goals as goal

pub returns : goal.returns
returns c i j text hi hj =
    index_apart c.self.inside.places c.self.inside.known c.self.invariant i j text
    (subst (λ l. slice_get l i ≡ Some text) (sym c.self.view_is) hi) (subst (λ l. slice_get l j ≡ Some text) (sym c.self.view_is) hj)
