use Rattle.std.proofs.Common.{◌≡◌, slice_get, Some, sym, subst, arith}
use Rattle.schema_table.specs.Index.{texts_of}
use Rattle.schema_table.proofs.IndexLemmas.{index_lacks, length-texts, within}
use Rattle.schema_table.proofs.schemas.Schemas.find.Goals as goal

pub id_at-requires : goal.id_at-requires
id_at-requires c =
    let at = c.self.invariant.found c.in-Some.place.now c.args.text.now (sym c.in-Some.ensures.value) in
    omega (arith, within (texts_of c.self.inside.known) c.args.text.now c.in-Some.place.now at, length-texts c.self.inside.known, c.self.invariant.few)

pub returns-in-Some-clause-some : goal.returns-in-Some-clause-some
returns-in-Some-clause-some c =
    let at = c.self.invariant.found c.in-Some.place.now c.args.text.now (sym c.in-Some.ensures.value) in
    (c.in-Some.place.now, c.id_at.ensures, subst (λ l. slice_get l c.in-Some.place.now ≡ Some c.args.text.now) c.self.view_is at)

pub returns-in-None-clause-none : goal.returns-in-None-clause-none
returns-in-None-clause-none c place h =
    index_lacks c.self.inside.places c.self.inside.known c.args.text.now c.self.invariant (sym c.in-None.ensures.value) place
    (subst (λ l. slice_get l place ≡ Some c.args.text.now) (sym c.self.view_is) h)
