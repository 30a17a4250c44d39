use Rattle.std.proofs.Common.{◌≡◌, sym, ◌∙◌, refl, eqb, eq-eqb, true, false}
use Rattle.std.proofs.lemmas.Bool.{ne_eqb}
use Rattle.avro_schema.specs.Types.{record_}
use Rattle.avro_value.specs.Judging as judging
use Rattle.avro_value.proofs.PickLemmas.{resolves_is, fields_number}
use Rattle.avro_value.proofs.pick.fields_in.Goals as goal

pub returns-then-count-fields-clause-fields : goal.returns-then-count-fields-clause-fields
returns-then-count-fields-clause-fields c t stands =
    let e = c.in-Record.ensures.is in
    let s = c.args.schema.now in
    let fs = c.fields-fields.ensures e.0 e.1 e.2 in
    let same : eqb c.args.count (judging.number_of e.1) ≡ true = eq-eqb _ _ (c.if-count-fields.true ∙ sym (fields_number s _ e.1 fs)) in
    (e.1, rw (resolves_is s c.args.node t (record_ e.0 e.1) stands e.2) (rw same refl), fs)

pub returns-else-count-fields-clause-fields : goal.returns-else-count-fields-clause-fields
returns-else-count-fields-clause-fields c t stands =
    let e = c.in-Record.ensures.is in
    let s = c.args.schema.now in
    let fs = c.fields-fields.ensures e.0 e.1 e.2 in
    let other : eqb c.args.count (judging.number_of e.1) ≡ false = ne_eqb _ _ (λ same. c.if-count-fields.false (same ∙ fields_number s _ e.1 fs)) in
    rw (resolves_is s c.args.node t (record_ e.0 e.1) stands e.2) (rw other refl)
