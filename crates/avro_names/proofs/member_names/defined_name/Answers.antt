use Rattle.std.proofs.Common.{◌≡◌, List, ℕ, true, false, sym, subst, ap, ◌∙◌}
use Rattle.std.specs.Prelude.{codes}
use Rattle.avro_names.specs.Names.{is_definable}
use Rattle.avro_names.specs.NameList.{is_among}
use Rattle.json_span.specs.Parts.{last_member}
use Rattle.avro_names.specs.Definitions.{FirstNamed}
use Rattle.avro_names.specs.Definitions.{names_in}
use Rattle.avro_names.proofs.MemberNameLemmas.{name_refused, redefined, bad_name, name_defined, definable_parts}
use Rattle.avro_names.proofs.member_names.defined_name.Goals as goal

pub given_name-given-requires-clause-name : goal.given_name-given-requires-clause-name
given_name-given-requires-clause-name c = (last_member (codes "name") c.requires.0, c.member.ensures.value c.requires.0 c.requires.1)

pub given_name-given-requires-clause-namespace : goal.given_name-given-requires-clause-namespace
given_name-given-requires-clause-namespace c = (last_member (codes "namespace") c.requires.0, c.member-2.ensures.value c.requires.0 c.requires.1)

pub returns-in-Err-clause-err : goal.returns-in-Err-clause-err
returns-in-Err-clause-err c = λ ms h. name_refused c.args.canonical c.args.definitions.now c.args.enclosing.now ms _ (c.in-Err.ensures.err _ _ (c.member.ensures.value ms h) (c.member-2.ensures.value ms h))

pub returns-in-Some-clause-err : goal.returns-in-Some-clause-err
returns-in-Some-clause-err c = λ ms h.
    let P : List ℕ → Type 0 = λ n. FirstNamed c.args.definitions.now n c.in-Some.field-0 in
    redefined c.args.canonical c.args.definitions.now c.args.enclosing.now ms c.in-Ok.name c.in-Some.field-0 (c.in-Ok.ensures.ok _ _ (c.member.ensures.value ms h) (c.member-2.ensures.value ms h)) (subst P c.as_str.ensures c.in-Some.ensures)

pub returns-then-is_definable-clause-ok : goal.returns-then-is_definable-clause-ok
returns-then-is_definable-clause-ok c = λ ms h.
    let new : is_among c.in-Ok.name (names_in c.args.definitions.now) ≡ false = ap (λ n. is_among n (names_in c.args.definitions.now)) (sym c.as_str.ensures) ∙ c.in-None.ensures in
    let good : is_definable c.in-Ok.name ≡ true = ap is_definable (sym c.as_str-in-None.ensures) ∙ sym c.is_definable.ensures ∙ c.if-is_definable.true in
    name_defined c.args.canonical c.args.definitions.now c.args.enclosing.now ms c.in-Ok.name (c.in-Ok.ensures.ok _ _ (c.member.ensures.value ms h) (c.member-2.ensures.value ms h)) new good

pub returns-then-is_definable-clause-parts : goal.returns-then-is_definable-clause-parts
returns-then-is_definable-clause-parts c = definable_parts c.in-Ok.name (ap is_definable (sym c.as_str-in-None.ensures) ∙ sym c.is_definable.ensures ∙ c.if-is_definable.true)

pub returns-else-is_definable-clause-err : goal.returns-else-is_definable-clause-err
returns-else-is_definable-clause-err c = λ ms h.
    let new : is_among c.in-Ok.name (names_in c.args.definitions.now) ≡ false = ap (λ n. is_among n (names_in c.args.definitions.now)) (sym c.as_str.ensures) ∙ c.in-None.ensures in
    let bad : is_definable c.in-Ok.name ≡ false = ap is_definable (sym c.as_str-in-None.ensures) ∙ sym c.is_definable.ensures ∙ c.if-is_definable.false in
    bad_name c.args.canonical c.args.definitions.now c.args.enclosing.now ms c.in-Ok.name (c.in-Ok.ensures.ok _ _ (c.member.ensures.value ms h) (c.member-2.ensures.value ms h)) new bad
