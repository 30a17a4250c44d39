use Rattle.std.proofs.Common.{ap, sym, ◌∙◌}
use Rattle.avro_schema.specs.Reading.{known}
use Rattle.avro_schema.specs.Building.{names_of}
use Rattle.avro_schema.proofs.NamedLemmas.{primitive_tells, float_why, known_is, tells_along}
use Rattle.avro_schema.proofs.named.type_by_name.Goals as goal

pub returns-then-is_float : goal.returns-then-is_float
returns-then-is_float c = float_why _ _ _ _ (sym c.in-None.ensures) (sym c.is_float.ensures ∙ c.if-is_float.true)

pub returns-in-Some : goal.returns-in-Some
returns-in-Some c = primitive_tells _ _ _ _ _ _ _ c.requires (sym c.in-Some.ensures) c.add.ensures.ok c.add.ensures.want c.add.ensures.definitions

pub returns-in-Ok : goal.returns-in-Ok
returns-in-Ok c =
    let is = known_is c.args.canonical (names_of c.args.parts.now) c.args.namespace.now c.args.name.now (sym c.in-None.ensures) (sym c.is_float.ensures ∙ c.if-is_float.false) in
    tells_along _ _ _ _ _ (is ∙ ap (λ n. known (names_of c.args.parts.now) n) (sym c.in-Ok.ensures.ok)) c.reference.ensures
