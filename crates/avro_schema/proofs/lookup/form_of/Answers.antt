use Rattle.std.proofs.Common.{arith}
use Rattle.avro_schema.proofs.Found as found
use Rattle.avro_schema.proofs.lookup.form_of.Goals as goal

pub get-requires : goal.get-requires
get-requires c =
    let l = found.reference _ _ _ _ _ _ _ c.requires.schema.1 c.requires.inside c.index-form.ensures c.in-Named.is in
    let inside = found.reference_inside _ _ _ _ _ l in omega arith

pub index-requires : goal.index-requires
index-requires c =
    let l = found.reference _ _ _ _ _ _ _ c.requires.schema.1 c.requires.inside c.index-form.ensures c.in-Named.is in
    let inside = found.definition_inside _ _ _ _ _ _ l c.get.ensures in omega (arith, c.args.nodes.now.ok.0)

pub returns-in-Named : goal.returns-in-Named
returns-in-Named c = λ root s. found.reference_found _ _ root _ _ _ _ _ _ s c.requires.inside c.index-form.ensures c.in-Named.is c.get.ensures c.index.ensures

pub returns-in_default : goal.returns-in_default
returns-in_default c = λ root s. found.plain_found _ _ root _ _ s c.requires.inside c.index-form.ensures c.in_default.not-Named
