use Rattle.std.proofs.Common.{ap, ◌∙◌}
use Rattle.avro_names.specs.NameList.{place_of}
use Rattle.avro_schema.proofs.Found as found
use Rattle.avro_schema.proofs.schema.Schema.branch.Goals as goal

pub form_of-requires-clause-inside : goal.form_of-requires-clause-inside
form_of-requires-clause-inside c = found.has_node _ _ _ _ c.self.view_is c.self.invariant _ _ c.requires.1.1

pub returns : goal.returns
returns c = λ bs r. c.branch_in.ensures ∙ ap (place_of c.args.name.now) (found.names_are _ _ _ _ c.self.view_is c.self.invariant _ _ (c.form_of.ensures _ c.self.invariant) bs r)
