use Rattle.std.proofs.Common.{ap, ◌∙◌}
use Rattle.avro_names.specs.Definitions.{names_in}
use Rattle.avro_names.proofs.DefinitionLemmas.{finds_name}
use Rattle.avro_names.proofs.definitions.Definitions.find.Goals as goal

pub returns : goal.returns
returns c = finds_name _ c.self.inside.names _ _ (c.self.invariant ∙ ap names_in c.self.view_is) c.find.ensures
