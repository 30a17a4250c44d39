use Rattle.avro_schema.proofs.NamesRead.{value_has_names}
use Rattle.avro_schema.proofs.schema.Schema.names_differ.Goals as goal

pub returns : goal.returns
returns c = value_has_names _ _ _ _ c.self.view_is c.self.invariant
