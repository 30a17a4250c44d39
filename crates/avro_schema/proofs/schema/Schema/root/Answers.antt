use Rattle.avro_schema.proofs.Found as found
use Rattle.avro_schema.proofs.schema.Schema.root.Goals as goal

pub returns : goal.returns
returns c = found.root_stands _ _ _ _ c.self.view_is c.self.invariant
