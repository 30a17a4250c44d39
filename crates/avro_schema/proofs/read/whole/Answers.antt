use Rattle.avro_schema.proofs.Finished.{schema_of_parts, whole_is}
use Rattle.avro_schema.proofs.read.whole.Goals as goal

pub invariant_of-result : goal.invariant_of-result
invariant_of-result c = schema_of_parts c.args.parts c.args.root c.requires.0 c.requires.1 c.requires.2

pub returns : goal.returns
returns c = λ t f. whole_is c.args.parts c.args.root t f
