use Rattle.avro_schema.proofs.NamesRead.{reads_names}
use Rattle.avro_schema.proofs.law.names_of_a_schema_differ.Goals as goal

pub returns : goal.returns
returns c = reads_names
