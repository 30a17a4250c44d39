use Rattle.avro_schema.proofs.ReadBack.{reads_back}
use Rattle.avro_schema.proofs.law.canonical_forms_read_back.Goals as goal

pub returns : goal.returns
returns c = reads_back
