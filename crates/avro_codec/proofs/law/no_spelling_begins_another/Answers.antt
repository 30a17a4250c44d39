use Rattle.avro_codec.proofs.ValueAgain.{one_reading}
use Rattle.avro_codec.proofs.law.no_spelling_begins_another.Goals as goal

pub returns : goal.returns
returns c = one_reading
