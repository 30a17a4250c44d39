use Rattle.std.proofs.Common.{refl}
use Rattle.avro_schema.specs.Reading.{schema_of}
use Rattle.avro_schema.proofs.Answered.{text_refused}
use Rattle.avro_schema.proofs.read.read_text.Goals as goal

pub returns-in-Ok-clause-refused : goal.returns-in-Ok-clause-refused
returns-in-Ok-clause-refused c =
    let is = c.in-Ok.ensures.ok in
    text_refused c.args.canonical c.args.text.now is.value (schema_of c.args.canonical is.value) c.read_value.result is.text refl (c.read_value.ensures is.value is.stands)
