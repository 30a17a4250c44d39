use Rattle.std.proofs.lemmas.Str.{is_utf8-from_IsUtf8}
use Rattle.avro_datum.proofs.text_leaf.put_text.Goals as goal

pub returns-clause-typed : goal.returns-clause-typed
returns-clause-typed c = is_utf8-from_IsUtf8 c.args.value.now c.utf8.value
