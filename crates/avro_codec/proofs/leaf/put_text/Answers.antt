use Rattle.std.proofs.Common.{arith}
use Rattle.std.proofs.lemmas.Grind.{common_steps}
use Rattle.std.proofs.lemmas.Str.{is_utf8-from_IsUtf8}
use Rattle.avro_codec.proofs.leaf.put_text.Goals as goal

pub returns-clause-verdict : goal.returns-clause-verdict
returns-clause-verdict c t stands = rw (is_utf8-from_IsUtf8 c.args.value.now c.utf8.value) (grind (arith, common_steps, c.is_string.ensures t stands))
