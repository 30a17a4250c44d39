use Rattle.std.proofs.Common.{arith}
use Rattle.std.proofs.lemmas.Grind.{common_steps}
use Rattle.std.proofs.lemmas.Str.{is_utf8-from_IsUtf8}
use Rattle.avro_codec.proofs.leaf.put_key.Goals as goal

pub returns-clause-ok : goal.returns-clause-ok
returns-clause-ok c = rw (is_utf8-from_IsUtf8 c.args.key.now c.utf8.key) (grind (arith, common_steps))
