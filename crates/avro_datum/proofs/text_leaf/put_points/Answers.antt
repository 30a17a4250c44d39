use Rattle.std.proofs.Common.{arith}
use Rattle.std.proofs.lemmas.Grind.{common_steps}
use Rattle.std.proofs.lemmas.Str.{IsUtf8-from_ascii, encodes-IsAscii}
use Rattle.avro_datum.proofs.text_leaf.put_points.Goals as goal

pub from_utf8_unchecked-requires : goal.from_utf8_unchecked-requires
from_utf8_unchecked-requires c = IsUtf8-from_ascii c.args.bytes.now c.if-is_ascii.ensures.cases

pub returns-then-is_ascii-clause-shown : goal.returns-then-is_ascii-clause-shown
returns-then-is_ascii-clause-shown c = rw (encodes-IsAscii c.args.bytes.now c.if-is_ascii.ensures.cases) (grind (arith, common_steps))
