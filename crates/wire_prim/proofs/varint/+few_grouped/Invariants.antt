use Rattle.std.proofs.Common.{length}
use Rattle.wire_prim.proofs.varint.+few_grouped.Given as goal

abbrev pub decreases-few_grouped : goal.decreases-few_grouped
decreases-few_grouped l = length l.bytes.now
