use Rattle.std.proofs.Common.{length}
use Rattle.wire_prim.proofs.varint.+grouped.Given as goal

abbrev pub decreases-grouped : goal.decreases-grouped
decreases-grouped l = length l.bytes.now
