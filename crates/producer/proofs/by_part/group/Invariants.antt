use Rattle.std.proofs.Common.{length}
use Rattle.producer.proofs.Choosing.{Turn}
use Rattle.producer.proofs.by_part.group.Given as goal

abbrev pub invariant-loop-row : goal.invariant-loop-row
invariant-loop-row l = Turn l.fn.count l.fn.rows l.left.items l.parts.items l.numbers.items

abbrev pub decreases-loop-row : goal.decreases-loop-row
decreases-loop-row l = length l.left.items
