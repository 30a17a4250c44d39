use Rattle.std.proofs.Common.{◌≡◌, ◌++◌, drop, map}
use Rattle.producer.specs.Groups.{cursor_of, told_by}
use Rattle.producer.proofs.told.tell.Given as goal

abbrev pub invariant-loop-number : goal.invariant-loop-number
invariant-loop-number l = told_by (map cursor_of l.placed) l.numbers ≡ l.told ++ told_by l.cursors.items (drop l.number-index l.numbers)
