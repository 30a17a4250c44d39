use Rattle.std.proofs.Common.{◌≡◌, ◌≤◌, ◌+◌}
use Rattle.turn_cell.specs.Turns.{IsPassOf}
use Rattle.turn_tests.proofs.turns.turns.Given as goal

abbrev pub invariant-loop-round : goal.invariant-loop-round
invariant-loop-round g l = IsPassOf l.cell l.pass × (l.pass.number ≡ l.by) × (l.count ≤ l.pass.left + l.round)
