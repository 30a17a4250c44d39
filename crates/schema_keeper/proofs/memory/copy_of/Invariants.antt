use Rattle.std.proofs.Common.{◌≡◌, ◌++◌, drop}
use Rattle.schema_keeper.proofs.memory.copy_of.Given as goal

-- the copies and what is left are the rows
abbrev pub invariant-loop-row : goal.invariant-loop-row
invariant-loop-row l = l.copy ++ drop l.row-index l.rows ≡ l.rows
