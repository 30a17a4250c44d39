use Rattle.std.proofs.Common.{drop}
use Rattle.schema_table.proofs.RowLemmas.{Taking}
use Rattle.schema_table.proofs.load.take_all.Given as goal

abbrev pub invariant-loop-row : goal.invariant-loop-row
invariant-loop-row l = Taking l.fn.schemas l.rows l.fn.news l.schemas l.news (drop l.row-index l.rows)
