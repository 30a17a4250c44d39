use Rattle.std.proofs.Common.{◌≡◌, drop}
use Rattle.schema_table.specs.Index.{texts_of}
use Rattle.schema_table.proofs.RowLemmas.{Finding}
use Rattle.schema_table.proofs.load.behind.Given as goal

abbrev pub invariant-loop-one : goal.invariant-loop-one
invariant-loop-one l = (l.place ≡ l.one-index) × Finding (texts_of l.known) l.rows l.place (texts_of (drop l.one-index l.known)) l.left
