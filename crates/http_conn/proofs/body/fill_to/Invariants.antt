use Rattle.std.proofs.Common.{◌≡◌, ◌++◌, ◌≤◌, ◌-◌, length, List, ℕ}
use Rattle.http_conn.specs.Told.{Comes, LastRead}
use Rattle.http_conn.specs.Next.{IsShort}
use Rattle.http_conn.proofs.body.fill_to.Given as goal

abbrev pub invariant-loop-held : goal.invariant-loop-held
invariant-loop-held g l = record {
  same : (all : List ℕ) → Comes l.fn.held (g.S.Source.left l.fn.source) all → Comes l.held (g.S.Source.left l.source) all;
  behind : (more : List ℕ) × (l.held ≡ l.fn.held ++ more);
  patient : LastRead g.S.Source.left g.S.Source.asked l.fn.held l.fn.source l.source (IsShort l.fn.held l.total);
  prompt : l.total ≤ length l.fn.held → (l.source ≡ l.fn.source);
  faults : g.S.Source.faults l.fn.source ≤ g.S.Source.faults l.source;
  beside : g.S.Source.beside l.fn.source l.source;
}

abbrev pub decreases-loop-held : goal.decreases-loop-held
decreases-loop-held g l = l.total - length l.held
