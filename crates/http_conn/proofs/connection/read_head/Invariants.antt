use Rattle.std.proofs.Common.{◌≤◌, ◌-◌, length, List, ℕ, false}
use Rattle.http_conn.specs.Told.{Comes, LastRead}
use Rattle.http_conn.specs.Next.{NeedsMore}
use Rattle.std.specs.Prelude.{◌⊎◌, ◌≡◌}
use Rattle.httparse.specs.Grammar.{RequestHead}
use Rattle.http_head.specs.Head.{HasHead, max_head}
use Rattle.http_conn.proofs.connection.read_head.Given as goal

abbrev pub invariant-loop-held : goal.invariant-loop-held
invariant-loop-held g l = record {
  same : (all : List ℕ) → Comes l.fn.held (g.S.Source.left l.fn.source) all → Comes l.held (g.S.Source.left l.source) all;
  patient : LastRead g.S.Source.left g.S.Source.asked l.fn.held l.fn.source l.source (NeedsMore false);
  prompt : ((h : RequestHead) (after : List ℕ) → HasHead l.fn.held h after → ⊥) ⊎ ((l.source ≡ l.fn.source) × (l.held ≡ l.fn.held));
  faults : g.S.Source.faults l.fn.source ≤ g.S.Source.faults l.source;
  beside : g.S.Source.beside l.fn.source l.source;
}

abbrev pub decreases-loop-held : goal.decreases-loop-held
decreases-loop-held g l = max_head - length l.held
