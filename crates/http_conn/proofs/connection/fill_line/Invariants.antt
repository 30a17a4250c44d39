use Rattle.std.proofs.Common.{◌≡◌, ◌≤◌, ◌<◌, ◌-◌, length, List, ℕ}
use Rattle.std.specs.Prelude.{◌⊎◌}
use Rattle.http_conn.specs.Told.{Comes, LastRead}
use Rattle.http_conn.specs.Next.{IsInHead, IsInLine}
use Rattle.http_head.specs.Head.{max_head}
use Rattle.http_conn.proofs.connection.fill_line.Given as goal

abbrev pub invariant-loop-held : goal.invariant-loop-held
invariant-loop-held g l = record {
  same : (all : List ℕ) → Comes l.fn.held (g.S.Source.left l.fn.source) all → Comes l.held (g.S.Source.left l.source) all;
  start : l.start ≡ length l.fn.held;
  seen : l.seen ≡ length l.held;
  line : IsInLine l.fn.held l.held;
  patient : LastRead g.S.Source.left g.S.Source.asked l.fn.held l.fn.source l.source (IsInHead l.fn.held);
  grown : (l.held ≡ l.fn.held) ⊎ (l.start < l.seen);
  faults : g.S.Source.faults l.fn.source ≤ g.S.Source.faults l.source;
  beside : g.S.Source.beside l.fn.source l.source;
}

abbrev pub decreases-loop-held : goal.decreases-loop-held
decreases-loop-held g l = max_head - length l.held
