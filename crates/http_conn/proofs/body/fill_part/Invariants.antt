use Rattle.std.proofs.Common.{◌≡◌, ◌+◌, ◌≤◌, ◌-◌, length, drop, List, ℕ}
use Rattle.std.specs.Prelude.{◌⊎◌}
use Rattle.body_read.specs.Chunks.{Piece, PieceAt}
use Rattle.body_read.specs.Found.{PartIs, max_part}
use Rattle.http_conn.specs.Told.{Comes, LastRead}
use Rattle.http_conn.specs.Body.{IsBehind, EndsInPart}
use Rattle.http_conn.proofs.body.fill_part.Given as goal

abbrev pub invariant-loop-held : goal.invariant-loop-held
invariant-loop-held g l = record {
  same : (all : List ℕ) → Comes l.fn.held (g.S.Source.left l.fn.source) all → Comes l.held (g.S.Source.left l.source) all;
  behind : IsBehind l.fn.held l.held;
  fits : l.place ≤ length l.held;
  part : PartIs l.sum (drop l.place l.held) l.part;
  patient : LastRead g.S.Source.left g.S.Source.asked l.fn.held l.fn.source l.source (EndsInPart l.sum l.place l.fn.held);
  prompt : PieceAt l.sum (drop l.place l.fn.held) Piece.Cut ⊎ ((l.source ≡ l.fn.source) × (l.held ≡ l.fn.held));
  faults : g.S.Source.faults l.fn.source ≤ g.S.Source.faults l.source;
  beside : g.S.Source.beside l.fn.source l.source;
}

abbrev pub decreases-loop-held : goal.decreases-loop-held
decreases-loop-held g l = l.place + max_part - length l.held
