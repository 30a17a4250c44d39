use Rattle.std.proofs.Common.{◌+◌, ◌≤◌, ◌-◌, length, drop, List, ℕ}
use Rattle.http_head.specs.Fields.{max_body}
use Rattle.http_head.specs.declared.fields.Framing.TheVariants.{Chunks}
use Rattle.body_read.proofs.BodyLaws.{IsReached}
use Rattle.http_conn.specs.Told.{Comes, LastRead}
use Rattle.http_conn.specs.Body.{IsBehind, IsCutAt}
use Rattle.http_conn.proofs.BodyLemmas.{IsPrompt}
use Rattle.http_conn.proofs.body.read_chunks.Given as goal

abbrev pub invariant-parts : goal.invariant-parts
invariant-parts g l = record {
  same : (all : List ℕ) → Comes l.fn.held (g.S.Source.left l.fn.source) all → Comes l.held (g.S.Source.left l.source) all;
  behind : IsBehind l.fn.held l.held;
  begins : l.first ≤ length l.held;
  fits : l.place ≤ length l.held;
  small : length l.body.items ≤ max_body;
  reached : IsReached (drop l.first l.held) l.body.items (drop l.place l.held);
  patient : LastRead g.S.Source.left g.S.Source.asked l.fn.held l.fn.source l.source (IsCutAt Chunks l.first l.fn.held);
  prompt : IsPrompt (drop l.first l.fn.held) l.fn.held l.held l.fn.source l.source;
  faults : g.S.Source.faults l.fn.source ≤ g.S.Source.faults l.source;
  beside : g.S.Source.beside l.fn.source l.source;
}

abbrev pub decreases-parts : goal.decreases-parts
decreases-parts g l = max_body + 1 - length l.body.items
