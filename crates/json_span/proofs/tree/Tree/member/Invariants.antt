use Rattle.std.proofs.Common.{◌<◌, drop}
use Rattle.std.specs.Option.{IfSome}
use Rattle.json_span.specs.Json.{Members, object}
use Rattle.json_span.specs.Nodes.{Stands}
use Rattle.json_span.specs.Parts.{FoundBefore}
use Rattle.json_span.proofs.tree.Tree.member.Given as goal

abbrev pub invariant-loop-member : goal.invariant-loop-member
invariant-loop-member l = record {
  value : (ms : Members) → Stands l.fn.self l.fn.node (object ms) → FoundBefore l.fn.self (drop l.member-index l.member-items) ms l.fn.name l.found;
  below : IfSome l.found (λ k. k < l.fn.node);
}
