use Rattle.std.proofs.Common.{drop}
use Rattle.json_span.specs.Json.{Items}
use Rattle.json_span.specs.Nodes.{StandForItems}
use Rattle.avro_names.specs.MemberNames.{SymbolsSoFar}
use Rattle.avro_names.proofs.member_names.symbols.Given as goal

abbrev pub invariant-loop-item : goal.invariant-loop-item
invariant-loop-item l = (js : Items) → StandForItems l.fn.tree l.items js → SymbolsSoFar l.fn.tree js (drop l.item-index l.items) l.seen
