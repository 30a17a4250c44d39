use Rattle.std.proofs.Common.{◌≡◌, length, option_map}
use Rattle.std.specs.Prelude.{All, nat_abs}
use Rattle.json_span.specs.Json.{Items}
use Rattle.json_span.specs.Nodes.{StandForItems}
use Rattle.rest_calls.specs.Views.{PartitionFits}
use Rattle.rest_calls.proofs.Records.{Turn}
use Rattle.rest_calls.proofs.body.rows_of.Given as goal

abbrev pub invariant-loop-node : goal.invariant-loop-node
invariant-loop-node l = record {
  reads : (js : Items) → StandForItems l.tree l.nodes js → Turn l.fn.format (option_map nat_abs l.fn.to) l.tree l.nodes l.node-index l.rows.items js;
  fit : All PartitionFits l.rows.items;
  as_many : length l.rows.items ≡ l.node-index;
}
