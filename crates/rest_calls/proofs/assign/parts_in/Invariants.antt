use Rattle.std.proofs.Common.{◌≡◌, drop}
use Rattle.serde_json.specs.View.{items_view}
use Rattle.broker_link.specs.Fetching.{at_of}
use Rattle.rest_calls.specs.Json.{all_of}
use Rattle.rest_calls.specs.Assign.{part_of}
use Rattle.rest_calls.proofs.Lists.{behind}
use Rattle.rest_calls.proofs.assign.parts_in.Given as goal

abbrev pub invariant-loop-object : goal.invariant-loop-object
invariant-loop-object l =
    behind at_of part_of l.read.items (drop l.object-index l.parts) ≡ all_of part_of (items_view l.parts)
