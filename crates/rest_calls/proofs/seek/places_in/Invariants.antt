use Rattle.std.proofs.Common.{◌≡◌, drop}
use Rattle.serde_json.specs.View.{items_view}
use Rattle.broker_link.specs.Places.{place_of}
use Rattle.rest_calls.specs.Json.{all_of}
use Rattle.rest_calls.specs.Seek.{place_in}
use Rattle.rest_calls.proofs.Lists.{behind}
use Rattle.rest_calls.proofs.seek.places_in.Given as goal

abbrev pub invariant-loop-object : goal.invariant-loop-object
invariant-loop-object l =
    behind place_of place_in l.read.items (drop l.object-index l.objects) ≡ all_of place_in (items_view l.objects)
