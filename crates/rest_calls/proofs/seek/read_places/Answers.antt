use Rattle.serde_json.specs.View.{view}
use Rattle.rest_calls.specs.Seek.{sought_by}
use Rattle.rest_calls.specs.Reads.{places_view}
use Rattle.rest_calls.proofs.Bodies.{read_on}
use Rattle.rest_calls.proofs.seek.read_places.Goals as goal

pub returns : goal.returns
returns c = read_on places_view sought_by c.args.body.now (view c.in-Ok.value) c.places_of.result c.in-Ok.ensures c.places_of.ensures
