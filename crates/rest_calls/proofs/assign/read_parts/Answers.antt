use Rattle.serde_json.specs.View.{view}
use Rattle.rest_calls.specs.Assign.{assigned_by}
use Rattle.rest_calls.specs.Reads.{parts_view}
use Rattle.rest_calls.proofs.Bodies.{read_on}
use Rattle.rest_calls.proofs.assign.read_parts.Goals as goal

pub returns : goal.returns
returns c = read_on parts_view assigned_by c.args.body.now (view c.in-Ok.value) c.parts_of.result c.in-Ok.ensures c.parts_of.ensures
