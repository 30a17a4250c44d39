use Rattle.std.proofs.Common.{◌≡◌, length}
use Rattle.form_urlencoded.specs.Form.{raw_pairs}
use Rattle.form_urlencoded.specs.Parse.{raw_pairs_left}
use Rattle.rest_routes.specs.Query.{first_value}
use Rattle.rest_routes.proofs.query.first_value.Given as goal

abbrev pub invariant-loop-found : goal.invariant-loop-found
invariant-loop-found l = first_value l.name (raw_pairs_left l.fields) ≡ first_value l.name (raw_pairs l.query)

abbrev pub decreases-loop-found : goal.decreases-loop-found
decreases-loop-found l = length (raw_pairs_left l.fields)
