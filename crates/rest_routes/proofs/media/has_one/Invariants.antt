use Rattle.std.proofs.Common.{◌≡◌, length}
use Rattle.rest_routes.specs.Media.{has_one}
use Rattle.rest_routes.proofs.media.has_one.Given as goal

abbrev pub invariant-loop-member : goal.invariant-loop-member
invariant-loop-member l = has_one l.kind l.rest ≡ has_one l.kind l.value

abbrev pub decreases-loop-member : goal.decreases-loop-member
decreases-loop-member l = length l.rest
