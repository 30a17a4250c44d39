use Rattle.std.proofs.Common.{refl}
use Rattle.rest_codes.specs.Methods.{methods_of}
use Rattle.rest_routes.specs.Methods.{IsListed}
use Rattle.rest_routes.specs.declared.route.Route.{Route}
use Rattle.rest_routes.specs.declared.route.Route.TheVariants as route
use Rattle.rest_routes.proofs.route.allow_lists_the_methods.Goals as goal

lists : (r : Route) → IsListed r
unfolding methods_of
lists route.Brokers = refl
lists route.Topics = refl
lists route.Topic = refl
lists route.Partitions = refl
lists route.Partition = refl
lists route.EndOffsets = refl
lists route.Group = refl
lists route.Instance = refl
lists route.Offsets = refl
lists route.Subscription = refl
lists route.Assignments = refl
lists route.Positions = refl
lists route.Beginning = refl
lists route.End = refl
lists route.Records = refl

pub returns : goal.returns
returns c = lists
