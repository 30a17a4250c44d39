-- The paths of the gateway (Confluent REST Proxy API v2), and which of them a request's path is.
use Rattle.std.specs.Prelude.{ℕ, List, [], codes, Option, option_map, Result, Ok, Err}
use Rattle.matchit.specs.Rows.{RowsOf}
use Rattle.matchit.specs.Seek.{first}
use Rattle.matchit.specs.Order.{placed}
use Rattle.matchit.specs.Route.{Scan, parse_route}
use Rattle.matchit.specs.Router.{RouteOf, route_from}
use Rattle.matchit.specs.declared.error.InsertError.{InsertError}
use Rattle.rest_routes.specs.declared.route.Route.{Route}
use Rattle.rest_routes.specs.declared.route.Route.TheVariants as route

-- paths, each with what it is
abbrev pub Paths : Type 0
Paths = RowsOf (RouteOf Route)

-- with a further path that reads as one
abbrev pub with : Result Scan InsertError → Route → Paths → Paths
with (Ok scan) r paths = placed (scan.pattern, route_from scan r) paths
with (Err e) r paths = paths

-- with a further path, whose parameters stand in braces
abbrev pub add : List ℕ → Route → Paths → Paths
add path r paths = with (parse_route path) r paths

-- all paths
abbrev pub table : Paths
table =
    add (codes "/consumers/{group}/instances/{instance}/records") route.Records (
    add (codes "/consumers/{group}/instances/{instance}/positions/end") route.End (
    add (codes "/consumers/{group}/instances/{instance}/positions/beginning") route.Beginning (
    add (codes "/consumers/{group}/instances/{instance}/positions") route.Positions (
    add (codes "/consumers/{group}/instances/{instance}/assignments") route.Assignments (
    add (codes "/consumers/{group}/instances/{instance}/subscription") route.Subscription (
    add (codes "/consumers/{group}/instances/{instance}/offsets") route.Offsets (
    add (codes "/consumers/{group}/instances/{instance}") route.Instance (
    add (codes "/consumers/{group}") route.Group (
    add (codes "/topics/{topic}/partitions/{partition}/offsets") route.EndOffsets (
    add (codes "/topics/{topic}/partitions/{partition}") route.Partition (
    add (codes "/topics/{topic}/partitions") route.Partitions (
    add (codes "/topics/{topic}") route.Topic (
    add (codes "/topics") route.Topics (
    add (codes "/brokers") route.Brokers []))))))))))))))

-- The path of the gateway that a request's path is: equal but for the parameters, each of which stands for one byte or more without
-- a slash.
abbrev pub route_of : List ℕ → Option Route
route_of path = option_map (λ (found : RouteOf Route). found.value) (first table path)
