use Rattle.std.proofs.Common.{◌≡◌, Ok, Err, Result, OnOk}
use Rattle.matchit.specs.Rows.{RowsOf}
use Rattle.matchit.specs.Route.{Scan, parse_route}
use Rattle.matchit.specs.Router.{RouteOf, InsertsRead}
use Rattle.matchit.specs.declared.error.InsertError.{InsertError}
use Rattle.rest_routes.specs.declared.route.Route.{Route}
use Rattle.rest_routes.specs.Routes.{with}
use Rattle.rest_routes.proofs.routes.add.Goals as goal

adds : (x : Result Scan InsertError) (route : Route) (old new : RowsOf (RouteOf Route)) (r : Result (Unit {0}) InsertError) → InsertsRead x route old new r → OnOk r (new ≡ with x route old)
adds (Ok s) route old new (Ok u) h = h.1
adds (Ok s) route old new (Err e) h = tt
adds (Err e) route old new (Ok u) h = h.0
adds (Err e) route old new (Err f) h = tt

pub returns : goal.returns
returns c = adds (parse_route c.args.path.now) c.args.route c.args.router.now c.insert.new.self c.insert.result c.insert.ensures
