use Rattle.std.proofs.Common.{◌<◌, length, arith}
use Rattle.std.proofs.lemmas.Bool.Decides.{nat_tests}
use Rattle.serde_json.specs.View.{view}
use Rattle.rest_calls.proofs.Bodies.{created_on, created_none}
use Rattle.rest_calls.proofs.create.read_create.Goals as goal

pub returns-in-Err : goal.returns-in-Err
returns-in-Err c =
    let some : 0 < length c.args.body.now = grind (arith, nat_tests) in
    created_none c.args.body.now c.in-Err.e some c.in-Err.ensures

pub returns : goal.returns
returns c =
    let some : 0 < length c.args.body.now = grind (arith, nat_tests) in
    created_on c.args.body.now (view c.in-Ok.value) c.created_by.result some c.in-Ok.ensures c.created_by.ensures
