use Rattle.std.proofs.Common.{rules}
use Rattle.rest_routes.proofs.Numbers.{number_read}
use Rattle.rest_routes.proofs.digits.number_in.Goals as goal

pub returns : goal.returns
returns c = rw c.ok.ensures.value (number_read c.args.digits.now c.parse.result c.parse.ensures.value.0 c.requires.filled (search rules))
