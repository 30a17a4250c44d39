use Rattle.std.proofs.Common.{◌≡◌, ◌<◌, ◌^◌, take, true}
use Rattle.std.specs.List.{list_all}
use Rattle.json_token.specs.Number.{is_digit}
use Rattle.json_token.specs.Integer.{decimal}
use Rattle.json_token.proofs.integer.magnitude.Given as goal

abbrev pub invariant-loop-digit : goal.invariant-loop-digit
invariant-loop-digit l =
    (l.value ≡ decimal (take l.digit-index l.digits)) × (l.value < 10 ^ l.digit-index) × (list_all is_digit (take l.digit-index l.digits) ≡ true)
