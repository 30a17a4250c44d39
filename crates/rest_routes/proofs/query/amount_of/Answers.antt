use Rattle.std.proofs.Common.{rules, ◌≡◌, ◌<◌, ◌≤◌, ◌^◌, length, true, arith, ◌∙◌, sym, Some}
use Rattle.std.specs.List.{list_all}
use Rattle.std.specs.Char.{is_ascii_digit}
use Rattle.std.specs.Str.Parse.{digits_value}
use Rattle.rest_routes.specs.Query.{amount_of}
use Rattle.rest_routes.proofs.Numbers.{value_of_few, some_where}
use Rattle.rest_routes.proofs.query.amount_of.Goals as goal

pub returns : goal.returns
unfolding amount_of
returns c =
    let ds = c.args.digits.now in
    let digits : list_all is_ascii_digit ds ≡ true = search rules in
    let few : length ds ≤ 18 = omega arith in
    let fits : digits_value 10 ds < 2 ^ 64 = omega (arith, value_of_few ds digits few) in
    let chosen : amount_of ds ≡ Some (digits_value 10 ds) = search (rules, digits) in
    some_where _ c.number_in.result (digits_value 10 ds) c.number_in.ensures fits ∙ sym chosen
