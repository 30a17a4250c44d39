use Rattle.std.proofs.Common.{◌≡◌, sym, get_or, arith, rules}
use Rattle.std.specs.Prelude.{◌==◌}
use Rattle.std.proofs.lemmas.Bool.Decides.{nat_tests}
use Rattle.std.proofs.lemmas.List.Sums.{position_or_len_is}
use Rattle.http_head.proofs.member.comma_place.Goals as goal

pub returns-then-value-place-eq44-clause-value : goal.returns-then-value-place-eq44-clause-value
returns-then-value-place-eq44-clause-value c =
    let byte : get_or c.args.value.now c.loop-place.place 0 ≡ 44 = search rules in
    sym (position_or_len_is (λ b. b == 44) c.args.value.now c.loop-place.place 0 c.loop-place.invariant.within c.loop-place.invariant.none
    (λ within. grind (arith, nat_tests)))

pub returns-clause-value : goal.returns-clause-value
returns-clause-value c =
    sym (position_or_len_is (λ b. b == 44) c.args.value.now c.loop-place.place 0 c.loop-place.invariant.within c.loop-place.invariant.none
    (λ within. absurd (omega arith)))
