use Rattle.std.proofs.Common.{◌≡◌, sym, get_or, true, arith, rules}
use Rattle.std.proofs.lemmas.List.Sums.{position_or_len_is}
use Rattle.http_head.specs.Asked.{ends_authority}
use Rattle.http_head.proofs.asked.authority_end.Goals as goal

pub returns-then-ends_authority-clause-value : goal.returns-then-ends_authority-clause-value
returns-then-ends_authority-clause-value c =
    let byte : ends_authority (get_or c.args.bytes.now c.loop-place.place 0) ≡ true = search rules in
    sym (position_or_len_is ends_authority c.args.bytes.now c.loop-place.place 0 c.loop-place.invariant.within c.loop-place.invariant.none
    (λ within. byte))

pub returns-clause-value : goal.returns-clause-value
returns-clause-value c =
    sym (position_or_len_is ends_authority c.args.bytes.now c.loop-place.place 0 c.loop-place.invariant.within c.loop-place.invariant.none
    (λ within. absurd (omega arith)))
