use Rattle.std.proofs.Common.{◌≡◌, ◌∙◌, ◌<◌, ◌+◌, ℕ, List, ◌∷◌, ap, sym, arith, length, take, rules}
use Rattle.std.specs.List.{slice_split}
use Rattle.gate_io.proofs.Known.{rest_is}
use Rattle.http_head.specs.Member.{is_comma}
use Rattle.http_head.proofs.MemberLemmas.{one_member, first_and_others}
use Rattle.http_head.proofs.member.first_member.Goals as goal

pub returns-then-place-value-clause-parts : goal.returns-then-place-value-clause-parts
returns-then-place-value-clause-parts c =
    let whole : c.comma_place-place.result ≡ length c.args.value.now = search rules in
    one_member c.args.value.now c.comma_place-place.result whole c.comma_place-place.ensures.none

pub returns-then-place-value-clause-shorter : goal.returns-then-place-value-clause-shorter
returns-then-place-value-clause-shorter c =
    let whole : c.comma_place-place.result ≡ length c.args.value.now = search rules in
    one_member c.args.value.now c.comma_place-place.result whole c.comma_place-place.ensures.none

pub returns-clause-parts : goal.returns-clause-parts
returns-clause-parts c =
    let value : List ℕ = c.args.value.now in
    let place : ℕ = c.comma_place-place.result in
    let below : place < length value = omega arith in
    first_and_others value place c.comma_place-place.ensures.value below ∙ ap (λ (l : List ℕ). take place value ∷ slice_split is_comma l) (sym (rest_is (place + 1) value))
