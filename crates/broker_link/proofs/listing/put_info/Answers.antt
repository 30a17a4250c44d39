use Rattle.std.proofs.Common.{◌≡◌, ◌∙◌, ap, List, ℕ, arith}
use Rattle.std.specs.Prelude.{not}
use Rattle.std.specs.List.{position_or_len, insert}
use Rattle.std.proofs.lemmas.List.Sums.{prefix_len-le-length}
use Rattle.broker_link.specs.Infos.{is_below}
use Rattle.broker_link.specs.declared.link.TopicInfo.{TopicInfo}
use Rattle.broker_link.proofs.Infos.{insert_is}
use Rattle.broker_link.proofs.listing.put_info.Goals as goal

pub insert-requires : goal.insert-requires
insert-requires c =
    omega (arith, c.place_for-place.ensures, c.as_slice.ensures.len, prefix_len-le-length (λ x. not (is_below c.as_str.result.now x)) c.as_slice.result.now)

pub returns : goal.returns
returns c =
    let items : List TopicInfo = c.args.infos.now.items in
    let place : c.place_for-place.result ≡ position_or_len (is_below c.args.info.name) items =
    c.place_for-place.ensures ∙ (ap (λ (s : List ℕ). position_or_len (is_below s) c.as_slice.result.now) c.as_str.ensures ∙ ap (λ (ys : List TopicInfo). position_or_len (is_below c.args.info.name) ys) c.as_slice.ensures.value) in
    c.in_ok-insert.ensures.items ∙ (ap (λ (n : ℕ). insert items n c.args.info) place ∙ insert_is c.args.info items)
