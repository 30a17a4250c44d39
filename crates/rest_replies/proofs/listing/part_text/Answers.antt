use Rattle.std.proofs.Common.{◌≡◌, List, ℕ, ap, subst, ◌∙◌, nat_abs, to_z, of_z, w32, arith}
use Rattle.std.specs.Prelude.{IfOk, string_bytes}
use Rattle.std.proofs.lemmas.Int.{to_z-of_z}
use Rattle.json.specs.Print.{quoted}
use Rattle.broker_link.specs.Places.{at_in}
use Rattle.rest_replies.proofs.ListingLemmas.{part_is}
use Rattle.rest_replies.proofs.listing.part_text.Goals as goal

pub returns : goal.returns
returns c =
    let same : to_z w32 (of_z w32 c.args.place.now.partition) ≡ c.args.place.now.partition = grind (arith, to_z-of_z) in
    subst (λ (l : List ℕ). IfOk c.listed_text.result (λ s. string_bytes s ≡ l))
    (part_is (at_in c.args.place.now) c.as_str-2.result.now c.unsigned_abs.result (c.as_str-2.ensures.value ∙ (c.in_ok-topic.ensures ∙ ap quoted c.as_str.ensures)) (c.unsigned_abs.ensures.value ∙ ap nat_abs same))
    c.listed_text.ensures
