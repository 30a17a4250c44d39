use Rattle.std.proofs.Common.{◌≡◌, ◌∙◌, true, false, ap, sym, List, ℕ, arith, map, drop}
use Rattle.std.specs.Prelude.{not}
use Rattle.std.specs.List.{position_or_len, insert}
use Rattle.std.proofs.lemmas.List.Sums.{prefix_len-le-length}
use Rattle.broker_link.specs.Fetching.{at_of}
use Rattle.broker_link.specs.declared.fetch.TopicPart.{TopicPart as Part}
use Rattle.consumer_state.specs.Order.{begins_with}
use Rattle.consumer_state.proofs.Sorting.{from_here, put_stands, put_new}
use Rattle.consumer_state.proofs.order.put.Goals as goal

pub returns-then-stands_at : goal.returns-then-stands_at
returns-then-stands_at c =
    let items : List Part = c.args.sorted.now.items in
    let place : c.place_for-place.result ≡ position_or_len (from_here (at_of c.args.part.now)) items =
    c.place_for-place.ensures ∙ ap (λ (l : List Part). position_or_len (from_here (at_of c.args.part.now)) l) c.as_slice.ensures.value in
    let there : begins_with (at_of c.args.part.now) (map at_of (drop (position_or_len (from_here (at_of c.args.part.now)) items) items)) ≡ true =
    ap (λ (n : ℕ). begins_with (at_of c.args.part.now) (map at_of (drop n items))) (sym place)
    ∙ (ap (λ (l : List Part). begins_with (at_of c.args.part.now) (map at_of (drop c.place_for-place.result l))) (sym c.as_slice-2.ensures.value) ∙ (sym c.stands_at.ensures ∙ c.if-stands_at.true)) in
    put_stands (at_of c.args.part.now) items there

pub insert-requires : goal.insert-requires
insert-requires c =
    omega (arith, c.place_for-place.ensures, c.as_slice.ensures.len, prefix_len-le-length (λ x. not (from_here (at_of c.args.part.now) x)) c.as_slice.result.now)

pub returns : goal.returns
returns c =
    let items : List Part = c.args.sorted.now.items in
    let place : c.place_for-place.result ≡ position_or_len (from_here (at_of c.args.part.now)) items =
    c.place_for-place.ensures ∙ ap (λ (l : List Part). position_or_len (from_here (at_of c.args.part.now)) l) c.as_slice.ensures.value in
    let absent : begins_with (at_of c.args.part.now) (map at_of (drop (position_or_len (from_here (at_of c.args.part.now)) items) items)) ≡ false =
    ap (λ (n : ℕ). begins_with (at_of c.args.part.now) (map at_of (drop n items))) (sym place)
    ∙ (ap (λ (l : List Part). begins_with (at_of c.args.part.now) (map at_of (drop c.place_for-place.result l))) (sym c.as_slice-2.ensures.value) ∙ (sym c.stands_at.ensures ∙ c.if-stands_at.false)) in
    ap (λ (l : List Part). map at_of l) c.in_ok-insert.ensures.items
    ∙ (ap (λ (n : ℕ). map at_of (insert items n c.in_ok-copy.copy)) place ∙ put_new (at_of c.args.part.now) items c.in_ok-copy.copy c.in_ok-copy.ensures absent)
