use Rattle.std.proofs.Common.{◌≡◌, ap, sym, ◌∙◌, subst, arith, List, ℕ, nat_abs, slice_index_or, to_z, of_z, w32, w64}
use Rattle.std.proofs.lemmas.Int.{to_z-of_z}
use Rattle.broker_link.specs.declared.link.Stored.{Stored}
use Rattle.model.specs.state.Log.{Row, TopicPart}
use Rattle.std.specs.Prelude.{IfOk, Result, Ok, Err}
use Rattle.std.specs.declared.alloc.AllocError.{AllocError}
use Rattle.model.specs.state.Entry.Reply.{Unread}
use Rattle.model.specs.step.Walk.{Item}
use Rattle.broker_link.specs.Places.{at_in}
use Rattle.broker_link.specs.declared.place.Place.{Place}
use Rattle.rest_codes.specs.declared.response.Reply.{Reply}
use Rattle.rest_replies.specs.Failure.{Says}
use Rattle.instance.specs.Walk.{item_in, lots_of}
use Rattle.instance.proofs.Picking.{row_is, unread_item}
use Rattle.instance.proofs.look.unread_at.Goals as goal

of_item : (x y : Item) → x ≡ y → (r : Result Reply AllocError) → IfOk r (Says (Unread x 2)) → IfOk r (Says (Unread y 2))
of_item x y e r h = subst (λ (z : Item). IfOk r (Says (Unread z 2))) e h

of_row : (r : Result Reply AllocError) (at : TopicPart) (offset : ℕ) (row : Row) → row.offset ≡ offset
    → IfOk r (λ (reply : Reply). (other : Row) → other.offset ≡ offset → Says (Unread (record { at = at; row = other }) 2) reply) → IfOk r (Says (Unread (record { at = at; row = row }) 2))
of_row (Ok reply) at offset row e h = h row e
of_row (Err want) at offset row e h = h

pub returns : goal.returns
returns c =
    let places = c.args.consumer.now.assignment.items in
    let fetched = c.args.fetched.now in
    let item : Item = item_in (lots_of places fetched) c.args.pick in
    let place : Place = c.index-places-pick.result in
    let is : place ≡ slice_index_or places c.args.pick.lot place = c.index-places-pick.is ∙ ap (λ (ps : List Place). slice_index_or ps c.args.pick.lot place) c.as_slice-places.ensures.value in
    let signed : to_z w32 (of_z w32 place.partition) ≡ place.partition = grind (arith, to_z-of_z) in
    let at : record { topic = c.as_str.result.now; partition = c.unsigned_abs.result } ≡ at_in place =
    ap (λ (t : List ℕ). record { topic = t; partition = c.unsigned_abs.result }) c.as_str.ensures
    ∙ ap (λ (n : ℕ). record { topic = place.topic; partition = n }) (c.unsigned_abs.ensures.value ∙ ap nat_abs signed) in
    let whole : to_z w64 (of_z w64 c.stored_at.result.now.offset) ≡ c.stored_at.result.now.offset = grind (arith, to_z-of_z) in
    let offset : item.row.offset ≡ c.unsigned_abs-offset.result = sym (ap (λ (r : Row). r.offset) (row_is places fetched c.args.pick c.requires.same c.requires.pick)) ∙ sym (c.unsigned_abs-offset.ensures.value ∙ (ap nat_abs whole ∙ ap (λ (x : Stored). nat_abs x.offset) c.stored_at.ensures)) in
    of_item (record { at = record { topic = c.as_str.result.now; partition = c.unsigned_abs.result }; row = item.row }) item
    (ap (λ (x : TopicPart). record { at = x; row = item.row }) at ∙ unread_item places fetched c.args.pick place c.requires.same c.requires.pick is) c.unread.result
    (of_row c.unread.result (record { topic = c.as_str.result.now; partition = c.unsigned_abs.result }) c.unsigned_abs-offset.result item.row offset c.unread.ensures)
