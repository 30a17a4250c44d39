use Rattle.std.proofs.Common.{◌≡◌, ap, sym, ◌∙◌, subst, arith, ℤ, to_z, of_z, w32, slice_index_or}
use Rattle.std.specs.Prelude.{string_bytes, Result, Ok, Err}
use Rattle.forms.specs.declared.format.FormNo.{FormNo}
use Rattle.std.proofs.lemmas.Int.{to_z-of_z}
use Rattle.forms.specs.Formats.{format_of}
use Rattle.model.specs.step.Walk.{Item}
use Rattle.broker_link.specs.declared.place.Place.{Place}
use Rattle.rest_replies.specs.Row.{RowSo}
use Rattle.instance.specs.Walk.{item_in, lots_of}
use Rattle.instance.proofs.Picking.{item_at}
use Rattle.instance.proofs.walk.put_item.Goals as goal

pub returns-in-Ok : goal.returns-in-Ok
returns-in-Ok c =
    let place : Place = c.index-lots-pick.result in
    let here : ℤ = (slice_index_or c.args.lots.now.places.now c.args.pick.lot place).partition in
    let signed : to_z w32 (of_z w32 here) ≡ here = grind (arith, to_z-of_z) in
    subst (λ (x : Item). RowSo c.args.first (format_of c.args.format) x (string_bytes c.args.text.now) (string_bytes c.put_row.new.text) (Ok c.in-Ok.field-0))
    (item_at c.args.lots.now.places.now c.args.lots.now.fetched.now c.args.pick place (to_z w32 (of_z w32 here)) c.stored_at.result.now
    c.args.lots.now.same c.requires.pick c.index-lots-pick.is (signed ∙ ap (λ (p : Place). p.partition) (sym c.index-lots-pick.is)) c.stored_at.ensures)
    (c.in-Ok.ensures (item_in (lots_of c.args.lots.now.places.now c.args.lots.now.fetched.now) c.args.pick).at.topic c.requires.topic)

pub returns-in-Err-Json : goal.returns-in-Err-Json
returns-in-Err-Json c =
    let place : Place = c.index-lots-pick.result in
    let here : ℤ = (slice_index_or c.args.lots.now.places.now c.args.pick.lot place).partition in
    let signed : to_z w32 (of_z w32 here) ≡ here = grind (arith, to_z-of_z) in
    let item : Item = item_in (lots_of c.args.lots.now.places.now c.args.lots.now.fetched.now) c.args.pick in
    let so = subst (λ (x : Item). RowSo c.args.first (format_of c.args.format) x (string_bytes c.args.text.now) (string_bytes c.put_row.new.text) c.put_row.result)
    (item_at c.args.lots.now.places.now c.args.lots.now.fetched.now c.args.pick place (to_z w32 (of_z w32 here)) c.stored_at.result.now
    c.args.lots.now.same c.requires.pick c.index-lots-pick.is (signed ∙ ap (λ (p : Place). p.partition) (sym c.index-lots-pick.is)) c.stored_at.ensures)
    (c.put_row.ensures item.at.topic c.requires.topic) in
    subst (λ (e : FormNo). RowSo c.args.first (format_of c.args.format) item (string_bytes c.args.text.now) (string_bytes c.put_row.new.text) (Err e)) c.in-Err-Json.field-0-is
    (subst (λ (r : Result Unit FormNo). RowSo c.args.first (format_of c.args.format) item (string_bytes c.args.text.now) (string_bytes c.put_row.new.text) r) c.in-Err-Json.is so)
