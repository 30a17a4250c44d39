use Rattle.std.proofs.Common.{◌≡◌, ℕ, sym, subst, ap, ◌∙◌, nat_abs, to_z, of_z, w32, w64, arith}
use Rattle.std.specs.Prelude.{string_bytes, Err, length}
use Rattle.std.specs.String.Boundary.{IsSplitPoint}
use Rattle.std.proofs.lemmas.Int.{to_z-of_z}
use Rattle.forms.specs.declared.format.FormNo.{FormNo}
use Rattle.rest_replies.specs.Row.{FrontSo}
use Rattle.rest_replies.proofs.RowLemmas.{can_cut, row_put}
use Rattle.rest_replies.proofs.row.put_row.Goals as goal

pub truncate-requires : goal.truncate-requires
truncate-requires c =
    let front = string_bytes c.put_front.new.text in
    let failed = subst (λ (e : FormNo). FrontSo c.args.format c.args.topic.now c.args.stored.now.key c.args.stored.now.value (string_bytes c.put_opening.new.text) front (Err e)) c.in-Err-Json.field-0-is c.in-Err-Json.ensures in
    λ _. subst (λ (n : ℕ). IsSplitPoint front n) (sym (ap length c.as_str-len.ensures.value)) (can_cut (string_bytes c.args.text.now) failed.1 (string_bytes c.put_opening.new.text) front c.args.first c.in_ok-put_opening.ensures failed.2)

pub returns-in_ok-put_place-in-Ok : goal.returns-in_ok-put_place-in-Ok
returns-in_ok-put_place-in-Ok c = λ name topic_is.
    let s = c.args.stored.now in
    let signed : to_z w32 (of_z w32 c.args.partition) ≡ c.args.partition = grind (arith, to_z-of_z) in
    let whole : to_z w64 (of_z w64 s.offset) ≡ s.offset = grind (arith, to_z-of_z) in
    let shown = c.in-Ok.ensures in
    row_put c.args.first c.args.format (record { topic = name; partition = nat_abs c.args.partition }) s c.args.topic.now (string_bytes c.args.text.now) (string_bytes c.put_opening.new.text) (string_bytes c.put_front.new.text) (string_bytes c.put_place.new.text)
    shown.0 shown.1 c.unsigned_abs.result c.unsigned_abs-in-Ok.result topic_is (c.unsigned_abs.ensures.value ∙ ap nat_abs signed) (c.unsigned_abs-in-Ok.ensures.value ∙ ap nat_abs whole)
    c.in_ok-put_opening.ensures shown.2 shown.3 shown.4 c.in_ok-put_place-in-Ok.ensures
