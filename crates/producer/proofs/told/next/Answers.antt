use Rattle.std.proofs.Common.{◌∙◌, ap, sym, refl, get_or}
use Rattle.std.specs.Prelude.{◌==◌, pos, slice_set}
use Rattle.producer.specs.declared.told.Cursor.{Cursor}
use Rattle.producer.proofs.Places.{first_get, cursor_some, cursor_none}
use Rattle.producer.proofs.told.next.Goals as goal

pub returns-in-Some-clause-cursors : goal.returns-in-Some-clause-cursors
returns-in-Some-clause-cursors c =
    let d : Cursor = record { number = 0; code = pos 0; next = 0 } in
    let first = first_get (λ (x : Cursor). x.number == c.args.number) c.args.cursors.now c.in-Some.place d (sym c.place_of.ensures ∙ c.in-Some.is) in
    let all = cursor_some c.args.number c.args.cursors.now c.in-Some.place (get_or c.args.cursors.now c.in-Some.place d) first in
    ap (λ x. slice_set c.args.cursors.now c.in-Some.place x) c.moved_on-moved.ensures ∙ all.2

pub returns-in-Some-clause-told : goal.returns-in-Some-clause-told
returns-in-Some-clause-told c =
    let d : Cursor = record { number = 0; code = pos 0; next = 0 } in
    let first = first_get (λ (x : Cursor). x.number == c.args.number) c.args.cursors.now c.in-Some.place d (sym c.place_of.ensures ∙ c.in-Some.is) in
    let all = cursor_some c.args.number c.args.cursors.now c.in-Some.place (get_or c.args.cursors.now c.in-Some.place d) first in
    rw (all.0, all.1) c.answer_at-told.ensures

pub returns-in-None-clause-cursors : goal.returns-in-None-clause-cursors
returns-in-None-clause-cursors c = let all = cursor_none c.args.number c.args.cursors.now (sym c.place_of.ensures ∙ c.in-None.is) in all.2

pub returns-in-None-clause-told : goal.returns-in-None-clause-told
returns-in-None-clause-told c =
    let all = cursor_none c.args.number c.args.cursors.now (sym c.place_of.ensures ∙ c.in-None.is) in
    rw (all.0, all.1) refl
