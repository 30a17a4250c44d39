use Rattle.std.proofs.Common.{refl, List, [], ◌∷◌, ◌++◌, map, length, nat_le, ◌*◌, ap, sym, ◌∙◌, subst, arith, Some}
use Rattle.std.specs.Prelude.{is_some, string_bytes, codes}
use Rattle.std.proofs.lemmas.Grind.{common_steps}
use Rattle.std.proofs.lemmas.List.{append-nil, length-map}
use Rattle.forms.specs.Formats.{format_of}
use Rattle.model.specs.state.World.{Format as Shown}
use Rattle.model.specs.step.Walk.{Lot}
use Rattle.model.specs.step.Events.{moved}
use Rattle.model.specs.state.Entry.Event.{Looked as Mark}
use Rattle.model.specs.texts.Texts.{Response}
use Rattle.instance.specs.Ending.{IsEnded}
use Rattle.instance.specs.declared.event.Event.TheVariants.{Looked}
use Rattle.instance.specs.declared.walk.Pick.{Pick}
use Rattle.instance.specs.Walk.{item_in, lots_of, seen}
use Rattle.consumer_state.specs.Views.{consumer_of}
use Rattle.instance.proofs.Ending.{lost, put_off, shown}
use Rattle.instance.proofs.Picking.{has_row, pick_within}
use Rattle.instance.proofs.Walking.{closed, enough_is, is_none, lost_is, none_met}
use Rattle.instance.proofs.look.settle.Goals as goal

pub unread_at-requires : goal.unread_at-requires
unread_at-requires c =
    let places = c.args.consumer.now.assignment.items in
    let fetched = c.args.fetched.now in
    let lots : List Lot = lots_of places fetched in
    let lost_at = lost_is lots (format_of c.args.consumer.now.settings.format) c.in_ok-walk.walk c.in-Some.pick c.in_ok-walk.ensures.so_far c.in-Some.ensures.some.1 in
    record { same = c.requires.same; pick = lost_at.0; lot = pick_within places fetched c.in-Some.pick c.requires.same lost_at.0; row = has_row places fetched c.in-Some.pick c.requires.same lost_at.0 }

pub returns-in-Some-clause-settled : goal.returns-in-Some-clause-settled
returns-in-Some-clause-settled c =
    let consumer = consumer_of c.args.consumer.now in
    let lots : List Lot = lots_of c.args.consumer.now.assignment.items c.args.fetched.now in
    let w = c.in_ok-walk.walk in
    let lost_at = lost_is lots (format_of c.args.consumer.now.settings.format) w c.in-Some.pick c.in_ok-walk.ensures.so_far c.in-Some.ensures.some.1 in
    record {
      marks = [];
      ended = lost c.args.round c.args.wait c.args.bound consumer lots (seen lots w) (item_in lots c.in-Some.pick) c.in_ok-reply.reply c.in_ok-walk.ensures.walked
          (ap (map (item_in lots)) c.in-Some.ensures.some.0) (ap (Rattle.std.specs.Prelude.option_map (item_in lots)) c.in-Some.ensures.some.1) lost_at.1 c.in_ok-reply.ensures;
      added = sym (append-nil c.args.events.now);
    }

pub returns-then-not-is_enough-clause-settled : goal.returns-then-not-is_enough-clause-settled
returns-then-not-is_enough-clause-settled c =
    let consumer = consumer_of c.args.consumer.now in
    let lots : List Lot = lots_of c.args.consumer.now.assignment.items c.args.fetched.now in
    let w = c.in_ok-walk.walk in
    let few = c.is_enough.ensures in
    record {
      marks = Looked c.args.round ∷ [];
      ended = (put_off c.args.round c.args.wait c.args.bound consumer lots (seen lots w) (length w.picks.items) w.bytes (nat_le c.args.wait (10 * c.args.round)) c.in_ok-walk.ensures.walked
          (none_met lots w (c.lost.ensures.none (is_none c.lost.result c.in_default.not-Some))) (sym (length-map w.picks.items (item_in lots))) c.in_ok-walk.ensures.so_far.bytes refl
          (enough_is lots w consumer.settings.min_bytes (nat_le c.args.wait (10 * c.args.round)) ∙ (grind (arith, common_steps)))).0;
      added = c.in_ok-push.ensures.ok;
    }

pub returns-clause-settled : goal.returns-clause-settled
returns-clause-settled c =
    let consumer = consumer_of c.args.consumer.now in
    let lots : List Lot = lots_of c.args.consumer.now.assignment.items c.args.fetched.now in
    let w = c.in_ok-walk.walk in
    let format : Shown = format_of c.args.consumer.now.settings.format in
    let text = string_bytes w.text ++ codes "]" in
    record {
      marks = Looked c.args.round ∷ [];
      ended = subst (λ (r : Response). IsEnded c.args.round c.args.wait c.args.bound consumer lots (Mark c.args.round ∷ []) (Some r) (consumer_of c.move_behind.new.consumer)) (sym c.in_ok-reply-2.ensures)
          (shown c.args.round c.args.wait c.args.bound consumer (consumer_of c.move_behind.new.consumer) lots (seen lots w) (length w.picks.items) w.bytes (nat_le c.args.wait (10 * c.args.round)) text c.in_ok-walk.ensures.walked
          (none_met lots w (c.lost.ensures.none (is_none c.lost.result c.in_default.not-Some))) (sym (length-map w.picks.items (item_in lots))) c.in_ok-walk.ensures.so_far.bytes refl
          (enough_is lots w consumer.settings.min_bytes (nat_le c.args.wait (10 * c.args.round)) ∙ (grind (arith, common_steps)))
          (closed lots format w c.in_ok-walk.ensures.so_far)
          (c.move_behind.ensures.moved ∙ ap (λ (ps : List Pick). moved (map (item_in lots) ps) consumer) c.as_slice.ensures.value));
      added = c.in_ok-push-2.ensures.ok;
    }
