use Rattle.std.proofs.Common.{◌≡◌, ℕ, ◌*◌, List, map, length, min, ap, sym, subst, ◌∙◌, inl, refl, arith}
use Rattle.std.specs.Prelude.{option_map}
use Rattle.std.specs.List.{All}
use Rattle.std.proofs.lemmas.List.{length-map}
use Rattle.model.specs.state.Log.{Log, Row}
use Rattle.model.specs.step.Walk.{Lot}
use Rattle.model.specs.step.Events.{at_most}
use Rattle.broker_link.proofs.Going.{goes_nowhere}
use Rattle.broker_link.specs.Fetching.{rows_in}
use Rattle.broker_link.specs.declared.fetch.Fetched.{Fetched}
use Rattle.instance.specs.Gathering.{AreGiven, IsHand}
use Rattle.instance.specs.Walk.{HasOffsets, lots_of}
use Rattle.broker_link.specs.declared.place.Place.{Place as CodePlace}
use Rattle.broker_link.specs.Places.{place_of}
use Rattle.consumer_state.specs.Views.{consumer_of}
use Rattle.rest_calls.specs.Responses.{response_in}
use Rattle.rest_calls.specs.Views.{formats_in}
use Rattle.instance.specs.Views.{event_of}
use Rattle.instance.proofs.Gathering.{whose_are}
use Rattle.instance.proofs.Handing.{handed_failed, handed_over, rows_of_lots}
use Rattle.instance.proofs.Looking.{acts_over, acts_failed, acts_refused, is_plain, mid_is, passed}
use Rattle.instance.proofs.Wanting.{same}
use Rattle.instance.proofs.look.look.Goals as goal

pub returns-then-not-allows-clause-acts : goal.returns-then-not-allows-clause-acts
returns-then-not-allows-clause-acts g c = λ advertise key.
    acts_refused advertise key c.args.now c.args.round (formats_in c.args.accepts) c.args.timeout c.args.max_bytes (g.L.Link.stand c.args.link.now).tells (g.L.Link.stand c.args.link.now).plain
    (g.L.Link.stand c.args.link.now).counts (consumer_of c.args.consumer.now) (g.L.Link.stand c.args.link.now).log _ _ c.refused.result (is_plain c.args.consumer.now) (sym c.allows.ensures ∙ c.if-not-allows.true)
    (ap (map event_of) c.of_reply.ensures.events) (ap (option_map response_in) c.of_reply.ensures.reply) c.refused.ensures.says

pub returns-then-not-allows-clause-handed : goal.returns-then-not-allows-clause-handed
returns-then-not-allows-clause-handed g c = λ turn t. inl (sym c.allows.ensures ∙ c.if-not-allows.true)

pub returns-then-not-allows-clause-consults : goal.returns-then-not-allows-clause-consults
returns-then-not-allows-clause-consults g c =
    let a = g.L.Link.stand c.args.link.now in
    record { goes = goes_nowhere a; commits = λ t. same a.log; asked = refl }

pub conclude-requires-clause-offsets : goal.conclude-requires-clause-offsets
conclude-requires-clause-offsets g c = subst (All HasOffsets) (sym c.as_slice.ensures) c.in-Ok.ensures.offsets

pub returns-in-Ok-clause-acts : goal.returns-in-Ok-clause-acts
returns-in-Ok-clause-acts g c = λ advertise key.
    let b : Log = (g.L.Link.stand c.gather_for.new.link).log in
    let lots : List Lot = lots_of c.gather_for.new.consumer.assignment.items c.as_slice.result.now in
    let kept = c.gather_for.ensures.kept in
    let set = c.gather_for.ensures.set in
    acts_over advertise key c.args.now c.args.round (formats_in c.args.accepts) c.args.timeout c.args.max_bytes (g.L.Link.stand c.args.link.now).tells (g.L.Link.stand c.args.link.now).plain
    (g.L.Link.stand c.args.link.now).counts (g.L.Link.stand c.gather_for.new.link).counts (consumer_of c.args.consumer.now) (g.L.Link.stand c.args.link.now).log c.gather_for.new.events c.conclude.result b
    (consumer_of c.gather_for.new.consumer) (consumer_of c.conclude.new.consumer) lots c.at_most-wait.result c.at_most-bound.result
    (is_plain c.args.consumer.now) (sym c.allows.ensures ∙ c.if-not-allows.false) (passed (g.L.Link.stand c.args.link.now) (g.L.Link.stand c.gather_for.new.link) c.gather_for.ensures.passes) set
    (mid_is c.args.now c.args.consumer.now c.gather_for.new.consumer set.news kept.settings kept.rotation kept.unsaved kept.last_use set.after)
    (c.at_most-wait.ensures.value ∙ ap (λ (n : ℕ). at_most n c.args.timeout) c.from.ensures) c.at_most-bound.ensures.value
    (λ t log. subst (λ (fs : List Fetched). IsHand b (map place_of c.gather_for.new.consumer.assignment.items) (lots_of c.gather_for.new.consumer.assignment.items fs)) (sym c.as_slice.ensures) (c.in-Ok.ensures.hand t log))
    c.conclude.ensures.over

pub returns-in-Err-clause-acts : goal.returns-in-Err-clause-acts
returns-in-Err-clause-acts g c = λ advertise key.
    let kept = c.gather_for.ensures.kept in
    let set = c.gather_for.ensures.set in
    acts_failed advertise key c.args.now c.args.round (formats_in c.args.accepts) c.args.timeout c.args.max_bytes (g.L.Link.stand c.args.link.now).tells (g.L.Link.stand c.args.link.now).plain
    (g.L.Link.stand c.args.link.now).counts (g.L.Link.stand c.gather_for.new.link).counts (consumer_of c.args.consumer.now) (g.L.Link.stand c.args.link.now).log c.gather_for.new.events c.link_failure.result (g.L.Link.stand c.gather_for.new.link).log
    (consumer_of c.gather_for.new.consumer) c.in-Err.e (is_plain c.args.consumer.now) (sym c.allows.ensures ∙ c.if-not-allows.false) (passed (g.L.Link.stand c.args.link.now) (g.L.Link.stand c.gather_for.new.link) c.gather_for.ensures.passes) set
    (mid_is c.args.now c.args.consumer.now c.gather_for.new.consumer set.news kept.settings kept.rotation kept.unsaved kept.last_use set.after)
    (omega (arith, c.in-Err.ensures.sent, length-map c.args.consumer.now.assignment.items place_of)) c.in-Err.ensures.cause (λ p t there. c.in-Err.ensures.good p t there) c.link_failure.ensures.says

pub returns-in-Ok-clause-handed : goal.returns-in-Ok-clause-handed
returns-in-Ok-clause-handed g c = λ turn t.
    let b : Log = (g.L.Link.stand c.gather_for.new.link).log in
    let items : List CodePlace = c.gather_for.new.consumer.assignment.items in
    let fetched : List Fetched = c.as_slice.result.now in
    let same : length fetched ≡ length items = ap length c.as_slice.ensures ∙ c.in-Ok.ensures.same in
    let most : ℕ = min (2 * c.at_most-bound.result) 1048576 in
    let kept = c.gather_for.ensures.kept in
    let set = c.gather_for.ensures.set in
    let given : AreGiven most c.args.consumer.now.rotation b (map place_of items) (map rows_in fetched) =
    subst (λ (fs : List Fetched). AreGiven most c.args.consumer.now.rotation b (map place_of items) (map rows_in fs)) (sym c.as_slice.ensures) (c.in-Ok.ensures.given turn t) in
    handed_over c.args.now c.args.round (formats_in c.args.accepts) c.args.timeout c.args.max_bytes (g.L.Link.stand c.args.link.now).tells (consumer_of c.args.consumer.now) (g.L.Link.stand c.args.link.now).log c.gather_for.new.events c.conclude.result b
    (consumer_of c.gather_for.new.consumer) (consumer_of c.conclude.new.consumer) (lots_of items fetched) c.at_most-wait.result c.at_most-bound.result set
    (mid_is c.args.now c.args.consumer.now c.gather_for.new.consumer set.news kept.settings kept.rotation kept.unsaved kept.last_use set.after)
    (c.at_most-wait.ensures.value ∙ ap (λ (n : ℕ). at_most n c.args.timeout) c.from.ensures) c.at_most-bound.ensures.value
    (whose_are items fetched same)
    (subst (λ (rows : List (List Row)). AreGiven most c.args.consumer.now.rotation b (map place_of items) rows) (sym (rows_of_lots items fetched same)) given)
    c.conclude.ensures.over

pub returns-in-Err-clause-handed : goal.returns-in-Err-clause-handed
returns-in-Err-clause-handed g c = λ turn t.
    handed_failed c.args.now c.args.round (formats_in c.args.accepts) c.args.timeout c.args.max_bytes (g.L.Link.stand c.args.link.now).counts (g.L.Link.stand c.gather_for.new.link).counts (consumer_of c.args.consumer.now) (map event_of c.gather_for.new.events)
    c.link_failure.result (g.L.Link.stand c.gather_for.new.link).log (consumer_of c.gather_for.new.consumer) c.in-Err.e c.in-Err.ensures.cause c.link_failure.ensures.says
