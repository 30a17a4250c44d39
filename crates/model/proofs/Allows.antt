-- Right answers are allowed.
use Rattle.std.proofs.Common.{◌≡◌, ℕ, zero, suc, ◌<◌, ◌≤◌, Bool, true, false, cond, List, [], ◌∷◌, length, refl, inl, inr, arith, Option, Some, None}
use Rattle.std.specs.Prelude.{pos, bytes_eq, IsTrue, codes}
use Rattle.std.specs.List.{All}
use mathlib.Core.List.{IsPrefix}
use Rattle.model.specs.state.Log.{TopicPart, Row, IsLog, Log, Keeps, part_at, from, is_at}
use Rattle.model.specs.step.Walk.{Place, Lot, unwalked}
use Rattle.model.specs.state.World.{Consumer, IsInOrder}
use Rattle.model.specs.state.World.Edge.{Start}
use Rattle.model.specs.state.World.Format.{Binary}
use Rattle.model.specs.state.Entry.Event.{Committed, Rebalanced, Looked}
use Rattle.model.specs.state.Entry.Reply.{Done, Shown, Broker, Want}
use Rattle.model.specs.step.Fixed.{Fixes}
use Rattle.model.specs.step.Look.{AtHand, HasNone, is_listed}
use Rattle.model.specs.examples.Readings.{orders, other_orders, reader}
use Rattle.model.specs.examples.Subscribing.{both, both_at, none_committed, once_committed, member}
use Rattle.model.specs.examples.Rights.{first_at_one, PartOfACommit, RebalanceAfterACommit, WantBehindACommit, DeleteCommitsInPart, EmptyCommit}
use Rattle.model.proofs.Stretches.{keeps_itself}
use Rattle.model.proofs.Subscribing.{both_is_log, both_keeps}

pub part_of_a_commit : PartOfACommit
part_of_a_commit = inl (record { code = λ place. cond (is_at orders place.at) (pos 0) (pos 3); taken = first_at_one; took = refl; commits = λ other at. refl; order = refl; ends = inl (record { says = refl; left = refl }) })

lots : List Lot
lots = record { place = record { at = orders; position = 1 }; rows = [] } ∷ []

hand : AtHand (both none_committed) (both once_committed) first_at_one (record { place = record { at = orders; position = 1 }; rows = [] } ∷ []) (0 < length (Looked 0 ∷ []))
hand = record { whose = refl; first = first; none = λ e. none }
  where
    first : All (λ (lot : Lot). IsPrefix lot.rows (from (both once_committed) lot.place.at lot.place.position)) (record { place = record { at = orders; position = 1 }; rows = [] } ∷ [])
    first zero d lt = ([], refl)
    first (suc k) d lt = absurd (omega arith)

    nothing : All (λ (place : Place). from (both none_committed) place.at place.position ≡ []) first_at_one
    nothing zero d lt = refl
    nothing (suc k) d lt = absurd (omega arith)

    range : All (λ (place : Place). ((part_at (both none_committed) place.at).start ≤ place.position) × (place.position ≤ (part_at (both none_committed) place.at).end)) first_at_one
    range zero d lt = (omega arith, omega arith)
    range (suc k) d lt = absurd (omega arith)

    none : HasNone (both none_committed) (both once_committed) first_at_one (0 < length (Looked 0 ∷ []))
    none = record { log = both none_committed; since = (both_is_log none_committed, keeps_itself (both none_committed)); kept = both_keeps none_committed once_committed; none = nothing; range = λ looked. range }

pub rebalance_after_a_commit : RebalanceAfterACommit
rebalance_after_a_commit = inr (
  refl,
  record {
    saved = Some (both_at 1);
    placed = Some first_at_one;
    resets = [];
    looked = Looked 0 ∷ [];
    order = refl;
    code = λ place. pos 0;
    saves = (refl, inl (λ other at. refl, refl));
    answered = λ k e some. absurd (cc e);
    due = λ due none. absurd (cc none);
    middle = both once_committed;
    log = both_is_log once_committed;
    places = (refl, order, listed, (both once_committed, (both_is_log once_committed, both_keeps none_committed once_committed), refl, inr (refl, λ e. absurd (cc e), refl), keeps_itself (both once_committed)));
    set = keeps_itself (both once_committed);
    ends = inr (record {
      lots = record { place = record { at = orders; position = 1 }; rows = [] } ∷ [];
      hand = hand;
      walked = unwalked;
      walk = refl;
      ends = inr (inl (record { last = true; lasts = (λ e. omega arith, λ h. refl); ready = inr (refl, refl, refl); marks = refl; says = refl; left = refl }));
    });
  },
)
  where
    order : IsInOrder first_at_one
    order i j d lt lt' = absurd (omega arith)

    listed : All (λ (place : Place). IsTrue (is_listed (codes "orders" ∷ []) place.at.topic)) first_at_one
    listed zero d lt = refl
    listed (suc k) d lt = absurd (omega arith)

pub want_behind_a_commit : WantBehindACommit
want_behind_a_commit = inr (
  refl,
  record {
    saved = Some (both_at 1);
    placed = None;
    resets = [];
    looked = [];
    order = refl;
    code = λ place. pos 0;
    saves = (refl, inl (λ other at. refl, refl));
    answered = λ k e some. absurd (cc e);
    due = λ due none. absurd (cc none);
    middle = both once_committed;
    log = both_is_log once_committed;
    places = both_keeps none_committed once_committed;
    set = keeps_itself (both once_committed);
    ends = inl (record { why = Want; links = tt; cause = inl refl; marks = refl; says = refl; left = refl });
  },
)

pub delete_in_part : DeleteCommitsInPart
delete_in_part = (refl, inr (refl, record { taken = λ place. is_at orders place.at; commits = λ other at. refl }), inl (record { says = refl; left = refl }))

pub empty_commit : EmptyCommit
empty_commit = inl (record { code = λ place. pos 0; taken = []; took = refl; commits = λ other at. refl; order = refl; ends = inl (record { says = refl; left = refl }) })
