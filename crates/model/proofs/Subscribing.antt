-- The example history of a subscription is legal, step by step.
use Rattle.std.proofs.Common.{◌≡◌, ℕ, zero, suc, ◌<◌, ◌≤◌, Bool, true, false, List, [], ◌∷◌, length, slice_index_or, refl, inl, inr, arith, Option, Some, None}
use Rattle.std.specs.Prelude.{pos, bytes_eq, ◌^◌, codes, IsTrue, Contains}
use Rattle.std.specs.List.{All}
use Rattle.std.proofs.lemmas.List.Elements.{All-head, All-nil}
use mathlib.Core.List.{IsPrefix}
use Rattle.model.specs.state.Log.{TopicPart, Row, IsPart, IsLog, Log, Keeps, KeepsPart, part_at, from}
use Rattle.model.specs.step.Walk.{Place, Lot, Item, unwalked}
use Rattle.model.specs.state.World.{Consumer, IsInOrder, IsLow, IsConsumer, names_rise, fresh, nobody}
use Rattle.model.specs.state.World.Edge.{Start}
use Rattle.model.specs.state.World.Format.{Binary}
use Rattle.model.specs.state.Entry.{Act, Event, Reply}
use Rattle.model.specs.state.Entry.Act.{Create, Delete, Subscribe, Subscription, Unsubscribe, Assign, Assignments, Commit, Fixed, Records}
use Rattle.model.specs.state.Entry.Event.{Committed, Rebalanced, Looked}
use Rattle.model.specs.state.Entry.Placed.{Stored}
use Rattle.model.specs.state.Entry.Reply.{Done, Made, Names, Offsets, Listed, Answers, Shown, Refused}
use Rattle.model.specs.step.Produced.{Places as PlacesOf, has_room}
use Rattle.model.specs.step.Fixed.{Fixes}
use Rattle.model.specs.step.Look.{AtHand, HasNone, is_listed, Looks}
use Rattle.model.specs.step.Step.{Acts, IsProduced, Step}
use Rattle.model.specs.history.Legal.{Counts, Legal, no_tally}
use Rattle.model.specs.examples.Readings.{orders, other_orders, kafka_at, reader, only, turn, entry, settings_of}
use Rattle.model.specs.examples.Subscribing.{Commitments, both, none_committed, both_at, at_seven, once_committed, twice_committed, member, unsubscribed, given_to, first_items, both_produced, read_by_subscription, two_looks, one_look}
use Rattle.model.proofs.Readings.{empty_part, is_fresh, only_one, none_expired, log_is_empty, empty_log}
use Rattle.model.proofs.Stretches.{keeps_itself}

-- the log before anything is stored
abbrev pub no_rows : Log
no_rows = record { topics = empty_log.topics; committed = none_committed; others = 0 }

pub no_rows_is_log : IsLog no_rows
no_rows_is_log = let k = log_is_empty in record { names = k.names; part = k.part }

one_part : IsPart (record { start = 0; end = 1; rows = kafka_at 0 ∷ [] })
one_part = record { whole = omega arith; rises = (omega arith, tt); ends = λ k d lt. ends k d lt }
  where
    ends : (k : ℕ) (d : Row) → k < 1 → (slice_index_or (kafka_at 0 ∷ []) k d).offset < 1
    ends zero d lt = omega arith
    ends (suc k) d lt = absurd (omega arith)

pub both_is_log : (committed : Commitments) → IsLog (both committed)
both_is_log committed = record { names = λ i j d lt lt'. absurd (omega arith); part = λ at. part at (bytes_eq (codes "orders") at.topic) refl at.partition refl }
  where
    part : (at : TopicPart) (b : Bool) → bytes_eq (codes "orders") at.topic ≡ b → (n : ℕ) → at.partition ≡ n → IsPart (part_at (both committed) at)
    part at true e zero f = rw (e, f) one_part
    part at true e (suc zero) f = rw (e, f) one_part
    part at true e (suc (suc n)) f = rw (e, f) empty_part
    part at false e n f = rw e empty_part

pub both_keeps : (committed committed2 : Commitments) → Keeps (both committed) (both committed2)
both_keeps committed committed2 = let k = keeps_itself (both committed) in record { shape = refl; part = k.part; others = omega arith }

pub in_order : (p : ℕ) → IsInOrder (both_at p)
in_order p zero (suc zero) d lt lt' = refl
in_order p zero zero d lt lt' = absurd (omega arith)
in_order p (suc i) (suc zero) d lt lt' = absurd (omega arith)
in_order p (suc i) zero d lt lt' = absurd (omega arith)
in_order p i (suc (suc j)) d lt lt' = absurd (omega arith)

one_name : names_rise (codes "orders" ∷ [])
one_name i j d lt lt' = absurd (omega arith)

pub is_member : (p : ℕ) (unsaved : Bool) → p < 2 ^ 63 → IsConsumer (member (both_at p) unsaved)
is_member p unsaved small = record { order = in_order p; low = low; names = one_name }
  where
    low : IsLow (both_at p)
    low zero d lt = small
    low (suc zero) d lt = small
    low (suc (suc k)) d lt = absurd (omega arith)

pub is_unplaced : (unsaved : Bool) → IsConsumer (member [] unsaved)
is_unplaced unsaved = record { order = λ i j d lt lt'. absurd (omega arith); low = λ k d lt. absurd (omega arith); names = one_name }

is_unsubscribed : IsConsumer unsubscribed
is_unsubscribed = record { order = λ i j d lt lt'. absurd (omega arith); low = λ k d lt. absurd (omega arith); names = λ i j d lt lt'. absurd (omega arith) }

-- a step of the consumer's own call
pub own_step : (act : Act) (events : List Event) (reply : Reply) (committed committed2 : Commitments) (c d : Consumer) → IsConsumer d
    → Acts reader 0 turn act (Some c) (both committed) events (Some reply) (both committed2) (Some d)
    → Step 300000 (only c) (both committed) (entry act events reply) (both committed2) (only d)
own_step act events reply committed committed2 c d well acts = record {
  keeps = both_keeps committed committed2;
  log = both_is_log committed2;
  world = only_one d well;
  forms = record { null = λ format. refl; base64 = λ bytes. codes "\"S2Fma2E=\""; binary = λ bytes. refl };
  later = omega arith;
  last = refl;
  does = inl (record { expired = none_expired c; does = (acts, refl, λ other e. rw e refl) });
}

-- each partition gets its record
both_grow : Keeps no_rows (both none_committed)
both_grow = record { shape = refl; part = λ at. part at (bytes_eq (codes "orders") at.topic) refl at.partition refl; others = omega arith }
  where
    above : All (λ (row : Row). 0 ≤ row.offset) (kafka_at 0 ∷ [])
    above k d lt = omega arith

    one : KeepsPart (record { start = 0; end = 0; rows = [] }) (record { start = 0; end = 1; rows = kafka_at 0 ∷ [] })
    one = record { start = refl; end = omega arith; added = kafka_at 0 ∷ []; rows = refl; above = above }

    none : KeepsPart (record { start = 0; end = 0; rows = [] }) (record { start = 0; end = 0; rows = [] })
    none = record { start = refl; end = omega arith; added = []; rows = refl; above = All-nil (λ (row : Row). 0 ≤ row.offset) }

    part : (at : TopicPart) (b : Bool) → bytes_eq (codes "orders") at.topic ≡ b → (n : ℕ) → at.partition ≡ n → KeepsPart (part_at no_rows at) (part_at (both none_committed) at)
    part at true e zero f = rw (e, f) one
    part at true e (suc zero) f = rw (e, f) one
    part at true e (suc (suc n)) f = rw (e, f) none
    part at false e n f = rw e none

both_placed : PlacesOf no_rows (both none_committed) (λ partition. pos 0) first_items
both_placed = record { stand = stand; behind = behind; added = refl }
  where
    stand : All (λ (item : Item). true ≡ true → Contains (part_at (both none_committed) item.at).rows item.row) first_items
    stand zero d lt code = (0, omega arith, refl)
    stand (suc zero) d lt code = (0, omega arith, refl)
    stand (suc (suc k)) d lt code = absurd (omega arith)

    behind : All (λ (item : Item). true ≡ true → (part_at no_rows item.at).end ≤ item.row.offset) first_items
    behind zero d lt code = omega arith
    behind (suc zero) d lt code = omega arith
    behind (suc (suc k)) d lt code = absurd (omega arith)

produced : IsProduced no_rows (both none_committed) (codes "orders") (record { key_id = None; value_id = None; records = given_to 0 ∷ given_to 1 ∷ [] }) (Some (Answers (Stored 0 0 ∷ Stored 1 0 ∷ [])))
produced = record {
  have = refl;
  room = room;
  answers = Stored 0 0 ∷ Stored 1 0 ∷ [];
  answered = record { base = λ partition. 0; code = λ partition. pos 0; places = both_placed; told = refl };
  says = refl;
}
  where
    room : All (has_room 2) (given_to 0 ∷ given_to 1 ∷ [])
    room zero d lt = omega arith
    room (suc zero) d lt = omega arith
    room (suc (suc k)) d lt = absurd (omega arith)

pub produces : Step 300000 nobody no_rows both_produced (both none_committed) nobody
produces = record {
  keeps = both_grow;
  log = both_is_log none_committed;
  world = λ key c is. absurd (cc is);
  forms = record { null = λ format. refl; base64 = λ bytes. codes "\"S2Fma2E=\""; binary = λ bytes. refl };
  later = omega arith;
  last = refl;
  does = inl (record {
    expired = record { rise = λ i j d lt lt'. absurd (omega arith); each = λ key. (λ h. absurd (cc h), λ idle. absurd idle) };
    does = (refl, inl produced, λ other at. refl, λ key. refl);
  });
}

pub makes : Step 300000 nobody (both none_committed) (entry (Create (settings_of Start)) [] Made) (both none_committed) (only (fresh (settings_of Start) 0))
makes = record {
  keeps = keeps_itself (both none_committed);
  log = both_is_log none_committed;
  world = only_one (fresh (settings_of Start) 0) (is_fresh Start);
  forms = record { null = λ format. refl; base64 = λ bytes. codes "\"S2Fma2E=\""; binary = λ bytes. refl };
  later = omega arith;
  last = refl;
  does = inl (record {
    expired = record { rise = λ i j d lt lt'. absurd (omega arith); each = λ key. (λ h. absurd (cc h), λ idle. absurd idle) };
    does = ((refl, λ other at. refl, inl (record { says = refl; left = refl })), refl, λ other e. rw e refl);
  });
}

-- the list is sorted and repeats are dropped
pub subscribes : Acts reader 0 turn (Subscribe (codes "orders" ∷ codes "orders" ∷ [])) (Some (fresh (settings_of Start) 0)) (both none_committed) [] (Some Done) (both none_committed) (Some (member [] false))
subscribes = (
  refl,
  λ other at. refl,
  inl (inr (inr (record {
    mode = λ e. absurd (cc e);
    other = refl;
    some = λ e. absurd (cc e);
    topics = codes "orders" ∷ [];
    same = refl;
    rise = one_name;
    says = refl;
    left = refl;
  }))),
)

-- what is at hand: the rows of both from a position on
abbrev lots_at : ℕ → List Row → List Lot
lots_at p rows = record { place = record { at = orders; position = p }; rows = rows } ∷ record { place = record { at = other_orders; position = p }; rows = rows } ∷ []

at_hand : AtHand (both none_committed) (both none_committed) (both_at 0) (lots_at 0 (kafka_at 0 ∷ [])) (0 < length (Looked 0 ∷ []))
at_hand = record { whose = refl; first = first; none = λ e. absurd (cc (All-head (λ (lot : Lot). lot.rows ≡ []) (record { place = record { at = orders; position = 0 }; rows = kafka_at 0 ∷ [] }) (record { place = record { at = other_orders; position = 0 }; rows = kafka_at 0 ∷ [] } ∷ []) e)) }
  where
    first : All (λ (lot : Lot). IsPrefix lot.rows (from (both none_committed) lot.place.at lot.place.position)) (lots_at 0 (kafka_at 0 ∷ []))
    first zero d lt = ([], refl)
    first (suc zero) d lt = ([], refl)
    first (suc (suc k)) d lt = absurd (omega arith)

pub rebalances : Looks reader 0 turn [] (Some 0) None (member [] false) (both none_committed) (Rebalanced (both_at 0) ∷ Looked 0 ∷ []) (Some (Shown Binary first_items)) (both none_committed) (Some (member (both_at 1) true))
rebalances = inr (
  refl,
  record {
    saved = None;
    placed = Some (both_at 0);
    resets = [];
    looked = Looked 0 ∷ [];
    order = refl;
    code = λ place. pos 0;
    saves = inl (refl, λ other at. refl);
    answered = λ k e some. absurd (cc some);
    due = λ due none. absurd (cc due);
    middle = both none_committed;
    log = both_is_log none_committed;
    places = (refl, in_order 0, listed, fixed);
    set = keeps_itself (both none_committed);
    ends = inr (record {
      lots = lots_at 0 (kafka_at 0 ∷ []);
      hand = at_hand;
      walked = record { taken = first_items; stopped = false; unread = None };
      walk = refl;
      ends = inr (inl (record { last = true; lasts = (λ e. omega arith, λ h. refl); ready = inl (omega arith, inl (omega arith)); marks = refl; says = refl; left = refl }));
    });
  },
)
  where
    none_of : TopicPart → Option ℕ
    none_of = none_committed reader.group

    listed : All (λ (place : Place). IsTrue (is_listed (codes "orders" ∷ []) place.at.topic)) (both_at 0)
    listed zero d lt = refl
    listed (suc zero) d lt = refl
    listed (suc (suc k)) d lt = absurd (omega arith)

    stands : IsLog (both none_committed) × Keeps (both none_committed) (both none_committed)
    stands = (both_is_log none_committed, keeps_itself (both none_committed))

    fixed : Fixes none_of Start [] (both none_committed) (orders ∷ other_orders ∷ []) (both_at 0) (both none_committed)
    fixed = (both none_committed, stands, refl, inr (refl, λ none. omega arith, refl), (both none_committed, stands, refl, inr (refl, λ none. omega arith, refl), keeps_itself (both none_committed)))

none_at_hand : AtHand (both none_committed) (both once_committed) (both_at 1) (lots_at 1 []) (0 < length (Looked 0 ∷ []))
none_at_hand = record { whose = refl; first = first; none = λ e. none }
  where
    first : All (λ (lot : Lot). IsPrefix lot.rows (from (both once_committed) lot.place.at lot.place.position)) (lots_at 1 [])
    first zero d lt = ([], refl)
    first (suc zero) d lt = ([], refl)
    first (suc (suc k)) d lt = absurd (omega arith)

    nothing : All (λ (place : Place). from (both none_committed) place.at place.position ≡ []) (both_at 1)
    nothing zero d lt = refl
    nothing (suc zero) d lt = refl
    nothing (suc (suc k)) d lt = absurd (omega arith)

    range : All (λ (place : Place). ((part_at (both none_committed) place.at).start ≤ place.position) × (place.position ≤ (part_at (both none_committed) place.at).end)) (both_at 1)
    range zero d lt = (omega arith, omega arith)
    range (suc zero) d lt = (omega arith, omega arith)
    range (suc (suc k)) d lt = absurd (omega arith)

    none : HasNone (both none_committed) (both once_committed) (both_at 1) (0 < length (Looked 0 ∷ []))
    none = record { log = both none_committed; since = (both_is_log none_committed, keeps_itself (both none_committed)); kept = both_keeps none_committed once_committed; none = nothing; range = λ looked. range }

looks_again : Looks reader 0 turn [] (Some 0) None (member (both_at 1) true) (both none_committed) (Committed (both_at 1) ∷ Looked 0 ∷ []) (Some (Shown Binary [])) (both once_committed) (Some (member (both_at 1) false))
looks_again = inr (
  refl,
  record {
    saved = Some (both_at 1);
    placed = None;
    resets = [];
    looked = Looked 0 ∷ [];
    order = refl;
    code = λ place. pos 0;
    saves = (refl, inl (λ other at. refl, refl));
    answered = λ k e some. absurd (cc e);
    due = λ due none. absurd (cc none);
    middle = both once_committed;
    log = both_is_log once_committed;
    places = both_keeps none_committed once_committed;
    set = keeps_itself (both once_committed);
    ends = inr (record {
      lots = lots_at 1 [];
      hand = none_at_hand;
      walked = unwalked;
      walk = refl;
      ends = inr (inl (record { last = true; lasts = (λ e. omega arith, λ h. refl); ready = inr (refl, refl, refl); marks = refl; says = refl; left = refl }));
    });
  },
)

fixed_told : Acts reader 0 turn (Fixed (orders ∷ other_orders ∷ orders ∷ [])) (Some (member (both_at 1) false)) (both once_committed) [] (Some (Offsets (both_at 1))) (both once_committed) (Some (member (both_at 1) false))
fixed_told = (refl, λ other at. refl, inl (inr (refl, record { says = refl; left = refl })))

commits : Acts reader 0 turn (Commit (Some (record { at = orders; position = 5 } ∷ at_seven))) (Some (member (both_at 1) false)) (both once_committed) (Committed at_seven ∷ []) (Some Done) (both twice_committed) (Some (member (both_at 1) false))
commits = inl (record { code = λ place. pos 0; taken = at_seven; took = refl; commits = λ other at. refl; order = refl; ends = inl (record { says = refl; left = refl }) })

tells : Acts reader 0 turn Subscription (Some (member (both_at 1) false)) (both twice_committed) [] (Some (Names (codes "orders" ∷ []))) (both twice_committed) (Some (member (both_at 1) false))
tells = (refl, λ other at. refl, inl (record { says = refl; left = refl }))

refuses : Acts reader 0 turn (Assign (orders ∷ [])) (Some (member (both_at 1) false)) (both twice_committed) [] (Some (Refused 40903)) (both twice_committed) (Some (member (both_at 1) false))
refuses = (refl, λ other at. refl, inl (refl, inl (record { says = refl; left = refl })))

unsubscribes : Acts reader 0 turn Unsubscribe (Some (member (both_at 1) false)) (both twice_committed) [] (Some Done) (both twice_committed) (Some unsubscribed)
unsubscribes = (refl, λ other at. refl, inl (record { says = refl; left = refl }))

lists : Acts reader 0 turn Assignments (Some unsubscribed) (both twice_committed) [] (Some (Listed [])) (both twice_committed) (Some unsubscribed)
lists = (refl, λ other at. refl, inl (record { says = refl; left = refl }))

-- no consumer is left
deletes : Step 300000 (only unsubscribed) (both twice_committed) (entry Delete [] Done) (both twice_committed) nobody
deletes = record {
  keeps = keeps_itself (both twice_committed);
  log = both_is_log twice_committed;
  world = λ key c is. absurd (cc is);
  forms = record { null = λ format. refl; base64 = λ bytes. codes "\"S2Fma2E=\""; binary = λ bytes. refl };
  later = omega arith;
  last = refl;
  does = inl (record { expired = none_expired unsubscribed; does = ((refl, inl (refl, λ other at. refl), inl (record { says = refl; left = refl })), refl, λ other e. rw e refl) });
}

pub read_by_subscription_is_legal : (counts : Counts) → 1 ≤ counts.polls → 1 ≤ counts.beats → Legal 300000 counts read_by_subscription nobody (both twice_committed)
read_by_subscription_is_legal counts polls beats = record {
  first = no_rows;
  log = no_rows_is_log;
  tally = two_looks;
  run = (
    both none_committed,
    nobody,
    produces,
    (
      two_looks,
      refl,
      (
        both none_committed,
        only (fresh (settings_of Start) 0),
        makes,
        (
          two_looks,
          refl,
          (
            both none_committed,
            only (member [] false),
            own_step (Subscribe (codes "orders" ∷ codes "orders" ∷ [])) [] Done none_committed none_committed (fresh (settings_of Start) 0) (member [] false) (is_unplaced false) subscribes,
            (
              two_looks,
              refl,
              (
                both none_committed,
                only (member (both_at 1) true),
                own_step (Records [] (Some 0) None) (Rebalanced (both_at 0) ∷ Looked 0 ∷ []) (Shown Binary first_items) none_committed none_committed (member [] false) (member (both_at 1) true) (is_member 1 true (omega arith)) rebalances,
                (
                  one_look,
                  refl,
                  (
                    both once_committed,
                    only (member (both_at 1) false),
                    own_step (Records [] (Some 0) None) (Committed (both_at 1) ∷ Looked 0 ∷ []) (Shown Binary []) none_committed once_committed (member (both_at 1) true) (member (both_at 1) false) (is_member 1 false (omega arith)) looks_again,
                    (
                      no_tally,
                      refl,
                      (
                        both once_committed,
                        only (member (both_at 1) false),
                        own_step (Fixed (orders ∷ other_orders ∷ orders ∷ [])) [] (Offsets (both_at 1)) once_committed once_committed (member (both_at 1) false) (member (both_at 1) false) (is_member 1 false (omega arith)) fixed_told,
                        (
                          no_tally,
                          refl,
                          (
                            both twice_committed,
                            only (member (both_at 1) false),
                            own_step (Commit (Some (record { at = orders; position = 5 } ∷ at_seven))) (Committed at_seven ∷ []) Done once_committed twice_committed (member (both_at 1) false) (member (both_at 1) false) (is_member 1 false (omega arith)) commits,
                            (
                              no_tally,
                              refl,
                              (
                                both twice_committed,
                                only (member (both_at 1) false),
                                own_step Subscription [] (Names (codes "orders" ∷ [])) twice_committed twice_committed (member (both_at 1) false) (member (both_at 1) false) (is_member 1 false (omega arith)) tells,
                                (
                                  no_tally,
                                  refl,
                                  (
                                    both twice_committed,
                                    only (member (both_at 1) false),
                                    own_step (Assign (orders ∷ [])) [] (Refused 40903) twice_committed twice_committed (member (both_at 1) false) (member (both_at 1) false) (is_member 1 false (omega arith)) refuses,
                                    (
                                      no_tally,
                                      refl,
                                      (
                                        both twice_committed,
                                        only unsubscribed,
                                        own_step Unsubscribe [] Done twice_committed twice_committed (member (both_at 1) false) unsubscribed is_unsubscribed unsubscribes,
                                        (
                                          no_tally,
                                          refl,
                                          (
                                            both twice_committed,
                                            only unsubscribed,
                                            own_step Assignments [] (Listed []) twice_committed twice_committed unsubscribed unsubscribed is_unsubscribed lists,
                                            (
                                              no_tally,
                                              refl,
                                              (
                                                both twice_committed,
                                                nobody,
                                                deletes,
                                                (
                                                  no_tally,
                                                  refl,
                                                  (refl, refl, refl),
                                                ),
                                              ),
                                            ),
                                          ),
                                        ),
                                      ),
                                    ),
                                  ),
                                ),
                              ),
                            ),
                          ),
                        ),
                      ),
                    ),
                  ),
                ),
              ),
            ),
          ),
        ),
      ),
    ),
  );
  paid = record { faults_paid = omega arith; refusals_paid = omega arith; short_paid = omega arith; placed_paid = omega (arith, polls); looks_paid = omega (arith, polls, beats) };
}
