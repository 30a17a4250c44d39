-- The small history is legal.
use Rattle.std.proofs.Common.{◌≡◌, ℕ, zero, suc, ◌+◌, ◌<◌, ◌≤◌, Bool, true, false, cond, List, [], ◌∷◌, length, slice_index_or, refl, subst, inl, inr, arith, Some, None}
use Rattle.std.specs.Prelude.{pos, bytes_eq, ◌^◌, codes}
use Rattle.std.specs.List.{All}
use Rattle.model.specs.state.Log.{TopicPart, Row, IsPart, IsLog, part_at, from}
use mathlib.Core.List.{IsPrefix}
use Rattle.std.proofs.lemmas.List.Elements.{All-head}
use Rattle.model.specs.step.Look.{AtHand}
use Rattle.model.specs.step.Walk.{Place, Lot}
use Rattle.model.specs.state.World.{Key, is_key, Consumer, IsInOrder, IsLow, IsConsumer, fresh, nobody}
use Rattle.model.specs.state.World.Format.{Binary}
use Rattle.model.specs.state.Entry.{Act, Event, Reply}
use Rattle.model.specs.state.Entry.Act.{Create, Assign, Records}
use Rattle.model.specs.state.Entry.Event.{Looked}
use Rattle.model.specs.state.Entry.Reply.{Done, Made, Shown}
use Rattle.model.specs.step.Step.{IsIdle, IsExpired, Acts, Step}
use Rattle.model.specs.history.Legal.{Counts, Legal, no_tally}
use Rattle.model.specs.examples.Example.{turn, orders, row, one_row, reader, settings, shown_item, ready, behind, with_one, entry, history}
use Rattle.model.proofs.Stretches.{keeps_itself}

pub is_log : IsLog one_row
is_log = record { names = λ i j d lt lt'. absurd (omega arith); part = λ at. part at (bytes_eq (111 ∷ []) at.topic) refl at.partition refl }
  where
    empty : IsPart (record { start = 0; end = 0; rows = [] })
    empty = record { whole = omega arith; rises = tt; ends = λ k d lt. absurd (omega arith) }

    full : IsPart (record { start = 0; end = 1; rows = row ∷ [] })
    full = record { whole = omega arith; rises = (omega arith, tt); ends = λ k d lt. one k d lt }
      where
        one : (k : ℕ) (d : Row) → k < 1 → (slice_index_or (row ∷ []) k d).offset < 1
        one zero d lt = omega arith
        one (suc k) d lt = absurd (omega arith)

    part : (at : TopicPart) (b : Bool) → bytes_eq (111 ∷ []) at.topic ≡ b → (n : ℕ) → at.partition ≡ n → IsPart (part_at one_row at)
    part at true e zero f = rw (e, f) full
    part at true e (suc n) f = rw (e, f) empty
    part at false e n f = rw e empty

one_alone : (c : Consumer) → IsConsumer c → (key : Key) (d : Consumer) → cond (is_key key reader) (Some c) None ≡ Some d → IsConsumer d
one_alone c order key d is = go (is_key key reader) refl
  where
    go : (b : Bool) → is_key key reader ≡ b → IsConsumer d
    go true e = let same : c ≡ d = cc (rw e at is) in subst IsConsumer same order
    go false e = absurd (cc (rw e at is))

none_idle : (c : Consumer) (key : Key) → IsIdle 300000 0 (cond (is_key key reader) (Some c) None) → false ≡ true
none_idle c key idle = go (is_key key reader) refl
  where
    go : (b : Bool) → is_key key reader ≡ b → false ≡ true
    go true e = let le : c.last_use + 300000 ≤ 0 = rw e at idle in absurd (omega arith)
    go false e = absurd (rw e at idle)

none_expired : (c : Consumer) → IsExpired 300000 0 (with_one c) []
none_expired c = record { rise = λ i j d lt lt'. absurd (omega arith); each = λ key. (λ h. absurd (cc h), none_idle c key) }

in_order_none : IsInOrder []
in_order_none i j d lt lt' = absurd (omega arith)

in_order_one : (place : Place) → IsInOrder (place ∷ [])
in_order_one place i j d lt lt' = absurd (omega arith)

low_one : (p : ℕ) → p < 2 ^ 63 → IsLow (record { at = orders; position = p } ∷ [])
low_one p lt zero d lt' = lt
low_one p lt (suc k) d lt' = absurd (omega arith)

-- a step of the consumer's own call
own_step : (act : Act) (events : List Event) (reply : Reply) (c d : Consumer) → IsConsumer d → Acts reader 0 turn act (Some c) one_row events (Some reply) one_row (Some d)
    → Step 300000 (with_one c) one_row (entry act events reply) one_row (with_one d)
own_step act events reply c d order acts = record {
  keeps = keeps_itself one_row;
  log = is_log;
  world = one_alone d order;
  forms = record { null = λ format. refl; base64 = λ bytes. codes "null"; binary = λ bytes. refl };
  later = omega arith;
  last = refl;
  does = inl (record { expired = none_expired c; does = (acts, refl, λ other e. rw e refl) });
}

made : Step 300000 nobody one_row (entry (Create settings) [] Made) one_row (with_one (fresh settings 0))
made = record {
  keeps = keeps_itself one_row;
  log = is_log;
  world = one_alone (fresh settings 0) (record { order = in_order_none; low = λ k d lt. absurd (omega arith); names = λ i j d lt lt'. absurd (omega arith) });
  forms = record { null = λ format. refl; base64 = λ bytes. codes "null"; binary = λ bytes. refl };
  later = omega arith;
  last = refl;
  does = inl (record {
    expired = record { rise = λ i j d lt lt'. absurd (omega arith); each = λ key. (λ h. absurd (cc h), λ idle. absurd idle) };
    does = ((refl, λ other at. refl, inl (record { says = refl; left = refl })), refl, λ other e. rw e refl);
  });
}

abbrev place0 : Place
place0 = record { at = orders; position = 0 }

assigned : Acts reader 0 turn (Assign (orders ∷ [])) (Some (fresh settings 0)) one_row [] (Some Done) one_row (Some ready)
assigned = (
  refl,
  λ other at. refl,
  inr (
    λ e. absurd (cc e),
    inl (inr (record {
      mode = λ e. absurd (cc e);
      have = refl;
      places = place0 ∷ [];
      set = record { same = λ at. (λ h. h, λ h. h); order = in_order_one place0 };
      fixes = (one_row, (is_log, keeps_itself one_row), refl, inr (refl, λ none. omega arith, refl), keeps_itself one_row);
      says = refl;
      left = refl;
    })),
  ),
)

abbrev lot0 : Lot
lot0 = record { place = place0; rows = row ∷ [] }

at_hand : AtHand one_row one_row ready.assignment (lot0 ∷ []) (0 < length (Looked 0 ∷ []))
at_hand = record { whose = refl; first = first; none = λ e. absurd (cc (All-head (λ (lot : Lot). lot.rows ≡ []) lot0 [] e)) }
  where
    first : All (λ (lot : Lot). IsPrefix lot.rows (from one_row lot.place.at lot.place.position)) (lot0 ∷ [])
    first zero d lt = ([], refl)
    first (suc k) d lt = absurd (omega arith)

looked : Acts reader 0 turn (Records [] None None) (Some ready) one_row (Looked 0 ∷ []) (Some (Shown Binary (shown_item ∷ []))) one_row (Some behind)
looked = inr (
  refl,
  record {
    saved = None;
    placed = None;
    resets = [];
    looked = Looked 0 ∷ [];
    order = refl;
    code = λ place. pos 0;
    saves = inl (refl, λ other at. refl);
    answered = λ k e some. absurd (cc some);
    due = λ due none. absurd (cc due);
    middle = one_row;
    log = is_log;
    places = keeps_itself one_row;
    set = keeps_itself one_row;
    ends = inr (record {
      lots = lot0 ∷ [];
      hand = at_hand;
      walked = record { taken = shown_item ∷ []; stopped = false; unread = None };
      walk = refl;
      ends = inr (inl (record { last = true; lasts = (λ e. omega arith, λ h. refl); ready = inl (omega arith, inl (omega arith)); marks = refl; says = refl; left = refl }));
    });
  },
)

pub history_is_legal : (counts : Counts) → Legal 300000 counts history (with_one behind) one_row
history_is_legal counts = record {
  first = one_row;
  log = is_log;
  tally = no_tally;
  run = (
    one_row,
    with_one (fresh settings 0),
    made,
    (
      no_tally,
      refl,
      (
        one_row,
        with_one ready,
        own_step (Assign (orders ∷ [])) [] Done (fresh settings 0) ready (record { order = in_order_one (record { at = orders; position = 0 }); low = low_one 0 (omega arith); names = λ i j d lt lt'. absurd (omega arith) }) assigned,
        (
          no_tally,
          refl,
          (one_row, with_one behind, own_step (Records [] None None) (Looked 0 ∷ []) (Shown Binary (shown_item ∷ [])) ready behind (record { order = in_order_one (record { at = orders; position = 1 }); low = low_one 1 (omega arith); names = λ i j d lt lt'. absurd (omega arith) }) looked, (no_tally, refl, (refl, refl, refl))),
        ),
      ),
    ),
  );
  paid = record { faults_paid = omega arith; refusals_paid = omega arith; short_paid = omega arith; placed_paid = omega arith; looks_paid = omega arith };
}
