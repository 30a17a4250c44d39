-- Right answers that these definitions allow.
use Rattle.std.proofs.Common.{◌≡◌, zero, suc, ◌<◌, true, false, [], ◌∷◌, length, refl, inl, inr, arith, Some, None}
use Rattle.std.specs.Prelude.{pos}
use Rattle.std.specs.List.{All}
use Rattle.std.proofs.lemmas.List.Elements.{All-head}
use mathlib.Core.List.{IsPrefix}
use Rattle.model.specs.state.Log.{Keeps, from}
use Rattle.model.specs.step.Walk.{Lot}
use Rattle.model.specs.state.World.{names_rise, touched}
use Rattle.model.specs.examples.Answers.{two_topics, at_start, saver, saved_log}
use Rattle.model.specs.state.World.Format.{Binary}
use Rattle.model.specs.state.Entry.Event.{Committed, Looked}
use Rattle.model.specs.state.Entry.Question.{Topics}
use Rattle.model.specs.state.Entry.Reply.{Names, Shown}
use Rattle.model.specs.step.Look.{AtHand, Looks, moved}
use Rattle.model.specs.step.Step.{Tells}
use Rattle.model.specs.examples.Example.{turn, row, one_row, reader, shown_item}
use Rattle.model.proofs.Stretches.{keeps_itself}
use Rattle.model.proofs.Example.{is_log}

-- the names are told by their bytes
pub sorted_topics : Tells Topics two_topics two_topics (Names ((0 ∷ []) ∷ (1 ∷ []) ∷ []))
sorted_topics = ((0 ∷ []) ∷ (1 ∷ []) ∷ [], rises, record { moves = (0, 1) ∷ []; below = (omega arith, omega arith, tt); is = refl }, refl)
  where
    rises : names_rise ((0 ∷ []) ∷ (1 ∷ []) ∷ [])
    rises zero (suc zero) d lt lt' = refl
    rises zero zero d lt lt' = absurd (omega arith)
    rises (suc i) (suc zero) d lt lt' = absurd (omega arith)
    rises (suc i) zero d lt lt' = absurd (omega arith)
    rises i (suc (suc j)) d lt lt' = absurd (omega arith)

-- what is at hand of it
abbrev lot0 : Lot
lot0 = record { place = at_start; rows = row ∷ [] }

at_hand : AtHand one_row saved_log (at_start ∷ []) (lot0 ∷ []) (0 < length (Looked 0 ∷ []))
at_hand = record { whose = refl; first = first; none = λ e. absurd (cc (All-head (λ (lot : Lot). lot.rows ≡ []) lot0 [] e)) }
  where
    first : All (λ (lot : Lot). IsPrefix lot.rows (from saved_log lot.place.at lot.place.position)) (lot0 ∷ [])
    first zero d lt = ([], refl)
    first (suc k) d lt = absurd (omega arith)

-- the rows are the same
keeps_saved : Keeps one_row saved_log
keeps_saved = let k = keeps_itself one_row in record { shape = refl; part = k.part; others = omega arith }

-- An auto commit was taken and then refused by 27 as a whole: it is passed over, and the look shows its row.
pub passed_over : Looks reader 0 turn [] None None saver one_row (Committed [] ∷ Looked 0 ∷ []) (Some (Shown Binary (shown_item ∷ []))) saved_log (Some (touched 0 (moved (shown_item ∷ []) saver)))
passed_over = inr (
  refl,
  record {
    saved = Some [];
    placed = None;
    resets = [];
    looked = Looked 0 ∷ [];
    order = refl;
    code = λ place. pos 27;
    saves = (refl, inr (refl, record { taken = λ place. true; commits = λ other at. refl }));
    answered = λ k e some. absurd (cc e);
    due = λ due none. absurd (cc none);
    middle = one_row;
    log = is_log;
    places = keeps_itself one_row;
    set = keeps_saved;
    ends = inr (record {
      lots = lot0 ∷ [];
      hand = at_hand;
      walked = record { taken = shown_item ∷ []; stopped = false; unread = None };
      walk = refl;
      ends = inr (inl (record { last = true; lasts = (λ e. omega arith, λ h. refl); ready = inl (omega arith, inl (omega arith)); marks = refl; says = refl; left = refl }));
    });
  },
)
