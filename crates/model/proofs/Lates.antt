-- A rebalance that is fixed by the look after the one that was given it is legal, and connections follow one whose pass was worn out.
use Rattle.std.proofs.Common.{cond, ◌≡◌, ℕ, zero, suc, ◌<◌, ◌==◌, Bool, true, false, List, [], ◌∷◌, ◌++◌, slice_index_or, refl, sym, subst, inl, inr, arith, Some, None}
use Rattle.std.specs.Prelude.{pos, codes, IsTrue, Contains}
use Rattle.model.specs.state.Log.{TopicPart}
use Rattle.model.specs.state.World.{fresh, nobody}
use Rattle.model.specs.state.World.Edge.{Start}
use Rattle.model.specs.state.World.Format.{Binary}
use Rattle.model.specs.state.Entry.Act.{Create, Subscribe, Records}
use Rattle.model.specs.state.Entry.Event.{Rebalanced, Looked}
use Rattle.model.specs.state.Entry.Reply.{Broker, Done, Made, Shown, LinkFault}
use Rattle.model.specs.texts.Texts.{Response}
use Rattle.model.specs.step.Look.{is_listed, Looks}
use Rattle.model.specs.step.Step.{Step}
use Rattle.model.specs.history.Legal.{no_tally, Tally}
use Rattle.model.specs.history.Causes.{IsCaused, IsGranted, IsRebalanced}
use Rattle.model.specs.history.Causes.Pumped.{Steady}
use Rattle.model.specs.history.Noted.{Noted}
use Rattle.model.specs.history.Handled.{AnswersOrWears, IsHousekeeping}
use Rattle.model.specs.history.Handled.Handled.{Entered}
use Rattle.model.specs.history.Connections.{IsConnection, only_in}
use Rattle.model.specs.examples.Waiting.{waiting}
use Rattle.model.specs.examples.Readings.{orders, other_orders, reader, only, turn, entry, settings_of}
use Rattle.model.specs.examples.Subscribing.{both, none_committed, both_at, member, first_items}
use Rattle.model.specs.examples.Rights.{earlier, later, late, LateRebalancesAreLegal, LateRebalancesAreSteps, LaterCodesMayBeTold, RefusedAutoCommitsMayPass, WantMayFollowCodes, worn_look, house, answer_of, WornConnectionsAreFollowed}
use Rattle.model.proofs.Stretches.{keeps_itself}
use Rattle.model.proofs.Subscribing.{own_step, rebalances, produces, makes, subscribes, is_unplaced, is_member, no_rows, no_rows_is_log, both_is_log, in_order}

late_step : Step 300000 (only (member [] false)) (both none_committed) late (both none_committed) (only (member (both_at 1) true))
late_step = own_step (Records [] (Some 0) None) (Rebalanced (both_at 0) ∷ Looked 0 ∷ []) (Shown Binary first_items) none_committed none_committed (member [] false) (member (both_at 1) true) (is_member 1 true (omega arith)) rebalances

-- the look at which the link fails before the positions are fixed
fails : Looks reader 0 turn [] (Some 0) None (member [] false) (both none_committed) [] (Some LinkFault) (both none_committed) (Some (member [] false))
fails = inr (
  refl,
  record {
    saved = None;
    placed = None;
    resets = [];
    looked = [];
    order = refl;
    code = λ place. pos 0;
    saves = inl (refl, λ other at. refl);
    answered = λ k e some. absurd (cc some);
    due = λ due none. absurd (cc due);
    middle = both none_committed;
    log = both_is_log none_committed;
    places = keeps_itself (both none_committed);
    set = keeps_itself (both none_committed);
    ends = inl (record { why = LinkFault; links = tt; cause = inr (inl refl); marks = refl; says = refl; left = refl });
  },
)

fault_step : Step 300000 (only (member [] false)) (both none_committed) (entry (Records [] (Some 0) None) [] LinkFault) (both none_committed) (only (member [] false))
fault_step = own_step (Records [] (Some 0) None) [] LinkFault none_committed none_committed (member [] false) (member [] false) (is_unplaced false) fails

abbrev one_all : Tally
one_all = record { faults = 1; refusals = 0; short = 0; placed = 1; looks = 1 }

abbrev one_late : Tally
one_late = record { faults = 0; refusals = 0; short = 0; placed = 1; looks = 1 }

pub late_legal : LateRebalancesAreLegal
late_legal = record {
  first = no_rows;
  log = no_rows_is_log;
  tally = one_all;
  run = (
    both none_committed,
    nobody,
    produces,
    (
      one_all,
      refl,
      (
        both none_committed,
        only (fresh (settings_of Start) 0),
        makes,
        (
          one_all,
          refl,
          (
            both none_committed,
            only (member [] false),
            own_step (Subscribe (codes "orders" ∷ codes "orders" ∷ [])) [] Done none_committed none_committed (fresh (settings_of Start) 0) (member [] false) (is_unplaced false) subscribes,
            (
              one_all,
              refl,
              (
                both none_committed,
                only (member [] false),
                fault_step,
                (
                  one_late,
                  refl,
                  (
                    both none_committed,
                    only (member (both_at 1) true),
                    late_step,
                    (no_tally, refl, (refl, refl, refl)),
                  ),
                ),
              ),
            ),
          ),
        ),
      ),
    ),
  );
  paid = record { faults_paid = omega arith; refusals_paid = omega arith; short_paid = omega arith; placed_paid = omega arith; looks_paid = omega arith };
}

late_caused : IsCaused earlier later (pos 0) [] (only (member [] false)) late
late_caused = record {
  rises = record { faults = omega arith; refusals = omega arith; polls = omega arith; beats = omega arith };
  fault = λ e. absurd (cc e);
  refusal = λ e. absurd (cc e);
  code = λ code e. absurd (cc e);
  told = λ e. absurd (cc e);
  passed = λ e some code is. absurd (cc is);
  short = λ lt. absurd (omega (arith, lt));
  looked = λ lt. omega arith;
}

late_rebalanced : IsRebalanced earlier later (Some (orders ∷ other_orders ∷ [])) (Some (orders ∷ other_orders ∷ [])) (member [] false) (Rebalanced (both_at 0) ∷ Looked 0 ∷ [])
late_rebalanced = record {
  pumped = Steady;
  pump = record {
    pumps = λ m r e. absurd (cc e);
    quiet = λ ne. absurd (ne refl);
    steady = λ e. omega arith;
    not_yet = λ e. absurd (cc e);
    lost = λ e. absurd (cc e);
    shared = λ ats e. absurd (cc e);
  };
  ties = λ ats e. e;
  places = inl (orders ∷ other_orders ∷ [], refl, record { same = λ at. (λ h. (h, listed at h), λ r. r.0); order = in_order 0 });
}
  where
    at_index : (at : TopicPart) (k : ℕ) → k < 2 → IsTrue (is_listed (codes "orders" ∷ []) (slice_index_or (orders ∷ other_orders ∷ []) k at).topic)
    at_index at zero lt = refl
    at_index at (suc zero) lt = refl
    at_index at (suc (suc k)) lt = absurd (omega arith)

    listed : (at : TopicPart) → Contains (orders ∷ other_orders ∷ []) at → IsTrue (is_listed (codes "orders" ∷ []) at.topic)
    listed at h = subst (λ (x : TopicPart). IsTrue (is_listed (codes "orders" ∷ []) x.topic)) h.2 (at_index at h.0 h.1)

pub late_steps : LateRebalancesAreSteps
late_steps = (late_step, late_caused, record { placed = omega arith }, late_rebalanced)

-- the first connection leaves its look and the housekeeping, the second the entry with its answer
pub worn_is_followed : WornConnectionsAreFollowed
worn_is_followed said = (
  only_in 3 (worn_look ∷ []),
  only_in 3 (house ∷ []),
  only_in 3 (answer_of said ∷ []),
  λ s. split (3 == s),
  λ s. worn (3 == s),
  λ s. houses (3 == s),
  (
    only_in 3 (answer_of said ∷ []),
    λ s. [],
    λ s. [],
    λ s. alone (3 == s),
    λ s. served (3 == s),
    λ s. tt,
    λ s. refl,
  ),
)
  where
    split : (b : Bool) → cond b (worn_look ∷ house ∷ answer_of said ∷ []) [] ≡ cond b (worn_look ∷ []) [] ++ cond b (house ∷ []) [] ++ cond b (answer_of said ∷ []) []
    split true = refl
    split false = refl

    alone : (b : Bool) → cond b (answer_of said ∷ []) [] ≡ cond b (answer_of said ∷ []) [] ++ [] ++ []
    alone true = refl
    alone false = refl

    worn : (b : Bool) → AnswersOrWears [] (cond b (Some waiting) None) (cond b (worn_look ∷ []) [])
    worn true = ([], worn_look ∷ [], 1, refl, refl, (refl, refl, refl, ([], refl), refl))
    worn false = refl

    houses : (b : Bool) → IsHousekeeping (cond b (house ∷ []) [])
    houses true = refl
    houses false = tt

    served : (b : Bool) → AnswersOrWears (cond b (Entered waiting said ∷ []) []) None (cond b (answer_of said ∷ []) [])
    served true = (answer_of said ∷ [], [], refl, record { looks = []; round = 0; looking = refl; last = answer_of said; whole = refl; call_is = refl; round_is = refl; reply_is = refl }, refl)
    served false = refl

-- ---- codes of commits

pub commits_may_pass : RefusedAutoCommitsMayPass
commits_may_pass = record {
  rises = record { faults = omega arith; refusals = omega arith; polls = omega arith; beats = omega arith };
  fault = λ e. absurd (cc e);
  refusal = λ e. absurd (cc e);
  code = λ code e. absurd (cc e);
  told = λ e. absurd (cc e);
  passed = λ e some code is. absurd (cc is);
  short = λ lt. omega arith;
  looked = λ lt. absurd (omega (arith, lt));
}

pub later_may_be_told : LaterCodesMayBeTold
later_may_be_told = record {
  rises = record { faults = omega arith; refusals = omega arith; polls = omega arith; beats = omega arith };
  fault = λ e. absurd (cc e);
  refusal = λ e. omega arith;
  code = λ code e. inl (let r : Broker (pos 3) ≡ Broker code = cc e in sym (cc r));
  told = λ e some ne. refl;
  passed = λ e. absurd (cc e);
  short = λ lt. absurd (omega (arith, lt));
  looked = λ lt. absurd (omega (arith, lt));
}

pub want_may_follow : WantMayFollowCodes
want_may_follow = record {
  rises = record { faults = omega arith; refusals = omega arith; polls = omega arith; beats = omega arith };
  fault = λ e. absurd (cc e);
  refusal = λ e. absurd (cc e);
  code = λ code e. absurd (cc e);
  told = λ e. absurd (cc e);
  passed = λ e some code is. absurd (some refl);
  short = λ lt. omega arith;
  looked = λ lt. absurd (omega (arith, lt));
}
