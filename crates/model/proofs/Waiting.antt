-- The example history of a wait is legal, and its looks serve the call.
use Rattle.std.proofs.Common.{◌≡◌, ℕ, ◌*◌, ◌<◌, true, false, [], ◌∷◌, refl, inl, inr, arith, Option, Some, None}
use Rattle.std.specs.Prelude.{pos, codes}
use Rattle.model.specs.step.Walk.{unwalked}
use Rattle.model.specs.state.World.{Consumer, fresh}
use Rattle.model.specs.state.World.Edge.{Start}
use Rattle.model.specs.state.World.Format.{Binary}
use Rattle.model.specs.state.Entry.{Reply}
use Rattle.model.specs.state.Entry.Act.{Assign}
use Rattle.model.specs.state.Entry.Event.{Looked}
use Rattle.model.specs.state.Entry.Reply.{Done, Shown}
use Rattle.model.specs.step.Look.{is_due, LookEnds, Looks}
use Rattle.model.specs.step.Step.{Step}
use Rattle.model.specs.history.Legal.{Counts, Legal, no_tally}
use Rattle.model.specs.history.Served.{Serves}
use Rattle.model.specs.examples.Readings.{orders, reader, settings_of, reader_at, only}
use Rattle.model.specs.examples.Waiting.{waiting, turn_of, look_of, four_looks, waited_in_vain}
use Rattle.model.proofs.Readings.{none_expired, only_one, empty_is_full, empty_log, log_is_empty, is_reader, at_hand, lot_at, assigns, makes, own_step}
use Rattle.model.proofs.Stretches.{keeps_itself}

abbrev waiter : Consumer
waiter = reader_at Start 0 false

-- a look of some round that finds nothing
looks : (round : ℕ) (reply : Option Reply) → is_due waiter round ≡ false → LookEnds 0 (turn_of round) 25 waiter unwalked (Looked round ∷ []) reply (Some waiter)
    → Looks reader 0 (turn_of round) [] (Some 25) None waiter empty_log (Looked round ∷ []) reply empty_log (Some waiter)
looks round reply undue ends = inr (
  refl,
  record {
    saved = None;
    placed = None;
    resets = [];
    looked = Looked round ∷ [];
    order = refl;
    code = λ place. pos 0;
    saves = inl (undue, λ other at. refl);
    answered = λ k e some. absurd (cc some);
    due = λ due none. absurd (cc (due, undue));
    middle = empty_log;
    log = log_is_empty;
    places = keeps_itself empty_log;
    set = keeps_itself empty_log;
    ends = inr (record { lots = lot_at [] 0 ∷ []; hand = at_hand [] None None 0 empty_is_full (omega arith); walked = unwalked; walk = refl; ends = ends });
  },
)

steps : (round : ℕ) (reply : Option Reply) → is_due waiter round ≡ false → LookEnds 0 (turn_of round) 25 waiter unwalked (Looked round ∷ []) reply (Some waiter)
    → Step 300000 (only waiter) empty_log (look_of round reply) empty_log (only waiter)
steps round reply undue ends = record {
  keeps = keeps_itself empty_log;
  log = log_is_empty;
  world = only_one waiter (is_reader Start 0 false (omega arith));
  forms = record { null = λ format. refl; base64 = λ bytes. codes "\"S2Fma2E=\""; binary = λ bytes. refl };
  later = omega arith;
  last = refl;
  does = inl (record { expired = none_expired waiter; does = (looks round reply undue ends, refl, λ other e. rw e refl) });
}

-- no rows yet
waits : (round : ℕ) → 10 * round < 25 → LookEnds 0 (turn_of round) 25 waiter unwalked (Looked round ∷ []) None (Some waiter)
waits round soon = inr (inr (record { soon = soon; read = refl; few = inl refl; marks = refl; says = refl; left = refl }))

-- none at the last look
gives_up : LookEnds 0 (turn_of 3) 25 waiter unwalked (Looked 3 ∷ []) (Some (Shown Binary [])) (Some waiter)
gives_up = inr (inl (record { last = true; lasts = (λ e. omega arith, λ h. refl); ready = inr (refl, refl, refl); marks = refl; says = refl; left = refl }))

pub waited_is_legal : (counts : Counts) → Legal 300000 counts waited_in_vain (only waiter) empty_log
waited_is_legal counts = record {
  first = empty_log;
  log = log_is_empty;
  tally = no_tally;
  run = (
    empty_log,
    only (fresh (settings_of Start) 0),
    makes Start [] empty_is_full,
    (
      no_tally,
      refl,
      (
        empty_log,
        only waiter,
        own_step (Assign (orders ∷ [])) [] Done [] None None (fresh (settings_of Start) 0) waiter empty_is_full (is_reader Start 0 false (omega arith)) (assigns Start [] 0 empty_is_full refl),
        (
          no_tally,
          refl,
          (
            empty_log,
            only waiter,
            steps 0 None refl (waits 0 (omega arith)),
            (
              no_tally,
              refl,
              (
                empty_log,
                only waiter,
                steps 1 None refl (waits 1 (omega arith)),
                (
                  no_tally,
                  refl,
                  (
                    empty_log,
                    only waiter,
                    steps 2 None refl (waits 2 (omega arith)),
                    (
                      no_tally,
                      refl,
                      (
                        empty_log,
                        only waiter,
                        steps 3 (Some (Shown Binary [])) refl gives_up,
                        (
                          no_tally,
                          refl,
                          (refl, refl, refl),
                        ),
                      ),
                    ),
                  ),
                ),
              ),
            ),
          ),
        ),
      ),
    ),
  );
  paid = record { faults_paid = omega arith; refusals_paid = omega arith; short_paid = omega arith; placed_paid = omega arith; looks_paid = omega arith };
}

pub looks_serve : Serves waiting (Shown Binary []) four_looks
looks_serve = record {
  waits = look_of 0 None ∷ look_of 1 None ∷ look_of 2 None ∷ [];
  round = 3;
  waited = (refl, refl, refl, ([], refl), (refl, refl, refl, ([], refl), (refl, refl, refl, ([], refl), refl)));
  last = look_of 3 (Some (Shown Binary []));
  whole = refl;
  call_is = refl;
  reply_is = refl;
  round_is = refl;
}
