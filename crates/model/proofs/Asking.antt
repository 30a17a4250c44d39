-- The example history of questions is legal, step by step.
use Rattle.std.proofs.Common.{[], ◌∷◌, refl, inl, inr, arith, Some, None}
use Rattle.std.specs.Prelude.{codes}
use Rattle.model.specs.state.Log.{Log, IsLog}
use Rattle.model.specs.state.World.{names_rise, nobody}
use Rattle.model.specs.state.Entry.{Question, Reply}
use Rattle.model.specs.state.Entry.Question.{Brokers, Topics, OneTopic, Parts, OnePart, EndOffsets}
use Rattle.model.specs.step.Step.{HasTopic, IsAnswered, Step}
use Rattle.model.specs.step.Fixed.{HasPart}
use Rattle.model.specs.history.Legal.{Counts, Legal, no_tally}
use Rattle.model.specs.examples.Readings.{orders, three, log_of}
use Rattle.model.specs.examples.Asking.{on_node_one, both_parts, third_orders, asked, questions}
use Rattle.model.proofs.Readings.{is_log, three_are_full}
use Rattle.model.proofs.Stretches.{keeps_itself}

abbrev stored : Log
stored = log_of three None

stored_is_log : IsLog stored
stored_is_log = is_log three None three_are_full

asks : (question : Question) (reply : Reply) → IsAnswered question stored stored (Some reply) → Step 300000 nobody stored (asked question reply) stored nobody
asks question reply answered = record {
  keeps = keeps_itself stored;
  log = stored_is_log;
  world = λ key c is. absurd (cc is);
  forms = record { null = λ format. refl; base64 = λ bytes. codes "\"S2Fma2E=\""; binary = λ bytes. refl };
  later = omega arith;
  last = refl;
  does = inl (record {
    expired = record { rise = λ i j d lt lt'. absurd (omega arith); each = λ key. (λ h. absurd (cc h), λ idle. absurd idle) };
    does = (refl, answered, refl, λ other at. refl, λ key. refl);
  });
}

one_name : names_rise (codes "orders" ∷ [])
one_name i j d lt lt' = absurd (omega arith)

no_topic : HasTopic stored (codes "nope") → ⊥
no_topic h = absurd (cc h)

no_part : HasPart stored third_orders → ⊥
no_part h = omega (arith, h)

pub questions_are_legal : (counts : Counts) → Legal 300000 counts questions nobody stored
questions_are_legal counts = record {
  first = stored;
  log = stored_is_log;
  tally = no_tally;
  run = (
    stored,
    nobody,
    asks Brokers _ (_, refl, inl (_, (λ i j d lt lt'. absurd (omega arith)), refl)),
    (
      no_tally,
      refl,
      (
        stored,
        nobody,
        asks Topics _ (_, refl, inl (_, one_name, record { moves = []; below = tt; is = refl }, refl)),
        (
          no_tally,
          refl,
          (
            stored,
            nobody,
            asks (OneTopic (codes "orders")) _ (_, refl, inl (inr (refl, (both_parts, refl, refl)))),
            (
              no_tally,
              refl,
              (
                stored,
                nobody,
                asks (Parts (codes "orders")) _ (_, refl, inl (inr (refl, (both_parts, refl, refl)))),
                (
                  no_tally,
                  refl,
                  (
                    stored,
                    nobody,
                    asks (OnePart orders) _ (_, refl, inl (inr (inr (omega arith, (on_node_one 0, refl, refl))))),
                    (
                      no_tally,
                      refl,
                      (
                        stored,
                        nobody,
                        asks (EndOffsets orders) _ (_, refl, inl (inr (inr (omega arith, (stored, (stored_is_log, keeps_itself stored, keeps_itself stored), refl))))),
                        (
                          no_tally,
                          refl,
                          (
                            stored,
                            nobody,
                            asks (OneTopic (codes "nope")) _ (_, refl, inl (inl (no_topic, refl))),
                            (
                              no_tally,
                              refl,
                              (
                                stored,
                                nobody,
                                asks (Parts (codes "nope")) _ (_, refl, inl (inl (no_topic, refl))),
                                (
                                  no_tally,
                                  refl,
                                  (
                                    stored,
                                    nobody,
                                    asks (OnePart third_orders) _ (_, refl, inl (inr (inl (refl, no_part, refl)))),
                                    (
                                      no_tally,
                                      refl,
                                      (
                                        stored,
                                        nobody,
                                        asks (EndOffsets third_orders) _ (_, refl, inl (inr (inl (refl, no_part, refl)))),
                                        (
                                          no_tally,
                                          refl,
                                          (refl, refl, refl),
                                        ),
                                      ),
                                    ),
                                  ),
                                ),
                              ),
                            ),
                          ),
                        ),
                      ),
                    ),
                  ),
                ),
              ),
            ),
          ),
        ),
      ),
    ),
  );
  paid = record { faults_paid = omega arith; refusals_paid = omega arith; short_paid = omega arith; placed_paid = omega arith; looks_paid = omega arith };
}
