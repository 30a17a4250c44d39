-- The example history of expiry is legal, step by step.
use Rattle.std.proofs.Common.{◌≡◌, ℕ, ◌+◌, ◌≤◌, Bool, true, false, cond, [], ◌∷◌, refl, sym, subst, inl, arith, Option, Some, None}
use Rattle.std.specs.Prelude.{codes, IsTrue}
use Rattle.model.specs.state.World.{Key, is_key, Consumer, IsConsumer}
use Rattle.model.specs.state.World.Edge.{Start}
use Rattle.model.specs.state.Entry.Act.{Create, Subscription}
use Rattle.model.specs.state.Entry.Reply.{Made, Names, Refused}
use Rattle.model.specs.step.Step.{IsIdle, IsExpired, Step, is_among}
use Rattle.model.specs.history.Legal.{Counts, Legal, no_tally}
use Rattle.model.specs.examples.Readings.{reader, settings_of}
use Rattle.model.specs.examples.Expiring.{entry_at, used_at, only_at, nobody_at, made_used_gone}
use Rattle.model.proofs.Readings.{empty_log, log_is_empty, only_one}
use Rattle.model.proofs.Moves.{same_from_is_key}
use Rattle.model.proofs.Stretches.{keeps_itself}

used_is_consumer : (moment : ℕ) → IsConsumer (used_at moment)
used_is_consumer moment = record { order = λ i j d lt lt'. absurd (omega arith); low = λ k d lt. absurd (omega arith); names = λ i j d lt lt'. absurd (omega arith) }

-- nobody who is live has been idle
none_idle : (c : Consumer) (last moment : ℕ) → (c.last_use + 300000 ≤ moment → ⊥) → IsExpired 300000 moment (only_at c last) []
none_idle c last moment used = record { rise = λ i j d lt lt'. absurd (omega arith); each = λ key. (λ h. absurd (cc h), λ idle. absurd (go key (is_key key reader) refl idle)) }
  where
    go : (key : Key) (b : Bool) → is_key key reader ≡ b → IsIdle 300000 moment (cond (is_key key reader) (Some c) None) → ⊥
    go key true is idle = used (rw is at idle)
    go key false is idle = rw is at idle

nobody_idle : (last moment : ℕ) → IsExpired 300000 moment (nobody_at last) []
nobody_idle last moment = record { rise = λ i j d lt lt'. absurd (omega arith); each = λ key. (λ h. absurd (cc h), λ idle. absurd idle) }

-- the one who is live has been
reader_idle : (c : Consumer) (last moment : ℕ) → c.last_use + 300000 ≤ moment → IsExpired 300000 moment (only_at c last) (reader ∷ [])
reader_idle c last moment unused = record { rise = λ i j d lt lt'. absurd (omega arith); each = λ key. (there key, back key) }
  where
    there : (key : Key) → IsTrue (is_among (reader ∷ []) key) → IsIdle 300000 moment (cond (is_key key reader) (Some c) None)
    there key h = go (is_key reader key) refl
      where
        go : (b : Bool) → is_key reader key ≡ b → IsIdle 300000 moment (cond (is_key key reader) (Some c) None)
        go true is = subst (λ k. IsIdle 300000 moment (cond (is_key k reader) (Some c) None)) (same_from_is_key reader key is) unused
        go false is = absurd (cc (rw is at h))

    back : (key : Key) → IsIdle 300000 moment (cond (is_key key reader) (Some c) None) → IsTrue (is_among (reader ∷ []) key)
    back key idle = go (is_key key reader) refl
      where
        go : (b : Bool) → is_key key reader ≡ b → IsTrue (is_among (reader ∷ []) key)
        go true is = subst (λ k. IsTrue (is_among (reader ∷ []) k)) (sym (same_from_is_key key reader is)) refl
        go false is = absurd (rw is at idle)

only_one_at : (c : Consumer) → IsConsumer c → (key : Key) (d : Consumer) → cond (is_key key reader) (Some c) None ≡ Some d → IsConsumer d
only_one_at c well key d is = only_one c well key d is

makes : (last moment : ℕ) → last ≤ moment → Step 300000 (nobody_at last) empty_log (entry_at moment [] (Create (settings_of Start)) Made) empty_log (only_at (used_at moment) moment)
makes last moment later = record {
  keeps = keeps_itself empty_log;
  log = log_is_empty;
  world = only_one_at (used_at moment) (used_is_consumer moment);
  forms = record { null = λ format. refl; base64 = λ bytes. codes "\"S2Fma2E=\""; binary = λ bytes. refl };
  later = later;
  last = refl;
  does = inl (record { expired = nobody_idle last moment; does = ((refl, λ other at. refl, inl (record { says = refl; left = refl })), refl, λ other e. rw e refl) });
}

uses : Step 300000 (only_at (used_at 0) 0) empty_log (entry_at 299999 [] Subscription (Names [])) empty_log (only_at (used_at 299999) 299999)
uses = record {
  keeps = keeps_itself empty_log;
  log = log_is_empty;
  world = only_one_at (used_at 299999) (used_is_consumer 299999);
  forms = record { null = λ format. refl; base64 = λ bytes. codes "\"S2Fma2E=\""; binary = λ bytes. refl };
  later = omega arith;
  last = refl;
  does = inl (record { expired = none_idle (used_at 0) 0 299999 (λ h. omega (arith, h)); does = ((refl, λ other at. refl, inl (record { says = refl; left = refl })), refl, λ other e. rw e refl) });
}

expires : Step 300000 (only_at (used_at 299999) 299999) empty_log (entry_at 599999 (reader ∷ []) Subscription (Refused 40403)) empty_log (nobody_at 599999)
expires = record {
  keeps = keeps_itself empty_log;
  log = log_is_empty;
  world = λ key c is. absurd (cc is);
  forms = record { null = λ format. refl; base64 = λ bytes. codes "\"S2Fma2E=\""; binary = λ bytes. refl };
  later = omega arith;
  last = refl;
  does = inl (record {
    expired = reader_idle (used_at 299999) 299999 599999 (omega arith);
    does = ((refl, λ other at. refl, inl (record { says = refl; left = refl })), refl, others);
  });
}
  where
    others : (other : Key) → is_key other reader ≡ false → None ≡ cond (is_among (reader ∷ []) other) None (cond (is_key other reader) (Some (used_at 299999)) None)
    others other e = rw e (go (is_among (reader ∷ []) other))
      where
        go : (b : Bool) → ◌≡◌ {A = Option Consumer} None (cond b None None)
        go true = refl
        go false = refl

pub made_used_gone_is_legal : (counts : Counts) → Legal 300000 counts made_used_gone (only_at (used_at 599999) 599999) empty_log
made_used_gone_is_legal counts = record {
  first = empty_log;
  log = log_is_empty;
  tally = no_tally;
  run = (
    empty_log,
    only_at (used_at 0) 0,
    makes 0 0 (omega arith),
    (
      no_tally,
      refl,
      (
        empty_log,
        only_at (used_at 299999) 299999,
        uses,
        (
          no_tally,
          refl,
          (
            empty_log,
            nobody_at 599999,
            expires,
            (
              no_tally,
              refl,
              (
                empty_log,
                only_at (used_at 599999) 599999,
                makes 599999 599999 (omega arith),
                (
                  no_tally,
                  refl,
                  (refl, refl, refl),
                ),
              ),
            ),
          ),
        ),
      ),
    ),
  );
  paid = record { faults_paid = omega arith; refusals_paid = omega arith; short_paid = omega arith; placed_paid = omega arith; looks_paid = omega arith };
}
