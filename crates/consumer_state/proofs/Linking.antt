-- From what one call of a link leaves to what several leave.
use Rattle.std.proofs.Common.{refl, ◌∙◌, arith, Result, Ok, Err}
use Rattle.std.specs.Prelude.{IfOk}
use Rattle.model.specs.state.Log.{Log, Keeps}
use Rattle.model.specs.step.Fixed.{SameCommits}
use Rattle.model.specs.step.Produced.{NoneAdded}
use Rattle.model.specs.state.Entry.Reply.{Refused}
use Rattle.model.proofs.Stretches.{keeps_itself, keeps_on}
use Rattle.broker_link.specs.Causes.{Counts}
use Rattle.broker_link.specs.Replies.{CountsKept, IsCounted}
use Rattle.broker_link.proofs.CountedLemmas.{comes_on, counted_done, counted_failed as of_link}
use Rattle.broker_link.specs.Stands.{Stand}
use Rattle.consumer_state.specs.LinkCalls.{ComesOf, GoesOn, IsCaused, refusal_of}
use Rattle.consumer_state.specs.declared.topics.AssignNo.{AssignNo}
use Rattle.consumer_state.specs.declared.topics.AssignNo.TheVariants.{NoTopic, NoPartition, Failed}

-- nothing was asked
pub goes_nowhere : (a : Stand) → GoesOn a a
goes_nowhere a = record {
  telling = λ t. t;
  keeps = λ t. (keeps_itself a.log, omega arith, λ group at. refl);
  is_log = λ t is. is;
  plainly = λ p. p;
  turning = λ t. t;
  alone = λ p. refl;
  asked = refl;
}

-- one call after another
pub goes_on : (a b c : Stand) → GoesOn a b → GoesOn b c → GoesOn a c
goes_on a b c one two = record {
  telling = λ t. two.telling (one.telling t);
  keeps = λ t. both a.log b.log c.log (one.keeps t) (two.keeps (one.telling t));
  is_log = λ t is. two.is_log (one.telling t) (one.is_log t is);
  plainly = λ p. two.plainly (one.plainly p);
  turning = λ t. two.turning (one.turning t);
  alone = λ p. two.alone (one.plainly p) ∙ one.alone p;
  asked = two.asked ∙ one.asked;
}
  where
    both : (x y z : Log) → Keeps x y × NoneAdded x y × SameCommits x y → Keeps y z × NoneAdded y z × SameCommits y z → Keeps x z × NoneAdded x z × SameCommits x z
    both x y z h k = (keeps_on x y z h.0 k.0, omega (arith, h.1, k.1), λ group at. k.2 group at ∙ h.2 group at)

pub counts_kept : (c d e : Counts) → CountsKept c d → CountsKept d e → CountsKept c e
counts_kept c d e x y = record {
  faults_kept = omega (arith, x.faults_kept, y.faults_kept);
  refusals_kept = omega (arith, x.refusals_kept, y.refusals_kept);
  sent_kept = omega (arith, x.sent_kept, y.sent_kept);
  polls_kept = omega (arith, x.polls_kept, y.polls_kept);
  beats_kept = omega (arith, x.beats_kept, y.beats_kept);
}

-- nothing was counted
pub counts_stay : (c : Counts) → CountsKept c c
counts_stay c = record { faults_kept = omega arith; refusals_kept = omega arith; sent_kept = omega arith; polls_kept = omega arith; beats_kept = omega arith }

comes_since : (c d e : Counts) (no : AssignNo) → CountsKept c d → ComesOf d e no → ComesOf c e no
comes_since c d e NoTopic kept comes = tt
comes_since c d e NoPartition kept comes = tt
comes_since c d e (Failed why) kept comes = comes_on c d e why kept comes

-- the cause of a later call is one since an earlier moment
pub caused_since : {T : Type 0} (c d e : Counts) (result : Result T AssignNo) → CountsKept c d → IsCaused d e result → IsCaused c e result
caused_since c d e (Ok x) kept caused = record { kept = counts_kept c d e kept caused.kept; cause = caused.cause }
caused_since c d e (Err cause) kept caused = record { kept = counts_kept c d e kept caused.kept; cause = comes_since c d e cause kept caused.cause }

pub counted_failed : (c d : Counts) (why : AssignNo) → CountsKept c d → ComesOf c d why → IsCounted c d (refusal_of why)
counted_failed c d NoTopic kept comes = counted_done c d (Refused 40401) kept refl refl
counted_failed c d NoPartition kept comes = counted_done c d (Refused 40402) kept refl refl
counted_failed c d (Failed e) kept comes = of_link c d e kept comes

-- what follows from two facts of an answer's value follows of the answer
pub ok_both : (T E : Type 0) (r : Result T E) (P Q R : T → Type 0) → ((x : T) → P x → Q x → R x) → IfOk r P → IfOk r Q → IfOk r R
ok_both T E (Ok x) P Q R f p q = f x p q
ok_both T E (Err e) P Q R f p q = tt
