-- Calls of a link one after the other.
use Rattle.std.proofs.Common.{◌∙◌, arith}
use Rattle.model.specs.step.Produced.{NoneAdded}
use Rattle.model.proofs.Stretches.{keeps_on}
use Rattle.broker_link.specs.Causes.{Counts, ComesOf}
use Rattle.broker_link.specs.Replies.{CountsKept}
use Rattle.broker_link.specs.Stands.{Stand}
use Rattle.broker_link.specs.declared.link.LinkNo.{LinkNo}
use Rattle.broker_link.specs.declared.link.LinkNo.TheVariants.{Fault, Refused, Want}
use Rattle.instance.specs.Passing.{Passes}

-- some calls and then some more
pub passes_on : {x y z : Stand} → Passes x y → Passes y z → Passes x z
passes_on {x} {y} {z} h k = record {
  telling = λ t. k.telling (h.telling t);
  keeps = λ t. keeps_on x.log y.log z.log (h.keeps t) (k.keeps (h.telling t));
  added = λ t. (let one : NoneAdded x.log y.log = h.added t in let two : NoneAdded y.log z.log = k.added (h.telling t) in omega (arith, one, two));
  commits = λ t other at. k.commits (h.telling t) other at ∙ h.commits t other at;
  is_log = λ t log. k.is_log (h.telling t) (h.is_log t log);
  plainly = λ p. k.plainly (h.plainly p);
  turning = λ t. k.turning (h.turning t);
  alone = λ p. k.alone (h.plainly p) ∙ h.alone p;
  asked = k.asked ∙ h.asked;
  counts = kept x.counts y.counts z.counts h.counts k.counts;
}
  where
    kept : (c d e : Counts) → CountsKept c d → CountsKept d e → CountsKept c e
    kept c d e m n = record { faults_kept = omega arith; refusals_kept = omega arith; sent_kept = omega arith; polls_kept = omega arith; beats_kept = omega arith }

-- a cause in later calls is one in all of them
pub comes_on : (c d e : Counts) (no : LinkNo) → CountsKept c d → ComesOf d e no → ComesOf c e no
comes_on c d e Fault kept rose = omega (arith, rose)
comes_on c d e (Refused code) kept rose = (rose.0, (omega (arith, rose.1.0), rose.1.1))
comes_on c d e Want kept rose = tt
