-- What a reply says of the link's counts.
use Rattle.std.proofs.Common.{◌≡◌, ◌∙◌, refl, ap, true, false, Some, ℤ, arith}
use Rattle.model.specs.state.Entry.{IsLinks, Reply}
use Rattle.model.specs.state.Entry.Reply.{Broker, Want as NoMemory}
use Rattle.model.specs.history.Legal.{is_fault, is_refusal}
use Rattle.broker_link.specs.Causes.{ComesOf, Counts}
use Rattle.broker_link.specs.Replies.{CountsKept, IsCounted, link_reply}
use Rattle.broker_link.specs.declared.link.LinkNo.{LinkNo}
use Rattle.broker_link.specs.declared.link.LinkNo.TheVariants.{Fault, Refused, Want}

-- the counts of a reply
pub counted_done : (c d : Counts) (reply : Reply) → CountsKept c d → is_fault (Some reply) ≡ false → is_refusal (Some reply) ≡ false → IsCounted c d reply
counted_done c d reply kept no_fault no_refusal = record {
  faults_kept = kept.faults_kept;
  refusals_kept = kept.refusals_kept;
  sent_kept = kept.sent_kept;
  polls_kept = kept.polls_kept;
  beats_kept = kept.beats_kept;
  fault = λ e. absurd (cc (e, no_fault));
  refusal = λ e. absurd (cc (e, no_refusal));
  code = λ code is. absurd (no_code code is);
}
  where
    no_code : (code : ℤ) → reply ≡ Broker code → ⊥
    no_code code is = let e : is_refusal (Some reply) ≡ true = ap (λ r. is_refusal (Some r)) is in cc (e, no_refusal)

pub counted_failed : (c d : Counts) (e : LinkNo) → CountsKept c d → ComesOf c d e → IsCounted c d (link_reply e)
counted_failed c d Want kept comes = counted_done c d NoMemory kept refl refl
counted_failed c d Fault kept comes = record {
  faults_kept = kept.faults_kept;
  refusals_kept = kept.refusals_kept;
  sent_kept = kept.sent_kept;
  polls_kept = kept.polls_kept;
  beats_kept = kept.beats_kept;
  fault = λ e. comes;
  refusal = λ e. absurd (cc e);
  code = λ code is. absurd (cc is);
}
counted_failed c d (Refused number) kept comes = record {
  faults_kept = kept.faults_kept;
  refusals_kept = kept.refusals_kept;
  sent_kept = kept.sent_kept;
  polls_kept = kept.polls_kept;
  beats_kept = kept.beats_kept;
  fault = λ e. absurd (cc e);
  refusal = λ e. comes.1.0;
  code = λ code is. let same : number ≡ code = cc is in comes.1.1 ∙ same;
}

-- a failure with a cause is one of the link, or memory was wanting
pub links : (c d : Counts) (e : LinkNo) → ComesOf c d e → IsLinks (link_reply e)
links c d Fault comes = tt
links c d (Refused code) comes = comes.0
links c d Want comes = tt

-- a cause in later calls is one in all of them
pub comes_on : (c d e : Counts) (no : LinkNo) → CountsKept c d → ComesOf d e no → ComesOf c e no
comes_on c d e Fault kept rose = omega (arith, rose, kept.faults_kept)
comes_on c d e (Refused code) kept rose = (rose.0, (omega (arith, rose.1.0, kept.refusals_kept), rose.1.1))
comes_on c d e Want kept rose = tt
