-- Calls one after another.
use Rattle.std.proofs.Common.{◌≡◌, ◌∙◌, ℕ, refl, subst, arith, Result}
use Rattle.model.specs.state.Log.{Log}
use Rattle.model.specs.step.Fixed.{SameCommits}
use Rattle.model.specs.step.Produced.{NoneAdded}
use Rattle.model.proofs.Stretches.{keeps_itself, keeps_on}
use Rattle.broker_link.specs.Causes.{Counts}
use Rattle.broker_link.specs.Replies.{CountsKept}
use Rattle.broker_link.specs.Stands.{Consults, Goes, IsOnceAtMost, Produces, Reads, Stand}
use Rattle.broker_link.specs.declared.link.LinkNo.{LinkNo}

counts_on : (c d e : Counts) → CountsKept c d → CountsKept d e → CountsKept c e
counts_on c d e first second = record {
  faults_kept = omega (arith, first.faults_kept, second.faults_kept);
  refusals_kept = omega (arith, first.refusals_kept, second.refusals_kept);
  sent_kept = omega (arith, first.sent_kept, second.sent_kept);
  polls_kept = omega (arith, first.polls_kept, second.polls_kept);
  beats_kept = omega (arith, first.beats_kept, second.beats_kept);
}

pub goes_on : (a b c : Stand) → Goes a b → Goes b c → Goes a c
goes_on a b c first second = record {
  telling = λ tells. second.telling (first.telling tells);
  keeps = λ tells. keeps_on a.log b.log c.log (first.keeps tells) (second.keeps (first.telling tells));
  is_log = λ tells is. second.is_log (first.telling tells) (first.is_log tells is);
  plainly = λ plain. second.plainly (first.plainly plain);
  turning = λ turn. second.turning (first.turning turn);
  alone = λ plain. second.alone (first.plainly plain) ∙ first.alone plain;
  counts = counts_on a.counts b.counts c.counts first.counts second.counts;
}

pub same_commits_on : (a b c : Log) → SameCommits a b → SameCommits b c → SameCommits a c
same_commits_on a b c first second = λ group at. second group at ∙ first group at

-- no call
pub goes_nowhere : (a : Stand) → Goes a a
goes_nowhere a = record {
  telling = λ t. t;
  keeps = λ t. keeps_itself a.log;
  is_log = λ t is. is;
  plainly = λ p. p;
  turning = λ t. t;
  alone = λ p. refl;
  counts = record { faults_kept = omega arith; refusals_kept = omega arith; sent_kept = omega arith; polls_kept = omega arith; beats_kept = omega arith };
}

-- calls that only read are no produce calls
pub once_behind : (now : ℕ) (p q r : Produces) → q ≡ p → IsOnceAtMost now q r → IsOnceAtMost now p r
once_behind now p q r same once = subst (λ (x : Produces). IsOnceAtMost now x r) same once

-- no call that reads, one, and some after others
pub consults_nothing : (a : Stand) → Consults a a
consults_nothing a = record { goes = goes_nowhere a; none = λ t. omega arith; asked = refl; commits = λ t group at. refl }

pub consults_once : {T : Type 0} (a b : Stand) (r : Result T LinkNo) → Reads a b r → Consults a b
consults_once a b r reads = record { goes = reads.goes; none = reads.none; asked = reads.asked; commits = reads.commits }

pub consults_on : (a b c : Stand) → Consults a b → Consults b c → Consults a c
consults_on a b c first second = record {
  goes = goes_on a b c first.goes second.goes;
  none = λ t. none_on a.log b.log c.log (first.none t) (second.none (first.goes.telling t));
  asked = second.asked ∙ first.asked;
  commits = λ t. same_commits_on a.log b.log c.log (first.commits t) (second.commits (first.goes.telling t));
}
  where
    none_on : (x y z : Log) → NoneAdded x y → NoneAdded y z → NoneAdded x z
    none_on x y z one two = omega (arith, one, two)
