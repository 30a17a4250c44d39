-- Logs with rows of others, from logs without.
use Rattle.std.proofs.Common.{ℕ, ◌≤◌, List, refl, arith}
use Rattle.model.specs.state.Log.{Topic, Keeps}
use Rattle.model.specs.step.Fixed.{SameCommits}
use Rattle.model.proofs.Stretches.{keeps_on}
use Rattle.broker_link.specs.Stored.{log_of, log_with, OthersCame}

pub keeps_with : (a b : List Topic) (n m : ℕ) → n ≤ m → Keeps (log_of a) (log_of b) → Keeps (log_with a n) (log_with b m)
keeps_with a b n m le keeps = record { shape = keeps.shape; part = keeps.part; others = le }

pub same_commits : (a b : List Topic) (n m : ℕ) → SameCommits (log_with a n) (log_with b m)
same_commits a b n m = λ other at. refl

pub came_on : (a b c : List Topic) (k m n : ℕ) → OthersCame (log_with a k) (log_with b m) → OthersCame (log_with b m) (log_with c n) → OthersCame (log_with a k) (log_with c n)
came_on a b c k m n first second = record {
  keeps = keeps_on (log_with a k) (log_with b m) (log_with c n) first.keeps second.keeps;
  none = omega (arith, first.none, second.none);
  commits = same_commits a c k n;
  is_log = λ is. second.is_log (first.is_log is);
}
