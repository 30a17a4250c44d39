use Rattle.std.proofs.Common.{◌≡◌, ◌-◌, ◌<◌, ◌≤◌, length, ℕ, false, get_or}
use Rattle.std.specs.Prelude.{◌==◌}
use Rattle.http_head.proofs.target.first_space.Given as goal

abbrev pub invariant-loop-place : goal.invariant-loop-place
invariant-loop-place l = record {
  within : l.place ≤ length l.line;
  none : (k : ℕ) → k < l.place → (get_or l.line k 0 == 32) ≡ false;
}

abbrev pub decreases-loop-place : goal.decreases-loop-place
decreases-loop-place l = length l.line - l.place
