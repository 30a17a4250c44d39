use Rattle.std.proofs.Common.{◌≡◌, ◌-◌, ◌<◌, ◌≤◌, length, ℕ, false, get_or}
use Rattle.std.specs.Prelude.{◌==◌}
use Rattle.http_head.proofs.member.comma_place.Given as goal

abbrev pub invariant-loop-place : goal.invariant-loop-place
invariant-loop-place l = record {
  within : l.place ≤ length l.value;
  none : (k : ℕ) → k < l.place → (get_or l.value k 0 == 44) ≡ false;
}

abbrev pub decreases-loop-place : goal.decreases-loop-place
decreases-loop-place l = length l.value - l.place
