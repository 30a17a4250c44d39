use Rattle.std.proofs.Common.{◌≡◌, ◌-◌, ◌<◌, ◌≤◌, length, ℕ, false, get_or}
use Rattle.http_head.specs.Asked.{ends_authority}
use Rattle.http_head.proofs.asked.authority_end.Given as goal

abbrev pub invariant-loop-place : goal.invariant-loop-place
invariant-loop-place l = record {
  within : l.place ≤ length l.bytes;
  none : (k : ℕ) → k < l.place → ends_authority (get_or l.bytes k 0) ≡ false;
}

abbrev pub decreases-loop-place : goal.decreases-loop-place
decreases-loop-place l = length l.bytes - l.place
