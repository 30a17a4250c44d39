use Rattle.std.proofs.Common.{◌≡◌, length}
use Rattle.std.specs.Prelude.{All, negsuc}
use Rattle.broker_link.proofs.memory.none_committed.Given as goal

abbrev pub invariant-loop-number : goal.invariant-loop-number
invariant-loop-number l = record {
  count : length l.offsets ≡ l._number;
  none : All (λ offset. offset ≡ negsuc 0) l.offsets;
}
