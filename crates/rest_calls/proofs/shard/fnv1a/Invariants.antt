use Rattle.std.proofs.Common.{◌≡◌, length}
use Rattle.model.specs.state.Hashes.{fnv1a, fnv_on}
use Rattle.rest_calls.proofs.shard.fnv1a.Given as goal

abbrev pub invariant-loop-byte : goal.invariant-loop-byte
invariant-loop-byte l = fnv_on l.hash l.rest ≡ fnv1a l.bytes

abbrev pub decreases-loop-byte : goal.decreases-loop-byte
decreases-loop-byte l = length l.rest
