use Rattle.std.proofs.Common.{◌≡◌, length}
use Rattle.std.specs.Prelude.{◌%◌, bit_xor}
use Rattle.model.specs.state.Hashes.{murmur_on}
use Rattle.producer.proofs.partition.murmur2.Given as goal

abbrev pub invariant-loop-four : goal.invariant-loop-four
invariant-loop-four l = murmur_on l.hash l.rest ≡ murmur_on (bit_xor 2538058380 (length l.key % 4294967296)) l.key

abbrev pub decreases-loop-four : goal.decreases-loop-four
decreases-loop-four l = length l.rest
