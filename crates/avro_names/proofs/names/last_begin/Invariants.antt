use Rattle.std.proofs.Common.{◌≡◌, ◌≤◌, length, drop, false}
use Rattle.avro_names.specs.Names.{has_dot}
use Rattle.avro_names.proofs.names.last_begin.Given as goal

abbrev pub invariant-loop-place : goal.invariant-loop-place
invariant-loop-place l = record { inside : l.place ≤ length l.name; none : has_dot (drop l.place l.name) ≡ false }

abbrev pub decreases-loop-place : goal.decreases-loop-place
decreases-loop-place l = l.place
