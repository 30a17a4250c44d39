use Rattle.std.proofs.Common.{◌≡◌, ◌≤◌, None, drop, length}
use Rattle.avro_value.specs.Parts.{last_in}
use Rattle.avro_value.proofs.json_pick.last_named.Given as goal

-- no member behind has the name
abbrev pub invariant-loop-index : goal.invariant-loop-index
invariant-loop-index l = record {
  inside : l.index ≤ length l.members;
  none : last_in l.name (drop l.index l.members) ≡ None;
}

abbrev pub decreases-loop-index : goal.decreases-loop-index
decreases-loop-index l = l.index
