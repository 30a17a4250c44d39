use Rattle.std.proofs.Common.{◌≡◌, List, ℕ, take}
use Rattle.avro_value.specs.Parts.{last_in}
use Rattle.avro_value.proofs.PartLemmas.{node_at}
use Rattle.avro_value.proofs.json_pick.last_nodes.Given as goal

-- the map has the last nodes so far
abbrev pub invariant-loop-member : goal.invariant-loop-member
invariant-loop-member l = (name : List ℕ) → node_at name l.nodes ≡ last_in name (take l.member-index l.members)
