use Rattle.std.proofs.Common.{Some, ap}
use Rattle.std.specs.String.{string_bytes}
use Rattle.std.specs.BTreeMap.{is_at}
use Rattle.std.specs.Map.{lookup}
use Rattle.std.specs.Cmp.Lexicographic.{slice_cmp}
use Rattle.std.specs.Ordering.{nat_cmp}
use Rattle.std.proofs.lemmas.Map.Text.{btree_map_updates_text}
use Rattle.schema_table.proofs.schemas.put_place.Goals as goal
use Rattle.schema_table.proofs.schemas.put_place.Goals.{in-Ok, in-Err}

pub returns-clause-ok : goal.returns-clause-ok
returns-clause-ok c = elim c.match-insert.branch [
  | in-Ok w ↦ rw w.result-is (btree_map_updates_text (string_bytes c.args.key) c.args.places.now c.insert.new.self (Some c.args.place) w.in-Ok.ensures.updates)
  | in-Err w ↦ rw w.result-is tt
]

pub returns-clause-stays : goal.returns-clause-stays
returns-clause-stays c = elim c.match-insert.branch [
  | in-Ok w ↦ rw w.result-is tt
  | in-Err w ↦ rw w.result-is (λ q. ap (lookup (is_at (λ k. slice_cmp nat_cmp q (string_bytes k)))) w.in-Err.ensures.err)
]
