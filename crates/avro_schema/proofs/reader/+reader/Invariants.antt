use Rattle.std.proofs.Common.{◌≡◌, ◌+◌, ◌*◌, drop}
use Rattle.json_span.specs.Json.{Items}
use Rattle.json_span.specs.Nodes.{StandForItems}
use Rattle.avro_schema.specs.Reading.{reader}
use Rattle.avro_schema.specs.Building.{FieldsSoFar, BranchesSoFar, names_of_fields}
use Rattle.avro_schema.specs.Forms.{types_of, names_of_branches}
use Rattle.avro_schema.proofs.reader.+reader.Given as goal

abbrev pub decreases-read_type : goal.decreases-read_type
decreases-read_type l = 16 * l.levels

abbrev pub decreases-read_branch : goal.decreases-read_branch
decreases-read_branch l = 16 * l.levels + 1

abbrev pub decreases-read_union : goal.decreases-read_union
decreases-read_union l = 16 * l.levels + 2

abbrev pub decreases-read_part : goal.decreases-read_part
decreases-read_part l = 16 * l.levels + 3

abbrev pub decreases-read_field : goal.decreases-read_field
decreases-read_field l = 16 * l.levels + 4

abbrev pub decreases-read_fields : goal.decreases-read_fields
decreases-read_fields l = 16 * l.levels + 5

abbrev pub decreases-read_record : goal.decreases-read_record
decreases-read_record l = 16 * l.levels + 6

abbrev pub decreases-read_by_word : goal.decreases-read_by_word
decreases-read_by_word l = 16 * l.levels + 7

abbrev pub decreases-read_object : goal.decreases-read_object
decreases-read_object l = 16 * l.levels + 8

abbrev pub invariant-read_fields-loop-item : goal.invariant-read_fields-loop-item
invariant-read_fields-loop-item l = record {
  names : l.names ≡ names_of_fields l.fields.items;
  so_far : (js : Items) → StandForItems l.fn.tree l.items js → FieldsSoFar l.fn.tree (reader l.fn.canonical l.fn.levels) l.fn.namespace js l.fn.parts l.parts (drop l.item-index l.items) l.fields.items;
}

abbrev pub invariant-read_union-loop-item : goal.invariant-read_union-loop-item
invariant-read_union-loop-item l = record {
  names : l.names ≡ names_of_branches (types_of l.parts.nodes.items) l.branches.items;
  so_far : (js : Items) → StandForItems l.fn.tree l.item-items js → BranchesSoFar l.fn.tree (reader l.fn.canonical l.fn.levels) l.fn.namespace js l.fn.parts l.parts (drop l.item-index l.item-items) l.branches.items;
}
