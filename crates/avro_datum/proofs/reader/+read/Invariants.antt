use Rattle.std.proofs.Common.{◌+◌, ◌*◌, List, map, drop}
use Rattle.avro_schema.specs.Types.{AvroType, Fields}
use Rattle.avro_schema.specs.Nodes.{tree_of}
use Rattle.avro_schema.specs.Nodes as types
use Rattle.json_span.specs.Json.{Items, Json, Members}
use Rattle.json_span.specs.Nodes.{StandForItems, StandForMembers}
use Rattle.avro_datum.specs.Data.{item_of, value_of}
use Rattle.avro_value.specs.Parts.{AreParts}
use Rattle.avro_value.specs.Reading.{entries_at, fields_at, items_at, value_at}
use Rattle.avro_datum.proofs.ReadLemmas.{ItemsRead, EntriesRead, FieldsRead}
use Rattle.avro_datum.proofs.reader.+read.Given as goal

abbrev pub decreases-read_value : goal.decreases-read_value
decreases-read_value l = 4 * l.levels + 3

abbrev pub decreases-read_body : goal.decreases-read_body
decreases-read_body l = 4 * l.levels + 2

abbrev pub decreases-read_branch : goal.decreases-read_branch
decreases-read_branch l = 4 * l.levels + 5

abbrev pub decreases-read_fields : goal.decreases-read_fields
decreases-read_fields l = 4 * l.levels + 5

abbrev pub decreases-read_items : goal.decreases-read_items
decreases-read_items l = 4 * l.levels + 5

abbrev pub decreases-read_entries : goal.decreases-read_entries
decreases-read_entries l = 4 * l.levels + 5

abbrev pub invariant-read_items-loop-node : goal.invariant-read_items-loop-node
invariant-read_items-loop-node l =
    (t : AvroType) → types.Stands l.schema l.item t → (js : Items) → StandForItems l.tree l.nodes js
    → ItemsRead l.tree (drop l.node-index l.nodes) (map value_of l.out.items) (value_at (tree_of l.schema) l.levels) t l.next (items_at (value_at (tree_of l.schema) l.levels) t js l.fn.next)

abbrev pub invariant-read_entries-loop-member : goal.invariant-read_entries-loop-member
invariant-read_entries-loop-member l =
    (t : AvroType) → types.Stands l.schema l.value t → (ms : Members) → StandForMembers l.tree l.members ms
    → EntriesRead l.tree (drop l.member-index l.members) (map item_of l.out.items) (value_at (tree_of l.schema) l.levels) t l.next (entries_at (value_at (tree_of l.schema) l.levels) t ms l.fn.next)

abbrev pub invariant-read_fields-loop-part : goal.invariant-read_fields-loop-part
invariant-read_fields-loop-part l =
    (ts : Fields) (js : List Json) → AreParts l.schema l.tree l.parts ts js
    → FieldsRead l.schema l.tree (drop l.part-index l.parts) (map value_of l.out.items) (value_at (tree_of l.schema) l.levels) l.next (fields_at (value_at (tree_of l.schema) l.levels) ts js l.fn.next)
