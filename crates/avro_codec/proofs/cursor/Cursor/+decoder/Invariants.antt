use Rattle.std.proofs.Common.{◌≡◌, ◌≤◌, ◌+◌, ◌*◌, map, length, drop}
use Rattle.avro_schema.specs.Types.{AvroType, Fields}
use Rattle.avro_schema.specs.Nodes.{Stands, StandForFields, tree_of}
use Rattle.avro_datum.specs.Data.{item_of, value_of}
use Rattle.avro_codec.specs.Reading.{all_blocks, entry_at, fields_at, many, value_at, with_front}
use Rattle.avro_codec.proofs.DecodeLemmas.{BlocksRead, FieldsRead}
use Rattle.avro_codec.proofs.cursor.Cursor.+decoder.Given as goal

abbrev pub decreases-value : goal.decreases-value
decreases-value l = 4 * l.levels + 3

abbrev pub decreases-body : goal.decreases-body
decreases-body l = 4 * l.levels + 2

abbrev pub decreases-branch : goal.decreases-branch
decreases-branch l = 4 * l.levels + 5

abbrev pub decreases-fields : goal.decreases-fields
decreases-fields l = 4 * l.levels + 5

abbrev pub decreases-items : goal.decreases-items
decreases-items l = 4 * l.levels + 5

abbrev pub decreases-entries : goal.decreases-entries
decreases-entries l = 4 * l.levels + 5

abbrev pub decreases-more_items : goal.decreases-more_items
decreases-more_items l = 4 * l.levels + 4

abbrev pub decreases-more_entries : goal.decreases-more_entries
decreases-more_entries l = 4 * l.levels + 4

abbrev pub invariant-more_items-loop-left : goal.invariant-more_items-loop-left
invariant-more_items-loop-left l = record {
  read : (u : AvroType) → Stands l.schema l.item u → with_front (map value_of l.out.items) (many l.left (value_at (tree_of l.schema) l.levels u) l.self)
      ≡ with_front (map value_of l.fn.out.items) (many l.count (value_at (tree_of l.schema) l.levels u) l.fn.self);
  shrinks : length l.self.left ≤ length l.fn.self.left;
}

abbrev pub invariant-more_entries-loop-left : goal.invariant-more_entries-loop-left
invariant-more_entries-loop-left l = record {
  read : (u : AvroType) → Stands l.schema l.value u → with_front (map item_of l.out.items) (many l.left (entry_at (value_at (tree_of l.schema) l.levels) l.node u) l.self)
      ≡ with_front (map item_of l.fn.out.items) (many l.count (entry_at (value_at (tree_of l.schema) l.levels) l.node u) l.fn.self);
  shrinks : length l.self.left ≤ length l.fn.self.left;
}

abbrev pub invariant-items-loop-head : goal.invariant-items-loop-head
invariant-items-loop-head l = record {
  read : (u : AvroType) → Stands l.schema l.item u → BlocksRead (map value_of l.out.items) l.node (value_at (tree_of l.schema) l.levels u) l.self (all_blocks l.node (value_at (tree_of l.schema) l.levels u) l.fn.self);
  shrinks : length l.self.left ≤ length l.fn.self.left;
}

abbrev pub decreases-items-loop-head : goal.decreases-items-loop-head
decreases-items-loop-head l = length l.self.left

abbrev pub invariant-entries-loop-head : goal.invariant-entries-loop-head
invariant-entries-loop-head l = record {
  read : (u : AvroType) → Stands l.schema l.value u → BlocksRead (map item_of l.out.items) l.node (entry_at (value_at (tree_of l.schema) l.levels) l.node u) l.self (all_blocks l.node (entry_at (value_at (tree_of l.schema) l.levels) l.node u) l.fn.self);
  shrinks : length l.self.left ≤ length l.fn.self.left;
}

abbrev pub decreases-entries-loop-head : goal.decreases-entries-loop-head
decreases-entries-loop-head l = length l.self.left

abbrev pub invariant-fields-loop-field : goal.invariant-fields-loop-field
invariant-fields-loop-field l = record {
  read : (ts : Fields) → StandForFields l.schema l.fields ts → FieldsRead l.schema (drop l.field-index l.fields) (map value_of l.out.items) (value_at (tree_of l.schema) l.levels) l.self (fields_at (value_at (tree_of l.schema) l.levels) ts l.fn.self);
  shrinks : length l.self.left ≤ length l.fn.self.left;
}

abbrev pub decreases-more_entries-loop-left : goal.decreases-more_entries-loop-left
decreases-more_entries-loop-left l = l.left

abbrev pub decreases-more_items-loop-left : goal.decreases-more_items-loop-left
decreases-more_items-loop-left l = l.left
