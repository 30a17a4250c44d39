use Rattle.std.proofs.Common.{◌++◌, ◌+◌, ◌*◌, pos, length, drop}
use Rattle.avro_codec.specs.Plain.{long_bytes}
use Rattle.avro_codec.proofs.EncodeLemmas.{ItemsPut, EntriesPut, FieldsPut}
use Rattle.avro_codec.proofs.encoder.+encoder.Given as goal

abbrev pub invariant-put_entries-loop-entry : goal.invariant-put_entries-loop-entry
invariant-put_entries-loop-entry l = EntriesPut l.schema l.below l.value l.fn.next l.next l.entries (drop l.entry-index l.entries) (l.fn.out.items ++ long_bytes (pos (length l.entries))) l.out.items

abbrev pub invariant-put_fields-loop-index : goal.invariant-put_fields-loop-index
invariant-put_fields-loop-index l = FieldsPut l.schema l.below l.fields (drop l.index l.fields) l.fn.next l.next l.values (drop l.index l.values) l.fn.out.items l.out.items

abbrev pub invariant-put_items-loop-value : goal.invariant-put_items-loop-value
invariant-put_items-loop-value l = ItemsPut l.schema l.below l.item l.fn.next l.next l.values (drop l.value-index l.values) (l.fn.out.items ++ long_bytes (pos (length l.values))) l.out.items

abbrev pub decreases-put_node : goal.decreases-put_node
decreases-put_node l = 3 * l.levels + 2

abbrev pub decreases-put_entry : goal.decreases-put_entry
decreases-put_entry l = 3 * l.levels + 3

abbrev pub decreases-put_branch : goal.decreases-put_branch
decreases-put_branch l = 3 * l.levels + 1

abbrev pub decreases-put_fields : goal.decreases-put_fields
decreases-put_fields l = 3 * l.levels + 1

abbrev pub decreases-put_items : goal.decreases-put_items
decreases-put_items l = 3 * l.levels + 1

abbrev pub decreases-put_entries : goal.decreases-put_entries
decreases-put_entries l = 3 * l.levels + 1
