use Rattle.std.proofs.Common.{◌≡◌, ◌+◌, ◌*◌, drop}
use Rattle.avro_datum.proofs.TypedLemmas.{ValuesSoFar, EntriesSoFar}
use Rattle.avro_datum.proofs.ShownLemmas.{ItemsShown, EntriesShown, FieldsShown}
use Rattle.avro_datum.proofs.writer.+writer.Given as goal

abbrev pub invariant-put_values-loop-value : goal.invariant-put_values-loop-value
invariant-put_values-loop-value l = record {
  shown : ItemsShown l.schema l.levels l.item l.fn.next l.next l.values (drop l.value-index l.values) l.fn.out.tokens l.out.tokens;
  typed : ValuesSoFar (drop l.value-index l.values) l.values;
  before : l.out.before ≡ l.fn.out.before;
}

abbrev pub invariant-put_pairs-loop-entry : goal.invariant-put_pairs-loop-entry
invariant-put_pairs-loop-entry l = record {
  shown : EntriesShown l.schema l.levels l.item l.fn.next l.next l.entries (drop l.entry-index l.entries) l.fn.out.tokens l.out.tokens;
  typed : EntriesSoFar (drop l.entry-index l.entries) l.entries;
  before : l.out.before ≡ l.fn.out.before;
}

abbrev pub invariant-put_members-loop-index : goal.invariant-put_members-loop-index
invariant-put_members-loop-index l = record {
  shown : FieldsShown l.schema l.levels l.fields (drop l.index l.fields) l.fn.next l.next l.values (drop l.index l.values) l.fn.out.tokens l.out.tokens;
  typed : ValuesSoFar (drop l.index l.values) l.values;
  before : l.out.before ≡ l.fn.out.before;
}

abbrev pub decreases-put_node : goal.decreases-put_node
decreases-put_node l = 4 * l.levels + 2

abbrev pub decreases-put_labelled : goal.decreases-put_labelled
decreases-put_labelled l = 4 * l.levels + 3

abbrev pub decreases-put_members : goal.decreases-put_members
decreases-put_members l = 4 * l.levels + 3

abbrev pub decreases-put_values : goal.decreases-put_values
decreases-put_values l = 4 * l.levels + 3

abbrev pub decreases-put_pairs : goal.decreases-put_pairs
decreases-put_pairs l = 4 * l.levels + 3

abbrev pub decreases-put_branch : goal.decreases-put_branch
decreases-put_branch l = 4 * l.levels + 1

abbrev pub decreases-put_fields : goal.decreases-put_fields
decreases-put_fields l = 4 * l.levels + 1

abbrev pub decreases-put_items : goal.decreases-put_items
decreases-put_items l = 4 * l.levels + 1

abbrev pub decreases-put_entries : goal.decreases-put_entries
decreases-put_entries l = 4 * l.levels + 1
