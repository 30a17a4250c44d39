use Rattle.std.proofs.Common.{◌≡◌, ◌+◌, ◌-◌, Some, Ok, slice_get, List, ℕ, ap, sym, subst, ◌∙◌, length, map, drop, arith}
use Rattle.std.specs.Int.{w64}
use Rattle.std.proofs.lemmas.Int.{to_z-of_z}
use Rattle.avro_schema.specs.Types as schema
use Rattle.avro_schema.specs.Types.{AvroType, resolved}
use Rattle.avro_schema.specs.Nodes.{IsOfKind, tree_of}
use Rattle.avro_datum.specs.Data.{item_of, value_of}
use Rattle.avro_value.specs.Value.{Value, Entry, values_of, entries_of}
use Rattle.avro_value.specs.Value as shapes
use Rattle.avro_value.specs.Picks.{is_nesting}
use Rattle.avro_codec.specs.Reading.{all_blocks, weighs, union_at, entry_at, fields_at, many, value_at, with_front}
use Rattle.avro_value.proofs.NodeLemmas.{rest_is, none_left}
use Rattle.avro_value.proofs.PickLemmas.{resolves_is}
use Rattle.avro_codec.proofs.DecodeLemmas.{many_go, many_stop, many_done, blocks_go, blocks_unlike, blocks_stop, blocks_headless, blocks_done, fields_go, fields_stop, fields_done, entry_read, entry_keyless, entry_stop, union_at_branch, union_lacks, picked_read, picked_stop, nests_is, node_enters, node_stops, room_is, body_is, giving_read, giving_stop, fields_site, branch_site, branch_made, place_is, FieldsRead, reads_along}
use Rattle.avro_value.proofs.NodeLemmas.{fails_along}
use Rattle.avro_codec.proofs.cursor.Cursor.+decoder.Goals as goal

pub more_items-loop-left-preserved : goal.more_items-loop-left-preserved
more_items-loop-left-preserved t c = record {
  read = λ u stands.
      let one = value_at (tree_of c.args.schema.now) c.args.levels u in
      let x : Value = (value_of c.in-Ok.value) in
      ap (λ (f : List Value). with_front f (many (c.loop-left.left - 1) one c.value.new.self)) c.in_ok-push_value.ensures.ok
      ∙ many_go (map value_of c.loop-left.out.items) c.loop-left.left one c.loop-left.self x c.value.new.self _ c.loop-left-test.true (c.in-Ok.ensures.value u stands) (c.loop-left.invariant.read u stands);
  shrinks = omega (arith, c.in-Ok.ensures.shrinks, c.loop-left.invariant.shrinks);
}

pub more_items-returns-clause-value : goal.more_items-returns-clause-value
more_items-returns-clause-value t c u stands =
    many_done (map value_of c.loop-left.out.items) c.loop-left.left (value_at (tree_of c.args.schema.now) c.args.levels u) c.loop-left.self _ c.loop-left-test.false (c.loop-left.invariant.read u stands)

pub more_items-returns-in-Err-clause-value : goal.more_items-returns-in-Err-clause-value
more_items-returns-in-Err-clause-value t c u stands =
    many_stop (map value_of c.loop-left.out.items) c.loop-left.left (value_at (tree_of c.args.schema.now) c.args.levels u) c.loop-left.self c.in-Err.e _ c.loop-left-test.true (c.in-Err.ensures.value u stands) (c.loop-left.invariant.read u stands)

pub more_entries-loop-left-preserved : goal.more_entries-loop-left-preserved
more_entries-loop-left-preserved t c = record {
  read = λ u stands.
      let one = entry_at (value_at (tree_of c.args.schema.now) c.args.levels) c.args.node u in
      let x : Entry = (record { key = c.in-Ok.key.now; value = value_of c.in-Ok-value.value }) in
      ap (λ (f : List Entry). with_front f (many (c.loop-left.left - 1) one c.value.new.self)) c.in_ok-push_entry.ensures.ok
      ∙ many_go (map item_of c.loop-left.out.items) c.loop-left.left one c.loop-left.self x c.value.new.self _ c.loop-left-test.true ((entry_read (value_at (tree_of c.args.schema.now) c.args.levels) c.args.node u c.loop-left.self c.text.new.self c.value.new.self c.in-Ok.key.now (value_of c.in-Ok-value.value) c.in-Ok.ensures.value (c.in-Ok-value.ensures.value u stands))) (c.loop-left.invariant.read u stands);
  shrinks = omega (arith, c.in-Ok.ensures.shrinks, c.in-Ok-value.ensures.shrinks, c.loop-left.invariant.shrinks);
}

pub more_entries-returns-clause-value : goal.more_entries-returns-clause-value
more_entries-returns-clause-value t c u stands =
    many_done (map item_of c.loop-left.out.items) c.loop-left.left (entry_at (value_at (tree_of c.args.schema.now) c.args.levels) c.args.node u) c.loop-left.self _ c.loop-left-test.false (c.loop-left.invariant.read u stands)

pub more_entries-returns-in-Err-clause-value : goal.more_entries-returns-in-Err-clause-value
more_entries-returns-in-Err-clause-value t c u stands =
    many_stop (map item_of c.loop-left.out.items) c.loop-left.left (entry_at (value_at (tree_of c.args.schema.now) c.args.levels) c.args.node u) c.loop-left.self c.in-Err.e _ c.loop-left-test.true (entry_keyless (value_at (tree_of c.args.schema.now) c.args.levels) c.args.node u c.loop-left.self c.in-Err.e c.in-Err.ensures.value) (c.loop-left.invariant.read u stands)

pub more_entries-returns-in-Err-value-clause-value : goal.more_entries-returns-in-Err-value-clause-value
more_entries-returns-in-Err-value-clause-value t c u stands =
    many_stop (map item_of c.loop-left.out.items) c.loop-left.left (entry_at (value_at (tree_of c.args.schema.now) c.args.levels) c.args.node u) c.loop-left.self c.in-Err-value.e _ c.loop-left-test.true
    (entry_stop (value_at (tree_of c.args.schema.now) c.args.levels) c.args.node u c.loop-left.self c.text.new.self c.in-Ok.key.now c.in-Err-value.e c.in-Ok.ensures.value (c.in-Err-value.ensures.value u stands)) (c.loop-left.invariant.read u stands)

pub items-loop-head-preserved : goal.items-loop-head-preserved
items-loop-head-preserved t c = record {
  read = λ u stands. blocks_go (map value_of c.loop-head.out.items) (map value_of c.more_items.new.out.items) c.args.node (value_at (tree_of c.args.schema.now) c.args.levels u) c.loop-head.self c.in-Ok.head c.head.new.self c.more_items.new.self _ c.weighs.result
      (c.loop-head.invariant.read u stands) c.in-Ok.ensures.value c.if-head-eq0.false (c.in-Ok-more_items.ensures.value u stands) c.in-Ok.ensures.takes c.in-Ok-more_items.ensures.shrinks (c.weighs.ensures ∙ ap (λ (n : ℕ). weighs c.in-Ok.head.size (n - c.left.result)) c.left-before.ensures ∙ ap (λ (n : ℕ). weighs c.in-Ok.head.size (length c.head.new.self.left - n)) c.left.ensures) c.if-not-weighs.false;
  shrinks = omega (arith, c.in-Ok.ensures.takes, c.in-Ok-more_items.ensures.shrinks, c.loop-head.invariant.shrinks);
}

pub items-returns-in-Err-clause-value : goal.items-returns-in-Err-clause-value
items-returns-in-Err-clause-value t c u stands = blocks_headless (map value_of c.loop-head.out.items) c.args.node (value_at (tree_of c.args.schema.now) c.args.levels u) c.loop-head.self c.in-Err.e _ (c.loop-head.invariant.read u stands) c.in-Err.ensures.value

pub items-returns-in-Err-more_items-clause-value : goal.items-returns-in-Err-more_items-clause-value
items-returns-in-Err-more_items-clause-value t c u stands =
    blocks_stop (map value_of c.loop-head.out.items) c.args.node (value_at (tree_of c.args.schema.now) c.args.levels u) c.loop-head.self c.in-Ok.head c.head.new.self c.in-Err-more_items.e _ (c.loop-head.invariant.read u stands) c.in-Ok.ensures.value c.if-head-eq0.false (c.in-Err-more_items.ensures.value u stands)

pub items-returns-then-head-eq0-clause-value : goal.items-returns-then-head-eq0-clause-value
items-returns-then-head-eq0-clause-value t c u stands =
    blocks_done (map value_of c.loop-head.out.items) c.args.node (value_at (tree_of c.args.schema.now) c.args.levels u) c.loop-head.self c.in-Ok.head c.head.new.self _ (c.loop-head.invariant.read u stands) c.in-Ok.ensures.value c.if-head-eq0.true

pub items-returns-then-not-weighs-clause-value : goal.items-returns-then-not-weighs-clause-value
items-returns-then-not-weighs-clause-value t c u stands =
    blocks_unlike (map value_of c.loop-head.out.items) (map value_of c.more_items.new.out.items) c.args.node (value_at (tree_of c.args.schema.now) c.args.levels u) c.loop-head.self c.in-Ok.head c.head.new.self c.more_items.new.self _ c.weighs.result
    (c.loop-head.invariant.read u stands) c.in-Ok.ensures.value c.if-head-eq0.false (c.in-Ok-more_items.ensures.value u stands) (c.weighs.ensures ∙ ap (λ (n : ℕ). weighs c.in-Ok.head.size (n - c.left.result)) c.left-before.ensures ∙ ap (λ (n : ℕ). weighs c.in-Ok.head.size (length c.head.new.self.left - n)) c.left.ensures) c.if-not-weighs.true

pub entries-loop-head-preserved : goal.entries-loop-head-preserved
entries-loop-head-preserved t c = record {
  read = λ u stands. blocks_go (map item_of c.loop-head.out.items) (map item_of c.more_entries.new.out.items) c.args.node (entry_at (value_at (tree_of c.args.schema.now) c.args.levels) c.args.node u) c.loop-head.self c.in-Ok.head c.head.new.self c.more_entries.new.self _ c.weighs.result
      (c.loop-head.invariant.read u stands) c.in-Ok.ensures.value c.if-head-eq0.false (c.in-Ok-more_entries.ensures.value u stands) c.in-Ok.ensures.takes c.in-Ok-more_entries.ensures.shrinks (c.weighs.ensures ∙ ap (λ (n : ℕ). weighs c.in-Ok.head.size (n - c.left.result)) c.left-before.ensures ∙ ap (λ (n : ℕ). weighs c.in-Ok.head.size (length c.head.new.self.left - n)) c.left.ensures) c.if-not-weighs.false;
  shrinks = omega (arith, c.in-Ok.ensures.takes, c.in-Ok-more_entries.ensures.shrinks, c.loop-head.invariant.shrinks);
}

pub entries-returns-in-Err-clause-value : goal.entries-returns-in-Err-clause-value
entries-returns-in-Err-clause-value t c u stands = blocks_headless (map item_of c.loop-head.out.items) c.args.node (entry_at (value_at (tree_of c.args.schema.now) c.args.levels) c.args.node u) c.loop-head.self c.in-Err.e _ (c.loop-head.invariant.read u stands) c.in-Err.ensures.value

pub entries-returns-in-Err-more_entries-clause-value : goal.entries-returns-in-Err-more_entries-clause-value
entries-returns-in-Err-more_entries-clause-value t c u stands =
    blocks_stop (map item_of c.loop-head.out.items) c.args.node (entry_at (value_at (tree_of c.args.schema.now) c.args.levels) c.args.node u) c.loop-head.self c.in-Ok.head c.head.new.self c.in-Err-more_entries.e _ (c.loop-head.invariant.read u stands) c.in-Ok.ensures.value c.if-head-eq0.false (c.in-Err-more_entries.ensures.value u stands)

pub entries-returns-then-head-eq0-clause-value : goal.entries-returns-then-head-eq0-clause-value
entries-returns-then-head-eq0-clause-value t c u stands =
    blocks_done (map item_of c.loop-head.out.items) c.args.node (entry_at (value_at (tree_of c.args.schema.now) c.args.levels) c.args.node u) c.loop-head.self c.in-Ok.head c.head.new.self _ (c.loop-head.invariant.read u stands) c.in-Ok.ensures.value c.if-head-eq0.true

pub entries-returns-then-not-weighs-clause-value : goal.entries-returns-then-not-weighs-clause-value
entries-returns-then-not-weighs-clause-value t c u stands =
    blocks_unlike (map item_of c.loop-head.out.items) (map item_of c.more_entries.new.out.items) c.args.node (entry_at (value_at (tree_of c.args.schema.now) c.args.levels) c.args.node u) c.loop-head.self c.in-Ok.head c.head.new.self c.more_entries.new.self _ c.weighs.result
    (c.loop-head.invariant.read u stands) c.in-Ok.ensures.value c.if-head-eq0.false (c.in-Ok-more_entries.ensures.value u stands) (c.weighs.ensures ∙ ap (λ (n : ℕ). weighs c.in-Ok.head.size (n - c.left.result)) c.left-before.ensures ∙ ap (λ (n : ℕ). weighs c.in-Ok.head.size (length c.head.new.self.left - n)) c.left.ensures) c.if-not-weighs.true

pub fields-loop-field-preserved : goal.fields-loop-field-preserved
fields-loop-field-preserved t c =
    let s = c.args.schema.now in
    let fs = c.args.fields.now in
    let i = c.loop-field.field-index in
    let f = c.field-item.result in
    record {
      read = λ ts stand. subst (λ (vs : List Value). FieldsRead s (drop (i + 1) fs) vs (value_at (tree_of s) c.args.levels) c.value.new.self (fields_at (value_at (tree_of s) c.args.levels) ts c.args.self.now)) (sym c.in_ok-push_value.ensures.ok)
          (fields_go s (drop i fs) (drop (i + 1) fs) f (map value_of c.loop-field.out.items) (value_at (tree_of s) c.args.levels) c.loop-field.self c.value.new.self (value_of c.in-Ok.value) _ (c.loop-field.invariant.read ts stand)
          (rest_is fs i f c.loop-field-test.true c.field-item.is) c.in-Ok.ensures.value);
      shrinks = omega (arith, c.in-Ok.ensures.shrinks, c.loop-field.invariant.shrinks);
    }

pub fields-returns-clause-value : goal.fields-returns-clause-value
fields-returns-clause-value t c ts stand =
    fields_done c.args.schema.now (drop c.loop-field.field-index c.args.fields.now) (map value_of c.loop-field.out.items) (value_at (tree_of c.args.schema.now) c.args.levels) c.loop-field.self _ (c.loop-field.invariant.read ts stand)
    (none_left c.args.fields.now c.loop-field.field-index c.loop-field-test.false)

pub fields-returns-in-Err-clause-value : goal.fields-returns-in-Err-clause-value
fields-returns-in-Err-clause-value t c ts stand =
    let fs = c.args.fields.now in
    let i = c.loop-field.field-index in
    fields_stop c.args.schema.now (drop i fs) (drop (i + 1) fs) c.field-item.result (map value_of c.loop-field.out.items) (value_at (tree_of c.args.schema.now) c.args.levels) c.loop-field.self c.in-Err.e _ (c.loop-field.invariant.read ts stand)
    (rest_is fs i c.field-item.result c.loop-field-test.true c.field-item.is) c.in-Err.ensures.value

pub fields-value-requires : goal.fields-value-requires
fields-value-requires t c =
    let fs = c.args.fields.now in
    let i = c.loop-field.field-index in (
      omega (arith, c.decreases),
      fields_site c.args.schema.now (drop i fs) (drop (i + 1) fs) c.field-item.result (map value_of c.loop-field.out.items) (value_at (tree_of c.args.schema.now) c.args.levels) c.loop-field.self _
          (c.loop-field.invariant.read c.requires.0 c.requires.1) (rest_is fs i c.field-item.result c.loop-field-test.true c.field-item.is),
    )

pub branch-returns-clause-value : goal.branch-returns-clause-value
branch-returns-clause-value t c ts stand =
    let s = c.args.schema.now in
    let inner = value_at (tree_of s) c.args.levels in
    let same = to_z-of_z w64 c.in-Ok.place c.in-Ok.ensures.fits in
    let a = rw same at c.in-Ok-try_from.ensures in
    let place = place_is c.in-Ok.place c.in-Ok-try_from.place a.0 a.1 in
    let at : slice_get c.args.branches.now c.in-Ok-try_from.place ≡ Some c.in-Some.branch.now = sym c.in-Some.ensures in
    let b = union_at_branch s c.args.branches.now ts inner c.args.node c.args.self.now c.in-Ok.place c.in-Ok-try_from.place c.long.new.self c.in-Some.branch.now place.0 place.1 c.in-Ok.ensures.value at stand in
    branch_made c.make_branch.result c.in-Ok-try_from.place (value_of c.in-Ok-value.value) (union_at inner c.args.node ts c.args.self.now) c.value.new.self
    (b.2 ∙ picked_read inner c.args.node c.in-Ok-try_from.place b.0 c.long.new.self c.value.new.self (value_of c.in-Ok-value.value) (c.in-Ok-value.ensures.value b.0 b.1)) c.make_branch.ensures.ok c.make_branch.ensures.want

pub branch-returns-in-Err-value-clause-value : goal.branch-returns-in-Err-value-clause-value
branch-returns-in-Err-value-clause-value t c ts stand =
    let s = c.args.schema.now in
    let inner = value_at (tree_of s) c.args.levels in
    let same = to_z-of_z w64 c.in-Ok.place c.in-Ok.ensures.fits in
    let a = rw same at c.in-Ok-try_from.ensures in
    let place = place_is c.in-Ok.place c.in-Ok-try_from.place a.0 a.1 in
    let at : slice_get c.args.branches.now c.in-Ok-try_from.place ≡ Some c.in-Some.branch.now = sym c.in-Some.ensures in
    let b = union_at_branch s c.args.branches.now ts inner c.args.node c.args.self.now c.in-Ok.place c.in-Ok-try_from.place c.long.new.self c.in-Some.branch.now place.0 place.1 c.in-Ok.ensures.value at stand in
    fails_along c.in-Err-value.e _ _ (sym b.2) (picked_stop inner c.args.node c.in-Ok-try_from.place b.0 c.long.new.self c.in-Err-value.e (c.in-Err-value.ensures.value b.0 b.1))

pub branch-returns-in_default-at-clause-value : goal.branch-returns-in_default-at-clause-value
branch-returns-in_default-at-clause-value t c ts stand =
    let s = c.args.schema.now in
    let inner = value_at (tree_of s) c.args.levels in
    let same = to_z-of_z w64 c.in-Ok.place c.in-Ok.ensures.fits in
    let a = rw same at c.in-Ok-try_from.ensures in
    let place = place_is c.in-Ok.place c.in-Ok-try_from.place a.0 a.1 in
    union_lacks s c.args.branches.now ts inner c.args.node c.args.self.now c.in-Ok.place c.in-Ok-try_from.place c.long.new.self place.0 place.1 c.in-Ok.ensures.value (sym c.in_default-at.ensures) stand

pub branch-value-requires : goal.branch-value-requires
branch-value-requires t c = (omega (arith, c.decreases), branch_site c.args.schema.now c.args.branches.now c.requires.0 c.in-Ok-try_from.place c.in-Some.branch.now (sym c.in-Some.ensures) c.requires.1)

pub body-returns-in-Ok-clause-value : goal.body-returns-in-Ok-clause-value
body-returns-in-Ok-clause-value t c t' stands =
    let s = c.args.schema.now in
    let e = subst (λ k. IsOfKind s c.args.place k) c.in-Array.is c.requires.kind in
    let some = room_is c.args.levels (is_nesting c.args.kind) (ap is_nesting c.in-Array.is) c.requires.room in
    body_is (tree_of s) c.args.levels c.args.node (resolved (tree_of s) t') (schema.array e.0) c.args.self.now some (resolves_is s c.args.place t' (schema.array e.0) stands e.1)
    ∙ giving_read (λ vs. shapes.items (values_of vs)) (all_blocks c.args.node (value_at (tree_of s) (c.args.levels - 1) e.0) c.args.self.now) (map value_of c.in-Ok.items.items) c.items.new.self (c.in-Ok.ensures.value e.0 e.2)
    ∙ ap (λ (v : Value). Ok (v, c.items.new.self)) (sym c.make_items.ensures)

pub body-returns-in-Err-clause-value : goal.body-returns-in-Err-clause-value
body-returns-in-Err-clause-value t c t' stands =
    let s = c.args.schema.now in
    let e = subst (λ k. IsOfKind s c.args.place k) c.in-Array.is c.requires.kind in
    let some = room_is c.args.levels (is_nesting c.args.kind) (ap is_nesting c.in-Array.is) c.requires.room in
    fails_along c.in-Err.e _ _ (sym (body_is (tree_of s) c.args.levels c.args.node (resolved (tree_of s) t') (schema.array e.0) c.args.self.now some (resolves_is s c.args.place t' (schema.array e.0) stands e.1)))
    (giving_stop (λ vs. shapes.items (values_of vs)) (all_blocks c.args.node (value_at (tree_of s) (c.args.levels - 1) e.0) c.args.self.now) c.in-Err.e (c.in-Err.ensures.value e.0 e.2))

pub body-returns-in-Ok-entries-clause-value : goal.body-returns-in-Ok-entries-clause-value
body-returns-in-Ok-entries-clause-value t c t' stands =
    let s = c.args.schema.now in
    let e = subst (λ k. IsOfKind s c.args.place k) c.in-Map.is c.requires.kind in
    let some = room_is c.args.levels (is_nesting c.args.kind) (ap is_nesting c.in-Map.is) c.requires.room in
    body_is (tree_of s) c.args.levels c.args.node (resolved (tree_of s) t') (schema.map e.0) c.args.self.now some (resolves_is s c.args.place t' (schema.map e.0) stands e.1)
    ∙ giving_read (λ es. shapes.entries (entries_of es)) (all_blocks c.args.node (entry_at (value_at (tree_of s) (c.args.levels - 1)) c.args.node e.0) c.args.self.now) (map item_of c.in-Ok-entries.entries.items) c.entries.new.self (c.in-Ok-entries.ensures.value e.0 e.2)
    ∙ ap (λ (v : Value). Ok (v, c.entries.new.self)) (sym c.make_entries.ensures)

pub body-returns-in-Err-entries-clause-value : goal.body-returns-in-Err-entries-clause-value
body-returns-in-Err-entries-clause-value t c t' stands =
    let s = c.args.schema.now in
    let e = subst (λ k. IsOfKind s c.args.place k) c.in-Map.is c.requires.kind in
    let some = room_is c.args.levels (is_nesting c.args.kind) (ap is_nesting c.in-Map.is) c.requires.room in
    fails_along c.in-Err-entries.e _ _ (sym (body_is (tree_of s) c.args.levels c.args.node (resolved (tree_of s) t') (schema.map e.0) c.args.self.now some (resolves_is s c.args.place t' (schema.map e.0) stands e.1)))
    (giving_stop (λ es. shapes.entries (entries_of es)) (all_blocks c.args.node (entry_at (value_at (tree_of s) (c.args.levels - 1)) c.args.node e.0) c.args.self.now) c.in-Err-entries.e (c.in-Err-entries.ensures.value e.0 e.2))

pub body-returns-in-Ok-fields-clause-value : goal.body-returns-in-Ok-fields-clause-value
body-returns-in-Ok-fields-clause-value t c t' stands =
    let s = c.args.schema.now in
    let e = subst (λ k. IsOfKind s c.args.place k) c.in-Record.is c.requires.kind in
    let some = room_is c.args.levels (is_nesting c.args.kind) (ap is_nesting c.in-Record.is) c.requires.room in
    let stand = c.fields.ensures e.0 e.1 e.2 in
    body_is (tree_of s) c.args.levels c.args.node (resolved (tree_of s) t') (schema.record_ e.0 e.1) c.args.self.now some (resolves_is s c.args.place t' (schema.record_ e.0 e.1) stands e.2)
    ∙ giving_read (λ vs. shapes.fields (values_of vs)) (fields_at (value_at (tree_of s) (c.args.levels - 1)) e.1 c.args.self.now) (map value_of c.in-Ok-fields.fields.items) c.fields-in-Record.new.self (c.in-Ok-fields.ensures.value e.1 stand)
    ∙ ap (λ (v : Value). Ok (v, c.fields-in-Record.new.self)) (sym c.make_fields.ensures)

pub body-returns-in-Err-fields-clause-value : goal.body-returns-in-Err-fields-clause-value
body-returns-in-Err-fields-clause-value t c t' stands =
    let s = c.args.schema.now in
    let e = subst (λ k. IsOfKind s c.args.place k) c.in-Record.is c.requires.kind in
    let some = room_is c.args.levels (is_nesting c.args.kind) (ap is_nesting c.in-Record.is) c.requires.room in
    let stand = c.fields.ensures e.0 e.1 e.2 in
    fails_along c.in-Err-fields.e _ _ (sym (body_is (tree_of s) c.args.levels c.args.node (resolved (tree_of s) t') (schema.record_ e.0 e.1) c.args.self.now some (resolves_is s c.args.place t' (schema.record_ e.0 e.1) stands e.2)))
    (giving_stop (λ vs. shapes.fields (values_of vs)) (fields_at (value_at (tree_of s) (c.args.levels - 1)) e.1 c.args.self.now) c.in-Err-fields.e (c.in-Err-fields.ensures.value e.1 stand))

pub body-returns-in-Union-clause-value : goal.body-returns-in-Union-clause-value
body-returns-in-Union-clause-value t c t' stands =
    let s = c.args.schema.now in
    let e = subst (λ k. IsOfKind s c.args.place k) c.in-Union.is c.requires.kind in
    let some = room_is c.args.levels (is_nesting c.args.kind) (ap is_nesting c.in-Union.is) c.requires.room in
    reads_along value_of c.branch-self.result _ _ c.branch-self.new.self
    (sym (body_is (tree_of s) c.args.levels c.args.node (resolved (tree_of s) t') (schema.union e.0) c.args.self.now some (resolves_is s c.args.place t' (schema.union e.0) stands e.1))) (c.branch-self.ensures.value e.0 (c.branches.ensures e.0 e.1))

pub body-fields-requires-in-Record : goal.body-fields-requires-in-Record
body-fields-requires-in-Record t c =
    let s = c.args.schema.now in
    let e = subst (λ k. IsOfKind s c.args.place k) c.in-Record.is c.requires.kind in
    let some = room_is c.args.levels (is_nesting c.args.kind) (ap is_nesting c.in-Record.is) c.requires.room in
    (omega (arith, c.decreases), (e.1, c.fields.ensures e.0 e.1 e.2))

pub value-returns-in-Ok-clause-value : goal.value-returns-in-Ok-clause-value
value-returns-in-Ok-clause-value t c t' stands =
    let s = c.args.schema.now in
    reads_along value_of c.body.result _ _ c.body.new.self
    (sym (node_enters (tree_of s) c.args.levels t' c.args.self.now c.enter.new.self (is_nesting c.kind-kind.result) c.is_too_deep.result c.in-Ok.node c.is_too_deep.ensures (nests_is s c.args.place t' c.kind-kind.result c.kind-kind.ensures.is stands) c.in-Ok.ensures.value))
    (c.body.ensures.value t' stands)

pub value-returns-in-Err-clause-value : goal.value-returns-in-Err-clause-value
value-returns-in-Err-clause-value t c t' stands =
    let s = c.args.schema.now in
    node_stops (tree_of s) c.args.levels t' c.args.self.now (is_nesting c.kind-kind.result) c.is_too_deep.result c.in-Err.e c.is_too_deep.ensures (nests_is s c.args.place t' c.kind-kind.result c.kind-kind.ensures.is stands) c.in-Err.ensures.value
