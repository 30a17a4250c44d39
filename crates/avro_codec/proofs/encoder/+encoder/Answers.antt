use Rattle.std.proofs.Common.{◌+◌, ◌-◌, length, drop, subst, arith}
use Rattle.avro_schema.specs.Nodes.{Stands}
use Rattle.avro_schema.specs.declared.parts.Field.{Field}
use Rattle.avro_codec.proofs.EncodeLemmas.{items_stopped, items_ended, items_written, entries_stopped, entries_ended, entries_written, fields_stopped, fields_ended, fields_lacking}
use Rattle.avro_value.proofs.NodeLemmas.{rest_is, none_left, some_there}
use Rattle.avro_codec.proofs.encoder.+encoder.Goals as goal

pub put_items-returns-in-Err-clause-verdict : goal.put_items-returns-in-Err-clause-verdict
put_items-returns-in-Err-clause-verdict t c =
    let xs = c.args.values.now in
    let i = c.loop-value.value-index in
    items_stopped c.args.schema.now c.args.levels c.args.next c.in_ok-below.below c.args.node c.in-Some.item c.loop-value.next xs (drop i xs) (drop (i + 1) xs) c.value-item.result _ _ c.in-Err.e
    c.in_ok-below.ensures.verdict c.in-Some.ensures c.loop-value.invariant (rest_is xs i c.value-item.result c.loop-value-test.true c.value-item.is) c.in-Err.ensures.verdict

pub put_items-returns-clause-verdict : goal.put_items-returns-clause-verdict
put_items-returns-clause-verdict t c =
    let xs = c.args.values.now in
    items_ended c.args.schema.now c.args.levels c.args.next c.in_ok-below.below c.args.node c.in-Some.item c.loop-value.next xs (drop c.loop-value.value-index xs) _ _
    c.in_ok-below.ensures.verdict c.in-Some.ensures c.loop-value.invariant (none_left xs c.loop-value.value-index c.loop-value-test.false)

pub put_items-returns-clause-bytes : goal.put_items-returns-clause-bytes
put_items-returns-clause-bytes t c =
    let xs = c.args.values.now in
    items_written c.args.schema.now c.in_ok-below.below c.args.next c.in-Some.item c.loop-value.next xs (drop c.loop-value.value-index xs) c.args.out.now.items c.loop-value.out.items _ (length xs - 1)
    (some_there xs c.is_empty.result c.is_empty.ensures c.if-is_empty.false) c.loop-value.invariant (none_left xs c.loop-value.value-index c.loop-value-test.false) c.in_ok-push-2.ensures.items

pub put_entries-returns-in-Err-clause-verdict : goal.put_entries-returns-in-Err-clause-verdict
put_entries-returns-in-Err-clause-verdict t c =
    let xs = c.args.entries.now in
    let i = c.loop-entry.entry-index in
    entries_stopped c.args.schema.now c.args.levels c.args.next c.in_ok-below.below c.args.node c.in-Some.value c.loop-entry.next xs (drop i xs) (drop (i + 1) xs) c.entry-item.result _ _ c.in-Err.e
    c.in_ok-below.ensures.verdict c.in-Some.ensures c.loop-entry.invariant (rest_is xs i c.entry-item.result c.loop-entry-test.true c.entry-item.is) c.in-Err.ensures.verdict

pub put_entries-returns-clause-verdict : goal.put_entries-returns-clause-verdict
put_entries-returns-clause-verdict t c =
    let xs = c.args.entries.now in
    entries_ended c.args.schema.now c.args.levels c.args.next c.in_ok-below.below c.args.node c.in-Some.value c.loop-entry.next xs (drop c.loop-entry.entry-index xs) _ _
    c.in_ok-below.ensures.verdict c.in-Some.ensures c.loop-entry.invariant (none_left xs c.loop-entry.entry-index c.loop-entry-test.false)

pub put_entries-returns-clause-bytes : goal.put_entries-returns-clause-bytes
put_entries-returns-clause-bytes t c =
    let xs = c.args.entries.now in
    entries_written c.args.schema.now c.in_ok-below.below c.args.next c.in-Some.value c.loop-entry.next xs (drop c.loop-entry.entry-index xs) c.args.out.now.items c.loop-entry.out.items _ (length xs - 1)
    (some_there xs c.is_empty.result c.is_empty.ensures c.if-is_empty.false) c.loop-entry.invariant (none_left xs c.loop-entry.entry-index c.loop-entry-test.false) c.in_ok-push-2.ensures.items

pub put_fields-returns-in_default-clause-verdict : goal.put_fields-returns-in_default-clause-verdict
put_fields-returns-in_default-clause-verdict t c = fields_lacking c.args.schema.now c.args.levels c.args.next c.in_ok-below.below c.args.node c.args.values.now c.in_ok-below.ensures.verdict c.in_default.ensures.fields

pub put_fields-returns-in-Err-clause-verdict : goal.put_fields-returns-in-Err-clause-verdict
put_fields-returns-in-Err-clause-verdict t c =
    let xs = c.args.values.now in
    let fs = c.in-Some.fields.now in
    let i = c.loop-index.index in
    fields_stopped c.args.schema.now c.args.levels c.args.next c.in_ok-below.below c.args.node c.loop-index.next fs (drop i fs) (drop (i + 1) fs) c.index-fields-index.result xs (drop i xs) (drop (i + 1) xs) c.index-values-index.result _ _ c.in-Err.e
    c.in_ok-below.ensures.verdict c.in-Some.ensures.fields c.loop-index.invariant (rest_is xs i c.index-values-index.result c.loop-index-test.true c.index-values-index.is) (rest_is fs i c.index-fields-index.result (omega (arith, c.in-Some.ensures.count)) c.index-fields-index.is)
    (λ u stands. c.in-Err.ensures.verdict u (subst (λ (f : Field). Stands c.args.schema.now f.node u) c.index-fields-index.is stands))

pub put_fields-returns-clause-verdict : goal.put_fields-returns-clause-verdict
put_fields-returns-clause-verdict t c =
    let xs = c.args.values.now in
    let fs = c.in-Some.fields.now in
    let i = c.loop-index.index in
    fields_ended c.args.schema.now c.args.levels c.args.next c.in_ok-below.below c.args.node c.loop-index.next fs (drop i fs) xs (drop i xs) _ _
    c.in_ok-below.ensures.verdict c.in-Some.ensures.fields c.loop-index.invariant (none_left xs i c.loop-index-test.false)
