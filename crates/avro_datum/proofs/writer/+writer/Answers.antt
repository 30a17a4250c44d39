use Rattle.std.proofs.Common.{◌≡◌, ◌++◌, ◌∷◌, [], ◌+◌, ℕ, List, Option, Ok, Err, drop, map, sym, ap, ◌∙◌, subst, arith}
use Rattle.json.specs.Token as token
use Rattle.json.specs.Token.{Token}
use Rattle.avro_schema.specs.Types.{AvroType, resolved, branch_name}
use Rattle.avro_schema.specs.Nodes.{Stands, StandForFields, tree_of}
use Rattle.avro_schema.specs.declared.parts.Field.{Field}
use Rattle.avro_datum.specs.declared.datum.Datum.{Datum}
use Rattle.avro_datum.specs.declared.datum.MapItem.{MapItem}
use Rattle.avro_value.specs.Value as shapes
use Rattle.avro_datum.specs.Data.{value_of, item_of}
use Rattle.avro_value.specs.Value.{values_of, entries_of}
use Rattle.avro_value.specs.Picks.{Picks}
use Rattle.avro_datum.specs.Shown.{shown, values_in}
use Rattle.avro_datum.proofs.DatumLemmas.{fields_value, items_value, entries_value}
use Rattle.avro_value.proofs.NodeLemmas.{rest_is, none_left}
use Rattle.avro_value.proofs.PartLemmas.{null_resolved}
use Rattle.avro_datum.proofs.ShownLemmas.{shows_along, shows_behind, shows_between, fails_between, null_labelled, named_labelled, items_end, entries_more, entries_fail, entries_end, fields_more, items_shown, entries_shown, fields_shown, fields_lacking, first_stands}
use Rattle.avro_datum.proofs.TypedLemmas.{value_more, values_end, entry_more, entries_end as entries_typed, text_is}
use Rattle.avro_datum.proofs.writer.+writer.Goals as goal

pub put_labelled-returns-then-is_null-clause-shown : goal.put_labelled-returns-then-is_null-clause-shown
put_labelled-returns-then-is_null-clause-shown t c u stands =
    let null = sym (null_resolved (tree_of c.args.schema.now) u) ∙ (sym (c.is_null.ensures u stands) ∙ c.if-is_null.true) in
    shows_along c.put_node.result _ _ c.args.out.now.tokens c.put_node.new.out.tokens (null_labelled u _ null) (c.put_node.ensures.shown u stands)

pub put_labelled-returns-clause-shown : goal.put_labelled-returns-clause-shown
put_labelled-returns-clause-shown t c u stands =
    let named = sym (null_resolved (tree_of c.args.schema.now) u) ∙ (sym (c.is_null.ensures u stands) ∙ c.if-is_null.false) in
    let opened = c.begin_object.new.self.tokens in
    let key = c.in_ok-key.ensures.ok ∙ ap (λ (name : List ℕ). opened ++ token.key name ∷ []) (c.branch_name.ensures u stands) in
    shows_along (Ok c.in-Ok.behind) _ _ c.args.out.now.tokens c.end_object.new.self.tokens (named_labelled u _ named)
    (shows_between c.in-Ok.behind token.begin_object token.end_object _ c.args.out.now.tokens opened c.put_node-2.new.out.tokens c.end_object.new.self.tokens c.in_ok-begin_object.ensures.ok
    (shows_behind (Ok c.in-Ok.behind) (token.key (branch_name u) ∷ []) _ opened c.key.new.self.tokens c.put_node-2.new.out.tokens key (c.in-Ok.ensures.shown u stands)) c.in_ok-end_object.ensures.ok)

pub put_items-returns-in-Err-clause-shown : goal.put_items-returns-in-Err-clause-shown
put_items-returns-in-Err-clause-shown t c =
    items_shown c.args.schema.now c.args.levels c.args.next c.in_ok-below.below c.args.node c.in-Some.item c.args.values.now (Err c.in-Err.e) [] [] c.in_ok-below.ensures.verdict c.in-Some.ensures
    (λ u stands. fails_between c.in-Err.e token.begin_array token.end_array _ (c.in-Err.ensures.shown u stands))

pub put_items-returns-clause-shown : goal.put_items-returns-clause-shown
put_items-returns-clause-shown t c =
    items_shown c.args.schema.now c.args.levels c.args.next c.in_ok-below.below c.args.node c.in-Some.item c.args.values.now (Ok c.in-Ok.behind) c.args.out.now.tokens c.end_array.new.self.tokens c.in_ok-below.ensures.verdict c.in-Some.ensures
    (λ u stands. shows_between c.in-Ok.behind token.begin_array token.end_array _ c.args.out.now.tokens c.begin_array.new.self.tokens c.put_values.new.out.tokens c.end_array.new.self.tokens
    c.in_ok-begin_array.ensures.ok (c.in-Ok.ensures.shown u stands) c.in_ok-end_array.ensures.ok)

pub put_fields-returns-in_default-clause-shown : goal.put_fields-returns-in_default-clause-shown
put_fields-returns-in_default-clause-shown t c = fields_lacking c.args.schema.now c.args.levels c.args.next c.in_ok-below.below c.args.node c.args.values.now c.in_ok-below.ensures.verdict c.in_default.ensures.fields

pub put_fields-returns-in-Err-clause-shown : goal.put_fields-returns-in-Err-clause-shown
put_fields-returns-in-Err-clause-shown t c =
    fields_shown c.args.schema.now c.args.levels c.args.next c.in_ok-below.below c.args.node c.in-Some.fields.now c.args.values.now (Err c.in-Err.e) [] [] c.in_ok-below.ensures.verdict c.in-Some.ensures.fields
    (λ ts stand. fails_between c.in-Err.e token.begin_object token.end_object _ (c.in-Err.ensures.shown ts stand))

pub put_fields-returns-clause-shown : goal.put_fields-returns-clause-shown
put_fields-returns-clause-shown t c =
    fields_shown c.args.schema.now c.args.levels c.args.next c.in_ok-below.below c.args.node c.in-Some.fields.now c.args.values.now (Ok c.in-Ok.behind) c.args.out.now.tokens c.end_object.new.self.tokens c.in_ok-below.ensures.verdict c.in-Some.ensures.fields
    (λ ts stand. shows_between c.in-Ok.behind token.begin_object token.end_object _ c.args.out.now.tokens c.begin_object.new.self.tokens c.put_members.new.out.tokens c.end_object.new.self.tokens
    c.in_ok-begin_object.ensures.ok (c.in-Ok.ensures.shown ts stand) c.in_ok-end_object.ensures.ok)

pub put_entries-put_pairs-requires : goal.put_entries-put_pairs-requires
put_entries-put_pairs-requires t c =
    let picks = subst (λ (o : Option ℕ). (u : AvroType) → Stands c.args.schema.now c.args.node u → Picks c.args.schema.now o (values_in (resolved (tree_of c.args.schema.now) u) (entries_of (map item_of c.args.entries.now)))) c.in-Some.is c.in_ok-item.ensures.value in
    let p = picks c.requires.0 c.requires.1 in
    (omega (arith, c.in_ok-below.ensures.below), (p.0, p.2))

pub put_entries-returns-clause-shown : goal.put_entries-returns-clause-shown
put_entries-returns-clause-shown t c =
    let picks = subst (λ (o : Option ℕ). (u : AvroType) → Stands c.args.schema.now c.args.node u → Picks c.args.schema.now o (values_in (resolved (tree_of c.args.schema.now) u) (entries_of (map item_of c.args.entries.now)))) c.in-Some.is c.in_ok-item.ensures.value in
    entries_shown c.args.schema.now c.args.levels c.args.next c.in_ok-below.below c.args.node c.in-Some.item c.args.entries.now (Ok c.in-Ok.behind) c.args.out.now.tokens c.end_object.new.self.tokens c.in_ok-below.ensures.verdict picks
    (λ u stands. shows_between c.in-Ok.behind token.begin_object token.end_object _ c.args.out.now.tokens c.begin_object.new.self.tokens c.put_pairs.new.out.tokens c.end_object.new.self.tokens
    c.in_ok-begin_object.ensures.ok (c.in-Ok.ensures.shown u stands) c.in_ok-end_object.ensures.ok)

pub put_values-returns-clause-shown : goal.put_values-returns-clause-shown
put_values-returns-clause-shown t c =
    let xs = c.args.values.now in
    items_end c.args.schema.now c.args.levels c.args.item c.args.next c.loop-value.next xs (drop c.loop-value.value-index xs) c.args.out.now.tokens c.loop-value.out.tokens c.loop-value.invariant.shown (none_left xs c.loop-value.value-index c.loop-value-test.false)

pub put_pairs-loop-entry-preserved : goal.put_pairs-loop-entry-preserved
put_pairs-loop-entry-preserved t c =
    let xs = c.args.entries.now in
    let i = c.loop-entry.entry-index in
    let x = c.entry-item.result in
    record {
      shown = entries_more c.args.schema.now c.args.levels c.args.item c.args.next c.loop-entry.next c.in-Ok.behind xs (drop i xs) (drop (i + 1) xs) x c.args.out.now.tokens c.loop-entry.out.tokens c.key.new.self.tokens c.put_node.new.out.tokens
          c.loop-entry.invariant.shown (rest_is xs i x c.loop-entry-test.true c.entry-item.is)
          (c.in_ok-key.ensures.ok ∙ ap (λ (key : List ℕ). c.loop-entry.out.tokens ++ token.key key ∷ []) c.as_str.ensures) c.in-Ok.ensures.shown;
      typed = entry_more xs i x c.loop-entry-test.true c.entry-item.is (text_is c.as_str.result.now x.key c.as_str.ensures c.as_str.utf8) c.in-Ok.ensures.typed c.loop-entry.invariant.typed;
      before = c.put_node.ensures.before ∙ (c.in_ok-key.ensures.room.0 ∙ c.loop-entry.invariant.before);
    }

pub put_pairs-returns-in-Err-clause-shown : goal.put_pairs-returns-in-Err-clause-shown
put_pairs-returns-in-Err-clause-shown t c =
    let xs = c.args.entries.now in
    let i = c.loop-entry.entry-index in
    let x = c.entry-item.result in
    entries_fail c.args.schema.now c.args.levels c.args.item c.args.next c.loop-entry.next xs (drop i xs) (drop (i + 1) xs) x c.args.out.now.tokens c.loop-entry.out.tokens c.in-Err.e
    c.loop-entry.invariant.shown (rest_is xs i x c.loop-entry-test.true c.entry-item.is) c.in-Err.ensures.shown

pub put_pairs-returns-clause-shown : goal.put_pairs-returns-clause-shown
put_pairs-returns-clause-shown t c =
    let xs = c.args.entries.now in
    entries_end c.args.schema.now c.args.levels c.args.item c.args.next c.loop-entry.next xs (drop c.loop-entry.entry-index xs) c.args.out.now.tokens c.loop-entry.out.tokens c.loop-entry.invariant.shown (none_left xs c.loop-entry.entry-index c.loop-entry-test.false)

pub put_members-put_node-requires : goal.put_members-put_node-requires
put_members-put_node-requires t c =
    let fs = c.args.fields.now in
    let i = c.loop-index.index in
    let f = c.index-fields-index.result in
    let here = c.loop-index.invariant.shown c.requires.stand.0 c.requires.stand.1 in
    (omega arith, first_stands c.args.schema.now f (drop (i + 1) fs) here.0 (subst (λ (l : List Field). StandForFields c.args.schema.now l here.0) (rest_is fs i f (omega (arith, c.requires.count)) c.index-fields-index.is) here.1))

pub put_members-loop-index-preserved : goal.put_members-loop-index-preserved
put_members-loop-index-preserved t c =
    let xs = c.args.values.now in
    let fs = c.args.fields.now in
    let i = c.loop-index.index in
    let x = c.index-values-index.result in
    let f = c.index-fields-index.result in
    record {
      shown = fields_more c.args.schema.now c.args.levels c.args.next c.loop-index.next c.in-Ok.behind fs (drop i fs) (drop (i + 1) fs) f xs (drop i xs) (drop (i + 1) xs) x c.args.out.now.tokens c.loop-index.out.tokens c.key.new.self.tokens c.put_node.new.out.tokens
          c.loop-index.invariant.shown (rest_is fs i f (omega (arith, c.requires.count)) c.index-fields-index.is) (rest_is xs i x c.loop-index-test.true c.index-values-index.is)
          (c.in_ok-key.ensures.ok ∙ ap (λ (key : List ℕ). c.loop-index.out.tokens ++ token.key key ∷ []) c.as_str.ensures) c.in-Ok.ensures.shown;
      typed = value_more xs i x c.loop-index-test.true c.index-values-index.is c.in-Ok.ensures.typed c.loop-index.invariant.typed;
      before = c.put_node.ensures.before ∙ (c.in_ok-key.ensures.room.0 ∙ c.loop-index.invariant.before);
    }

pub put_node-returns-in-Fields-clause-shown : goal.put_node-returns-in-Fields-clause-shown
put_node-returns-in-Fields-clause-shown t c u stands =
    let is : value_of c.args.datum.now ≡ shapes.fields (values_of (map value_of c.as_slice-in-Fields.result.now)) =
    ap value_of c.in-Fields.is ∙ (fields_value c.in-Fields.values ∙ ap (λ (xs : List Datum). shapes.fields (values_of (map value_of xs))) (sym c.as_slice-in-Fields.ensures)) in
    shows_along c.put_fields.result _ _ c.args.out.now.tokens c.put_fields.new.out.tokens (ap (shown (tree_of c.args.schema.now) c.args.levels u c.args.next) is) (c.put_fields.ensures.shown u stands)

pub put_node-returns-in-Items-clause-shown : goal.put_node-returns-in-Items-clause-shown
put_node-returns-in-Items-clause-shown t c u stands =
    let is : value_of c.args.datum.now ≡ shapes.items (values_of (map value_of c.as_slice-in-Items.result.now)) =
    ap value_of c.in-Items.is ∙ (items_value c.in-Items.values ∙ ap (λ (xs : List Datum). shapes.items (values_of (map value_of xs))) (sym c.as_slice-in-Items.ensures)) in
    shows_along c.put_items.result _ _ c.args.out.now.tokens c.put_items.new.out.tokens (ap (shown (tree_of c.args.schema.now) c.args.levels u c.args.next) is) (c.put_items.ensures.shown u stands)

pub put_node-returns-in-Entries-clause-shown : goal.put_node-returns-in-Entries-clause-shown
put_node-returns-in-Entries-clause-shown t c u stands =
    let is : value_of c.args.datum.now ≡ shapes.entries (entries_of (map item_of c.as_slice-in-Entries.result.now)) =
    ap value_of c.in-Entries.is ∙ (entries_value c.in-Entries.entries ∙ ap (λ (xs : List MapItem). shapes.entries (entries_of (map item_of xs))) (sym c.as_slice-in-Entries.ensures)) in
    shows_along c.put_entries.result _ _ c.args.out.now.tokens c.put_entries.new.out.tokens (ap (shown (tree_of c.args.schema.now) c.args.levels u c.args.next) is) (c.put_entries.ensures.shown u stands)

pub put_values-returns-clause-typed : goal.put_values-returns-clause-typed
put_values-returns-clause-typed t c = values_end c.args.values.now c.loop-value.value-index c.loop-value-test.false c.loop-value.invariant.typed

pub put_members-returns-clause-typed : goal.put_members-returns-clause-typed
put_members-returns-clause-typed t c = values_end c.args.values.now c.loop-index.index c.loop-index-test.false c.loop-index.invariant.typed

pub put_pairs-returns-clause-typed : goal.put_pairs-returns-clause-typed
put_pairs-returns-clause-typed t c = entries_typed c.args.entries.now c.loop-entry.entry-index c.loop-entry-test.false c.loop-entry.invariant.typed
