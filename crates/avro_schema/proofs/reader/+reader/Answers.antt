use Rattle.std.proofs.Common.{◌≡◌, ◌<◌, ◌++◌, [], ◌∷◌, ℕ, List, Result, OnOk, refl, sym, ap, ◌∙◌, subst, arith}
use Rattle.std.specs.Prelude.{codes}
use Rattle.std.proofs.Math.ListN.{drop_of_length-le}
use Rattle.avro_names.specs.Names.{namespace_of, are_parts}
use Rattle.avro_schema.specs.Reading.{reader}
use Rattle.json_span.specs.Parts.{last_member}
use Rattle.avro_schema.specs.Building.{names_of, names_of_fields, FieldsSoFar, BranchesSoFar}
use Rattle.avro_schema.specs.Forms.{types_of, names_of_branches}
use Rattle.avro_schema.specs.declared.parts.Form.TheVariants.{Union, Record}
use Rattle.avro_schema.specs.declared.parts.Field.{Field}
use Rattle.avro_schema.proofs.NamedLemmas.{tells_along}
use Rattle.avro_names.proofs.ListLemmas.{next_item_at}
use Rattle.avro_names.proofs.Outcomes.{why_along}
use Rattle.avro_schema.proofs.Closing.{named_built, named_inside}
use Rattle.avro_schema.proofs.FieldLoops.{names-push, fields_first, fields_refused, fields_more, fields_done}
use Rattle.avro_schema.proofs.FieldLoops.{list_there, fields_of_list, fields_along}
use Rattle.avro_schema.proofs.BranchLoops.{branches_first, branches_refused, branches_more, branch_repeated, branch_made, branch_named, made_inside}
use Rattle.avro_names.proofs.NameLists.{not_true, not_false}
use Rattle.avro_schema.proofs.TypeReading as reading
use Rattle.avro_schema.proofs.PartReading.{union_tells, union_why, record_why, record_tells}
use Rattle.avro_names.specs.declared.error.SchemaNo.{SchemaNo}
use Rattle.avro_schema.proofs.reader.+reader.Goals as goal
use Rattle.avro_schema.proofs.reader.+reader.Goals.{read_field-in-Ok-push, read_field-in-Err-push}

-- ---- branches

pub read_branch-add_branch-requires-clause-node : goal.read_branch-add_branch-requires-clause-node
read_branch-add_branch-requires-clause-node t c = made_inside _ c.args.parts.now c.read_type.new.parts c.in-Ok.branch (c.in-Ok.ensures c.requires.1.1.1.0.0 c.requires.1.1.1.0.1)

pub read_branch-returns-in-Ok-false-clause-err : goal.read_branch-returns-in-Ok-false-clause-err
read_branch-returns-in-Ok-false-clause-err t c = λ j h.
    branch_repeated (reader c.args.canonical c.args.levels) c.args.namespace.now j c.args.parts.now c.read_type.new.parts c.args.branches.now.items c.in-Ok.branch c.args.names.now (c.in-Ok.ensures j h) c.requires.1.1.1.1.1
    (not_false _ _ c.in-Ok-false.ensures.added c.in-Ok-false.field-0-test)

pub read_branch-returns-in-Ok-push-clause-ok : goal.read_branch-returns-in-Ok-push-clause-ok
read_branch-returns-in-Ok-push-clause-ok t c = λ j h.
    branch_made (reader c.args.canonical c.args.levels) c.args.namespace.now j c.args.parts.now c.read_type.new.parts c.args.branches.now.items c.in-Ok.branch c.args.names.now (c.in-Ok.ensures j h) c.requires.1.1.1.1.1 c.push.new.self.items
    (not_true _ _ c.in-Ok-true.ensures.added c.in-Ok-true.field-0-test) c.in-Ok-push.ensures.items

pub read_branch-returns-in-Ok-push-clause-names : goal.read_branch-returns-in-Ok-push-clause-names
read_branch-returns-in-Ok-push-clause-names t c =
    let m = c.in-Ok.ensures c.requires.1.1.1.0.0 c.requires.1.1.1.0.1 in
    branch_named (reader c.args.canonical c.args.levels) c.args.namespace.now c.requires.1.1.1.0.0 c.args.parts.now c.read_type.new.parts c.args.branches.now.items c.in-Ok.branch c.args.names.now m c.requires.1.1.1.1.1 c.push.new.self.items
    c.add_branch.new.seen c.requires.1.1.1.1.0 c.in-Ok-true.ensures.seen c.in-Ok-push.ensures.items

-- ---- by the word

pub read_by_word-returns-then-eq : goal.read_by_word-returns-then-eq
read_by_word-returns-then-eq t c = λ ms h.
    tells_along _ _ c.args.parts.now c.read_record.new.parts c.read_record.result
    (reading.is_record c.args.canonical (reader c.args.canonical c.args.levels) (names_of c.args.parts.now) c.args.namespace.now ms c.args.word.now (sym c.eq.ensures ∙ c.if-eq.true)) (c.read_record.ensures ms h)

pub read_by_word-returns-then-eq-2 : goal.read_by_word-returns-then-eq-2
read_by_word-returns-then-eq-2 t c = λ ms h.
    tells_along _ _ c.args.parts.now c.read_enum.new.parts c.read_enum.result
    (reading.is_enum c.args.canonical (reader c.args.canonical c.args.levels) (names_of c.args.parts.now) c.args.namespace.now ms c.args.word.now (sym c.eq.ensures ∙ c.if-eq.false) (sym c.eq-2.ensures ∙ c.if-eq-2.true)) (c.read_enum.ensures ms h)

pub read_by_word-read_part-requires : goal.read_by_word-read_part-requires
read_by_word-read_part-requires t c = (omega (arith, c.requires.1.0), (c.requires.1.1.0, (last_member (codes "items") c.requires.1.1.1.0, c.member.ensures.value c.requires.1.1.1.0 c.requires.1.1.1.1)))

pub read_by_word-returns-in-Ok : goal.read_by_word-returns-in-Ok
read_by_word-returns-in-Ok t c = λ ms h.
    tells_along _ _ c.args.parts.now c.add.new.self c.add.result
    (reading.is_array c.args.canonical (reader c.args.canonical c.args.levels) (names_of c.args.parts.now) c.args.namespace.now ms c.args.word.now (sym c.eq.ensures ∙ c.if-eq.false) (sym c.eq-2.ensures ∙ c.if-eq-2.false) (sym c.eq-3.ensures ∙ c.if-eq-3.true))
    (reading.array_tells (reader c.args.canonical c.args.levels) c.args.namespace.now ms c.args.parts.now c.read_part.new.parts c.add.new.self c.in-Ok.items c.add.result
    (c.in-Ok.ensures (last_member (codes "items") ms) (c.member.ensures.value ms h)) c.add.ensures.ok c.add.ensures.want c.add.ensures.definitions)

pub read_by_word-returns-in-Err : goal.read_by_word-returns-in-Err
read_by_word-returns-in-Err t c = λ ms h.
    why_along _ _ c.in-Err.e
    (reading.is_array c.args.canonical (reader c.args.canonical c.args.levels) (names_of c.args.parts.now) c.args.namespace.now ms c.args.word.now (sym c.eq.ensures ∙ c.if-eq.false) (sym c.eq-2.ensures ∙ c.if-eq-2.false) (sym c.eq-3.ensures ∙ c.if-eq-3.true))
    (reading.array_why (reader c.args.canonical c.args.levels) (names_of c.args.parts.now) c.args.namespace.now ms c.in-Err.e (c.in-Err.ensures (last_member (codes "items") ms) (c.member.ensures.value ms h)))

pub read_by_word-read_part-requires-then-eq-4 : goal.read_by_word-read_part-requires-then-eq-4
read_by_word-read_part-requires-then-eq-4 t c = (omega (arith, c.requires.1.0), (c.requires.1.1.0, (last_member (codes "values") c.requires.1.1.1.0, c.member-then-eq-4.ensures.value c.requires.1.1.1.0 c.requires.1.1.1.1)))

pub read_by_word-returns-in-Ok-read_part : goal.read_by_word-returns-in-Ok-read_part
read_by_word-returns-in-Ok-read_part t c = λ ms h.
    tells_along _ _ c.args.parts.now c.add-in-Ok-read_part.new.self c.add-in-Ok-read_part.result
    (reading.is_map c.args.canonical (reader c.args.canonical c.args.levels) (names_of c.args.parts.now) c.args.namespace.now ms c.args.word.now (sym c.eq.ensures ∙ c.if-eq.false) (sym c.eq-2.ensures ∙ c.if-eq-2.false) (sym c.eq-3.ensures ∙ c.if-eq-3.false) (sym c.eq-4.ensures ∙ c.if-eq-4.true))
    (reading.map_tells (reader c.args.canonical c.args.levels) c.args.namespace.now ms c.args.parts.now c.read_part-then-eq-4.new.parts c.add-in-Ok-read_part.new.self c.in-Ok-read_part.values c.add-in-Ok-read_part.result
    (c.in-Ok-read_part.ensures (last_member (codes "values") ms) (c.member-then-eq-4.ensures.value ms h)) c.add-in-Ok-read_part.ensures.ok c.add-in-Ok-read_part.ensures.want c.add-in-Ok-read_part.ensures.definitions)

pub read_by_word-returns-in-Err-read_part : goal.read_by_word-returns-in-Err-read_part
read_by_word-returns-in-Err-read_part t c = λ ms h.
    why_along _ _ c.in-Err-read_part.e
    (reading.is_map c.args.canonical (reader c.args.canonical c.args.levels) (names_of c.args.parts.now) c.args.namespace.now ms c.args.word.now (sym c.eq.ensures ∙ c.if-eq.false) (sym c.eq-2.ensures ∙ c.if-eq-2.false) (sym c.eq-3.ensures ∙ c.if-eq-3.false) (sym c.eq-4.ensures ∙ c.if-eq-4.true))
    (reading.map_why (reader c.args.canonical c.args.levels) (names_of c.args.parts.now) c.args.namespace.now ms c.in-Err-read_part.e (c.in-Err-read_part.ensures (last_member (codes "values") ms) (c.member-then-eq-4.ensures.value ms h)))

pub read_by_word-returns-then-eq-5 : goal.read_by_word-returns-then-eq-5
read_by_word-returns-then-eq-5 t c = λ ms h.
    tells_along _ _ c.args.parts.now c.read_fixed.new.parts c.read_fixed.result
    (reading.is_fixed c.args.canonical (reader c.args.canonical c.args.levels) (names_of c.args.parts.now) c.args.namespace.now ms c.args.word.now (sym c.eq.ensures ∙ c.if-eq.false) (sym c.eq-2.ensures ∙ c.if-eq-2.false) (sym c.eq-3.ensures ∙ c.if-eq-3.false) (sym c.eq-4.ensures ∙ c.if-eq-4.false) (sym c.eq-5.ensures ∙ c.if-eq-5.true))
    (c.read_fixed.ensures ms h)

pub read_by_word-returns : goal.read_by_word-returns
read_by_word-returns t c = λ ms h.
    tells_along _ _ c.args.parts.now c.type_by_name.new.parts c.type_by_name.result
    (reading.is_name c.args.canonical (reader c.args.canonical c.args.levels) (names_of c.args.parts.now) c.args.namespace.now ms c.args.word.now (sym c.eq.ensures ∙ c.if-eq.false) (sym c.eq-2.ensures ∙ c.if-eq-2.false) (sym c.eq-3.ensures ∙ c.if-eq-3.false) (sym c.eq-4.ensures ∙ c.if-eq-4.false) (sym c.eq-5.ensures ∙ c.if-eq-5.false))
    c.type_by_name.ensures

-- ---- fields

pub read_field-part_name-requires : goal.read_field-part_name-requires
read_field-part_name-requires t c =
    let o = reading.object_there c.args.tree.now c.args.node c.requires.1.1.1.0.0 c.requires.1.1.1.0.1 (c.if-not-is_object.ensures c.requires.1.1.1.0.0 c.requires.1.1.1.0.1) in
    (last_member (codes "name") o.0, c.member.ensures.value o.0 o.1)

pub read_field-read_part-requires : goal.read_field-read_part-requires
read_field-read_part-requires t c =
    let o = reading.object_there c.args.tree.now c.args.node c.requires.1.1.1.0.0 c.requires.1.1.1.0.1 (c.if-not-is_object.ensures c.requires.1.1.1.0.0 c.requires.1.1.1.0.1) in
    (omega (arith, c.requires.1.0), (c.requires.1.1.0, (last_member (codes "type") o.0, c.member-2.ensures.value o.0 o.1)))

pub read_field-returns-after-push-clause-names : goal.read_field-returns-after-push-clause-names
read_field-returns-after-push-clause-names t c =
    let vs = c.args.fields.now.items in
    let v : Field = record { name = c.in-Ok-from_str.name; node = c.in-Ok-read_part.node } in
    let P : Result Unit SchemaNo → Type 0 = λ r. OnOk r (c.part_name.new.seen ≡ names_of_fields c.push.new.self.items) in
    let named : c.part_name.new.seen ≡ names_of_fields (vs ++ v ∷ []) =
    c.in-Ok.ensures.seen ∙ ap (λ ns. ns ++ c.in-Ok.name.now ∷ []) c.requires.1.1.1.1 ∙ ap (λ n. names_of_fields vs ++ n ∷ []) (sym c.in-Ok-from_str.ensures) ∙ sym (names-push vs v) in
    elim c.match-push.branch as (λ b. P c.match-push.result) [
      | read_field-in-Ok-push w ↦ subst P (sym w.result-is) (named ∙ ap names_of_fields (sym w.in-Ok-push.ensures.items))
      | read_field-in-Err-push w ↦ subst P (sym w.result-is) tt
    ]

pub read_fields-loop-item-init : goal.read_fields-loop-item-init
read_fields-loop-item-init t c = record {
  names = c.new-names.ensures ∙ ap names_of_fields (sym c.new-fields.ensures.items);
  so_far = λ js h.
      let P : List Field → Type 0 = λ vs. FieldsSoFar c.args.tree.now (reader c.args.canonical c.args.levels) c.args.namespace.now js c.args.parts.now c.args.parts.now c.in-Some-as_items.items.now vs in
      subst P (sym c.new-fields.ensures.items) (fields_first c.args.tree.now (reader c.args.canonical c.args.levels) c.args.namespace.now js c.args.parts.now c.in-Some-as_items.items.now h c.requires.1.1.0);
}

pub read_fields-read_field-requires : goal.read_fields-read_field-requires
read_fields-read_field-requires t c =
    let l = list_there c.args.tree.now c.requires.1.1.1.0 c.args.node c.in-Some.at c.in-Some.is c.requires.1.1.1.1 in
    let i = c.in-Some-as_items.ensures.value l.j l.stands in
    let s = c.loop-item.invariant.so_far i.0 i.2 in
    let n = next_item_at c.args.tree.now c.in-Some-as_items.items.now c.loop-item.item-index s.left c.loop-item-test.true s.stand in
    (omega (arith, c.requires.1.0), (s.grows.built, ((n.j, n.stands), c.loop-item.invariant.names)))

pub read_fields-returns-in-Err-clause-err : goal.read_fields-returns-in-Err-clause-err
read_fields-returns-in-Err-clause-err t c = λ o h.
    let l = list_there c.args.tree.now o c.args.node c.in-Some.at c.in-Some.is h in
    let i = c.in-Some-as_items.ensures.value l.j l.stands in
    let s = c.loop-item.invariant.so_far i.0 i.2 in
    let n = next_item_at c.args.tree.now c.in-Some-as_items.items.now c.loop-item.item-index s.left c.loop-item-test.true s.stand in
    why_along _ _ c.in-Err.e (fields_of_list (reader c.args.canonical c.args.levels) (names_of c.args.parts.now) c.args.namespace.now o l.j i.0 l.is i.1)
    (fields_refused c.args.tree.now (reader c.args.canonical c.args.levels) c.args.namespace.now i.0 c.args.parts.now c.loop-item.parts c.in-Some-as_items.items.now c.loop-item.item-index c.loop-item.fields.items c.in-Err.e s n (c.in-Err.ensures.err n.j n.stands))

pub read_fields-loop-item-preserved : goal.read_fields-loop-item-preserved
read_fields-loop-item-preserved t c = record {
  names = c.in_default-read_field.ensures.names;
  so_far = λ js h.
      let s = c.loop-item.invariant.so_far js h in
      let n = next_item_at c.args.tree.now c.in-Some-as_items.items.now c.loop-item.item-index s.left c.loop-item-test.true s.stand in
      fields_more c.args.tree.now (reader c.args.canonical c.args.levels) c.args.namespace.now js c.args.parts.now c.loop-item.parts c.in-Some-as_items.items.now c.loop-item.item-index c.loop-item.fields.items
      c.read_field.new.parts c.read_field.new.fields.items s n (c.in_default-read_field.ensures.ok n.j n.stands);
}

pub read_fields-returns-clause-ok : goal.read_fields-returns-clause-ok
read_fields-returns-clause-ok t c = λ o h.
    let l = list_there c.args.tree.now o c.args.node c.in-Some.at c.in-Some.is h in
    let i = c.in-Some-as_items.ensures.value l.j l.stands in
    fields_along _ _ c.args.parts.now c.loop-item.parts c.loop-item.fields.items (fields_of_list (reader c.args.canonical c.args.levels) (names_of c.args.parts.now) c.args.namespace.now o l.j i.0 l.is i.1)
    (fields_done c.args.tree.now (reader c.args.canonical c.args.levels) c.args.namespace.now i.0 c.args.parts.now c.loop-item.parts _ c.loop-item.fields.items (drop_of_length-le c.in-Some-as_items.items.now c.loop-item-test.false) (c.loop-item.invariant.so_far i.0 i.2))

-- ---- objects

pub read_object-as_text-requires : goal.read_object-as_text-requires
read_object-as_text-requires t c = let m = reading.there c.args.tree.now (last_member (codes "type") c.requires.1.1.1.0) c.in-Some.kind (c.in-Some.ensures.value c.requires.1.1.1.0 c.requires.1.1.1.1) in (m.j, m.stands)

pub read_object-read_type-requires : goal.read_object-read_type-requires
read_object-read_type-requires t c =
    let m = reading.there c.args.tree.now (last_member (codes "type") c.requires.1.1.1.0) c.in-Some.kind (c.in-Some.ensures.value c.requires.1.1.1.0 c.requires.1.1.1.1) in
    (omega (arith, c.requires.1.0), (c.requires.1.1.0, (m.j, m.stands)))

pub read_object-returns-in-Some-as_text : goal.read_object-returns-in-Some-as_text
read_object-returns-in-Some-as_text t c = λ ms h.
    let m = reading.there c.args.tree.now (last_member (codes "type") ms) c.in-Some.kind (c.in-Some.ensures.value ms h) in
    let is = c.in-Some-as_text.ensures m.j m.stands in
    reading.object_word c.args.canonical (reader c.args.canonical c.args.levels) c.args.in_union c.args.namespace.now ms _ m.j is.0 c.in-Some-as_text.word.now c.args.parts.now c.read_by_word.new.parts c.read_by_word.result m.is is.1 is.2 (c.read_by_word.ensures ms h)

-- ---- records

pub read_record-namespace_of-within-requires : goal.read_record-namespace_of-within-requires
read_record-namespace_of-within-requires t c = ap are_parts c.as_str.ensures ∙ (c.in-Ok.ensures.ok c.requires.1.1.1.0 c.requires.1.1.1.1).parts

pub read_record-read_fields-requires : goal.read_record-read_fields-requires
read_record-read_fields-requires t c =
    let n = c.in-Ok.ensures.ok c.requires.1.1.1.0 c.requires.1.1.1.1 in
    let built = named_built _ c.args.parts.now c.define.new.parts c.in-Ok.name c.in-Ok.definition c.requires.1.1.0 n in
    (omega (arith, c.requires.1.0), (built, (last_member (codes "fields") c.requires.1.1.1.0, c.member.ensures.value c.requires.1.1.1.0 c.requires.1.1.1.1)))

pub read_record-finish-requires : goal.read_record-finish-requires
read_record-finish-requires t c =
    let n = c.in-Ok.ensures.ok c.requires.1.1.1.0 c.requires.1.1.1.1 in
    let m = c.in-Ok-read_fields.ensures.ok (last_member (codes "fields") c.requires.1.1.1.0) (c.member.ensures.value c.requires.1.1.1.0 c.requires.1.1.1.1) in
    named_inside _ c.args.parts.now c.define.new.parts c.read_fields.new.parts c.in-Ok.name c.in-Ok.definition _ n m.grows

pub read_record-returns-in-Ok-read_fields : goal.read_record-returns-in-Ok-read_fields
read_record-returns-in-Ok-read_fields t c = λ ms h.
    let n = c.in-Ok.ensures.ok ms h in
    let m = c.in-Ok-read_fields.ensures.ok (last_member (codes "fields") ms) (c.member.ensures.value ms h) in
    let inner : c.namespace_of-within.result.now ≡ namespace_of c.in-Ok.name = c.namespace_of-within.ensures ∙ ap namespace_of c.as_str.ensures in
    record_tells c.args.canonical (reader c.args.canonical c.args.levels) c.args.namespace.now ms c.args.parts.now c.define.new.parts c.in-Ok.name c.namespace_of-within.result.now c.in-Ok.definition n inner
    c.read_fields.new.parts c.finish.new.self c.in-Ok-read_fields.fields.items (Record c.in-Ok.name c.in-Ok-read_fields.fields) c.finish.result m (λ k a. a) (λ ts. tt) (λ x e y. cc) (λ ts. refl) c.finish.ensures.ok c.finish.ensures.want

pub read_record-returns-in-Err-read_fields : goal.read_record-returns-in-Err-read_fields
read_record-returns-in-Err-read_fields t c = λ ms h.
    let n = c.in-Ok.ensures.ok ms h in
    let inner : c.namespace_of-within.result.now ≡ namespace_of c.in-Ok.name = c.namespace_of-within.ensures ∙ ap namespace_of c.as_str.ensures in
    record_why c.args.canonical (reader c.args.canonical c.args.levels) c.args.namespace.now ms c.args.parts.now c.define.new.parts c.in-Ok.name c.namespace_of-within.result.now c.in-Ok.definition n inner c.in-Err-read_fields.e
    (c.in-Err-read_fields.ensures.err (last_member (codes "fields") ms) (c.member.ensures.value ms h))

-- ---- values

pub read_type-returns-then-in_union : goal.read_type-returns-then-in_union
read_type-returns-then-in_union t c = λ j h. reading.union_in_union c.args.canonical c.args.levels c.args.in_union (names_of c.args.parts.now) c.args.namespace.now j (c.in-Array.ensures.value j h) c.if-in_union.true

pub read_type-returns-then-levels-eq0 : goal.read_type-returns-then-levels-eq0
read_type-returns-then-levels-eq0 t c = λ j h. reading.array_too_deep c.args.canonical c.args.levels c.args.in_union (names_of c.args.parts.now) c.args.namespace.now j (c.in-Array.ensures.value j h) c.if-in_union.false c.if-levels-eq0.true

pub read_type-returns-then-levels-eq0-2 : goal.read_type-returns-then-levels-eq0-2
read_type-returns-then-levels-eq0-2 t c = λ j h. reading.object_too_deep c.args.canonical c.args.levels c.args.in_union (names_of c.args.parts.now) c.args.namespace.now j (c.in-Object.ensures.value j h) c.if-levels-eq0-2.true

pub read_type-returns-in-Text : goal.read_type-returns-in-Text
read_type-returns-in-Text t c = λ j h.
    reading.text_type c.args.tree.now c.args.node c.args.canonical c.args.levels c.args.in_union c.args.namespace.now c.string_of.result.now c.args.parts.now c.type_by_name.new.parts c.type_by_name.result j h (c.in-Text.ensures.value j h) c.string_of.ensures c.type_by_name.ensures

pub read_type-returns-else-levels-eq0 : goal.read_type-returns-else-levels-eq0
read_type-returns-else-levels-eq0 t c = λ j h.
    let some : 0 < c.args.levels = omega arith in
    reading.array_type c.args.tree.now c.args.node c.args.canonical c.args.levels c.args.in_union c.args.namespace.now c.args.parts.now c.read_union.new.parts c.read_union.result j h (c.in-Array.ensures.value j h) c.if-in_union.false some c.read_union.ensures

pub read_type-returns-else-levels-eq0-2 : goal.read_type-returns-else-levels-eq0-2
read_type-returns-else-levels-eq0-2 t c = λ j h.
    let some : 0 < c.args.levels = omega arith in
    reading.object_type c.args.tree.now c.args.node c.args.canonical c.args.levels c.args.in_union c.args.namespace.now c.args.parts.now c.read_object.new.parts c.read_object.result j h (c.in-Object.ensures.value j h) some c.read_object.ensures

pub read_type-returns-in_default : goal.read_type-returns-in_default
read_type-returns-in_default t c = λ j h.
    let is = c.kind.ensures.value j h in
    reading.other_type c.args.canonical c.args.levels c.args.in_union (names_of c.args.parts.now) c.args.namespace.now j (λ e. c.in_default.not-Text (is ∙ e)) (λ e. c.in_default.not-Array (is ∙ e)) (λ e. c.in_default.not-Object (is ∙ e))

-- ---- unions

pub read_union-loop-item-init : goal.read_union-loop-item-init
read_union-loop-item-init t c = record {
  names = c.new-names.ensures ∙ ap (names_of_branches (types_of c.args.parts.now.nodes.items)) (sym c.new-branches.ensures.items);
  so_far = λ js h.
      let P : List ℕ → Type 0 = λ ks. BranchesSoFar c.args.tree.now (reader c.args.canonical c.args.levels) c.args.namespace.now js c.args.parts.now c.args.parts.now c.items-item-items.result.now ks in
      subst P (sym c.new-branches.ensures.items) (branches_first c.args.tree.now (reader c.args.canonical c.args.levels) c.args.namespace.now js c.args.parts.now c.items-item-items.result.now h c.requires.1.1.0);
}

pub read_union-read_branch-requires : goal.read_union-read_branch-requires
read_union-read_branch-requires t c =
    let s = c.loop-item.invariant.so_far c.requires.1.1.1.0 (c.items-item-items.ensures.value c.requires.1.1.1.0 c.requires.1.1.1.1) in
    let n = next_item_at c.args.tree.now c.items-item-items.result.now c.loop-item.item-index s.left c.loop-item-test.true s.stand in
    (omega (arith, c.requires.1.0), (s.grows.built, ((n.j, n.stands), (s.inside, c.loop-item.invariant.names))))

pub read_union-returns-in-Err : goal.read_union-returns-in-Err
read_union-returns-in-Err t c = λ js h.
    let s = c.loop-item.invariant.so_far js (c.items-item-items.ensures.value js h) in
    let n = next_item_at c.args.tree.now c.items-item-items.result.now c.loop-item.item-index s.left c.loop-item-test.true s.stand in
    union_why (reader c.args.canonical c.args.levels) (names_of c.args.parts.now) c.args.namespace.now js c.in-Err.e
    (branches_refused c.args.tree.now (reader c.args.canonical c.args.levels) c.args.namespace.now js c.args.parts.now c.loop-item.parts c.items-item-items.result.now c.loop-item.item-index c.loop-item.branches.items c.in-Err.e s n (c.in-Err.ensures.err n.j n.stands))

pub read_union-loop-item-preserved : goal.read_union-loop-item-preserved
read_union-loop-item-preserved t c = record {
  names = c.in_default.ensures.names;
  so_far = λ js h.
      let s = c.loop-item.invariant.so_far js h in
      let n = next_item_at c.args.tree.now c.items-item-items.result.now c.loop-item.item-index s.left c.loop-item-test.true s.stand in
      branches_more c.args.tree.now (reader c.args.canonical c.args.levels) c.args.namespace.now js c.args.parts.now c.loop-item.parts c.items-item-items.result.now c.loop-item.item-index c.loop-item.branches.items
      c.read_branch.new.parts c.read_branch.new.branches.items s n (c.in_default.ensures.ok n.j n.stands);
}

pub read_union-returns : goal.read_union-returns
read_union-returns t c = λ js h.
    let left = drop_of_length-le c.items-item-items.result.now c.loop-item-test.false in
    union_tells c.args.tree.now (reader c.args.canonical c.args.levels) c.args.namespace.now js c.args.parts.now c.loop-item.parts c.add.new.self _ c.loop-item.branches.items (Union c.loop-item.branches c.loop-item.names) c.add.result left
    (c.loop-item.invariant.so_far js (c.items-item-items.ensures.value js h)) (λ n a. a) c.loop-item.invariant.names (λ m e x. cc) (λ ts. refl) c.add.ensures.ok c.add.ensures.want c.add.ensures.definitions
