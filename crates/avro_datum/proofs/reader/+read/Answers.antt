use Rattle.std.proofs.Common.{◌+◌, ◌-◌, suc, ◌++◌, ◌∷◌, [], List, ℕ, ap, sym, subst, ◌∙◌, inr, map, drop, get_or, arith, add-one}
use Rattle.avro_schema.specs.Types as schema
use Rattle.avro_schema.specs.Types.{AvroType, resolved}
use Rattle.avro_schema.specs.Nodes.{IsOfKind, tree_of}
use Rattle.avro_datum.specs.Data.{item_of, value_of}
use Rattle.avro_value.specs.Value.{Value, Entry, values_of, entries_of}
use Rattle.avro_value.specs.Value as shapes
use Rattle.avro_value.specs.declared.json_pick.Part.{Part}
use Rattle.avro_value.specs.Parts.{AreParts}
use Rattle.avro_value.specs.Picks.{is_nesting}
use Rattle.avro_value.specs.Reading.{entries_at, entries_in, fields_at, fields_in, giving, items_at, items_in, value_at}
use Rattle.avro_value.proofs.NodeLemmas.{rest_is, none_left}
use Rattle.avro_value.proofs.PickLemmas.{resolves_is}
use Rattle.avro_value.proofs.PartLemmas.{next_is}
use Rattle.avro_datum.proofs.ReadLemmas.{ItemsRead, EntriesRead, items_site, items_go, items_stop, items_done, entries_site, entries_go, entries_stop, entries_done, nests_is, node_deep, node_many, node_enters, giving_read, giving_stop, room_is, body_is, parts_read, parts_lack, reads_along}
use Rattle.avro_datum.proofs.reader.+read.Goals as goal

pub read_items-loop-node-preserved : goal.read_items-loop-node-preserved
read_items-loop-node-preserved t c u stands js stand =
    let inner = value_at (tree_of c.args.schema.now) c.args.levels in
    let nodes = c.args.nodes.now in
    let i = c.loop-node.node-index in
    subst (λ (vs : List Value). ItemsRead c.args.tree.now (drop (i + 1) nodes) vs inner u c.read_value.new.next (items_at inner u js c.args.next.now)) (sym c.in_ok-push_value.ensures.ok)
    (items_go c.args.tree.now (drop i nodes) (drop (i + 1) nodes) (get_or nodes i 0) (map value_of c.loop-node.out.items) inner u c.loop-node.next c.read_value.new.next (value_of c.in-Ok.value) _ (c.loop-node.invariant u stands js stand)
    (next_is nodes i 0 c.loop-node-test.true) (c.in-Ok.ensures u stands))

pub read_items-read_value-requires : goal.read_items-read_value-requires
read_items-read_value-requires t c =
    let inner = value_at (tree_of c.args.schema.now) c.args.levels in
    let nodes = c.args.nodes.now in
    let i = c.loop-node.node-index in (
      omega (arith, c.decreases),
      (
        c.requires.item,
        items_site c.args.tree.now (drop i nodes) (drop (i + 1) nodes) (get_or nodes i 0) (map value_of c.loop-node.out.items) inner c.requires.item.0 c.loop-node.next _
            (c.loop-node.invariant c.requires.item.0 c.requires.item.1 c.requires.nodes.0 c.requires.nodes.1) (next_is nodes i 0 c.loop-node-test.true),
      ),
    )

pub read_items-returns-in-Err : goal.read_items-returns-in-Err
read_items-returns-in-Err t c u stands js stand =
    let inner = value_at (tree_of c.args.schema.now) c.args.levels in
    let nodes = c.args.nodes.now in
    let i = c.loop-node.node-index in
    giving_stop (λ vs. shapes.items (values_of vs)) (items_at inner u js c.args.next.now) c.in-Err.e
    (items_stop c.args.tree.now (drop i nodes) (drop (i + 1) nodes) (get_or nodes i 0) (map value_of c.loop-node.out.items) inner u c.loop-node.next c.in-Err.e _ (c.loop-node.invariant u stands js stand)
    (next_is nodes i 0 c.loop-node-test.true) (c.in-Err.ensures u stands))

pub read_items-returns : goal.read_items-returns
read_items-returns t c u stands js stand =
    let inner = value_at (tree_of c.args.schema.now) c.args.levels in
    let nodes = c.args.nodes.now in
    giving_read (λ vs. shapes.items (values_of vs)) (items_at inner u js c.args.next.now) (map value_of c.loop-node.out.items) c.loop-node.next (value_of c.make_items.result)
    (items_done c.args.tree.now (drop c.loop-node.node-index nodes) (map value_of c.loop-node.out.items) inner u c.loop-node.next _ (c.loop-node.invariant u stands js stand) (none_left nodes c.loop-node.node-index c.loop-node-test.false)) c.make_items.ensures

pub read_entries-loop-member-preserved : goal.read_entries-loop-member-preserved
read_entries-loop-member-preserved t c u stands ms stand =
    let inner = value_at (tree_of c.args.schema.now) c.args.levels in
    let vs = c.args.members.now in
    let i = c.loop-member.member-index in
    let m = c.member-item.result in
    subst (λ (es : List Entry). EntriesRead c.args.tree.now (drop (i + 1) vs) es inner u c.read_value.new.next (entries_at inner u ms c.args.next.now))
    (sym (c.in_ok-push_entry.ensures.ok ∙ ap (λ (key : List ℕ). map item_of c.loop-member.out.items ++ record { key = key; value = value_of c.in-Ok.value } ∷ []) c.as_str.ensures))
    (entries_go c.args.tree.now (drop i vs) (drop (i + 1) vs) m (map item_of c.loop-member.out.items) inner u c.loop-member.next c.read_value.new.next (value_of c.in-Ok.value) _ (c.loop-member.invariant u stands ms stand)
    (rest_is vs i m c.loop-member-test.true c.member-item.is) (c.in-Ok.ensures u stands))

pub read_entries-read_value-requires : goal.read_entries-read_value-requires
read_entries-read_value-requires t c =
    let inner = value_at (tree_of c.args.schema.now) c.args.levels in
    let vs = c.args.members.now in
    let i = c.loop-member.member-index in
    let m = c.member-item.result in (
      omega (arith, c.decreases),
      (
        c.requires.value,
        entries_site c.args.tree.now (drop i vs) (drop (i + 1) vs) m (map item_of c.loop-member.out.items) inner c.requires.value.0 c.loop-member.next _
            (c.loop-member.invariant c.requires.value.0 c.requires.value.1 c.requires.members.0 c.requires.members.1) (rest_is vs i m c.loop-member-test.true c.member-item.is),
      ),
    )

pub read_entries-returns-in-Err : goal.read_entries-returns-in-Err
read_entries-returns-in-Err t c u stands ms stand =
    let inner = value_at (tree_of c.args.schema.now) c.args.levels in
    let vs = c.args.members.now in
    let i = c.loop-member.member-index in
    let m = c.member-item.result in
    giving_stop (λ es. shapes.entries (entries_of es)) (entries_at inner u ms c.args.next.now) c.in-Err.e
    (entries_stop c.args.tree.now (drop i vs) (drop (i + 1) vs) m (map item_of c.loop-member.out.items) inner u c.loop-member.next c.in-Err.e _ (c.loop-member.invariant u stands ms stand)
    (rest_is vs i m c.loop-member-test.true c.member-item.is) (c.in-Err.ensures u stands))

pub read_entries-returns : goal.read_entries-returns
read_entries-returns t c u stands ms stand =
    let inner = value_at (tree_of c.args.schema.now) c.args.levels in
    let vs = c.args.members.now in
    giving_read (λ es. shapes.entries (entries_of es)) (entries_at inner u ms c.args.next.now) (map item_of c.loop-member.out.items) c.loop-member.next (value_of c.make_entries.result)
    (entries_done c.args.tree.now (drop c.loop-member.member-index vs) (map item_of c.loop-member.out.items) inner u c.loop-member.next _ (c.loop-member.invariant u stands ms stand) (none_left vs c.loop-member.member-index c.loop-member-test.false)) c.make_entries.ensures

pub read_body-returns-in-Ok : goal.read_body-returns-in-Ok
read_body-returns-in-Ok t c t' stands j here =
    let s = c.args.schema.now in
    let k = c.args.next.now in
    let e = subst (λ kind. IsOfKind s c.args.place kind) c.in-Array.is c.requires.kind in
    let some = room_is c.args.levels (is_nesting c.args.kind) (ap is_nesting c.in-Array.is) c.requires.room in
    let got = c.in-Ok.ensures j here in
    parts_read c.read_items.result _ (items_in k j) got.0 (λ js n. giving (λ vs. shapes.items (values_of vs)) (items_at (value_at (tree_of s) (c.args.levels - 1)) e.0 js n)) k (k + 1) c.read_items.new.next
    (body_is (tree_of s) c.args.levels k (resolved (tree_of s) t') (schema.array e.0) j some (resolves_is s c.args.place t' (schema.array e.0) stands e.1)) got.1 (add-one k) (c.read_items.ensures e.0 e.2 got.0 got.2)

pub read_body-returns-in-Ok-entries_in : goal.read_body-returns-in-Ok-entries_in
read_body-returns-in-Ok-entries_in t c t' stands j here =
    let s = c.args.schema.now in
    let k = c.args.next.now in
    let e = subst (λ kind. IsOfKind s c.args.place kind) c.in-Map.is c.requires.kind in
    let some = room_is c.args.levels (is_nesting c.args.kind) (ap is_nesting c.in-Map.is) c.requires.room in
    let got = c.in-Ok-entries_in.ensures j here in
    parts_read c.read_entries.result _ (entries_in k j) got.0 (λ ms n. giving (λ es. shapes.entries (entries_of es)) (entries_at (value_at (tree_of s) (c.args.levels - 1)) e.0 ms n)) k (k + 1) c.read_entries.new.next
    (body_is (tree_of s) c.args.levels k (resolved (tree_of s) t') (schema.map e.0) j some (resolves_is s c.args.place t' (schema.map e.0) stands e.1)) got.1 (add-one k) (c.read_entries.ensures e.0 e.2 got.0 got.2)

pub read_body-returns-in-Ok-fields_in : goal.read_body-returns-in-Ok-fields_in
read_body-returns-in-Ok-fields_in t c t' stands j here =
    let s = c.args.schema.now in
    let k = c.args.next.now in
    let e = subst (λ kind. IsOfKind s c.args.place kind) c.in-Record.is c.requires.kind in
    let some = room_is c.args.levels (is_nesting c.args.kind) (ap is_nesting c.in-Record.is) c.requires.room in
    let got = c.in-Ok-fields_in.ensures s e.1 (c.fields.ensures e.0 e.1 e.2) j here in
    parts_read c.read_fields.result _ (fields_in k e.1 j) got.0 (λ js n. giving (λ vs. shapes.fields (values_of vs)) (fields_at (value_at (tree_of s) (c.args.levels - 1)) e.1 js n)) k (k + 1) c.read_fields.new.next
    (body_is (tree_of s) c.args.levels k (resolved (tree_of s) t') (schema.record_ e.0 e.1) j some (resolves_is s c.args.place t' (schema.record_ e.0 e.1) stands e.2)) got.1 (add-one k)
    (c.read_fields.ensures e.1 got.0 (subst (λ (ps : List Part). AreParts s c.args.tree.now ps e.1 got.0) (sym c.as_slice.ensures.value) got.2))

pub read_body-returns-in-Err-fields_in : goal.read_body-returns-in-Err-fields_in
read_body-returns-in-Err-fields_in t c t' stands j here =
    let s = c.args.schema.now in
    let k = c.args.next.now in
    let e = subst (λ kind. IsOfKind s c.args.place kind) c.in-Record.is c.requires.kind in
    let some = room_is c.args.levels (is_nesting c.args.kind) (ap is_nesting c.in-Record.is) c.requires.room in
    parts_lack _ (fields_in k e.1 j) (λ js. giving (λ vs. shapes.fields (values_of vs)) (fields_at (value_at (tree_of s) (c.args.levels - 1)) e.1 js (suc k))) c.in-Err-fields_in.e
    (body_is (tree_of s) c.args.levels k (resolved (tree_of s) t') (schema.record_ e.0 e.1) j some (resolves_is s c.args.place t' (schema.record_ e.0 e.1) stands e.2))
    (c.in-Err-fields_in.ensures s e.1 (c.fields.ensures e.0 e.1 e.2) j here)

pub read_body-read_fields-requires : goal.read_body-read_fields-requires
read_body-read_fields-requires t c =
    let s = c.args.schema.now in
    let e = subst (λ kind. IsOfKind s c.args.place kind) c.in-Record.is c.requires.kind in
    let some = room_is c.args.levels (is_nesting c.args.kind) (ap is_nesting c.in-Record.is) c.requires.room in
    let got = c.in-Ok-fields_in.ensures s e.1 (c.fields.ensures e.0 e.1 e.2) c.requires.node.0 c.requires.node.1 in
    (omega (arith, c.decreases), (e.1, got.0, subst (λ (ps : List Part). AreParts s c.args.tree.now ps e.1 got.0) (sym c.as_slice.ensures.value) got.2))

pub read_body-read_branch-requires : goal.read_body-read_branch-requires
read_body-read_branch-requires t c =
    let s = c.args.schema.now in
    let e = subst (λ kind. IsOfKind s c.args.place kind) c.in-Union.is c.requires.kind in
    let some = room_is c.args.levels (is_nesting c.args.kind) (ap is_nesting c.in-Union.is) c.requires.room in
    let got = c.in-Ok-branch_in.ensures e.0 e.1 c.requires.node.0 c.requires.node.1 in
    (omega (arith, c.decreases), (got.0, got.2))

pub read_value-returns-then-is_too_deep : goal.read_value-returns-then-is_too_deep
read_value-returns-then-is_too_deep t c t' stands j here =
    let s = c.args.schema.now in
    inr (node_deep (tree_of s) c.args.levels t' j c.args.next.now (is_nesting c.kind-kind.result) c.is_too_deep.result c.is_too_deep.ensures (nests_is s c.args.place t' c.kind-kind.result c.kind-kind.ensures.is stands) c.if-is_too_deep.true)

pub read_value-returns-then-next-ge-MAX_NODES : goal.read_value-returns-then-next-ge-MAX_NODES
read_value-returns-then-next-ge-MAX_NODES t c t' stands j here =
    let s = c.args.schema.now in
    inr (node_many (tree_of s) c.args.levels t' j c.args.next.now (is_nesting c.kind-kind.result) c.is_too_deep.result c.is_too_deep.ensures (nests_is s c.args.place t' c.kind-kind.result c.kind-kind.ensures.is stands) c.if-is_too_deep.false (omega arith))

pub read_value-returns : goal.read_value-returns
read_value-returns t c t' stands j here =
    let s = c.args.schema.now in
    reads_along value_of c.read_body.result _ _ c.read_body.new.next
    (sym (node_enters (tree_of s) c.args.levels t' j c.args.next.now (is_nesting c.kind-kind.result) c.is_too_deep.result c.is_too_deep.ensures (nests_is s c.args.place t' c.kind-kind.result c.kind-kind.ensures.is stands) c.if-is_too_deep.false (omega arith)))
    (c.read_body.ensures t' stands j here)
