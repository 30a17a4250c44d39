-- Writing the parts of a datum one after the other, as a loop does.
use Rattle.std.proofs.Common.{◌≡◌, ℕ, suc, pos, List, [], ◌∷◌, ◌++◌, length, map, Some, None, Ok, inr, refl, sym, ap, ◌∙◌, subst, append_assoc}
use Rattle.std.proofs.lemmas.List.{append-nil}
use Rattle.avro_schema.specs.Types as schema
use Rattle.avro_schema.specs.Types.{AvroType, Fields, resolved}
use Rattle.avro_schema.specs.declared.parts.Field.{Field}
use Rattle.avro_schema.specs.Nodes.{SchemaValue, Stands, tree_of, StandForFields}
use Rattle.avro_value.specs.declared.error.AvroNo.{AvroNo}
use Rattle.avro_value.specs.declared.error.AvroNo.TheVariants.{Mismatch}
use Rattle.avro_datum.specs.declared.datum.Datum.{Datum}
use Rattle.avro_datum.specs.declared.datum.MapItem.{MapItem}
use Rattle.avro_value.specs.Value as shapes
use Rattle.avro_datum.specs.Data.{value_of, item_of}
use Rattle.avro_value.specs.Value.{values_of, entries_of}
use Rattle.avro_codec.specs.Plain.{plain, plain_values, plain_entries, one_block, long_bytes}
use Rattle.avro_value.specs.Value.{size_of, count_of}
use Rattle.avro_value.specs.Steps.{Fails}
use Rattle.avro_value.specs.Judging.{opened, judged, judged_items, judged_entry, judged_entries, judged_fields, items_in, entries_in, fields_in}
use Rattle.avro_value.specs.Picks.{Picks, PicksFields}
use Rattle.avro_datum.proofs.DatumLemmas.{size_is, count_is}
use Rattle.avro_value.proofs.NodeLemmas.{node_is, node_lacks, fails_along, fails_on}

-- the items of an array so far
pub record ItemsPut (s : SchemaValue) (below : ℕ) (item first next : ℕ) (all left : List Datum) (before out : List ℕ) : Type 0 where
  pub verdict : (u : AvroType) → Stands s item u → judged_items (tree_of s) below u next (values_of (map value_of left)) ≡ judged_items (tree_of s) below u (suc first) (values_of (map value_of all))
  pub bytes : out ++ plain_values (values_of (map value_of left)) ≡ before ++ plain_values (values_of (map value_of all))

-- the entries of a map so far
pub record EntriesPut (s : SchemaValue) (below : ℕ) (item first next : ℕ) (all left : List MapItem) (before out : List ℕ) : Type 0 where
  pub verdict : (u : AvroType) → Stands s item u → judged_entries (tree_of s) below u next (entries_of (map item_of left)) ≡ judged_entries (tree_of s) below u (suc first) (entries_of (map item_of all))
  pub bytes : out ++ plain_entries (entries_of (map item_of left)) ≡ before ++ plain_entries (entries_of (map item_of all))

-- the fields of a record so far
pub record FieldsPut (s : SchemaValue) (below : ℕ) (nodes : List Field) (nodes_left : List Field) (first next : ℕ) (all left : List Datum) (before out : List ℕ) : Type 0 where
  pub verdict : (ts : Fields) → StandForFields s nodes ts → (more : Fields) × StandForFields s nodes_left more
      × (judged_fields (tree_of s) below more next (values_of (map value_of left)) ≡ judged_fields (tree_of s) below ts (suc first) (values_of (map value_of all)))
  pub bytes : out ++ plain_values (values_of (map value_of left)) ≡ before ++ plain_values (values_of (map value_of all))

-- ---- items

-- the first refusal of a part is that of the whole
pub items_stopped : (s : SchemaValue) (levels k below site item next : ℕ) (all left more : List Datum) (x : Datum) (before out : List ℕ) (e : AvroNo)
    → opened levels k ≡ Ok below
    → ((t : AvroType) → Stands s site t → Picks s (Some item) (items_in (resolved (tree_of s) t) (length all)))
    → ItemsPut s below item k next all left before out → left ≡ x ∷ more
    → ((u : AvroType) → Stands s item u → Fails e (judged (tree_of s) below u next (value_of x)))
    → (t : AvroType) → Stands s site t → Fails e (judged (tree_of s) levels t k (shapes.items (values_of (map value_of all))))
items_stopped s levels k below site item next all left more x before out e at_below picks so_far is fails t stands =
    let p = picks t stands in
    let some : items_in (resolved (tree_of s) t) (size_of (values_of (map value_of all))) ≡ Some p.0 = ap (items_in (resolved (tree_of s) t)) (size_is all) ∙ p.1 in
    let whole : judged (tree_of s) levels t k (shapes.items (values_of (map value_of all))) ≡ judged_items (tree_of s) below p.0 (suc k) (values_of (map value_of all)) =
    node_is levels k below _ p.0 (λ b u. judged_items (tree_of s) b u (suc k) (values_of (map value_of all))) at_below some in
    let rest : judged_items (tree_of s) below p.0 next (values_of (map value_of (x ∷ more))) ≡ judged_items (tree_of s) below p.0 (suc k) (values_of (map value_of all)) =
    ap (λ (l : List Datum). judged_items (tree_of s) below p.0 next (values_of (map value_of l))) (sym is) ∙ so_far.verdict p.0 p.2 in
    fails_along e _ _ (rest ∙ sym whole) (fails_on e _ (λ n. judged_items (tree_of s) below p.0 n (values_of (map value_of more))) (fails p.0 p.2))

pub items_ended : (s : SchemaValue) (levels k below site item next : ℕ) (all left : List Datum) (before out : List ℕ)
    → opened levels k ≡ Ok below
    → ((t : AvroType) → Stands s site t → Picks s (Some item) (items_in (resolved (tree_of s) t) (length all)))
    → ItemsPut s below item k next all left before out → left ≡ []
    → (t : AvroType) → Stands s site t → judged (tree_of s) levels t k (shapes.items (values_of (map value_of all))) ≡ Ok next
items_ended s levels k below site item next all left before out at_below picks so_far is t stands =
    let p = picks t stands in
    let some : items_in (resolved (tree_of s) t) (size_of (values_of (map value_of all))) ≡ Some p.0 = ap (items_in (resolved (tree_of s) t)) (size_is all) ∙ p.1 in
    let whole : judged (tree_of s) levels t k (shapes.items (values_of (map value_of all))) ≡ judged_items (tree_of s) below p.0 (suc k) (values_of (map value_of all)) =
    node_is levels k below _ p.0 (λ b u. judged_items (tree_of s) b u (suc k) (values_of (map value_of all))) at_below some in
    let rest : Ok next ≡ judged_items (tree_of s) below p.0 (suc k) (values_of (map value_of all)) =
    ap (λ (l : List Datum). judged_items (tree_of s) below p.0 next (values_of (map value_of l))) (sym is) ∙ so_far.verdict p.0 p.2 in
    whole ∙ sym rest

pub items_written : (s : SchemaValue) (below k item next : ℕ) (all left : List Datum) (old out new : List ℕ) (n : ℕ) → length all ≡ suc n
    → ItemsPut s below item k next all left (old ++ long_bytes (pos (length all))) out → left ≡ [] → new ≡ out ++ (0 ∷ [])
    → new ≡ old ++ plain (shapes.items (values_of (map value_of all)))
items_written s below k item next all left old out new n some so_far is last =
    let body = plain_values (values_of (map value_of all)) in
    let there : out ≡ (old ++ long_bytes (pos (length all))) ++ body = sym (append-nil out) ∙ ap (λ (l : List Datum). out ++ plain_values (values_of (map value_of l))) (sym is) ∙ so_far.bytes in
    let one : one_block (size_of (values_of (map value_of all))) body ≡ long_bytes (pos (length all)) ++ (body ++ (0 ∷ [])) =
    ap (λ (m : ℕ). one_block m body) (size_is all ∙ some) ∙ ap (λ (m : ℕ). long_bytes (pos m) ++ (body ++ (0 ∷ []))) (sym some) in
    last ∙ ap (λ (o : List ℕ). o ++ (0 ∷ [])) there ∙ simp append_assoc refl ∙ ap (λ (b : List ℕ). old ++ b) (sym one)

-- ---- entries

-- the first refusal of a part is that of the whole
pub entries_stopped : (s : SchemaValue) (levels k below site item next : ℕ) (all left more : List MapItem) (x : MapItem) (before out : List ℕ) (e : AvroNo)
    → opened levels k ≡ Ok below
    → ((t : AvroType) → Stands s site t → Picks s (Some item) (entries_in (resolved (tree_of s) t) (length all)))
    → EntriesPut s below item k next all left before out → left ≡ x ∷ more
    → ((u : AvroType) → Stands s item u → Fails e (judged_entry (tree_of s) below u next (item_of x)))
    → (t : AvroType) → Stands s site t → Fails e (judged (tree_of s) levels t k (shapes.entries (entries_of (map item_of all))))
entries_stopped s levels k below site item next all left more x before out e at_below picks so_far is fails t stands =
    let p = picks t stands in
    let some : entries_in (resolved (tree_of s) t) (count_of (entries_of (map item_of all))) ≡ Some p.0 = ap (entries_in (resolved (tree_of s) t)) (count_is all) ∙ p.1 in
    let whole : judged (tree_of s) levels t k (shapes.entries (entries_of (map item_of all))) ≡ judged_entries (tree_of s) below p.0 (suc k) (entries_of (map item_of all)) =
    node_is levels k below _ p.0 (λ b u. judged_entries (tree_of s) b u (suc k) (entries_of (map item_of all))) at_below some in
    let rest : judged_entries (tree_of s) below p.0 next (entries_of (map item_of (x ∷ more))) ≡ judged_entries (tree_of s) below p.0 (suc k) (entries_of (map item_of all)) =
    ap (λ (l : List MapItem). judged_entries (tree_of s) below p.0 next (entries_of (map item_of l))) (sym is) ∙ so_far.verdict p.0 p.2 in
    fails_along e _ _ (rest ∙ sym whole) (fails_on e _ (λ n. judged_entries (tree_of s) below p.0 n (entries_of (map item_of more))) (fails p.0 p.2))

pub entries_ended : (s : SchemaValue) (levels k below site item next : ℕ) (all left : List MapItem) (before out : List ℕ)
    → opened levels k ≡ Ok below
    → ((t : AvroType) → Stands s site t → Picks s (Some item) (entries_in (resolved (tree_of s) t) (length all)))
    → EntriesPut s below item k next all left before out → left ≡ []
    → (t : AvroType) → Stands s site t → judged (tree_of s) levels t k (shapes.entries (entries_of (map item_of all))) ≡ Ok next
entries_ended s levels k below site item next all left before out at_below picks so_far is t stands =
    let p = picks t stands in
    let some : entries_in (resolved (tree_of s) t) (count_of (entries_of (map item_of all))) ≡ Some p.0 = ap (entries_in (resolved (tree_of s) t)) (count_is all) ∙ p.1 in
    let whole : judged (tree_of s) levels t k (shapes.entries (entries_of (map item_of all))) ≡ judged_entries (tree_of s) below p.0 (suc k) (entries_of (map item_of all)) =
    node_is levels k below _ p.0 (λ b u. judged_entries (tree_of s) b u (suc k) (entries_of (map item_of all))) at_below some in
    let rest : Ok next ≡ judged_entries (tree_of s) below p.0 (suc k) (entries_of (map item_of all)) =
    ap (λ (l : List MapItem). judged_entries (tree_of s) below p.0 next (entries_of (map item_of l))) (sym is) ∙ so_far.verdict p.0 p.2 in
    whole ∙ sym rest

pub entries_written : (s : SchemaValue) (below k item next : ℕ) (all left : List MapItem) (old out new : List ℕ) (n : ℕ) → length all ≡ suc n
    → EntriesPut s below item k next all left (old ++ long_bytes (pos (length all))) out → left ≡ [] → new ≡ out ++ (0 ∷ [])
    → new ≡ old ++ plain (shapes.entries (entries_of (map item_of all)))
entries_written s below k item next all left old out new n some so_far is last =
    let body = plain_entries (entries_of (map item_of all)) in
    let there : out ≡ (old ++ long_bytes (pos (length all))) ++ body = sym (append-nil out) ∙ ap (λ (l : List MapItem). out ++ plain_entries (entries_of (map item_of l))) (sym is) ∙ so_far.bytes in
    let one : one_block (count_of (entries_of (map item_of all))) body ≡ long_bytes (pos (length all)) ++ (body ++ (0 ∷ [])) =
    ap (λ (m : ℕ). one_block m body) (count_is all ∙ some) ∙ ap (λ (m : ℕ). long_bytes (pos m) ++ (body ++ (0 ∷ []))) (sym some) in
    last ∙ ap (λ (o : List ℕ). o ++ (0 ∷ [])) there ∙ simp append_assoc refl ∙ ap (λ (b : List ℕ). old ++ b) (sym one)

-- ---- fields

first_fails : (s : SchemaValue) (below next : ℕ) (f : Field) (fs : List Field) (ts : Fields) (x : Datum) (more : List Datum) (e : AvroNo) → StandForFields s (f ∷ fs) ts
    → ((u : AvroType) → Stands s f.node u → Fails e (judged (tree_of s) below u next (value_of x))) → Fails e (judged_fields (tree_of s) below ts next (values_of (map value_of (x ∷ more))))
first_fails s below next f fs schema.no_fields x more e is fails = absurd is
first_fails s below next f fs (schema.field name t ts) x more e is fails = fails_on e _ (λ n. judged_fields (tree_of s) below ts n (values_of (map value_of more))) (fails t is.1)

pub fields_stopped : (s : SchemaValue) (levels k below site next : ℕ) (nodes nodes_left nodes_more : List Field) (f : Field) (all left more : List Datum) (x : Datum) (before out : List ℕ) (e : AvroNo)
    → opened levels k ≡ Ok below
    → ((t : AvroType) → Stands s site t → PicksFields s (Some nodes) (fields_in (resolved (tree_of s) t) (length all)))
    → FieldsPut s below nodes nodes_left k next all left before out → left ≡ x ∷ more → nodes_left ≡ f ∷ nodes_more
    → ((u : AvroType) → Stands s f.node u → Fails e (judged (tree_of s) below u next (value_of x)))
    → (t : AvroType) → Stands s site t → Fails e (judged (tree_of s) levels t k (shapes.fields (values_of (map value_of all))))
fields_stopped s levels k below site next nodes nodes_left nodes_more f all left more x before out e at_below picks so_far is at fails t stands =
    let p = picks t stands in
    let some : fields_in (resolved (tree_of s) t) (size_of (values_of (map value_of all))) ≡ Some p.0 = ap (fields_in (resolved (tree_of s) t)) (size_is all) ∙ p.1 in
    let whole : judged (tree_of s) levels t k (shapes.fields (values_of (map value_of all))) ≡ judged_fields (tree_of s) below p.0 (suc k) (values_of (map value_of all)) =
    node_is levels k below _ p.0 (λ b ts. judged_fields (tree_of s) b ts (suc k) (values_of (map value_of all))) at_below some in
    let q = so_far.verdict p.0 p.2 in
    let rest : judged_fields (tree_of s) below q.0 next (values_of (map value_of (x ∷ more))) ≡ judged_fields (tree_of s) below p.0 (suc k) (values_of (map value_of all)) =
    ap (λ (l : List Datum). judged_fields (tree_of s) below q.0 next (values_of (map value_of l))) (sym is) ∙ q.2 in
    fails_along e _ _ (rest ∙ sym whole) (first_fails s below next f nodes_more q.0 x more e (subst (λ (l : List Field). StandForFields s l q.0) at q.1) fails)

pub fields_ended : (s : SchemaValue) (levels k below site next : ℕ) (nodes nodes_left : List Field) (all left : List Datum) (before out : List ℕ)
    → opened levels k ≡ Ok below
    → ((t : AvroType) → Stands s site t → PicksFields s (Some nodes) (fields_in (resolved (tree_of s) t) (length all)))
    → FieldsPut s below nodes nodes_left k next all left before out → left ≡ []
    → (t : AvroType) → Stands s site t → judged (tree_of s) levels t k (shapes.fields (values_of (map value_of all))) ≡ Ok next
fields_ended s levels k below site next nodes nodes_left all left before out at_below picks so_far is t stands =
    let p = picks t stands in
    let some : fields_in (resolved (tree_of s) t) (size_of (values_of (map value_of all))) ≡ Some p.0 = ap (fields_in (resolved (tree_of s) t)) (size_is all) ∙ p.1 in
    let whole : judged (tree_of s) levels t k (shapes.fields (values_of (map value_of all))) ≡ judged_fields (tree_of s) below p.0 (suc k) (values_of (map value_of all)) =
    node_is levels k below _ p.0 (λ b ts. judged_fields (tree_of s) b ts (suc k) (values_of (map value_of all))) at_below some in
    let q = so_far.verdict p.0 p.2 in
    let rest : Ok next ≡ judged_fields (tree_of s) below p.0 (suc k) (values_of (map value_of all)) =
    ap (λ (l : List Datum). judged_fields (tree_of s) below q.0 next (values_of (map value_of l))) (sym is) ∙ q.2 in
    whole ∙ sym rest

pub fields_lacking : (s : SchemaValue) (levels k below site : ℕ) (all : List Datum) → opened levels k ≡ Ok below
    → ((t : AvroType) → Stands s site t → PicksFields s None (fields_in (resolved (tree_of s) t) (length all)))
    → (t : AvroType) → Stands s site t → Fails (Mismatch k) (judged (tree_of s) levels t k (shapes.fields (values_of (map value_of all))))
fields_lacking s levels k below site all at_below lacks t stands =
    inr (node_lacks levels k below _ (λ b ts. judged_fields (tree_of s) b ts (suc k) (values_of (map value_of all))) at_below (ap (fields_in (resolved (tree_of s) t)) (size_is all) ∙ lacks t stands))
