-- The JSON value of a datum within the limits is read as the datum.
use Rattle.std.proofs.Common.{◌≡◌, ℕ, zero, suc, ◌+◌, ◌^◌, ◌<◌, ◌≤◌, List, [], ◌∷◌, length, Option, Some, Result, Ok, Err, ℤ, Bool, true, false, codes, nat_lt, if◌then◌else◌, ◌&&◌, ◌==◌, inl, inr, refl, sym, ap, ◌∙◌, subst, arith, lt-ltb}
use Rattle.std.specs.List.{list_all, AllByRecursion}
use Rattle.std.proofs.lemmas.Bool.{ne_eqb, eq-eqb, and_from}
use Rattle.avro_schema.specs.Types as schema
use Rattle.avro_schema.specs.Types.{AvroType, Branches, Fields, resolved}
use Rattle.json_span.specs.Json as json
use Rattle.json_span.specs.Json.{Json, Items, Members}
use Rattle.json_token.specs.Chars.{content}
use Rattle.json_token.specs.Integer.{integer_of}
use Rattle.avro_value.specs.declared.error.AvroNo.{AvroNo}
use Rattle.avro_value.specs.declared.error.AvroNo.TheVariants.{Mismatch}
use Rattle.avro_value.specs.Steps.{◌>>=◌}
use Rattle.avro_value.specs.Value.{Value, Values, Entries, Entry, null, boolean, int, long, bytes, string, fixed, symbol, branch, fields, items, entries, no_values, value, no_entries, entry, values_of, entries_of, nodes, nodes_in, nodes_among, IsWithin, AreWithin, EntriesWithin, IsSmall, max_levels, max_nodes}
use Rattle.avro_value.specs.Judging.{is_null, branch_at, is_below}
use Rattle.avro_value.specs.Encoding.{place_of, branch_names, names_of, differ, IsPoints, IsLabelled, IsJson, AreFields, AreItems, AreEntries}
use Rattle.avro_value.specs.Reading.{Read, Reader, integer_in, integer_at, points_at, sized, fixed_at, placed, symbol_at, entries_in, found, present, fields_in, Labelled, agree, labelled, branch_by, branch_in, items_at, entries_at, fields_at, leaf, giving, body_at, nests, entered, node_at, value_at, below_at, datum_at}
use Rattle.avro_value.proofs.StepLemmas.{bind_at}
use Rattle.avro_value.proofs.CountLemmas.{below32, below64}

-- ---- a node

value_is : (whole : AvroType) (levels : ℕ) (t : AvroType) (j : Json) (k : ℕ) → value_at whole levels t j k ≡ node_at (below_at whole levels) (levels == 0) (resolved whole t) j k
unfolding value_at
value_is whole zero t j k = refl
value_is whole (suc levels) t j k = rw (ne_eqb (suc levels) 0 (λ (e : suc levels ≡ 0). omega arith)) refl

-- a node that isn't too deep nor one too many is read by its type
node_again : (whole : AvroType) (levels : ℕ) (t u : AvroType) (j : Json) (k : ℕ) → resolved whole t ≡ u → (nests u && (levels == 0)) ≡ false → k < max_nodes
    → value_at whole levels t j k ≡ body_at (below_at whole levels) u j k
node_again whole levels t u j k is room few =
    let test : nat_lt k max_nodes ≡ true = lt-ltb _ _ few in
    let body : Read Value = body_at (below_at whole levels) u j k in
    let enters : entered (nests u && (levels == 0)) k body ≡ body = rw (room, test) refl in
    value_is whole levels t j k ∙ ap (λ (x : AvroType). node_at (below_at whole levels) (levels == 0) x j k) is ∙ enters

-- a node without parts
leaf_again : (whole : AvroType) (levels : ℕ) (t u : AvroType) (j i : Json) (k : ℕ) (v : Value) → resolved whole t ≡ u → nests u ≡ false → k + 1 ≤ max_nodes → j ≡ i
    → body_at (below_at whole levels) u i k ≡ Ok (v, suc k) → value_at whole levels t j k ≡ Ok (v, k + 1)
leaf_again whole levels t u j i k v is plain few same body =
    let one : suc k ≡ k + 1 = omega arith in
    ap (λ (x : Json). value_at whole levels t x k) same
    ∙ node_again whole levels t u i k is (ap (λ (b : Bool). b && (levels == 0)) plain) (omega (arith, few)) ∙ body ∙ ap (λ (n : ℕ). Ok (v, n)) one

deep_not : (nest none : Bool) → none ≡ false → (nest && none) ≡ false
deep_not true none is = is
deep_not false none is = refl

-- a node with parts, which have one level less
parts_again : (whole : AvroType) (levels b : ℕ) (t u : AvroType) (j i : Json) (k more : ℕ) (v : Value) → resolved whole t ≡ u → levels ≡ suc b → k + (1 + more) ≤ max_nodes → j ≡ i
    → body_at (value_at whole b) u i k ≡ Ok (v, suc k + more) → value_at whole levels t j k ≡ Ok (v, k + (1 + more))
parts_again whole levels b t u j i k more v is level few same body =
    let room : (nests u && (levels == 0)) ≡ false = deep_not (nests u) (levels == 0) (ne_eqb levels 0 (λ (e : levels ≡ 0). omega (arith, e, level))) in
    let count : suc k + more ≡ k + (1 + more) = omega arith in
    ap (λ (x : Json). value_at whole levels t x k) same
    ∙ node_again whole levels t u i k is room (omega (arith, few)) ∙ ap (λ (l : ℕ). body_at (below_at whole l) u i k) level ∙ body ∙ ap (λ (n : ℕ). Ok (v, n)) count

leaf_is : {A : Type 0} (k : ℕ) (f : A → Value) (read : Result A AvroNo) (x : A) → read ≡ Ok x → leaf k f read ≡ Ok (f x, suc k)
leaf_is k f read x is = bind_at read (λ y. Ok (f y, suc k)) x is

giving_is : {A : Type 0} (f : A → Value) (read : Read A) (x : A) (n : ℕ) → read ≡ Ok (x, n) → giving f read ≡ Ok (f x, n)
giving_is f read x n is = bind_at read (λ y. Ok (f y.0, y.1)) (x, n) is

-- ---- nodes without parts

integer_again : (k bound : ℕ) (s : List ℕ) (n : ℤ) → integer_of s ≡ Some n → is_below bound n ≡ true → integer_at k bound (json.number s) ≡ Ok n
integer_again k bound s n is small = ap (integer_in k bound s) is ∙ rw small refl

all_pass : (bs : List ℕ) → AllByRecursion (λ c. c < 256) bs → list_all (λ c. nat_lt c 256) bs ≡ true
all_pass [] is = refl
all_pass (b ∷ bs) is = and_from _ _ (lt-ltb _ _ is.0) (all_pass bs is.1)

points_again : (k : ℕ) (s piece : List ℕ) → IsPoints s piece → points_at k (json.text s) ≡ Ok piece
points_again k s piece is =
    let test : list_all (λ c. nat_lt c 256) piece ≡ true = all_pass piece is.small in
    ap (λ (l : List ℕ). if list_all (λ c. nat_lt c 256) l then Ok l else Err (Mismatch k)) is.points ∙ rw test refl

fixed_again : (k : ℕ) (s piece : List ℕ) → IsPoints s piece → fixed_at k (length piece) (json.text s) ≡ Ok piece
fixed_again k s piece is =
    let test : (length piece == length piece) ≡ true = eq-eqb (length piece) (length piece) refl in
    bind_at (points_at k (json.text s)) (sized k (length piece)) piece (points_again k s piece is) ∙ rw test refl

placed_again : (k : ℕ) (o : Option ℕ) (n : ℕ) → o ≡ Some n → n < 2 ^ 32 → placed k o ≡ Ok n
placed_again k o n is small = let test : nat_lt n (2 ^ 32) ≡ true = lt-ltb _ _ small in ap (placed k) is ∙ rw test refl

symbol_again : (k : ℕ) (symbols : List (List ℕ)) (s : List ℕ) (n : ℕ) → place_of (content s) symbols ≡ Some n → n < 2 ^ 32 → symbol_at k symbols (json.text s) ≡ Ok n
symbol_again k symbols s n is small = placed_again k (place_of (content s) symbols) n is small

-- ---- unions

abbrev made : ℕ → AvroType → Json → Labelled
made n u inner = record { place = n; type = u; inner = inner }

name_again : (k : ℕ) (ts : Branches) (name : List ℕ) (is_bare : Bool) (inner : Json) (n : ℕ) (u : AvroType) → place_of name (branch_names ts) ≡ Some n → n < 2 ^ 32 → branch_at ts n ≡ Some u → agree (is_null u) is_bare ≡ true
    → branch_by k ts name is_bare inner ≡ Ok (made n u inner)
name_again k ts name is_bare inner n u named small at bare =
    bind_at (placed k (place_of name (branch_names ts))) (λ m. labelled k m is_bare inner (branch_at ts m)) n (placed_again k (place_of name (branch_names ts)) n named small)
    ∙ ap (labelled k n is_bare inner) at ∙ rw bare refl

null_is : (u : AvroType) → is_null u ≡ true → schema.null ≡ u
null_is schema.null is = refl
null_is schema.boolean is = absurd cc
null_is schema.int is = absurd cc
null_is schema.long is = absurd cc
null_is schema.bytes is = absurd cc
null_is schema.string is = absurd cc
null_is (schema.array t) is = absurd cc
null_is (schema.map t) is = absurd cc
null_is (schema.union ts) is = absurd cc
null_is (schema.fixed name size) is = absurd cc
null_is (schema.enum_ name symbols) is = absurd cc
null_is (schema.record_ name ts) is = absurd cc
null_is (schema.named name) is = absurd cc

-- the value of the type of null is null
null_json : (whole : AvroType) (v : Value) (j : Json) → IsJson whole schema.null v j → j ≡ json.null
null_json whole null j is = is.1
null_json whole (boolean b) j is = absurd (let e = is.0 in cc)
null_json whole (int n) j is = absurd (let e = is.0 in cc)
null_json whole (long n) j is = absurd (let e = is.0 in cc)
null_json whole (bytes piece) j is = absurd (let e = is.0 in cc)
null_json whole (string piece) j is = absurd (let e = is.0 in cc)
null_json whole (fixed piece) j is = absurd (let e = is.1 in cc)
null_json whole (symbol n) j is = absurd (let e = is.2 in cc)
null_json whole (branch n v) j is = absurd (let e = is.1 in cc)
null_json whole (fields vs) j is = absurd (let e = is.2 in cc)
null_json whole (items vs) j is = absurd (let e = is.1 in cc)
null_json whole (entries es) j is = absurd (let e = is.1 in cc)

branch_again : (k : ℕ) (whole : AvroType) (ts : Branches) (u : AvroType) (n : ℕ) (v : Value) (inner j : Json) → branch_at ts n ≡ Some u → n < 2 ^ 32 → IsLabelled ts u n inner j → IsJson whole u v inner
    → branch_in k ts j ≡ Ok (made n u inner)
branch_again k whole ts u n v inner j at small (inl bare) is =
    let empty : inner ≡ json.null = null_json whole v inner (subst (λ (x : AvroType). IsJson whole x v inner) (sym (null_is u bare.0)) is) in
    ap (branch_in k ts) (bare.2 ∙ empty) ∙ name_again k ts (codes "null") true json.null n u bare.1 small at (ap (λ (b : Bool). agree b true) bare.0) ∙ ap (λ (x : Json). Ok (made n u x)) (sym empty)
branch_again k whole ts u n v inner j at small (inr named) is =
    ap (branch_in k ts) named.3 ∙ name_again k ts (content named.1) false inner n u named.2 small at (ap (λ (b : Bool). agree b false) named.0)

union_again : (k : ℕ) (whole : AvroType) (reader : Reader) (ts : Branches) (u : AvroType) (n : ℕ) (v : Value) (inner j : Json) (stop : ℕ) → branch_at ts n ≡ Some u → n < 2 ^ 32 → IsLabelled ts u n inner j → IsJson whole u v inner
    → reader u inner (suc k) ≡ Ok (v, stop) → body_at reader (schema.union ts) j k ≡ Ok (branch n v, stop)
union_again k whole reader ts u n v inner j stop at small labels is reads =
    bind_at (branch_in k ts j) (λ b. giving (branch b.place) (reader b.type b.inner (suc k))) (made n u inner) (branch_again k whole ts u n v inner j at small labels is)
    ∙ giving_is (branch n) (reader u inner (suc k)) v stop reads

-- ---- the lists of a value's parts

list_of : Values → List Value
list_of no_values = []
list_of (value v vs) = v ∷ list_of vs

entry_list : Entries → List Entry
entry_list no_entries = []
entry_list (entry key v es) = record { key = key; value = v } ∷ entry_list es

list_back : (vs : Values) → values_of (list_of vs) ≡ vs
unfolding list_of
list_back no_values = refl
list_back (value v vs) = ap (value v) (list_back vs)

entries_back : (es : Entries) → entries_of (entry_list es) ≡ es
unfolding entry_list
entries_back no_entries = refl
entries_back (entry key v es) = ap (entry key v) (entries_back es)

-- ---- one part and those behind it

abbrev Again : AvroType → ℕ → Value → Type 0
Again whole levels v = (t : AvroType) (j : Json) (k : ℕ) → IsJson whole t v j → IsWithin levels v → k + nodes v ≤ max_nodes → value_at whole levels t j k ≡ Ok (v, k + nodes v)

abbrev FieldsAgain : AvroType → ℕ → Values → Type 0
FieldsAgain whole b vs = (ts : Fields) (ms : Members) (k : ℕ) → AreFields whole ts vs ms → AreWithin b vs → k + nodes_in vs ≤ max_nodes
    → (js : List Json) × (found ts ms ≡ Some js) × (fields_at (value_at whole b) ts js k ≡ Ok (list_of vs, k + nodes_in vs))

abbrev ItemsAgain : AvroType → ℕ → Values → Type 0
ItemsAgain whole b vs = (u : AvroType) (js : Items) (k : ℕ) → AreItems whole u vs js → AreWithin b vs → k + nodes_in vs ≤ max_nodes → items_at (value_at whole b) u js k ≡ Ok (list_of vs, k + nodes_in vs)

abbrev EntriesAgain : AvroType → ℕ → Entries → Type 0
EntriesAgain whole b es = (u : AvroType) (ms : Members) (k : ℕ) → AreEntries whole u es ms → EntriesWithin b es → k + nodes_among es ≤ max_nodes → entries_at (value_at whole b) u ms k ≡ Ok (entry_list es, k + nodes_among es)

no_fields_again : (whole : AvroType) (b : ℕ) → FieldsAgain whole b no_values
unfolding list_of
no_fields_again whole b ts ms k is within few =
    let none : k ≡ k + 0 = omega arith in
    ([], ap (λ (x : Fields). found x ms) is, ap (λ (x : Fields). fields_at (value_at whole b) x [] k) is ∙ ap (λ (n : ℕ). Ok ([], n)) none)

field_reads : (inner : Reader) (name : List ℕ) (t : AvroType) (more : Fields) (j : Json) (js : List Json) (k mid stop : ℕ) (v : Value) (vs : List Value) → inner t j k ≡ Ok (v, mid) → fields_at inner more js mid ≡ Ok (vs, stop)
    → fields_at inner (schema.field name t more) (j ∷ js) k ≡ Ok (v ∷ vs, stop)
field_reads inner name t more j js k mid stop v vs first others =
    bind_at (inner t j k) (λ x. fields_at inner more js x.1 >>= λ ws. Ok (x.0 ∷ ws.0, ws.1)) (v, mid) first ∙ bind_at (fields_at inner more js mid) (λ ws. Ok (v ∷ ws.0, ws.1)) (vs, stop) others

field_again : (whole : AvroType) (b : ℕ) (v : Value) (vs : Values) → Again whole b v → FieldsAgain whole b vs → FieldsAgain whole b (value v vs)
unfolding list_of
field_again whole b v vs first others ts ms k is within few =
    let inner = value_at whole b in
    let mid = k + nodes v in
    let a = first is.1 is.4 k is.6 within.0 (omega (arith, few)) in
    let c = others is.2 ms mid is.7 within.1 (omega (arith, few)) in
    let count : mid + nodes_in vs ≡ k + (nodes v + nodes_in vs) = omega arith in
    let there : found (schema.field is.0 is.1 is.2) ms ≡ Some (is.4 ∷ c.0) = rw (is.5, c.1) refl in
    let reads = field_reads inner is.0 is.1 is.2 is.4 c.0 k mid (mid + nodes_in vs) v (list_of vs) a c.2 in (
      is.4 ∷ c.0,
      ap (λ (x : Fields). found x ms) is.3 ∙ there,
      ap (λ (x : Fields). fields_at inner x (is.4 ∷ c.0) k) is.3 ∙ reads ∙ ap (λ (n : ℕ). Ok (v ∷ list_of vs, n)) count,
    )

no_items_again : (whole : AvroType) (b : ℕ) → ItemsAgain whole b no_values
unfolding list_of
no_items_again whole b u js k is within few =
    let none : k ≡ k + 0 = omega arith in
    ap (λ (x : Items). items_at (value_at whole b) u x k) is ∙ ap (λ (n : ℕ). Ok ([], n)) none

item_again : (whole : AvroType) (b : ℕ) (v : Value) (vs : Values) → Again whole b v → ItemsAgain whole b vs → ItemsAgain whole b (value v vs)
unfolding list_of
item_again whole b v vs first others u js k is within few =
    let inner = value_at whole b in
    let j = is.0 in
    let more = is.1 in
    let mid = k + nodes v in
    let a = first u j k is.3 within.0 (omega (arith, few)) in
    let c = others u more mid is.4 within.1 (omega (arith, few)) in
    let count : mid + nodes_in vs ≡ k + (nodes v + nodes_in vs) = omega arith in
    ap (λ (x : Items). items_at inner u x k) is.2
    ∙ bind_at (inner u j k) (λ x. items_at inner u more x.1 >>= λ ws. Ok (x.0 ∷ ws.0, ws.1)) (v, mid) a
    ∙ bind_at (items_at inner u more mid) (λ ws. Ok (v ∷ ws.0, ws.1)) (list_of vs, mid + nodes_in vs) c
    ∙ ap (λ (n : ℕ). Ok (v ∷ list_of vs, n)) count

no_entries_again : (whole : AvroType) (b : ℕ) → EntriesAgain whole b no_entries
unfolding entry_list
no_entries_again whole b u ms k is within few =
    let none : k ≡ k + 0 = omega arith in
    ap (λ (x : Members). entries_at (value_at whole b) u x k) is ∙ ap (λ (n : ℕ). Ok ([], n)) none

entry_again : (whole : AvroType) (b : ℕ) (key : List ℕ) (v : Value) (es : Entries) → Again whole b v → EntriesAgain whole b es → EntriesAgain whole b (entry key v es)
unfolding entry_list
entry_again whole b key v es first others u ms k is within few =
    let inner = value_at whole b in
    let s = is.0 in
    let j = is.1 in
    let more = is.2 in
    let mid = k + nodes v in
    let a = first u j k is.5 within.0 (omega (arith, few)) in
    let c = others u more mid is.6 within.1 (omega (arith, few)) in
    let count : mid + nodes_among es ≡ k + (nodes v + nodes_among es) = omega arith in
    ap (λ (x : Members). entries_at inner u x k) is.3
    ∙ bind_at (inner u j k) (λ x. entries_at inner u more x.1 >>= λ xs. Ok (record { key = content s; value = x.0 } ∷ xs.0, xs.1)) (v, mid) a
    ∙ bind_at (entries_at inner u more mid) (λ xs. Ok (record { key = content s; value = v } ∷ xs.0, xs.1)) (entry_list es, mid + nodes_among es) c
    ∙ ap (λ (name : List ℕ). Ok (record { key = name; value = v } ∷ entry_list es, mid + nodes_among es)) is.4
    ∙ ap (λ (n : ℕ). Ok (record { key = key; value = v } ∷ entry_list es, n)) count

record_again : (k : ℕ) (reader : Reader) (name : List ℕ) (ts : Fields) (vs : Values) (ms : Members) (js : List Json) (stop : ℕ) → found ts ms ≡ Some js → fields_at reader ts js (suc k) ≡ Ok (list_of vs, stop)
    → body_at reader (schema.record_ name ts) (json.object ms) k ≡ Ok (fields vs, stop)
record_again k reader name ts vs ms js stop there reads =
    bind_at (fields_in k ts (json.object ms)) (λ xs. giving (λ ws. fields (values_of ws)) (fields_at reader ts xs (suc k))) js (ap (present k) there)
    ∙ giving_is (λ ws. fields (values_of ws)) (fields_at reader ts js (suc k)) (list_of vs) stop reads
    ∙ ap (λ (ws : Values). Ok (fields ws, stop)) (list_back vs)

array_again : (k : ℕ) (reader : Reader) (u : AvroType) (vs : Values) (js : Items) (stop : ℕ) → items_at reader u js (suc k) ≡ Ok (list_of vs, stop) → body_at reader (schema.array u) (json.array js) k ≡ Ok (items vs, stop)
array_again k reader u vs js stop reads =
    giving_is (λ ws. items (values_of ws)) (items_at reader u js (suc k)) (list_of vs) stop reads ∙ ap (λ (ws : Values). Ok (items ws, stop)) (list_back vs)

map_again : (k : ℕ) (reader : Reader) (u : AvroType) (es : Entries) (ms : Members) (stop : ℕ) → differ (names_of ms) ≡ true → entries_at reader u ms (suc k) ≡ Ok (entry_list es, stop)
    → body_at reader (schema.map u) (json.object ms) k ≡ Ok (entries es, stop)
map_again k reader u es ms stop unlike reads =
    let there : entries_in k (json.object ms) ≡ Ok ms = rw unlike refl in
    bind_at (entries_in k (json.object ms)) (λ xs. giving (λ ws. entries (entries_of ws)) (entries_at reader u xs (suc k))) ms there
    ∙ giving_is (λ ws. entries (entries_of ws)) (entries_at reader u ms (suc k)) (entry_list es) stop reads
    ∙ ap (λ (ws : Entries). Ok (entries ws, stop)) (entries_back es)

-- ---- values

mutual
  pub value_again : (v : Value) (whole : AvroType) (levels : ℕ) → Again whole levels v
  value_again null whole levels t j k is within few = leaf_again whole levels t schema.null j json.null k null is.0 refl few is.1 refl
  value_again (boolean b) whole levels t j k is within few = leaf_again whole levels t schema.boolean j (json.boolean b) k (boolean b) is.0 refl few is.1 refl
  value_again (int n) whole levels t j k is within few =
      leaf_again whole levels t schema.int j (json.number is.1) k (int n) is.0 refl few is.2 (leaf_is k int _ n (integer_again k (2 ^ 31) is.1 n is.3 (below32 n is.4)))
  value_again (long n) whole levels t j k is within few =
      leaf_again whole levels t schema.long j (json.number is.1) k (long n) is.0 refl few is.2 (leaf_is k long _ n (integer_again k (2 ^ 63) is.1 n is.3 (below64 n is.4)))
  value_again (bytes piece) whole levels t j k is within few =
      leaf_again whole levels t schema.bytes j (json.text is.1) k (bytes piece) is.0 refl few is.2 (leaf_is k bytes _ piece (points_again k is.1 piece is.3))
  value_again (string piece) whole levels t j k is within few =
      leaf_again whole levels t schema.string j (json.text is.1) k (string piece) is.0 refl few is.2 (ap (λ (x : List ℕ). Ok (string x, suc k)) is.3)
  value_again (fixed piece) whole levels t j k is within few =
      leaf_again whole levels t (schema.fixed is.0 (length piece)) j (json.text is.2) k (fixed piece) is.1 refl few is.3 (leaf_is k fixed _ piece (fixed_again k is.2 piece is.4))
  value_again (symbol n) whole levels t j k is within few =
      leaf_again whole levels t (schema.enum_ is.0 is.1) j (json.text is.3) k (symbol n) is.2 refl few is.4 (leaf_is k symbol _ n (symbol_again k is.1 is.3 n is.5 is.6))
  value_again (branch n v) whole levels t j k is within few =
      parts_again whole levels within.0 t (schema.union is.0) j j k (nodes v) (branch n v) is.1 within.1 few refl
      (union_again k whole (value_at whole within.0) is.0 is.2 n v is.5 j (suc k + nodes v) is.3 is.4 is.6 is.7 (value_again v whole within.0 is.2 is.5 (suc k) is.7 within.2 (omega (arith, few))))
  value_again (fields vs) whole levels t j k is within few =
      let a = fields_again vs whole within.0 is.1 is.3 (suc k) is.5 within.2 (omega (arith, few)) in
      parts_again whole levels within.0 t (schema.record_ is.0 is.1) j (json.object is.3) k (nodes_in vs) (fields vs) is.2 within.1 few is.4
      (record_again k (value_at whole within.0) is.0 is.1 vs is.3 a.0 (suc k + nodes_in vs) a.1 a.2)
  value_again (items vs) whole levels t j k is within few =
      parts_again whole levels within.0 t (schema.array is.0) j (json.array is.2) k (nodes_in vs) (items vs) is.1 within.1 few is.3
      (array_again k (value_at whole within.0) is.0 vs is.2 (suc k + nodes_in vs) (items_again vs whole within.0 is.0 is.2 (suc k) is.4 within.2 (omega (arith, few))))
  value_again (entries es) whole levels t j k is within few =
      parts_again whole levels within.0 t (schema.map is.0) j (json.object is.2) k (nodes_among es) (entries es) is.1 within.1 few is.3
      (map_again k (value_at whole within.0) is.0 es is.2 (suc k + nodes_among es) is.4 (entries_again es whole within.0 is.0 is.2 (suc k) is.5 within.2 (omega (arith, few))))

  fields_again : (vs : Values) (whole : AvroType) (b : ℕ) → FieldsAgain whole b vs
  fields_again no_values whole b = no_fields_again whole b
  fields_again (value v vs) whole b = field_again whole b v vs (value_again v whole b) (fields_again vs whole b)

  items_again : (vs : Values) (whole : AvroType) (b : ℕ) → ItemsAgain whole b vs
  items_again no_values whole b = no_items_again whole b
  items_again (value v vs) whole b = item_again whole b v vs (value_again v whole b) (items_again vs whole b)

  entries_again : (es : Entries) (whole : AvroType) (b : ℕ) → EntriesAgain whole b es
  entries_again no_entries whole b = no_entries_again whole b
  entries_again (entry key v es) whole b = entry_again whole b key v es (value_again v whole b) (entries_again es whole b)

-- the JSON value of a datum within the limits is read as the datum
pub read_again : (whole : AvroType) (j : Json) (v : Value) → IsJson whole whole v j → IsSmall v → datum_at whole j ≡ Ok v
unfolding datum_at
read_again whole j v is small =
    bind_at (value_at whole max_levels whole j 0) (λ x. Ok x.0) (v, 0 + nodes v) (value_again v whole max_levels whole j 0 is small.levels (omega (arith, small.nodes)))
