-- Reading the parts of a datum from a JSON tree one after the other, as a loop does.
use Rattle.std.proofs.Common.{◌≡◌, ◌≢◌, ℕ, zero, suc, ◌-◌, ◌<◌, ◌≤◌, List, [], ◌∷◌, ◌++◌, Result, Ok, Err, Bool, true, false, eqb, nat_lt, ◌&&◌, inl, inr, refl, sym, ap, ◌∙◌, subst, if◌then◌else◌, ◌==◌, arith, append_assoc, lt-ltb}
use Rattle.std.proofs.lemmas.Bool.{eqb-false, ne_eqb}
use Rattle.std.proofs.lemmas.Bool.Decides.{nat_tests}
use Rattle.std.specs.Prelude.{MatchResult}
use Rattle.std.proofs.lemmas.List.{append-nil}
use Rattle.avro_schema.specs.Types as schema
use Rattle.avro_schema.specs.Types.{AvroType, Branches, Fields, resolved}
use Rattle.avro_schema.specs.Nodes as types
use Rattle.avro_schema.specs.Nodes.{SchemaValue, IsOfKind, tree_of}
use Rattle.avro_schema.specs.declared.schema.Kind.{Kind}
use Rattle.avro_schema.specs.declared.schema.Kind.TheVariants as kinds
use Rattle.json_span.specs.Json as json
use Rattle.json_span.specs.Json.{Json, Items, Members}
use Rattle.json_token.specs.Chars.{content}
use Rattle.json_span.specs.Nodes.{Stands, StandForItems, StandForMembers}
use Rattle.json_span.specs.Nodes as values
use Rattle.json_span.specs.declared.tree.Tree.{Tree}
use Rattle.json_span.specs.declared.tree.Member.{Member}
use Rattle.avro_value.specs.declared.error.AvroNo.{AvroNo}
use Rattle.avro_value.specs.declared.error.AvroNo.TheVariants.{TooDeep, TooMany}
use Rattle.avro_datum.specs.declared.datum.Datum.{Datum}
use Rattle.avro_value.specs.declared.json_pick.Part.{Part}
use Rattle.avro_value.specs.Steps.{◌>>=◌, Fails}
use Rattle.avro_datum.specs.Data.{value_of}
use Rattle.avro_value.specs.Value.{Value, Entry, max_levels, max_nodes}
use Rattle.avro_value.specs.Picks.{is_nesting}
use Rattle.avro_value.specs.Parts.{AreParts}
use Rattle.avro_value.specs.Reading.{Read, Reader, Reads, items_at, entries_at, fields_at, giving, body_at, nests, entered, node_at, value_at, below_at, datum_at}
use Rattle.avro_value.proofs.PickLemmas.{resolves_is}

-- ---- steps

pub stop_on : {A B : Type 0} (e : AvroNo) (r : Result A AvroNo) (f : A → Result B AvroNo) → Fails e r → Fails e (r >>= f)
stop_on e r f (inl want) = inl want
stop_on {A} e r f (inr is) = inr (ap (λ (x : Result A AvroNo). x >>= f) is)

pub stop_along : {A : Type 0} (e : AvroNo) (r s : Result A AvroNo) → r ≡ s → Fails e r → Fails e s
stop_along e r s same (inl want) = inl want
stop_along e r s same (inr is) = inr (sym same ∙ is)

pub bind_at : {A B : Type 0} (r : Result A AvroNo) (f : A → Result B AvroNo) (x : A) → r ≡ Ok x → (r >>= f) ≡ f x
bind_at {A} r f x is = ap (λ (y : Result A AvroNo). y >>= f) is

pub reads_along : {X Y : Type 0} (view : X → Y) (r : Result X AvroNo) (a b : Read Y) (next : ℕ) → a ≡ b → Reads view r a next → Reads view r b next
reads_along {X} {Y} view r a b next same reads = subst (λ (x : Read Y). Reads view r x next) same reads

-- what was read behind these
abbrev pub with_front : {A : Type 0} → List A → Read (List A) → Read (List A)
with_front front read = read >>= λ xs. Ok (front ++ xs.0, xs.1)

-- what was read in front, and one more
regroup : {A : Type 0} (front : List A) (x : A) (read : Read (List A)) → with_front front (read >>= λ xs. Ok (x ∷ xs.0, xs.1)) ≡ with_front (front ++ (x ∷ [])) read
regroup {A} front x (Ok xs) = ap (λ (ys : List A). Ok (ys, xs.1)) (simp append_assoc)
regroup front x (Err e) = refl

nothing_more : {A : Type 0} (front : List A) (k : ℕ) → with_front front (Ok ([], k)) ≡ Ok (front, k)
nothing_more {A} front k = ap (λ (xs : List A). Ok (xs, k)) (append-nil front)

-- one more was read
one_more : {A : Type 0} (front : List A) (x : A) (k n : ℕ) (first : Read A) (rest : ℕ → Read (List A)) (total : Read (List A)) → first ≡ Ok (x, n)
    → with_front front (first >>= λ v. rest v.1 >>= λ vs. Ok (v.0 ∷ vs.0, vs.1)) ≡ total → with_front (front ++ (x ∷ [])) (rest n) ≡ total
one_more front x k n first rest total is so_far =
    sym (regroup front x (rest n)) ∙ ap (with_front front) (sym (bind_at first (λ v. rest v.1 >>= λ vs. Ok (v.0 ∷ vs.0, vs.1)) (x, n) is)) ∙ so_far

-- the next wasn't read
none_more : {A : Type 0} (front : List A) (first : Read A) (rest : ℕ → Read (List A)) (e : AvroNo) (total : Read (List A)) → Fails e first
    → with_front front (first >>= λ v. rest v.1 >>= λ vs. Ok (v.0 ∷ vs.0, vs.1)) ≡ total → Fails e total
none_more front first rest e total fails so_far =
    stop_along e _ _ so_far (stop_on e _ (λ xs. Ok (front ++ xs.0, xs.1)) (stop_on e first (λ v. rest v.1 >>= λ vs. Ok (v.0 ∷ vs.0, vs.1)) fails))

-- ---- items

-- the items that are left, behind what was read of those before
pub record ItemsRead (t : Tree) (left : List ℕ) (front : List Value) (inner : Reader) (u : AvroType) (k : ℕ) (total : Read (List Value)) : Type 0 where
  pub more : Items
  pub stands : StandForItems t left more
  pub is : with_front front (items_at inner u more k) ≡ total

-- the next item
items_next : (t : Tree) (left rest : List ℕ) (node : ℕ) (j : Json) (js : Items) → left ≡ node ∷ rest → StandForItems t left (json.item j js) → Stands t node j × StandForItems t rest js
items_next t left rest node j js is stands =
    let same : node ∷ rest ≡ stands.0 ∷ stands.1 = sym is ∙ stands.2 in
    let at : stands.0 ≡ node = cc in
    let behind : stands.1 ≡ rest = cc in
    (subst (λ (n : ℕ). Stands t n j) at stands.3, subst (λ (ns : List ℕ). StandForItems t ns js) behind stands.4)

none_next : {A : Type 0} (left rest : List A) (x : A) → left ≡ x ∷ rest → left ≡ [] → ⊥
none_next left rest x is none = cc

pub items_site : (t : Tree) (left rest : List ℕ) (node : ℕ) (front : List Value) (inner : Reader) (u : AvroType) (k : ℕ) (total : Read (List Value)) → ItemsRead t left front inner u k total → left ≡ node ∷ rest → values.HasNode t node
items_site t left rest node front inner u k total so_far is = go so_far.more so_far.stands
  where
    go : (more : Items) → StandForItems t left more → values.HasNode t node
    go json.no_items stands = absurd (none_next left rest node is stands)
    go (json.item j js) stands = (j, (items_next t left rest node j js is stands).0)

pub items_go : (t : Tree) (left rest : List ℕ) (node : ℕ) (front : List Value) (inner : Reader) (u : AvroType) (k n : ℕ) (v : Value) (total : Read (List Value)) → ItemsRead t left front inner u k total → left ≡ node ∷ rest
    → ((j : Json) → Stands t node j → inner u j k ≡ Ok (v, n)) → ItemsRead t rest (front ++ (v ∷ [])) inner u n total
items_go t left rest node front inner u k n v total so_far is reads = go so_far.more so_far.stands so_far.is
  where
    go : (more : Items) → StandForItems t left more → with_front front (items_at inner u more k) ≡ total → ItemsRead t rest (front ++ (v ∷ [])) inner u n total
    go json.no_items stands at = absurd (none_next left rest node is stands)
    go (json.item j js) stands at =
        let next = items_next t left rest node j js is stands in
        record { more = js; stands = next.1; is = one_more front v k n (inner u j k) (items_at inner u js) total (reads j next.0) at }

pub items_stop : (t : Tree) (left rest : List ℕ) (node : ℕ) (front : List Value) (inner : Reader) (u : AvroType) (k : ℕ) (e : AvroNo) (total : Read (List Value)) → ItemsRead t left front inner u k total → left ≡ node ∷ rest
    → ((j : Json) → Stands t node j → Fails e (inner u j k)) → Fails e total
items_stop t left rest node front inner u k e total so_far is fails = go so_far.more so_far.stands so_far.is
  where
    go : (more : Items) → StandForItems t left more → with_front front (items_at inner u more k) ≡ total → Fails e total
    go json.no_items stands at = absurd (none_next left rest node is stands)
    go (json.item j js) stands at = none_more front (inner u j k) (items_at inner u js) e total (fails j (items_next t left rest node j js is stands).0) at

pub items_done : (t : Tree) (left : List ℕ) (front : List Value) (inner : Reader) (u : AvroType) (k : ℕ) (total : Read (List Value)) → ItemsRead t left front inner u k total → left ≡ [] → total ≡ Ok (front, k)
items_done t left front inner u k total so_far is = go so_far.more so_far.stands so_far.is
  where
    go : (more : Items) → StandForItems t left more → with_front front (items_at inner u more k) ≡ total → total ≡ Ok (front, k)
    go json.no_items stands at = sym at ∙ nothing_more front k
    go (json.item j js) stands at = absurd (none_next left stands.1 stands.0 stands.2 is)

-- ---- entries

pub record EntriesRead (t : Tree) (left : List Member) (front : List Entry) (inner : Reader) (u : AvroType) (k : ℕ) (total : Read (List Entry)) : Type 0 where
  pub more : Members
  pub stands : StandForMembers t left more
  pub is : with_front front (entries_at inner u more k) ≡ total

-- the next member
entries_next : (t : Tree) (left rest : List Member) (m : Member) (s : List ℕ) (j : Json) (ms : Members) → left ≡ m ∷ rest → StandForMembers t left (json.member s j ms) → (m.name ≡ content s) × Stands t m.node j × StandForMembers t rest ms
entries_next t left rest m s j ms is stands =
    let same : m ∷ rest ≡ stands.0 ∷ stands.1 = sym is ∙ stands.2 in
    let at : stands.0 ≡ m = cc in
    let behind : stands.1 ≡ rest = cc in
    (subst (λ (x : Member). x.name ≡ content s) at stands.3, subst (λ (x : Member). Stands t x.node j) at stands.5, subst (λ (xs : List Member). StandForMembers t xs ms) behind stands.6)

-- a value with its key
abbrev pub keyed : List ℕ → Value × ℕ → Read Entry
keyed key v = Ok (record { key = key; value = v.0 }, v.1)

abbrev pub entry_of : Reader → AvroType → List ℕ → Json → ℕ → Read Entry
entry_of inner u key j k = inner u j k >>= keyed key

abbrev pub with_entry : Entry → List Entry × ℕ → Read (List Entry)
with_entry x es = Ok (x ∷ es.0, es.1)

entries_step : (inner : Reader) (u : AvroType) (s : List ℕ) (j : Json) (ms : Members) (k : ℕ)
    → entries_at inner u (json.member s j ms) k ≡ (entry_of inner u (content s) j k >>= λ e. entries_at inner u ms e.1 >>= with_entry e.0)
entries_step inner u s j ms k = regrouped (inner u j k)
  where
    regrouped : (first : Read Value) → (first >>= λ v. entries_at inner u ms v.1 >>= with_entry (record { key = content s; value = v.0 }))
        ≡ (first >>= keyed (content s) >>= λ e. entries_at inner u ms e.1 >>= with_entry e.0)
    regrouped (Ok v) = refl
    regrouped (Err e) = refl

pub entries_site : (t : Tree) (left rest : List Member) (m : Member) (front : List Entry) (inner : Reader) (u : AvroType) (k : ℕ) (total : Read (List Entry)) → EntriesRead t left front inner u k total → left ≡ m ∷ rest → values.HasNode t m.node
entries_site t left rest m front inner u k total so_far is = go so_far.more so_far.stands
  where
    go : (more : Members) → StandForMembers t left more → values.HasNode t m.node
    go json.no_members stands = absurd (none_next left rest m is stands)
    go (json.member s j ms) stands = (j, (entries_next t left rest m s j ms is stands).1)

pub entries_go : (t : Tree) (left rest : List Member) (m : Member) (front : List Entry) (inner : Reader) (u : AvroType) (k n : ℕ) (v : Value) (total : Read (List Entry)) → EntriesRead t left front inner u k total → left ≡ m ∷ rest
    → ((j : Json) → Stands t m.node j → inner u j k ≡ Ok (v, n)) → EntriesRead t rest (front ++ (record { key = m.name; value = v } ∷ [])) inner u n total
entries_go t left rest m front inner u k n v total so_far is reads = go so_far.more so_far.stands so_far.is
  where
    go : (more : Members) → StandForMembers t left more → with_front front (entries_at inner u more k) ≡ total → EntriesRead t rest (front ++ (record { key = m.name; value = v } ∷ [])) inner u n total
    go json.no_members stands at = absurd (none_next left rest m is stands)
    go (json.member s j ms) stands at =
        let next = entries_next t left rest m s j ms is stands in
        let x : Entry = (record { key = m.name; value = v }) in
        let first : entry_of inner u (content s) j k ≡ Ok (x, n) =
        bind_at (inner u j k) (keyed (content s)) (v, n) (reads j next.1) ∙ ap (λ (key : List ℕ). Ok (record { key = key; value = v }, n)) (sym next.0) in
        record { more = ms; stands = next.2; is = one_more front x k n (entry_of inner u (content s) j k) (entries_at inner u ms) total first (ap (with_front front) (sym (entries_step inner u s j ms k)) ∙ at) }

pub entries_stop : (t : Tree) (left rest : List Member) (m : Member) (front : List Entry) (inner : Reader) (u : AvroType) (k : ℕ) (e : AvroNo) (total : Read (List Entry)) → EntriesRead t left front inner u k total → left ≡ m ∷ rest
    → ((j : Json) → Stands t m.node j → Fails e (inner u j k)) → Fails e total
entries_stop t left rest m front inner u k e total so_far is fails = go so_far.more so_far.stands so_far.is
  where
    go : (more : Members) → StandForMembers t left more → with_front front (entries_at inner u more k) ≡ total → Fails e total
    go json.no_members stands at = absurd (none_next left rest m is stands)
    go (json.member s j ms) stands at =
        none_more front (entry_of inner u (content s) j k) (entries_at inner u ms) e total
        (stop_on e (inner u j k) (keyed (content s)) (fails j (entries_next t left rest m s j ms is stands).1)) (ap (with_front front) (sym (entries_step inner u s j ms k)) ∙ at)

pub entries_done : (t : Tree) (left : List Member) (front : List Entry) (inner : Reader) (u : AvroType) (k : ℕ) (total : Read (List Entry)) → EntriesRead t left front inner u k total → left ≡ [] → total ≡ Ok (front, k)
entries_done t left front inner u k total so_far is = go so_far.more so_far.stands so_far.is
  where
    go : (more : Members) → StandForMembers t left more → with_front front (entries_at inner u more k) ≡ total → total ≡ Ok (front, k)
    go json.no_members stands at = sym at ∙ nothing_more front k
    go (json.member s j ms) stands at = absurd (none_next left stands.1 stands.0 stands.2 is)

-- ---- fields

pub record FieldsRead (s : SchemaValue) (t : Tree) (left : List Part) (front : List Value) (inner : Reader) (k : ℕ) (total : Read (List Value)) : Type 0 where
  pub ts : Fields
  pub js : List Json
  pub are : AreParts s t left ts js
  pub is : with_front front (fields_at inner ts js k) ≡ total

-- ---- a node

pub nests_is : (s : SchemaValue) (k : ℕ) (t : AvroType) (kind : Kind) → IsOfKind s k kind → types.Stands s k t → nests (resolved (tree_of s) t) ≡ is_nesting kind
nests_is s k t kinds.Null is stands = ap nests (resolves_is s k t schema.null stands is)
nests_is s k t kinds.Boolean is stands = ap nests (resolves_is s k t schema.boolean stands is)
nests_is s k t kinds.Int is stands = ap nests (resolves_is s k t schema.int stands is)
nests_is s k t kinds.Long is stands = ap nests (resolves_is s k t schema.long stands is)
nests_is s k t kinds.Bytes is stands = ap nests (resolves_is s k t schema.bytes stands is)
nests_is s k t kinds.Text is stands = ap nests (resolves_is s k t schema.string stands is)
nests_is s k t (kinds.Array item) is stands = ap nests (resolves_is s k t (schema.array is.0) stands is.1)
nests_is s k t (kinds.Map item) is stands = ap nests (resolves_is s k t (schema.map is.0) stands is.1)
nests_is s k t kinds.Union is stands = ap nests (resolves_is s k t (schema.union is.0) stands is.1)
nests_is s k t (kinds.Fixed size) is stands = ap nests (resolves_is s k t (schema.fixed is.0 size) stands is.1)
nests_is s k t kinds.Enum is stands = ap nests (resolves_is s k t (schema.enum_ is.0 is.1) stands is.2)
nests_is s k t kinds.Record is stands = ap nests (resolves_is s k t (schema.record_ is.0 is.1) stands is.2)

pub value_is : (whole : AvroType) (levels : ℕ) (t : AvroType) (j : Json) (k : ℕ) → value_at whole levels t j k ≡ node_at (below_at whole levels) (levels == 0) (resolved whole t) j k
unfolding value_at
value_is whole zero t j k = refl
value_is whole (suc levels) t j k = rw (ne_eqb (suc levels) 0 (λ (e : suc levels ≡ 0). omega arith)) refl

-- a node that is too deep
pub node_deep : (whole : AvroType) (levels : ℕ) (t : AvroType) (j : Json) (k : ℕ) (kind deep : Bool) → deep ≡ (kind && (levels == 0)) → nests (resolved whole t) ≡ kind → deep ≡ true → value_at whole levels t j k ≡ Err TooDeep
node_deep whole levels t j k kind deep is nest at =
    let test : (nests (resolved whole t) && (levels == 0)) ≡ true = ap (λ (b : Bool). b && (levels == 0)) nest ∙ sym is ∙ at in
    value_is whole levels t j k ∙ ap (λ (b : Bool). entered b k (body_at (below_at whole levels) (resolved whole t) j k)) test

-- a node that is one too many
pub node_many : (whole : AvroType) (levels : ℕ) (t : AvroType) (j : Json) (k : ℕ) (kind deep : Bool) → deep ≡ (kind && (levels == 0)) → nests (resolved whole t) ≡ kind → deep ≡ false → max_nodes ≤ k → value_at whole levels t j k ≡ Err TooMany
node_many whole levels t j k kind deep is nest at full =
    let test : (nests (resolved whole t) && (levels == 0)) ≡ false = ap (λ (b : Bool). b && (levels == 0)) nest ∙ sym is ∙ at in
    let past : nat_lt k max_nodes ≡ false = grind (arith, nat_tests) in
    value_is whole levels t j k ∙ ap (λ (b : Bool). entered b k (body_at (below_at whole levels) (resolved whole t) j k)) test ∙ ap (λ (b : Bool). if b then body_at (below_at whole levels) (resolved whole t) j k else Err TooMany) past

-- a node that is read
pub node_enters : (whole : AvroType) (levels : ℕ) (t : AvroType) (j : Json) (k : ℕ) (kind deep : Bool) → deep ≡ (kind && (levels == 0)) → nests (resolved whole t) ≡ kind → deep ≡ false → k < max_nodes
    → value_at whole levels t j k ≡ body_at (below_at whole levels) (resolved whole t) j k
node_enters whole levels t j k kind deep is nest at room =
    let test : (nests (resolved whole t) && (levels == 0)) ≡ false = ap (λ (b : Bool). b && (levels == 0)) nest ∙ sym is ∙ at in
    let below : nat_lt k max_nodes ≡ true = lt-ltb _ _ room in
    value_is whole levels t j k ∙ ap (λ (b : Bool). entered b k (body_at (below_at whole levels) (resolved whole t) j k)) test ∙ ap (λ (b : Bool). if b then body_at (below_at whole levels) (resolved whole t) j k else Err TooMany) below

-- a node with parts has a level for them
pub room_is : (levels : ℕ) (kind : Bool) → kind ≡ true → (kind && (levels == 0)) ≡ false → levels ≡ suc (levels - 1)
room_is levels kind nest room =
    let test : eqb levels 0 ≡ false = ap (λ (b : Bool). b && eqb levels 0) (sym nest) ∙ room in
    let some : levels ≢ 0 = eqb-false _ _ test in
    omega arith

pub body_is : (whole : AvroType) (levels k : ℕ) (u t : AvroType) (j : Json) → levels ≡ suc (levels - 1) → u ≡ t → body_at (below_at whole levels) u j k ≡ body_at (value_at whole (levels - 1)) t j k
body_is whole levels k u t j some is = ap (λ (l : ℕ). body_at (below_at whole l) u j k) some ∙ ap (λ (x : AvroType). body_at (value_at whole (levels - 1)) x j k) is

pub giving_read : {A : Type 0} (f : A → Value) (r : Read A) (x : A) (n : ℕ) (v : Value) → r ≡ Ok (x, n) → v ≡ f x → giving f r ≡ Ok (v, n)
giving_read f r x n v is made = bind_at r (λ y. Ok (f y.0, y.1)) (x, n) is ∙ ap (λ (w : Value). Ok (w, n)) (sym made)

pub giving_stop : {A : Type 0} (f : A → Value) (r : Read A) (e : AvroNo) → Fails e r → Fails e (giving f r)
giving_stop f r e fails = stop_on e r (λ y. Ok (f y.0, y.1)) fails

-- a node whose parts are found, and read from the number behind it
pub parts_read : {X : Type 0} (r : Result Datum AvroNo) (body : Read Value) (pick : Result X AvroNo) (x : X) (rest : X → ℕ → Read Value) (k begun next : ℕ) → body ≡ (pick >>= λ y. rest y (suc k))
    → pick ≡ Ok x → begun ≡ suc k → Reads value_of r (rest x begun) next → Reads value_of r body next
parts_read r body pick x rest k begun next is at behind reads =
    reads_along value_of r (rest x begun) body next (sym (is ∙ bind_at pick (λ y. rest y (suc k)) x at ∙ ap (rest x) (sym behind))) reads

-- a node whose parts aren't found
pub parts_lack : {X : Type 0} (body : Read Value) (pick : Result X AvroNo) (rest : X → Read Value) (e : AvroNo) → body ≡ (pick >>= rest) → Fails e pick → Fails e body
parts_lack body pick rest e is fails = stop_along e _ _ (sym is) (stop_on e pick rest fails)

-- ---- the whole

pub datum_read : (whole : AvroType) (j : Json) (v : Value) (n : ℕ) → value_at whole max_levels whole j 0 ≡ Ok (v, n) → datum_at whole j ≡ Ok v
unfolding datum_at
datum_read whole j v n is = bind_at (value_at whole max_levels whole j 0) (λ x. Ok x.0) (v, n) is

pub datum_stop : (whole : AvroType) (j : Json) (e : AvroNo) → Fails e (value_at whole max_levels whole j 0) → Fails e (datum_at whole j)
unfolding datum_at
datum_stop whole j e fails = stop_on e (value_at whole max_levels whole j 0) (λ x. Ok x.0) fails

pub datum_is : (whole : AvroType) (j : Json) (r : Result Datum AvroNo) (n : ℕ) → Reads value_of r (value_at whole max_levels whole j 0) n → MatchResult r (λ d. datum_at whole j ≡ Ok (value_of d)) (λ e. Fails e (datum_at whole j))
datum_is whole j (Ok d) n is = datum_read whole j (value_of d) n is
datum_is whole j (Err e) n fails = datum_stop whole j e fails
