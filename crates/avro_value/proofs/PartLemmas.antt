-- From the nodes of a JSON tree that were looked up, to the values that they stand for.
use Rattle.std.proofs.Common.{◌≤◌, ◌≡◌, ℕ, suc, ◌+◌, ◌^◌, ◌<◌, List, [], ◌∷◌, ◌++◌, length, take, drop, get_or, slice_get, Option, Some, None, option_map, Result, Ok, Err, Bool, true, false, cond, ◌&&◌, not, nat_lt, refl, sym, ap, subst, ◌∙◌, if◌then◌else◌, arith, add-one, drop-cons, append_assoc, lt-ltb, nat_cmp, Bor, Ordering}
use Rattle.std.proofs.Math.Bool.{beq}
use Rattle.std.specs.Bool.{one_answer, ⊤}
use Rattle.std.specs.Str.{bytes_eq}
use Rattle.std.specs.BTreeMap as tree
use Rattle.std.specs.BTreeMap.{BTreeMap, get_by}
use Rattle.std.specs.BTreeSet.{BTreeSet, contains, Updates}
use Rattle.std.specs.Cmp.Lexicographic.{slice_cmp}
use Rattle.std.proofs.lemmas.List.{append-nil, take_more, take_all, take-append-drop}
use Rattle.std.proofs.lemmas.Slice.Eq.{bytes_eq-Decides}
use Rattle.std.proofs.lemmas.Map.Text.{is_eq-slice_cmp, btree_map_updates_str}
use Rattle.avro_schema.specs.Types as schema
use Rattle.avro_schema.specs.Types.{AvroType, Branches, Fields, Defined, resolved, definitions, branch_definitions, field_definitions, definition_or, branch_name}
use Rattle.avro_schema.specs.Nodes as types
use Rattle.avro_schema.specs.Nodes.{SchemaValue, StandForBranches, StandForFields, tree_of}
use Rattle.avro_schema.specs.declared.parts.Field.{Field}
use Rattle.json_span.specs.Json as json
use Rattle.json_span.specs.Json.{Json, Items, Members}
use Rattle.json_token.specs.Chars.{content}
use Rattle.json_span.specs.Nodes.{Stands, StandForMembers}
use Rattle.json_span.specs.declared.tree.Tree.{Tree}
use Rattle.json_span.specs.declared.tree.Member.{Member}
use Rattle.avro_value.specs.declared.error.AvroNo.{AvroNo}
use Rattle.avro_value.specs.declared.error.AvroNo.TheVariants.{Mismatch}
use Rattle.avro_value.specs.declared.json_pick.Part.{Part}
use Rattle.avro_value.specs.Steps.{◌>>=◌}
use Rattle.avro_value.specs.Judging.{is_null, branch_at}
use Rattle.avro_value.specs.Picks.{Picks}
use Rattle.json_span.specs.Parts.{last_member, later}
use Rattle.avro_value.specs.Encoding.{place_of, branch_names, names_of, is_among, differ}
use Rattle.avro_value.specs.Reading.{Labelled, also, found, agree, labelled, placed, branch_by, members_in, entries_in}
use Rattle.avro_value.specs.Parts.{names_in, or_else, last_in, IsPart, AreParts}
use Rattle.avro_value.proofs.NodeLemmas.{rest_is}
use Rattle.avro_value.proofs.PickLemmas.{branch_stands}

-- ---- steps

pub along : {A B : Type 0} (r : Result A AvroNo) (f : A → Result B AvroNo) (x : A) → r ≡ Ok x → (r >>= f) ≡ f x
along {A} r f x is = ap (λ (y : Result A AvroNo). y >>= f) is

-- the next of a list
pub next_is : {A : Type 0} (xs : List A) (i : ℕ) (d : A) → i < length xs → drop i xs ≡ get_or xs i d ∷ drop (i + 1) xs
next_is xs i d inside = drop-cons xs i d inside ∙ rw add-one refl

-- ---- names

pub names_in-append : (xs ys : List Member) → names_in (xs ++ ys) ≡ names_in xs ++ names_in ys
names_in-append [] ys = refl
names_in-append (x ∷ xs) ys = ap (λ (ns : List (List ℕ)). x.name ∷ ns) (names_in-append xs ys)

pub names_more : (ms : List Member) (i : ℕ) (m : Member) → i < length ms → m ≡ get_or ms i m → names_in (take (i + 1) ms) ≡ names_in (take i ms) ++ m.name ∷ []
names_more ms i m inside is =
    ap names_in (take_more ms i m inside) ∙ names_in-append (take i ms) (get_or ms i m ∷ []) ∙ ap (λ (x : Member). names_in (take i ms) ++ x.name ∷ []) (sym is)

pub names_are : (t : Tree) (vs : List Member) (ms : Members) → StandForMembers t vs ms → names_in vs ≡ names_of ms
names_are t vs json.no_members is = ap names_in is
names_are t vs (json.member s j ms) is = ap names_in is.2 ∙ ap (λ (n : List ℕ). n ∷ names_in is.1) is.3 ∙ ap (λ (ns : List (List ℕ)). content s ∷ ns) (names_are t is.1 ms is.6)

pub among_last : (q n : List ℕ) (ns : List (List ℕ)) → is_among q (ns ++ n ∷ []) ≡ cond (bytes_eq n q) true (is_among q ns)
among_last q n [] = refl
among_last q n (m ∷ ns) = go (bytes_eq m q) refl (among_last q n ns)
  where
    either : (b : Bool) → true ≡ cond b true true
    either true = refl
    either false = refl

    go : (b : Bool) → bytes_eq m q ≡ b → is_among q (ns ++ n ∷ []) ≡ cond (bytes_eq n q) true (is_among q ns) → is_among q ((m ∷ ns) ++ n ∷ []) ≡ cond (bytes_eq n q) true (is_among q (m ∷ ns))
    go true same rest = rw same (either (bytes_eq n q))
    go false same rest = rw same rest

same_either_way : (xs ys : List ℕ) → bytes_eq xs ys ≡ bytes_eq ys xs
same_either_way xs ys =
    let back = bytes_eq-Decides ys xs in
    one_answer (bytes_eq xs ys) (bytes_eq ys xs) (bytes_eq-Decides xs ys) (λ same. sym (back.0 same), λ same. back.1 (sym same))

-- one more name
pub differ_last : (ns : List (List ℕ)) (n : List ℕ) → differ (ns ++ n ∷ []) ≡ (differ ns && not (is_among n ns))
differ_last [] n = refl
differ_last (m ∷ ns) n =
    ap (λ (b : Bool). not b && differ (ns ++ n ∷ [])) (among_last m n ns ∙ ap (λ (b : Bool). cond b true (is_among m ns)) (same_either_way n m))
    ∙ ap (λ (b : Bool). not (cond (bytes_eq m n) true (is_among m ns)) && b) (differ_last ns n)
    ∙ turned (bytes_eq m n) (is_among m ns) (differ ns) (is_among n ns)
  where
    turned : (same among unlike here : Bool) → (not (cond same true among) && (unlike && not here)) ≡ ((not among && unlike) && not (if same then true else here))
    turned true true true here = refl
    turned true true false here = refl
    turned true false true here = refl
    turned true false false here = refl
    turned false true unlike here = refl
    turned false false true here = refl
    turned false false false here = refl

among_front : (q : List ℕ) (xs ys : List (List ℕ)) → is_among q xs ≡ true → is_among q (xs ++ ys) ≡ true
among_front q [] ys is = absurd cc
among_front q (x ∷ xs) ys is = go (bytes_eq x q) refl (among_front q xs ys)
  where
    go : (b : Bool) → bytes_eq x q ≡ b → (is_among q xs ≡ true → is_among q (xs ++ ys) ≡ true) → is_among q ((x ∷ xs) ++ ys) ≡ true
    go true same rest = rw same refl
    go false same rest = rw same (rest (ap (λ (b : Bool). if b then true else is_among q xs) (sym same) ∙ is))

both_false : (a b : Bool) → b ≡ false → (a && b) ≡ false
both_false true b is = is
both_false false b is = refl

pub not_true : (a b : Bool) → a ≡ not b → a ≡ true → b ≡ false
not_true a true is true_is = absurd cc
not_true a false is true_is = refl

pub not_false : (a b : Bool) → a ≡ not b → a ≡ false → b ≡ true
not_false a true is false_is = refl
not_false a false is false_is = absurd cc

-- names that are alike stay alike with more names behind them
pub differ_front : (xs ys : List (List ℕ)) → differ xs ≡ false → differ (xs ++ ys) ≡ false
differ_front [] ys is = absurd cc
differ_front (x ∷ xs) ys is = go (is_among x xs) refl (differ_front xs ys)
  where
    go : (b : Bool) → is_among x xs ≡ b → (differ xs ≡ false → differ (xs ++ ys) ≡ false) → differ ((x ∷ xs) ++ ys) ≡ false
    go true same rest = rw (among_front x xs ys same) refl
    go false same rest =
        let last : differ xs ≡ false = ap (λ (b : Bool). not b && differ xs) (sym same) ∙ is in
        both_false (not (is_among x (xs ++ ys))) (differ (xs ++ ys)) (rest last)

-- the members up to one that is named as one before it
pub differ_stop : (ms : List Member) (i : ℕ) (m : Member) → i < length ms → m ≡ get_or ms i m → is_among m.name (names_in (take i ms)) ≡ true → differ (names_in ms) ≡ false
differ_stop ms i m inside is again =
    let alike : differ (names_in (take (i + 1) ms)) ≡ false =
    ap differ (names_more ms i m inside is) ∙ differ_last (names_in (take i ms)) m.name ∙ ap (λ (b : Bool). differ (names_in (take i ms)) && not b) again ∙ none (differ (names_in (take i ms))) in
    ap (λ (xs : List Member). differ (names_in xs)) (sym (take-append-drop (i + 1) ms)) ∙ ap differ (names_in-append (take (i + 1) ms) (drop (i + 1) ms)) ∙ differ_front (names_in (take (i + 1) ms)) (names_in (drop (i + 1) ms)) alike
  where
    none : (b : Bool) → (b && false) ≡ false
    none true = refl
    none false = refl

pub differ_go : (ms : List Member) (i : ℕ) (m : Member) → i < length ms → m ≡ get_or ms i m → differ (names_in (take i ms)) ≡ true → is_among m.name (names_in (take i ms)) ≡ false → differ (names_in (take (i + 1) ms)) ≡ true
differ_go ms i m inside is so_far new = ap differ (names_more ms i m inside is) ∙ differ_last (names_in (take i ms)) m.name ∙ rw (so_far, new) refl

abbrev pub str_cmp : Bor (List ℕ) → Bor (List ℕ) → Ordering
str_cmp x y = slice_cmp nat_cmp x.now y.now

pub names_go : (ms : List Member) (i : ℕ) (m : Member) (name : Bor (List ℕ)) (old new : BTreeSet (Bor (List ℕ))) → i < length ms → m ≡ get_or ms i m → name.now ≡ m.name
    → ((q : Bor (List ℕ)) → contains str_cmp old q ≡ is_among q.now (names_in (take i ms))) → Updates str_cmp old new name true
    → (q : Bor (List ℕ)) → contains str_cmp new q ≡ is_among q.now (names_in (take (i + 1) ms))
names_go ms i m name old new inside is named so_far updates q =
    updates.0 q ∙ ap (λ (b : Bool). cond b true (contains str_cmp old q)) (is_eq-slice_cmp name.now q.now ∙ ap (λ (n : List ℕ). bytes_eq n q.now) named)
    ∙ ap (λ (b : Bool). cond (bytes_eq m.name q.now) true b) (so_far q) ∙ sym (among_last q.now m.name (names_in (take i ms))) ∙ ap (is_among q.now) (sym (names_more ms i m inside is))

pub among : (ms : List Member) (i : ℕ) (m : Member) (name : Bor (List ℕ)) (old : BTreeSet (Bor (List ℕ))) → ((q : Bor (List ℕ)) → contains str_cmp old q ≡ is_among q.now (names_in (take i ms))) → name.now ≡ m.name
    → contains str_cmp old name ≡ is_among m.name (names_in (take i ms))
among ms i m name old so_far named = so_far name ∙ ap (λ (n : List ℕ). is_among n (names_in (take i ms))) named

-- ---- the last member of a name

last_in-append : (name : List ℕ) (xs ys : List Member) → last_in name (xs ++ ys) ≡ or_else (last_in name ys) (last_in name xs)
last_in-append name [] ys = right_none (last_in name ys)
  where
    right_none : (o : Option ℕ) → o ≡ or_else o None
    right_none None = refl
    right_none (Some k) = refl
last_in-append name (x ∷ xs) ys =
    let here : Option ℕ = (if bytes_eq x.name name then Some x.node else None) in
    ap (λ (o : Option ℕ). or_else o here) (last_in-append name xs ys) ∙ grouped (last_in name ys) (last_in name xs) here
  where
    grouped : (a b c : Option ℕ) → or_else (or_else a b) c ≡ or_else a (or_else b c)
    grouped None b c = refl
    grouped (Some k) b c = refl

last_here : (name : List ℕ) (ms : List Member) (i : ℕ) (m : Member) → i < length ms → m ≡ get_or ms i m → last_in name (drop (i + 1) ms) ≡ None → last_in name (drop i ms) ≡ (if bytes_eq m.name name then Some m.node else None)
last_here name ms i m inside is none = ap (last_in name) (rest_is ms i m inside is) ∙ ap (λ (o : Option ℕ). or_else o (if bytes_eq m.name name then Some m.node else None)) none

pub last_hit : (name : List ℕ) (ms : List Member) (i : ℕ) (m : Member) → i < length ms → m ≡ get_or ms i m → last_in name (drop (i + 1) ms) ≡ None → bytes_eq m.name name ≡ true → Some m.node ≡ last_in name ms
last_hit name ms i m inside is none same =
    let here : last_in name (drop i ms) ≡ Some m.node = last_here name ms i m inside is none ∙ ap (λ (b : Bool). if b then Some m.node else None) same in
    sym (ap (last_in name) (sym (take-append-drop i ms)) ∙ last_in-append name (take i ms) (drop i ms) ∙ ap (λ (o : Option ℕ). or_else o (last_in name (take i ms))) here)

pub last_go : (name : List ℕ) (ms : List Member) (i : ℕ) (m : Member) → i < length ms → m ≡ get_or ms i m → last_in name (drop (i + 1) ms) ≡ None → bytes_eq m.name name ≡ false → last_in name (drop i ms) ≡ None
last_go name ms i m inside is none other = last_here name ms i m inside is none ∙ rw other refl

-- what the map has at a name
abbrev pub node_at : List ℕ → BTreeMap (Bor (List ℕ)) ℕ → Option ℕ
node_at name nodes = get_by (λ k. slice_cmp nat_cmp name k.now) nodes

pub nodes_go : (ms : List Member) (i : ℕ) (m : Member) (key : Bor (List ℕ)) (old new : BTreeMap (Bor (List ℕ)) ℕ) → i < length ms → m ≡ get_or ms i m → key.now ≡ m.name
    → ((name : List ℕ) → node_at name old ≡ last_in name (take i ms)) → tree.Updates str_cmp old new key (Some m.node)
    → (name : List ℕ) → node_at name new ≡ last_in name (take (i + 1) ms)
nodes_go ms i m key old new inside is named so_far updates name =
    btree_map_updates_str key.now old new (Some m.node) updates name ∙ ap (λ (n : List ℕ). cond (bytes_eq n name) (Some m.node) (node_at name old)) named
    ∙ ap (λ (o : Option ℕ). cond (bytes_eq m.name name) (Some m.node) o) (so_far name) ∙ chosen (bytes_eq m.name name) (last_in name (take i ms))
    ∙ sym (last_in-append name (take i ms) (m ∷ [])) ∙ ap (λ (x : Member). last_in name (take i ms ++ x ∷ [])) is ∙ ap (last_in name) (sym (take_more ms i m inside))
  where
    chosen : (b : Bool) (o : Option ℕ) → cond b (Some m.node) o ≡ or_else (if b then Some m.node else None) o
    chosen true o = refl
    chosen false o = refl

pub nodes_done : (ms : List Member) (i : ℕ) (nodes : BTreeMap (Bor (List ℕ)) ℕ) → length ms ≤ i → ((name : List ℕ) → node_at name nodes ≡ last_in name (take i ms)) → (name : List ℕ) → node_at name nodes ≡ last_in name ms
nodes_done ms i nodes past so_far name = so_far name ∙ ap (last_in name) (take_all i ms past)

-- ---- a record's members

-- the node stands for the value, where there is one
abbrev pub PicksValue : Tree → Option ℕ → Option Json → Type 0
PicksValue t None o = o ≡ None
PicksValue t (Some k) o = (j : Json) × (o ≡ Some j) × Stands t k j

picks_or : (t : Tree) (o p : Option ℕ) (x y : Option Json) → PicksValue t o x → PicksValue t p y → PicksValue t (or_else o p) (later x y)
picks_or t None p x y first second = subst (λ (z : Option Json). PicksValue t p (later z y)) (sym first) second
picks_or t (Some k) p x y first second = (first.0, ap (λ (z : Option Json). later z y) first.1, first.2)

picks_one : (t : Tree) (k : ℕ) (j : Json) (b : Bool) → Stands t k j → PicksValue t (if b then Some k else None) (if b then Some j else None)
picks_one t k j true stands = (j, refl, stands)
picks_one t k j false stands = refl

pub last_picks : (t : Tree) (name : List ℕ) (vs : List Member) (ms : Members) → StandForMembers t vs ms → PicksValue t (last_in name vs) (last_member name ms)
last_picks t name vs json.no_members is = subst (λ (xs : List Member). PicksValue t (last_in name xs) None) (sym is) refl
last_picks t name vs (json.member s j ms) is =
    subst (λ (xs : List Member). PicksValue t (last_in name xs) (last_member name (json.member s j ms))) (sym is.2)
    (picks_or t (last_in name is.1) (if bytes_eq is.0.name name then Some is.0.node else None) (last_member name ms) (if bytes_eq (content s) name then Some j else None)
    (last_picks t name is.1 ms is.6)
    (subst (λ (n : List ℕ). PicksValue t (if bytes_eq is.0.name name then Some is.0.node else None) (if bytes_eq n name then Some j else None)) is.3 (picks_one t is.0.node j (bytes_eq is.0.name name) is.5)))

-- a name that is there, and one that isn't
pub last_is : (t : Tree) (name : List ℕ) (vs : List Member) (ms : Members) (node : ℕ) → StandForMembers t vs ms → Some node ≡ last_in name vs → PicksValue t (Some node) (last_member name ms)
last_is t name vs ms node stands at = subst (λ (o : Option ℕ). PicksValue t o (last_member name ms)) (sym at) (last_picks t name vs ms stands)

pub last_none : (t : Tree) (name : List ℕ) (vs : List Member) (ms : Members) → StandForMembers t vs ms → None ≡ last_in name vs → last_member name ms ≡ None
last_none t name vs ms stands at = subst (λ (o : Option ℕ). PicksValue t o (last_member name ms)) (sym at) (last_picks t name vs ms stands)

-- what was found in front
abbrev pub behind : List Json → Option (List Json) → Option (List Json)
behind front None = None
behind front (Some js) = Some (front ++ js)

behind_also : (front : List Json) (j : Json) (more : Option (List Json)) → behind front (also (Some j) more) ≡ behind (front ++ j ∷ []) more
behind_also front j None = refl
behind_also front j (Some js) = ap (λ (xs : List Json). Some xs) (simp append_assoc)

behind_none : (more : Option (List Json)) → behind [] more ≡ more
behind_none None = refl
behind_none (Some js) = refl

-- the fields that are left, behind the parts that were found
pub record PartsLeft (s : SchemaValue) (t : Tree) (left : List Field) (front : List Part) (ms : Members) (ts : Fields) : Type 0 where
  pub more : Fields
  pub js : List Json
  pub stands : StandForFields s left more
  pub is : behind js (found more ms) ≡ found ts ms
  pub goes : (ps : List Part) (rest : List Json) → AreParts s t ps more rest → AreParts s t (front ++ ps) ts (js ++ rest)

pub parts_begin : (s : SchemaValue) (t : Tree) (fs : List Field) (ms : Members) (ts : Fields) → StandForFields s fs ts → PartsLeft s t fs [] ms ts
parts_begin s t fs ms ts stands = record { more = ts; js = []; stands = stands; is = behind_none (found ts ms); goes = λ ps rest are. are }

pub parts_go : (s : SchemaValue) (t : Tree) (left rest : List Field) (f : Field) (front : List Part) (p : Part) (ms : Members) (ts : Fields) → PartsLeft s t left front ms ts → left ≡ f ∷ rest
    → p.place ≡ f.node → PicksValue t (Some p.node) (last_member f.name ms) → PartsLeft s t rest (front ++ p ∷ []) ms ts
parts_go s t left rest f front p ms ts so_far is placed picks = go so_far.more (subst (λ (l : List Field). StandForFields s l so_far.more) is so_far.stands) so_far.is so_far.goes
  where
    go : (more : Fields) → StandForFields s (f ∷ rest) more → behind so_far.js (found more ms) ≡ found ts ms
        → ((ps : List Part) (js : List Json) → AreParts s t ps more js → AreParts s t (front ++ ps) ts (so_far.js ++ js)) → PartsLeft s t rest (front ++ p ∷ []) ms ts
    go schema.no_fields stands at goes = absurd stands
    go (schema.field name u more) stands at goes =
        let j = picks.0 in
        let named : last_member name ms ≡ Some j = ap (λ (n : List ℕ). last_member n ms) (sym stands.0) ∙ picks.1 in
        record {
          more = more;
          js = so_far.js ++ j ∷ [];
          stands = stands.2;
          is = sym (behind_also so_far.js j (found more ms)) ∙ ap (λ (o : Option Json). behind so_far.js (also o (found more ms))) (sym named) ∙ at;
          goes = λ ps js are.
              let part : IsPart s t p u j = record { place = subst (λ (k : ℕ). types.Stands s k u) (sym placed) stands.1; node = picks.2 } in
              let all = goes (p ∷ ps) (j ∷ js) (name, u, more, j, js, refl, refl, part, are) in
              subst (λ (xs : List Part). AreParts s t xs ts ((so_far.js ++ j ∷ []) ++ js)) (sym (append_assoc front (p ∷ []) ps))
              (subst (λ (xs : List Json). AreParts s t (front ++ (p ∷ ps)) ts xs) (sym (append_assoc so_far.js (j ∷ []) js)) all);
        }

pub parts_stop : (s : SchemaValue) (t : Tree) (left rest : List Field) (f : Field) (front : List Part) (ms : Members) (ts : Fields) → PartsLeft s t left front ms ts → left ≡ f ∷ rest
    → last_member f.name ms ≡ None → found ts ms ≡ None
parts_stop s t left rest f front ms ts so_far is none = go so_far.more (subst (λ (l : List Field). StandForFields s l so_far.more) is so_far.stands) so_far.is
  where
    go : (more : Fields) → StandForFields s (f ∷ rest) more → behind so_far.js (found more ms) ≡ found ts ms → found ts ms ≡ None
    go schema.no_fields stands at = absurd stands
    go (schema.field name u more) stands at =
        let named : last_member name ms ≡ None = ap (λ (n : List ℕ). last_member n ms) (sym stands.0) ∙ none in
        sym at ∙ ap (λ (o : Option Json). behind so_far.js (also o (found more ms))) named

pub parts_done : (s : SchemaValue) (t : Tree) (left : List Field) (front : List Part) (ms : Members) (ts : Fields) → PartsLeft s t left front ms ts → left ≡ []
    → (js : List Json) × (found ts ms ≡ Some js) × AreParts s t front ts js
parts_done s t left front ms ts so_far is = go so_far.more (subst (λ (l : List Field). StandForFields s l so_far.more) is so_far.stands) so_far.is so_far.goes
  where
    go : (more : Fields) → StandForFields s [] more → behind so_far.js (found more ms) ≡ found ts ms
        → ((ps : List Part) (js : List Json) → AreParts s t ps more js → AreParts s t (front ++ ps) ts (so_far.js ++ js)) → (js : List Json) × (found ts ms ≡ Some js) × AreParts s t front ts js
    go schema.no_fields stands at goes =
        (so_far.js ++ [], sym at, subst (λ (xs : List Part). AreParts s t xs ts (so_far.js ++ [])) (append-nil front) (goes [] [] (refl, refl)))
    go (schema.field name u more) stands at goes = absurd stands

-- ---- a map's members

pub entries_are : (k : ℕ) (t : Tree) (j : Json) (vs : List Member) (ms : Members) → members_in k j ≡ Ok ms → StandForMembers t vs ms → differ (names_in vs) ≡ true → entries_in k j ≡ Ok ms
entries_are k t j vs ms is stands unlike =
    let test : differ (names_of ms) ≡ true = ap differ (sym (names_are t vs ms stands)) ∙ unlike in
    along (members_in k j) (λ xs. if differ (names_of xs) then Ok xs else Err (Mismatch k)) ms is ∙ rw test refl

pub entries_alike : (k : ℕ) (t : Tree) (j : Json) (vs : List Member) (ms : Members) → members_in k j ≡ Ok ms → StandForMembers t vs ms → differ (names_in vs) ≡ false → entries_in k j ≡ Err (Mismatch k)
entries_alike k t j vs ms is stands alike =
    let test : differ (names_of ms) ≡ false = ap differ (sym (names_are t vs ms stands)) ∙ alike in
    along (members_in k j) (λ xs. if differ (names_of xs) then Ok xs else Err (Mismatch k)) ms is ∙ rw test refl

-- ---- a union's branches

-- a branch that is found by its name is one of the union
pub branch_inside : (s : SchemaValue) (ks : List ℕ) (ts : Branches) (name : List ℕ) (n : ℕ) → StandForBranches s ks ts → Some n ≡ place_of name (branch_names ts) → n < length ks
branch_inside s [] schema.no_branches name n stand at = absurd cc
branch_inside s [] (schema.branch t ts) name n stand at = absurd stand
branch_inside s (k ∷ ks) schema.no_branches name n stand at = absurd stand
branch_inside s (k ∷ ks) (schema.branch t ts) name n stand at = go (bytes_eq (branch_name t) name) (place_of name (branch_names ts)) n (λ i is. branch_inside s ks ts name i stand.1 (sym is)) at
  where
    go : (first : Bool) (later : Option ℕ) (n : ℕ) → ((i : ℕ) → later ≡ Some i → i < length ks) → Some n ≡ (if first then Some 0 else option_map suc later) → n < suc (length ks)
    go true later n inside is = let here : n ≡ 0 = cc in omega arith
    go false None n inside is = absurd cc
    go false (Some i) n inside is =
        let here : n ≡ suc i = cc in
        let low = inside i refl in omega arith

-- no type is null
abbrev NoNulls : List Defined → Type 0
NoNulls [] = ⊤
NoNulls (d ∷ ds) = (is_null d.type ≡ false) × NoNulls ds

no_nulls-append : (ds es : List Defined) → NoNulls ds → NoNulls es → NoNulls (ds ++ es)
no_nulls-append [] es first second = second
no_nulls-append (d ∷ ds) es first second = (first.0, no_nulls-append ds es first.1 second)

mutual
  -- null is never defined
  no_nulls : (t : AvroType) → NoNulls (definitions t)
  no_nulls schema.null = tt
  no_nulls schema.boolean = tt
  no_nulls schema.int = tt
  no_nulls schema.long = tt
  no_nulls schema.bytes = tt
  no_nulls schema.string = tt
  no_nulls (schema.array t) = no_nulls t
  no_nulls (schema.map t) = no_nulls t
  no_nulls (schema.union ts) = branch_no_nulls ts
  no_nulls (schema.fixed name size) = (refl, tt)
  no_nulls (schema.enum_ name symbols) = (refl, tt)
  no_nulls (schema.record_ name ts) = (refl, field_no_nulls ts)
  no_nulls (schema.named name) = tt

  branch_no_nulls : (ts : Branches) → NoNulls (branch_definitions ts)
  branch_no_nulls schema.no_branches = tt
  branch_no_nulls (schema.branch t ts) = no_nulls-append (definitions t) (branch_definitions ts) (no_nulls t) (branch_no_nulls ts)

  field_no_nulls : (ts : Fields) → NoNulls (field_definitions ts)
  field_no_nulls schema.no_fields = tt
  field_no_nulls (schema.field name t ts) = no_nulls-append (definitions t) (field_definitions ts) (no_nulls t) (field_no_nulls ts)

defined_not_null : (name : List ℕ) (ds : List Defined) → NoNulls ds → is_null (definition_or (schema.named name) name ds) ≡ false
defined_not_null name [] none = refl
defined_not_null name (d ∷ ds) none = go (bytes_eq d.name name) refl (defined_not_null name ds none.1)
  where
    go : (b : Bool) → bytes_eq d.name name ≡ b → is_null (definition_or (schema.named name) name ds) ≡ false → is_null (definition_or (schema.named name) name (d ∷ ds)) ≡ false
    go true same rest = rw same none.0
    go false same rest = rw same rest

-- a reference doesn't stand for null
pub null_resolved : (whole t : AvroType) → is_null (resolved whole t) ≡ is_null t
null_resolved whole schema.null = refl
null_resolved whole schema.boolean = refl
null_resolved whole schema.int = refl
null_resolved whole schema.long = refl
null_resolved whole schema.bytes = refl
null_resolved whole schema.string = refl
null_resolved whole (schema.array t) = refl
null_resolved whole (schema.map t) = refl
null_resolved whole (schema.union ts) = refl
null_resolved whole (schema.fixed name size) = refl
null_resolved whole (schema.enum_ name symbols) = refl
null_resolved whole (schema.record_ name ts) = refl
null_resolved whole (schema.named name) = defined_not_null name (definitions whole) (no_nulls whole)

agree_same : (a b : Bool) → a ≡ b → agree a b ≡ true
agree_same true true is = refl
agree_same true false is = absurd cc
agree_same false true is = absurd cc
agree_same false false is = refl

agree_other : (a b : Bool) → (a ≡ b → ⊥) → agree a b ≡ false
agree_other true true is = absurd (is refl)
agree_other true false is = refl
agree_other false true is = refl
agree_other false false is = absurd (is refl)

-- the branch of this name
pub branch_there : (s : SchemaValue) (ks : List ℕ) (ts : Branches) (k n place : ℕ) (name : List ℕ) (bare null : Bool) (j : Json) → StandForBranches s ks ts → Some n ≡ place_of name (branch_names ts) → n < 2 ^ 32
    → slice_get ks n ≡ Some place → ((u : AvroType) → types.Stands s place u → null ≡ is_null (resolved (tree_of s) u)) → (u : AvroType) × types.Stands s place u × (null ≡ is_null u) × (branch_by k ts name bare j ≡ labelled k n bare j (Some u))
branch_there s ks ts k n place name bare null j stand at small here null_is =
    let got = subst (λ (o : Option ℕ). Picks s o (branch_at ts n)) here (branch_stands s ks ts n stand) in
    let test : nat_lt n (2 ^ 32) ≡ true = lt-ltb _ _ small in
    let first : placed k (place_of name (branch_names ts)) ≡ Ok n = ap (placed k) (sym at) ∙ ap (λ (b : Bool). if b then Ok n else Err (Mismatch k)) test in (
      got.0,
      got.2,
      null_is got.0 got.2 ∙ null_resolved (tree_of s) got.0,
      along (placed k (place_of name (branch_names ts))) (λ m. labelled k m bare j (branch_at ts m)) n first ∙ ap (labelled k n bare j) got.1,
    )

pub branch_chosen : (k n : ℕ) (bare null : Bool) (j : Json) (u : AvroType) (read : Result Labelled AvroNo) → null ≡ bare → null ≡ is_null u → read ≡ labelled k n bare j (Some u) → read ≡ Ok (record { place = n; type = u; inner = j })
branch_chosen k n bare null j u read same is reads =
    reads ∙ ap (λ (b : Bool). if b then Ok (record { place = n; type = u; inner = j }) else Err (Mismatch k)) (agree_same (is_null u) bare (sym is ∙ same))

pub branch_unlike : (k n : ℕ) (bare null : Bool) (j : Json) (u : AvroType) (read : Result Labelled AvroNo) → (null ≡ bare → ⊥) → null ≡ is_null u → read ≡ labelled k n bare j (Some u) → read ≡ Err (Mismatch k)
branch_unlike k n bare null j u read other is reads =
    reads ∙ ap (λ (b : Bool). if b then Ok (record { place = n; type = u; inner = j }) else Err (Mismatch k)) (agree_other (is_null u) bare (λ same. other (is ∙ same)))

pub alike : (a b : Bool) → not (beq a b) ≡ false → a ≡ b
alike true true is = refl
alike true false is = absurd cc
alike false true is = absurd cc
alike false false is = refl

pub unlike : (a b : Bool) → not (beq a b) ≡ true → a ≡ b → ⊥
unlike true true is same = cc
unlike true false is same = cc
unlike false true is same = cc
unlike false false is same = cc

pub branch_site : (s : SchemaValue) (ks : List ℕ) (ts : Branches) (n site : ℕ) → slice_get ks n ≡ Some site → StandForBranches s ks ts → types.HasNode s site
branch_site s ks ts n site at stand =
    let got = subst (λ (o : Option ℕ). Picks s o (branch_at ts n)) at (branch_stands s ks ts n stand) in
    (got.0, got.2)
