-- What is read of a JSON value is a value that it is of, within the limits.
use Rattle.std.proofs.Common.{◌≡◌, ℕ, zero, suc, ◌+◌, ◌^◌, ◌<◌, ◌≤◌, List, [], ◌∷◌, length, Option, Some, None, Result, Ok, Err, ℤ, pos, negsuc, Bool, true, false, codes, nat_lt, if◌then◌else◌, ◌&&◌, ◌==◌, FitsSigned, inl, inr, refl, sym, ap, ◌∙◌, subst, arith, ltb-true}
use Rattle.std.specs.Int.{w32, w64}
use Rattle.std.specs.List.{list_all, AllByRecursion}
use Rattle.std.specs.Str.{chars}
use Rattle.std.proofs.lemmas.Bool.{eqb-true, and_parts}
use Rattle.avro_schema.specs.Types as schema
use Rattle.avro_schema.specs.Types.{AvroType, Branches, Fields, resolved}
use Rattle.json_span.specs.Json as json
use Rattle.json_span.specs.Json.{Json, Items, Members}
use Rattle.json_token.specs.Chars.{content}
use Rattle.json_token.specs.Integer.{integer_of}
use Rattle.avro_value.specs.declared.error.AvroNo.{AvroNo}
use Rattle.avro_value.specs.declared.error.AvroNo.TheVariants.{Mismatch, Range, TooDeep, TooMany}
use Rattle.avro_value.specs.Steps.{◌>>=◌}
use Rattle.avro_value.specs.Value.{Value, Entry, null, boolean, int, long, bytes, string, fixed, symbol, branch, fields, items, entries, values_of, entries_of, nodes, nodes_in, nodes_among, IsWithin, AreWithin, EntriesWithin, IsSmall, max_levels, max_nodes}
use Rattle.avro_value.specs.Judging.{is_null, branch_at, is_below}
use Rattle.json_span.specs.Parts.{last_member}
use Rattle.avro_value.specs.Encoding.{place_of, branch_names, names_of, differ, IsPoints, IsLabelled, IsJson, AreFields, AreItems, AreEntries}
use Rattle.avro_value.specs.Reading.{Read, Reader, is_whole, integer_in, integer_at, flag_at, text_at, points_of, points_at, sized, fixed_at, placed, symbol_at, items_in, members_in, entries_in, also, found, present, fields_in, Labelled, agree, labelled, branch_by, branch_in, items_at, entries_at, fields_at, leaf, giving, null_at, body_at, nests, node_at, too_deep, value_at, datum_at}
use Rattle.avro_value.proofs.StepLemmas.{bind_ok, ok_is, chosen_ok, chosen_else, chosen_then}

-- this was read, and its nodes were counted from k up to n
pub record Took (holds : Type 0) (count k n : ℕ) : Type 0 where
  pub is : holds
  pub next : n ≡ k + count
  pub few : n ≤ max_nodes

-- the JSON value is that of the value, with so many levels
abbrev pub Encodes : ℕ → AvroType → AvroType → Value → Json → Type 0
Encodes levels whole t v j = IsJson whole t v j × IsWithin levels v

abbrev pub Sound : ℕ → AvroType → Reader → Type 0
Sound levels whole inner = (t : AvroType) (j : Json) (k : ℕ) (v : Value) (n : ℕ) → inner t j k ≡ Ok (v, n) → Took (Encodes levels whole t v j) (nodes v) k n

giving_took : {A : Type 0} (f : A → Value) (r : Read A) (v : Value) (n : ℕ) → giving f r ≡ Ok (v, n) → (x : A) × (r ≡ Ok (x, n)) × (f x ≡ v)
giving_took {A} f (Ok x) v n is = let pair = ok_is (f x.0, x.1) (v, n) is in (x.0, ap (λ (p : ℕ). Ok (x.0, p)) (ap (λ (y : Value × ℕ). y.1) pair), ap (λ (y : Value × ℕ). y.0) pair)
giving_took f (Err e) v n is = absurd cc

leaf_sound : {A : Type 0} (levels : ℕ) (whole t : AvroType) (j : Json) (k : ℕ) (f : A → Value) (read : Result A AvroNo) (v : Value) (n : ℕ) → k < max_nodes
    → ((x : A) → read ≡ Ok x → Encodes levels whole t (f x) j) → ((x : A) → nodes (f x) ≡ 1) → leaf k f read ≡ Ok (v, n) → Took (Encodes levels whole t v j) (nodes v) k n
leaf_sound levels whole t j k f (Ok x) v n few holds one is =
    subst (λ (y : Value × ℕ). Took (Encodes levels whole t y.0 j) (nodes y.0) k y.1) (ok_is (f x, suc k) (v, n) is) (record { is = holds x refl; next = omega (arith, one x); few = omega (arith, few) })
leaf_sound levels whole t j k f (Err e) v n few holds one is = absurd cc

-- ---- nodes without parts

null_took : (k : ℕ) (j : Json) (v : Value) (n : ℕ) → null_at k j ≡ Ok (v, n) → (j ≡ json.null) × (null ≡ v) × (suc k ≡ n)
null_took k json.null v n is = let pair = ok_is (null, suc k) (v, n) is in (refl, ap (λ (y : Value × ℕ). y.0) pair, ap (λ (y : Value × ℕ). y.1) pair)
null_took k (json.boolean b) v n is = absurd cc
null_took k (json.number s) v n is = absurd cc
null_took k (json.text s) v n is = absurd cc
null_took k (json.array js) v n is = absurd cc
null_took k (json.object ms) v n is = absurd cc

flag_took : (k : ℕ) (j : Json) (b : Bool) → flag_at k j ≡ Ok b → j ≡ json.boolean b
flag_took k json.null b is = absurd cc
flag_took k (json.boolean c) b is = ap (λ (x : Bool). json.boolean x) (ok_is c b is)
flag_took k (json.number s) b is = absurd cc
flag_took k (json.text s) b is = absurd cc
flag_took k (json.array js) b is = absurd cc
flag_took k (json.object ms) b is = absurd cc

integer_in_took : (k bound : ℕ) (s : List ℕ) (o : Option ℤ) (n : ℤ) → integer_in k bound s o ≡ Ok n → (o ≡ Some n) × (is_below bound n ≡ true)
integer_in_took k bound s (Some m) n is =
    let a = chosen_ok (is_below bound m) (Range k) m n is in
    (ap (λ (x : ℤ). Some x) a.1, subst (λ (x : ℤ). is_below bound x ≡ true) a.1 a.0)
integer_in_took k bound s None n is = absurd (let a = chosen_else (is_whole s) (Range k) (Err (Mismatch k)) n is in cc)

integer_took : (k bound : ℕ) (j : Json) (n : ℤ) → integer_at k bound j ≡ Ok n → (s : List ℕ) × (j ≡ json.number s) × (integer_of s ≡ Some n) × (is_below bound n ≡ true)
integer_took k bound json.null n is = absurd cc
integer_took k bound (json.boolean b) n is = absurd cc
integer_took k bound (json.number s) n is = let a = integer_in_took k bound s (integer_of s) n is in (s, refl, a.0, a.1)
integer_took k bound (json.text s) n is = absurd cc
integer_took k bound (json.array js) n is = absurd cc
integer_took k bound (json.object ms) n is = absurd cc

fits32 : (n : ℤ) → is_below (2 ^ 31) n ≡ true → FitsSigned w32 n
fits32 (pos n) is = record { sfits = ltb-true _ _ is }
fits32 (negsuc n) is = record { sfits = ltb-true _ _ is }

fits64 : (n : ℤ) → is_below (2 ^ 63) n ≡ true → FitsSigned w64 n
fits64 (pos n) is = record { sfits = ltb-true _ _ is }
fits64 (negsuc n) is = record { sfits = ltb-true _ _ is }

text_took : (k : ℕ) (j : Json) (bs : List ℕ) → text_at k j ≡ Ok bs → (s : List ℕ) × (j ≡ json.text s) × (content s ≡ bs)
text_took k json.null bs is = absurd cc
text_took k (json.boolean b) bs is = absurd cc
text_took k (json.number s) bs is = absurd cc
text_took k (json.text s) bs is = (s, refl, ok_is (content s) bs is)
text_took k (json.array js) bs is = absurd cc
text_took k (json.object ms) bs is = absurd cc

all_small : (bs : List ℕ) → list_all (λ c. nat_lt c 256) bs ≡ true → AllByRecursion (λ c. c < 256) bs
all_small [] is = tt
all_small (b ∷ bs) is = let a = and_parts (nat_lt b 256) _ is in (ltb-true _ _ a.0, all_small bs a.1)

points_took : (k : ℕ) (j : Json) (bs : List ℕ) → points_at k j ≡ Ok bs → (s : List ℕ) × (j ≡ json.text s) × IsPoints s bs
points_took k j bs is =
    let a = bind_ok (text_at k j) (points_of k) bs is in
    let b = text_took k j a.0 a.1 in
    let c = chosen_ok (list_all (λ c. nat_lt c 256) (chars a.0)) (Mismatch k) (chars a.0) bs a.2 in
    (b.0, b.1, record { points = ap chars b.2 ∙ c.1; small = all_small bs (subst (λ (l : List ℕ). list_all (λ c. nat_lt c 256) l ≡ true) c.1 c.0) })

fixed_took : (k size : ℕ) (j : Json) (bs : List ℕ) → fixed_at k size j ≡ Ok bs → (length bs ≡ size) × (s : List ℕ) × (j ≡ json.text s) × IsPoints s bs
fixed_took k size j bs is =
    let a = bind_ok (points_at k j) (sized k size) bs is in
    let b = points_took k j a.0 a.1 in
    let c = chosen_ok (length a.0 == size) (Mismatch k) a.0 bs a.2 in
    (ap length (sym c.1) ∙ eqb-true _ _ c.0, b.0, b.1, subst (IsPoints b.0) c.1 b.2)

placed_took : (k : ℕ) (o : Option ℕ) (n : ℕ) → placed k o ≡ Ok n → (o ≡ Some n) × (n < 2 ^ 32)
placed_took k None n is = absurd cc
placed_took k (Some m) n is =
    let a = chosen_ok (nat_lt m (2 ^ 32)) (Mismatch k) m n is in
    (ap (λ (x : ℕ). Some x) a.1, subst (λ (x : ℕ). x < 2 ^ 32) a.1 (ltb-true _ _ a.0))

symbol_took : (k : ℕ) (symbols : List (List ℕ)) (j : Json) (n : ℕ) → symbol_at k symbols j ≡ Ok n → (s : List ℕ) × (j ≡ json.text s) × (place_of (content s) symbols ≡ Some n) × (n < 2 ^ 32)
symbol_took k symbols j n is =
    let a = bind_ok (text_at k j) (λ name. placed k (place_of name symbols)) n is in
    let b = text_took k j a.0 a.1 in
    let c = placed_took k (place_of a.0 symbols) n a.2 in
    (b.0, b.1, ap (λ (name : List ℕ). place_of name symbols) b.2 ∙ c.0, c.1)

-- ---- unions

agree_is : (a b : Bool) → agree a b ≡ true → a ≡ b
agree_is true b is = sym is
agree_is false true is = absurd cc
agree_is false false is = refl

abbrev made : ℕ → AvroType → Json → Labelled
made n u inner = record { place = n; type = u; inner = inner }

labelled_took : (k n : ℕ) (is_bare : Bool) (inner : Json) (o : Option AvroType) (b : Labelled) → labelled k n is_bare inner o ≡ Ok b → (u : AvroType) × (o ≡ Some u) × (is_null u ≡ is_bare) × (made n u inner ≡ b)
labelled_took k n is_bare inner None b is = absurd cc
labelled_took k n is_bare inner (Some u) b is =
    let a = chosen_ok (agree (is_null u) is_bare) (Mismatch k) (made n u inner) b is in
    (u, refl, agree_is _ _ a.0, a.1)

-- the branch of a union that the JSON value names
record TookBranch (ts : Branches) (j : Json) (b : Labelled) : Type 0 where
  at : branch_at ts b.place ≡ Some b.type
  small : b.place < 2 ^ 32
  labels : IsLabelled ts b.type b.place b.inner j

record TookName (ts : Branches) (name : List ℕ) (is_bare : Bool) (inner : Json) (b : Labelled) : Type 0 where
  n : ℕ
  u : AvroType
  named : place_of name (branch_names ts) ≡ Some n
  small : n < 2 ^ 32
  at : branch_at ts n ≡ Some u
  bare : is_null u ≡ is_bare
  same : made n u inner ≡ b

name_took : (k : ℕ) (ts : Branches) (name : List ℕ) (is_bare : Bool) (inner : Json) (b : Labelled) → branch_by k ts name is_bare inner ≡ Ok b → TookName ts name is_bare inner b
name_took k ts name is_bare inner b is =
    let a = bind_ok (placed k (place_of name (branch_names ts))) (λ n. labelled k n is_bare inner (branch_at ts n)) b is in
    let c = placed_took k (place_of name (branch_names ts)) a.0 a.1 in
    let d = labelled_took k a.0 is_bare inner (branch_at ts a.0) b a.2 in
    record { n = a.0; u = d.0; named = c.0; small = c.1; at = d.1; bare = d.2; same = d.3 }

branch_took : (k : ℕ) (ts : Branches) (j : Json) (b : Labelled) → branch_in k ts j ≡ Ok b → TookBranch ts j b
branch_took k ts json.null b is =
    let a = name_took k ts (codes "null") true json.null b is in
    subst (TookBranch ts json.null) a.same (record { at = a.at; small = a.small; labels = inl (a.bare, a.named, refl) })
branch_took k ts (json.boolean x) b is = absurd cc
branch_took k ts (json.number s) b is = absurd cc
branch_took k ts (json.text s) b is = absurd cc
branch_took k ts (json.array js) b is = absurd cc
branch_took k ts (json.object json.no_members) b is = absurd cc
branch_took k ts (json.object (json.member s inner json.no_members)) b is =
    let a = name_took k ts (content s) false inner b is in
    subst (TookBranch ts (json.object (json.member s inner json.no_members))) a.same (record { at = a.at; small = a.small; labels = inr (a.bare, s, a.named, refl) })
branch_took k ts (json.object (json.member s inner (json.member r other ms))) b is = absurd cc

union_sound : (levels b : ℕ) (whole t : AvroType) (inner : Reader) (ts : Branches) (j : Json) (k : ℕ) (v : Value) (n : ℕ) → Sound b whole inner → levels ≡ suc b → resolved whole t ≡ schema.union ts
    → body_at inner (schema.union ts) j k ≡ Ok (v, n) → Took (Encodes levels whole t v j) (nodes v) k n
union_sound levels b whole t inner ts j k v n sound more u is =
    let a = bind_ok (branch_in k ts j) (λ b. giving (branch b.place) (inner b.type b.inner (suc k))) (v, n) is in
    let c = branch_took k ts j a.0 a.1 in
    let d = giving_took (branch a.0.place) (inner a.0.type a.0.inner (suc k)) v n a.2 in
    let inside = sound a.0.type a.0.inner (suc k) d.0 n d.1 in
    subst (λ (w : Value). Took (Encodes levels whole t w j) (nodes w) k n) d.2 (record {
      is = ((ts, u, a.0.type, c.at, c.small, a.0.inner, c.labels, inside.is.0), (b, more, inside.is.1));
      next = omega (arith, inside.next);
      few = inside.few;
    })

-- ---- arrays

array_took : (k : ℕ) (j : Json) (js : Items) → items_in k j ≡ Ok js → j ≡ json.array js
array_took k json.null js is = absurd cc
array_took k (json.boolean b) js is = absurd cc
array_took k (json.number s) js is = absurd cc
array_took k (json.text s) js is = absurd cc
array_took k (json.array xs) js is = ap (λ (x : Items). json.array x) (ok_is xs js is)
array_took k (json.object ms) js is = absurd cc

items_sound : (b : ℕ) (whole : AvroType) (inner : Reader) (t : AvroType) (js : Items) (k : ℕ) (vs : List Value) (n : ℕ) → Sound b whole inner → k ≤ max_nodes → items_at inner t js k ≡ Ok (vs, n)
    → Took (AreItems whole t (values_of vs) js × AreWithin b (values_of vs)) (nodes_in (values_of vs)) k n
items_sound b whole inner t json.no_items k vs n sound few is =
    subst (λ (y : List Value × ℕ). Took (AreItems whole t (values_of y.0) json.no_items × AreWithin b (values_of y.0)) (nodes_in (values_of y.0)) k y.1) (ok_is ([], k) (vs, n) is)
    (record { is = (refl, tt); next = omega arith; few = few })
items_sound b whole inner t (json.item j js) k vs n sound few is =
    let a = bind_ok (inner t j k) (λ v. items_at inner t js v.1 >>= λ ws. Ok (v.0 ∷ ws.0, ws.1)) (vs, n) is in
    let c = bind_ok (items_at inner t js a.0.1) (λ ws. Ok (a.0.0 ∷ ws.0, ws.1)) (vs, n) a.2 in
    let first = sound t j k a.0.0 a.0.1 a.1 in
    let others = items_sound b whole inner t js a.0.1 c.0.0 c.0.1 sound first.few c.1 in
    subst (λ (y : List Value × ℕ). Took (AreItems whole t (values_of y.0) (json.item j js) × AreWithin b (values_of y.0)) (nodes_in (values_of y.0)) k y.1) (ok_is (a.0.0 ∷ c.0.0, c.0.1) (vs, n) c.2) (record {
      is = ((j, js, refl, first.is.0, others.is.0), (first.is.1, others.is.1));
      next = omega (arith, first.next, others.next);
      few = others.few;
    })

array_sound : (levels b : ℕ) (whole t : AvroType) (inner : Reader) (x : AvroType) (j : Json) (k : ℕ) (v : Value) (n : ℕ) → Sound b whole inner → levels ≡ suc b → k < max_nodes → resolved whole t ≡ schema.array x
    → body_at inner (schema.array x) j k ≡ Ok (v, n) → Took (Encodes levels whole t v j) (nodes v) k n
array_sound levels b whole t inner x j k v n sound more few u is =
    let a = bind_ok (items_in k j) (λ js. giving (λ vs. items (values_of vs)) (items_at inner x js (suc k))) (v, n) is in
    let d = giving_took (λ vs. items (values_of vs)) (items_at inner x a.0 (suc k)) v n a.2 in
    let inside = items_sound b whole inner x a.0 (suc k) d.0 n sound (omega (arith, few)) d.1 in
    subst (λ (w : Value). Took (Encodes levels whole t w j) (nodes w) k n) d.2 (record {
      is = ((x, u, a.0, array_took k j a.0 a.1, inside.is.0), (b, more, inside.is.1));
      next = omega (arith, inside.next);
      few = inside.few;
    })

-- ---- maps

object_took : (k : ℕ) (j : Json) (ms : Members) → members_in k j ≡ Ok ms → j ≡ json.object ms
object_took k json.null ms is = absurd cc
object_took k (json.boolean b) ms is = absurd cc
object_took k (json.number s) ms is = absurd cc
object_took k (json.text s) ms is = absurd cc
object_took k (json.array js) ms is = absurd cc
object_took k (json.object xs) ms is = ap (λ (x : Members). json.object x) (ok_is xs ms is)

map_took : (k : ℕ) (j : Json) (ms : Members) → entries_in k j ≡ Ok ms → (j ≡ json.object ms) × (differ (names_of ms) ≡ true)
map_took k j ms is =
    let a = bind_ok (members_in k j) (λ xs. if differ (names_of xs) then Ok xs else Err (Mismatch k)) ms is in
    let c = chosen_ok (differ (names_of a.0)) (Mismatch k) a.0 ms a.2 in
    (object_took k j a.0 a.1 ∙ ap (λ (x : Members). json.object x) c.1, subst (λ (x : Members). differ (names_of x) ≡ true) c.1 c.0)

entries_sound : (b : ℕ) (whole : AvroType) (inner : Reader) (t : AvroType) (ms : Members) (k : ℕ) (es : List Entry) (n : ℕ) → Sound b whole inner → k ≤ max_nodes → entries_at inner t ms k ≡ Ok (es, n)
    → Took (AreEntries whole t (entries_of es) ms × EntriesWithin b (entries_of es)) (nodes_among (entries_of es)) k n
entries_sound b whole inner t json.no_members k es n sound few is =
    subst (λ (y : List Entry × ℕ). Took (AreEntries whole t (entries_of y.0) json.no_members × EntriesWithin b (entries_of y.0)) (nodes_among (entries_of y.0)) k y.1) (ok_is ([], k) (es, n) is)
    (record { is = (refl, tt); next = omega arith; few = few })
entries_sound b whole inner t (json.member s j ms) k es n sound few is =
    let a = bind_ok (inner t j k) (λ v. entries_at inner t ms v.1 >>= λ xs. Ok (record { key = content s; value = v.0 } ∷ xs.0, xs.1)) (es, n) is in
    let c = bind_ok (entries_at inner t ms a.0.1) (λ xs. Ok (record { key = content s; value = a.0.0 } ∷ xs.0, xs.1)) (es, n) a.2 in
    let first = sound t j k a.0.0 a.0.1 a.1 in
    let others = entries_sound b whole inner t ms a.0.1 c.0.0 c.0.1 sound first.few c.1 in
    subst (λ (y : List Entry × ℕ). Took (AreEntries whole t (entries_of y.0) (json.member s j ms) × EntriesWithin b (entries_of y.0)) (nodes_among (entries_of y.0)) k y.1)
    (ok_is (record { key = content s; value = a.0.0 } ∷ c.0.0, c.0.1) (es, n) c.2) (record {
      is = ((s, j, ms, refl, refl, first.is.0, others.is.0), (first.is.1, others.is.1));
      next = omega (arith, first.next, others.next);
      few = others.few;
    })

map_sound : (levels b : ℕ) (whole t : AvroType) (inner : Reader) (x : AvroType) (j : Json) (k : ℕ) (v : Value) (n : ℕ) → Sound b whole inner → levels ≡ suc b → k < max_nodes → resolved whole t ≡ schema.map x
    → body_at inner (schema.map x) j k ≡ Ok (v, n) → Took (Encodes levels whole t v j) (nodes v) k n
map_sound levels b whole t inner x j k v n sound more few u is =
    let a = bind_ok (entries_in k j) (λ ms. giving (λ es. entries (entries_of es)) (entries_at inner x ms (suc k))) (v, n) is in
    let c = map_took k j a.0 a.1 in
    let d = giving_took (λ es. entries (entries_of es)) (entries_at inner x a.0 (suc k)) v n a.2 in
    let inside = entries_sound b whole inner x a.0 (suc k) d.0 n sound (omega (arith, few)) d.1 in
    subst (λ (w : Value). Took (Encodes levels whole t w j) (nodes w) k n) d.2 (record {
      is = ((x, u, a.0, c.0, c.1, inside.is.0), (b, more, inside.is.1));
      next = omega (arith, inside.next);
      few = inside.few;
    })

-- ---- records

also_took : {A : Type 0} (o : Option A) (os : Option (List A)) (xs : List A) → also o os ≡ Some xs → (y : A) × (ys : List A) × (o ≡ Some y) × (os ≡ Some ys) × (y ∷ ys ≡ xs)
also_took (Some y) (Some ys) xs is = (y, ys, refl, refl, cc)
also_took (Some y) None xs is = absurd cc
also_took None os xs is = absurd cc

present_took : {A : Type 0} (k : ℕ) (o : Option A) (x : A) → present k o ≡ Ok x → o ≡ Some x
present_took k None x is = absurd cc
present_took {A} k (Some y) x is = ap (λ (z : A). Some z) (ok_is y x is)

record_took : (k : ℕ) (ts : Fields) (j : Json) (js : List Json) → fields_in k ts j ≡ Ok js → (ms : Members) × (j ≡ json.object ms) × (found ts ms ≡ Some js)
record_took k ts j js is =
    let a = bind_ok (members_in k j) (λ ms. present k (found ts ms)) js is in
    (a.0, object_took k j a.0 a.1, present_took k (found ts a.0) js a.2)

abbrev FieldsTook : ℕ → AvroType → Fields → Members → ℕ → List Value → ℕ → Type 0
FieldsTook b whole ts ms k vs n = Took (AreFields whole ts (values_of vs) ms × AreWithin b (values_of vs)) (nodes_in (values_of vs)) k n

fields_sound : (b : ℕ) (whole : AvroType) (inner : Reader) (ts : Fields) (ms : Members) (js : List Json) (k : ℕ) (vs : List Value) (n : ℕ) → Sound b whole inner → k ≤ max_nodes → found ts ms ≡ Some js → fields_at inner ts js k ≡ Ok (vs, n)
    → FieldsTook b whole ts ms k vs n
fields_sound b whole inner schema.no_fields ms js k vs n sound few there is =
    subst (λ (y : List Value × ℕ). FieldsTook b whole schema.no_fields ms k y.0 y.1) (ok_is ([], k) (vs, n) is) (record { is = (refl, tt); next = omega arith; few = few })
fields_sound b whole inner (schema.field name t ts) ms [] k vs n sound few there is = absurd cc
fields_sound b whole inner (schema.field name t ts) ms (j ∷ js) k vs n sound few there is =
    let a = bind_ok (inner t j k) (λ v. fields_at inner ts js v.1 >>= λ ws. Ok (v.0 ∷ ws.0, ws.1)) (vs, n) is in
    let c = bind_ok (fields_at inner ts js a.0.1) (λ ws. Ok (a.0.0 ∷ ws.0, ws.1)) (vs, n) a.2 in
    let d = also_took (last_member name ms) (found ts ms) (j ∷ js) there in
    let at : last_member name ms ≡ Some j = d.2 ∙ cc in
    let rest : found ts ms ≡ Some js = d.3 ∙ cc in
    let first = sound t j k a.0.0 a.0.1 a.1 in
    let others = fields_sound b whole inner ts ms js a.0.1 c.0.0 c.0.1 sound first.few rest c.1 in
    subst (λ (y : List Value × ℕ). FieldsTook b whole (schema.field name t ts) ms k y.0 y.1) (ok_is (a.0.0 ∷ c.0.0, c.0.1) (vs, n) c.2) (record {
      is = ((name, t, ts, refl, j, at, first.is.0, others.is.0), (first.is.1, others.is.1));
      next = omega (arith, first.next, others.next);
      few = others.few;
    })

record_sound : (levels b : ℕ) (whole t : AvroType) (inner : Reader) (name : List ℕ) (ts : Fields) (j : Json) (k : ℕ) (v : Value) (n : ℕ) → Sound b whole inner → levels ≡ suc b → k < max_nodes → resolved whole t ≡ schema.record_ name ts
    → body_at inner (schema.record_ name ts) j k ≡ Ok (v, n) → Took (Encodes levels whole t v j) (nodes v) k n
record_sound levels b whole t inner name ts j k v n sound more few u is =
    let a = bind_ok (fields_in k ts j) (λ js. giving (λ vs. fields (values_of vs)) (fields_at inner ts js (suc k))) (v, n) is in
    let c = record_took k ts j a.0 a.1 in
    let d = giving_took (λ vs. fields (values_of vs)) (fields_at inner ts a.0 (suc k)) v n a.2 in
    let inside = fields_sound b whole inner ts c.0 a.0 (suc k) d.0 n sound (omega (arith, few)) c.2 d.1 in
    subst (λ (w : Value). Took (Encodes levels whole t w j) (nodes w) k n) d.2 (record {
      is = ((name, ts, u, c.0, c.1, inside.is.0), (b, more, inside.is.1));
      next = omega (arith, inside.next);
      few = inside.few;
    })

-- ---- a node

body_sound : (levels b : ℕ) (whole t : AvroType) (inner : Reader) (u : AvroType) (j : Json) (k : ℕ) (v : Value) (n : ℕ) → Sound b whole inner → (nests u ≡ true → levels ≡ suc b) → k < max_nodes → resolved whole t ≡ u
    → body_at inner u j k ≡ Ok (v, n) → Took (Encodes levels whole t v j) (nodes v) k n
body_sound levels b whole t inner schema.null j k v n sound room few u is =
    let a = null_took k j v n is in
    subst (λ (w : Value). Took (Encodes levels whole t w j) (nodes w) k n) a.1 (record { is = ((u, a.0), tt); next = omega (arith, a.2); few = omega (arith, a.2, few) })
body_sound levels b whole t inner schema.boolean j k v n sound room few u is = leaf_sound levels whole t j k boolean (flag_at k j) v n few (λ x r. ((u, flag_took k j x r), tt)) (λ x. refl) is
body_sound levels b whole t inner schema.int j k v n sound room few u is =
    leaf_sound levels whole t j k int (integer_at k (2 ^ 31) j) v n few (λ x r. let a = integer_took k (2 ^ 31) j x r in ((u, a.0, a.1, a.2, fits32 x a.3), tt)) (λ x. refl) is
body_sound levels b whole t inner schema.long j k v n sound room few u is =
    leaf_sound levels whole t j k long (integer_at k (2 ^ 63) j) v n few (λ x r. let a = integer_took k (2 ^ 63) j x r in ((u, a.0, a.1, a.2, fits64 x a.3), tt)) (λ x. refl) is
body_sound levels b whole t inner schema.bytes j k v n sound room few u is =
    leaf_sound levels whole t j k bytes (points_at k j) v n few (λ x r. let a = points_took k j x r in ((u, a.0, a.1, a.2), tt)) (λ x. refl) is
body_sound levels b whole t inner schema.string j k v n sound room few u is =
    leaf_sound levels whole t j k string (text_at k j) v n few (λ x r. let a = text_took k j x r in ((u, a.0, a.1, a.2), tt)) (λ x. refl) is
body_sound levels b whole t inner (schema.fixed name size) j k v n sound room few u is =
    leaf_sound levels whole t j k fixed (fixed_at k size j) v n few (λ x r. let a = fixed_took k size j x r in ((name, u ∙ ap (schema.fixed name) (sym a.0), a.1, a.2, a.3), tt)) (λ x. refl) is
body_sound levels b whole t inner (schema.enum_ name symbols) j k v n sound room few u is =
    leaf_sound levels whole t j k symbol (symbol_at k symbols j) v n few (λ x r. let a = symbol_took k symbols j x r in ((name, symbols, u, a.0, a.1, a.2, a.3), tt)) (λ x. refl) is
body_sound levels b whole t inner (schema.union ts) j k v n sound room few u is = union_sound levels b whole t inner ts j k v n sound (room refl) u is
body_sound levels b whole t inner (schema.record_ name ts) j k v n sound room few u is = record_sound levels b whole t inner name ts j k v n sound (room refl) few u is
body_sound levels b whole t inner (schema.array x) j k v n sound room few u is = array_sound levels b whole t inner x j k v n sound (room refl) few u is
body_sound levels b whole t inner (schema.map x) j k v n sound room few u is = map_sound levels b whole t inner x j k v n sound (room refl) few u is
body_sound levels b whole t inner (schema.named name) j k v n sound room few u is = absurd cc

node_sound : (levels b : ℕ) (deep : Bool) (whole : AvroType) (inner : Reader) → Sound b whole inner → ((nest : Bool) → (nest && deep) ≡ false → nest ≡ true → levels ≡ suc b)
    → Sound levels whole (λ t j k. node_at inner deep (resolved whole t) j k)
node_sound levels b deep whole inner sound room t j k v n is =
    let u = resolved whole t in
    let a = chosen_else (nests u && deep) TooDeep _ (v, n) is in
    let c = chosen_then (nat_lt k max_nodes) TooMany (body_at inner u j k) (v, n) a.1 in
    body_sound levels b whole t inner u j k v n sound (room (nests u) a.0) (ltb-true _ _ c.0) refl c.1

deep_plain : (nest : Bool) → (nest && true) ≡ false → nest ≡ true → ⊥
deep_plain true room is = absurd cc
deep_plain false room is = absurd cc

pub value_sound : (whole : AvroType) (levels : ℕ) → Sound levels whole (value_at whole levels)
unfolding value_at
value_sound whole zero = node_sound zero zero true whole too_deep (λ t j k v n is. absurd cc) (λ nest room is. absurd (deep_plain nest room is))
value_sound whole (suc levels) = node_sound (suc levels) levels false whole (value_at whole levels) (value_sound whole levels) (λ nest room is. refl)

-- a datum that is read of a JSON value is one that it is of, within the limits
pub read_sound : (whole : AvroType) (j : Json) (v : Value) → datum_at whole j ≡ Ok v → IsJson whole whole v j × IsSmall v
unfolding datum_at
read_sound whole j v is =
    let a = bind_ok (value_at whole max_levels whole j 0) (λ x. Ok x.0) v is in
    let c = value_sound whole max_levels whole j 0 a.0.0 a.0.1 a.1 in
    let read : IsJson whole whole a.0.0 j × IsSmall a.0.0 = (c.is.0, record { levels = c.is.1; nodes = omega (arith, c.next, c.few) }) in
    subst (λ (w : Value). IsJson whole whole w j × IsSmall w) (ok_is a.0.0 v a.2) read
