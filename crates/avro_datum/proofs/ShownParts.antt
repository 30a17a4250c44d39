-- From the tokens of a value to those of its parts, and to the type that it is of.
use Rattle.std.proofs.Common.{◌≡◌, ℕ, zero, suc, ◌<◌, ◌^◌, ℤ, pos, negsuc, List, [], ◌∷◌, ◌++◌, Bool, true, false, cond, ◌&&◌, ◌==◌, Option, Some, None, Result, Ok, Err, refl, sym, ap, subst, arith}
use Rattle.std.specs.Prelude.{nat_lt, slice_get, FitsSigned}
use Rattle.std.specs.Int.{w32, w64}
use Rattle.std.proofs.lemmas.Bool.{ltb-true, eqb-true}
use Rattle.json.specs.Token as token
use Rattle.json.specs.Token.{Token}
use Rattle.avro_schema.specs.Types as schema
use Rattle.avro_schema.specs.Types.{AvroType, Branches, Fields, branch_name}
use Rattle.avro_value.specs.declared.error.AvroNo.{AvroNo}
use Rattle.avro_value.specs.declared.error.AvroNo.TheVariants.{Mismatch, TooMany}
use Rattle.avro_value.specs.Steps.{◌>>=◌}
use Rattle.avro_value.specs.Value.{Entries, max_nodes, count_of}
use Rattle.avro_value.specs.Judging.{is_null, is_boolean, is_int, is_long, is_bytes, is_string, is_fixed, is_below, branch_at, branch_in, fields_in, number_of, items_in, entries_in, inside, node}
use Rattle.avro_value.specs.Encoding.{differ}
use Rattle.avro_datum.specs.Shown.{Shown, leaf, between, behind, symbol_in, named, keys_of, values_in}

-- ---- a success of the whole is one of its parts

pub record Inverted {A B : Type 0} (r : Result A AvroNo) (f : A → Result B AvroNo) (y : B) : Type 0 where
  pub x : A
  pub is : r ≡ Ok x
  pub next : f x ≡ Ok y

pub invert : {A B : Type 0} (r : Result A AvroNo) (f : A → Result B AvroNo) (y : B) → (r >>= f) ≡ Ok y → Inverted r f y
invert (Ok x) f y h = record { x = x; is = refl; next = h }
invert (Err e) f y h = absurd cc

-- the tokens of a leaf
pub record IsLeaf (test : Bool) (ts : List Token) (x : List Token × ℕ) : Type 0 where
  pub holds : test ≡ true
  pub tokens : ts ≡ x.0

ok_is : (x y : List Token × ℕ) → ◌≡◌ {A = Shown} (Ok x) (Ok y) → x ≡ y
ok_is x y h = cc

leaf_by : (k : ℕ) (few holds : Bool) (ts : List Token) (x : List Token × ℕ) → cond few (cond holds (Ok (ts, suc k)) (Err (Mismatch k))) (Err TooMany) ≡ Ok x → IsLeaf holds ts x
leaf_by k true true ts x h = record { holds = refl; tokens = ap (λ (y : List Token × ℕ). y.0) (ok_is (ts, suc k) x h) }
leaf_by k true false ts x h = absurd cc
leaf_by k false holds ts x h = absurd cc

pub leaf_is : (k : ℕ) (holds : Bool) (ts : List Token) (x : List Token × ℕ) → leaf k holds ts ≡ Ok x → IsLeaf holds ts x
leaf_is k holds ts x h = leaf_by k (nat_lt k max_nodes) holds ts x h

-- the tokens behind others
pub record IsBehind (front : List Token) (parts : Shown) (x : List Token × ℕ) : Type 0 where
  pub y : List Token × ℕ
  pub is : parts ≡ Ok y
  pub tokens : front ++ y.0 ≡ x.0

pub behind_is : (front : List Token) (parts : Shown) (x : List Token × ℕ) → behind front parts ≡ Ok x → IsBehind front parts x
behind_is front (Ok y) x h = record { y = y; is = refl; tokens = ap (λ (z : List Token × ℕ). z.0) (ok_is (front ++ y.0, y.1) x h) }
behind_is front (Err e) x h = absurd cc

-- the tokens between two brackets
pub record IsBetween (first last : Token) (parts : Shown) (x : List Token × ℕ) : Type 0 where
  pub y : List Token × ℕ
  pub is : parts ≡ Ok y
  pub tokens : first ∷ (y.0 ++ (last ∷ [])) ≡ x.0

pub between_is : (first last : Token) (parts : Shown) (x : List Token × ℕ) → between first last parts ≡ Ok x → IsBetween first last parts x
between_is first last (Ok y) x h = record { y = y; is = refl; tokens = ap (λ (z : List Token × ℕ). z.0) (ok_is (first ∷ (y.0 ++ (last ∷ [])), y.1) x h) }
between_is first last (Err e) x h = absurd cc

-- a node with parts
pub record IsNode {T : Type 0} (levels : ℕ) (o : Option T) (parts : ℕ → T → Shown) (x : List Token × ℕ) : Type 0 where
  pub below : ℕ
  pub level : levels ≡ suc below
  pub type : T
  pub some : o ≡ Some type
  pub is : parts below type ≡ Ok x

inside_is : {T : Type 0} (levels k below : ℕ) (o : Option T) (parts : ℕ → T → Shown) (x : List Token × ℕ) → levels ≡ suc below → inside k o (parts below) ≡ Ok x → IsNode levels o parts x
inside_is levels k below None parts x e h = absurd cc
inside_is levels k below (Some t) parts x e h = record { below = below; level = e; type = t; some = refl; is = h }

node_by : {T : Type 0} (below k : ℕ) (few : Bool) (o : Option T) (parts : ℕ → T → Shown) (x : List Token × ℕ) → (cond few (Ok below) (Err TooMany) >>= λ b. inside k o (parts b)) ≡ Ok x → IsNode (suc below) o parts x
node_by below k true o parts x h = inside_is (suc below) k below o parts x refl h
node_by below k false o parts x h = absurd cc

pub node_is : {T : Type 0} (levels k : ℕ) (o : Option T) (parts : ℕ → T → Shown) (x : List Token × ℕ) → node levels k o parts ≡ Ok x → IsNode levels o parts x
node_is zero k o parts x h = absurd cc
node_is (suc below) k o parts x h = node_by below k (nat_lt k max_nodes) o parts x h

-- an enum's symbol
pub record IsNamed (o : Option (List ℕ)) (x : List Token × ℕ) : Type 0 where
  pub name : List ℕ
  pub some : o ≡ Some name
  pub tokens : token.string name ∷ [] ≡ x.0

pub named_is : (k : ℕ) (o : Option (List ℕ)) (x : List Token × ℕ) → named k o ≡ Ok x → IsNamed o x
named_is k None x h = let wrong : false ≡ true = (leaf_is k false [] x h).holds in absurd cc
named_is k (Some name) x h = record { name = name; some = refl; tokens = (leaf_is k true (token.string name ∷ []) x h).tokens }

-- ---- the type that a test is of

pub and_first : (a b : Bool) → (a && b) ≡ true → a ≡ true
and_first true b h = refl
and_first false b h = h

pub and_second : (a b : Bool) → (a && b) ≡ true → b ≡ true
and_second true b h = h
and_second false b h = absurd cc

pub null_is : (t : AvroType) → is_null t ≡ true → t ≡ schema.null
null_is schema.null h = refl
null_is t h = absurd cc

pub boolean_is : (t : AvroType) → is_boolean t ≡ true → t ≡ schema.boolean
boolean_is schema.boolean h = refl
boolean_is t h = absurd cc

pub int_is : (t : AvroType) → is_int t ≡ true → t ≡ schema.int
int_is schema.int h = refl
int_is t h = absurd cc

pub long_is : (t : AvroType) → is_long t ≡ true → t ≡ schema.long
long_is schema.long h = refl
long_is t h = absurd cc

pub bytes_is : (t : AvroType) → is_bytes t ≡ true → t ≡ schema.bytes
bytes_is schema.bytes h = refl
bytes_is t h = absurd cc

pub string_is : (t : AvroType) → is_string t ≡ true → t ≡ schema.string
string_is schema.string h = refl
string_is t h = absurd cc

pub fixed_is : (t : AvroType) (n : ℕ) → is_fixed t n ≡ true → (name : List ℕ) × (t ≡ schema.fixed name n)
fixed_is (schema.fixed name size) n h = (name, ap (schema.fixed name) (sym (eqb-true n size h)))
fixed_is t n h = absurd cc

pub symbol_is : (t : AvroType) (n : ℕ) (s : List ℕ) → symbol_in t n ≡ Some s → (name : List ℕ) × (symbols : List (List ℕ)) × (t ≡ schema.enum_ name symbols) × (slice_get symbols n ≡ Some s)
symbol_is (schema.enum_ name symbols) n s h = (name, symbols, refl, h)
symbol_is t n s h = absurd cc

-- the branch of a union
pub record IsBranch (t : AvroType) (n : ℕ) (u : AvroType) : Type 0 where
  pub branches : Branches
  pub union : t ≡ schema.union branches
  pub at : branch_at branches n ≡ Some u
  pub small : n < 2 ^ 32

branch_by : (ts : Branches) (n : ℕ) (u : AvroType) (test : Bool) → nat_lt n (2 ^ 32) ≡ test → cond test (branch_at ts n) None ≡ Some u → IsBranch (schema.union ts) n u
branch_by ts n u true e h = record { branches = ts; union = refl; at = h; small = ltb-true n (2 ^ 32) e }
branch_by ts n u false e h = absurd cc

pub branch_is : (t : AvroType) (n : ℕ) (u : AvroType) → branch_in t n ≡ Some u → IsBranch t n u
branch_is (schema.union ts) n u h = branch_by ts n u (nat_lt n (2 ^ 32)) refl h
branch_is t n u h = absurd cc

-- the fields of a record
pub record AreFieldsOf (t : AvroType) (n : ℕ) (ts : Fields) : Type 0 where
  pub name : List ℕ
  pub type : t ≡ schema.record_ name ts
  pub number : n ≡ number_of ts

fields_by : (name : List ℕ) (us : Fields) (n : ℕ) (ts : Fields) (test : Bool) → (n == number_of us) ≡ test → cond test (Some us) None ≡ Some ts → AreFieldsOf (schema.record_ name us) n ts
fields_by name us n ts true e h =
    let same : us ≡ ts = cc in
    let P : Fields → Type 0 = λ fs. AreFieldsOf (schema.record_ name us) n fs in
    subst P same (record { name = name; type = refl; number = eqb-true n (number_of us) e })
fields_by name us n ts false e h = absurd cc

pub fields_are : (t : AvroType) (n : ℕ) (ts : Fields) → fields_in t n ≡ Some ts → AreFieldsOf t n ts
fields_are (schema.record_ name us) n ts h = fields_by name us n ts (n == number_of us) refl h
fields_are t n ts h = absurd cc

array_by : (t u : AvroType) (test : Bool) → cond test (Some t) None ≡ Some u → schema.array t ≡ schema.array u
array_by t u true h = cc
array_by t u false h = absurd cc

pub array_is : (t : AvroType) (n : ℕ) (u : AvroType) → items_in t n ≡ Some u → t ≡ schema.array u
array_is (schema.array t) n u h = array_by t u (nat_lt n (2 ^ 63)) h
array_is t n u h = absurd cc

map_by : (t u : AvroType) (test : Bool) → cond test (Some t) None ≡ Some u → schema.map t ≡ schema.map u
map_by t u true h = cc
map_by t u false h = absurd cc

pub map_is : (t : AvroType) (n : ℕ) (u : AvroType) → entries_in t n ≡ Some u → t ≡ schema.map u
map_is (schema.map t) n u h = map_by t u (nat_lt n (2 ^ 63)) h
map_is t n u h = absurd cc

-- a map whose keys differ
pub record IsMap (t : AvroType) (es : Entries) (u : AvroType) : Type 0 where
  pub type : t ≡ schema.map u
  pub differ : differ (keys_of es) ≡ true

values_by : (t : AvroType) (es : Entries) (u : AvroType) (test : Bool) → differ (keys_of es) ≡ test → cond test (entries_in t (count_of es)) None ≡ Some u → IsMap t es u
values_by t es u true e h = record { type = map_is t (count_of es) u h; differ = e }
values_by t es u false e h = absurd cc

pub values_are : (t : AvroType) (es : Entries) (u : AvroType) → values_in t es ≡ Some u → IsMap t es u
values_are t es u h = values_by t es u (differ (keys_of es)) refl h

-- ---- numbers

pub fits_int : (n : ℤ) → is_below (2 ^ 31) n ≡ true → FitsSigned w32 n
fits_int (pos n) h = record { sfits = ltb-true n (2 ^ 31) h }
fits_int (negsuc n) h = record { sfits = ltb-true n (2 ^ 31) h }

pub fits_long : (n : ℤ) → is_below (2 ^ 63) n ≡ true → FitsSigned w64 n
fits_long (pos n) h = record { sfits = ltb-true n (2 ^ 63) h }
fits_long (negsuc n) h = record { sfits = ltb-true n (2 ^ 63) h }

pub int_is_long : (n : ℤ) → FitsSigned w32 n → FitsSigned w64 n
int_is_long (pos n) h = let small = h.sfits in record { sfits = omega arith }
int_is_long (negsuc n) h = let small = h.sfits in record { sfits = omega arith }
