-- What an integer, a node, a type's parts and their counts are within the limits.
use Rattle.std.proofs.Common.{◌≡◌, ℕ, suc, ◌^◌, ◌<◌, ◌≤◌, List, Some, Ok, ℤ, pos, negsuc, true, nat_lt, ◌==◌, FitsSigned, refl, ap, ◌∙◌, arith, lt-ltb}
use Rattle.std.specs.Int.{w32, w64}
use Rattle.std.proofs.lemmas.Bool.{eq-eqb}
use Rattle.avro_schema.specs.Types as schema
use Rattle.avro_schema.specs.Types.{AvroType, Branches, Fields}
use Rattle.avro_value.specs.Value.{Value, Values, Entries, null, boolean, int, long, bytes, string, fixed, symbol, branch, fields, items, entries, no_values, value, no_entries, entry, size_of, count_of, nodes, nodes_in, nodes_among, max_nodes}
use Rattle.avro_value.specs.Judging.{branch_at, branch_in, number_of, fields_in, items_in, is_below, opened}

pub below32 : (n : ℤ) → FitsSigned w32 n → is_below (2 ^ 31) n ≡ true
below32 (pos n) fits = lt-ltb _ _ fits.sfits
below32 (negsuc n) fits = lt-ltb _ _ fits.sfits

pub below64 : (n : ℤ) → FitsSigned w64 n → is_below (2 ^ 63) n ≡ true
below64 (pos n) fits = lt-ltb _ _ fits.sfits
below64 (negsuc n) fits = lt-ltb _ _ fits.sfits

pub opened_is : (levels b k : ℕ) → levels ≡ suc b → k < max_nodes → opened levels k ≡ Ok b
opened_is levels b k level few = let test : nat_lt k max_nodes ≡ true = lt-ltb _ _ few in ap (λ (l : ℕ). opened l k) level ∙ rw test refl

pub branch_is : (t : AvroType) (ts : Branches) (n : ℕ) (u : AvroType) → t ≡ schema.union ts → branch_at ts n ≡ Some u → n < 2 ^ 32 → branch_in t n ≡ Some u
branch_is t ts n u is at small = let test : nat_lt n (2 ^ 32) ≡ true = lt-ltb _ _ small in ap (λ (x : AvroType). branch_in x n) is ∙ rw test at

pub fields_are : (t : AvroType) (name : List ℕ) (ts : Fields) (n : ℕ) → t ≡ schema.record_ name ts → n ≡ number_of ts → fields_in t n ≡ Some ts
fields_are t name ts n is size = let test : (n == number_of ts) ≡ true = eq-eqb _ _ size in ap (λ (x : AvroType). fields_in x n) is ∙ rw test refl

pub items_are : (t u : AvroType) (n : ℕ) → t ≡ schema.array u → n < 2 ^ 63 → items_in t n ≡ Some u
items_are t u n is small = let test : nat_lt n (2 ^ 63) ≡ true = lt-ltb _ _ small in ap (λ (x : AvroType). items_in x n) is ∙ rw test refl

pub node_one : (v : Value) → 1 ≤ nodes v
node_one null = omega arith
node_one (boolean b) = omega arith
node_one (int n) = omega arith
node_one (long n) = omega arith
node_one (bytes bs) = omega arith
node_one (string bs) = omega arith
node_one (fixed bs) = omega arith
node_one (symbol n) = omega arith
node_one (branch n v) = omega arith
node_one (fields vs) = omega arith
node_one (items vs) = omega arith
node_one (entries es) = omega arith

pub size_few : (vs : Values) → size_of vs ≤ nodes_in vs
size_few no_values = omega arith
size_few (value v vs) = omega (arith, size_few vs, node_one v)

pub count_few : (es : Entries) → count_of es ≤ nodes_among es
count_few no_entries = omega arith
count_few (entry key v es) = omega (arith, count_few es, node_one v)
