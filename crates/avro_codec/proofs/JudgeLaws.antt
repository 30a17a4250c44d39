-- Each value that has a spelling within the limits is judged to be of its type.
use Rattle.std.proofs.Common.{◌≡◌, ℕ, suc, ◌+◌, ◌^◌, ◌<◌, ◌≤◌, List, length, Option, Some, Ok, Bool, true, nat_lt, ◌&&◌, inl, inr, refl, sym, ap, ◌∙◌, arith, lt-ltb}
use Rattle.std.proofs.lemmas.Bool.{eq-eqb}
use Rattle.avro_schema.specs.Types as schema
use Rattle.avro_schema.specs.Types.{AvroType, Branches, Fields, resolved}
use Rattle.avro_value.specs.declared.error.AvroNo.{AvroNo}
use Rattle.avro_value.specs.declared.error.AvroNo.TheVariants.{Want}
use Rattle.avro_value.specs.Value.{Value, Values, Entries, null, boolean, int, long, bytes, string, fixed, symbol, branch, fields, items, entries, no_values, value, no_entries, entry, nodes, nodes_in, nodes_among, IsWithin, AreWithin, EntriesWithin, IsSmall, max_levels, max_nodes}
use Rattle.avro_value.specs.Value.{size_of, count_of}
use Rattle.avro_codec.specs.Spelling.{IsDatum, AreFields, AreItems, AreEntries}
use Rattle.avro_value.specs.Steps.{Fails}
use Rattle.avro_value.specs.Judging.{Verdict, is_null, is_boolean, is_int, is_long, is_bytes, is_string, is_fixed, has_symbol, number_of, entries_in, leaf, node, is_key, keyed, judged, judged_fields, judged_items, judged_entries, verdict}
use Rattle.avro_value.proofs.NodeLemmas.{node_is}
use Rattle.avro_value.proofs.StepLemmas.{bind_at}
use Rattle.avro_value.proofs.CountLemmas.{below32, below64, opened_is, branch_is, fields_are, items_are, size_few, count_few}

leaf_is : (k : ℕ) (holds : Bool) → holds ≡ true → k + 1 ≤ max_nodes → leaf k holds ≡ Ok (k + 1)
leaf_is k holds is few =
    let test : nat_lt k max_nodes ≡ true = lt-ltb _ _ (omega arith) in
    let one : suc k ≡ k + 1 = omega arith in
    rw (test, is) (ap (λ (n : ℕ). Ok n) one)

-- a node with parts
parts_is : {T : Type 0} (levels b k more : ℕ) (o : Option T) (u : T) (parts : ℕ → T → Verdict) → levels ≡ suc b → o ≡ Some u → k + (1 + more) ≤ max_nodes → parts b u ≡ Ok (suc k + more) → node levels k o parts ≡ Ok (k + (1 + more))
parts_is levels b k more o u parts level some few is =
    let count : suc k + more ≡ k + (1 + more) = omega arith in
    node_is levels k b o u parts (opened_is levels b k level (omega arith)) some ∙ is ∙ ap (λ (n : ℕ). Ok n) count

all_hold : (a b : Bool) → a ≡ true → b ≡ true → (a && b) ≡ true
all_hold a b p q = rw p q

-- ---- counts

fields_count : (whole : AvroType) (vs : Values) (ts : Fields) (bs : List ℕ) → AreFields whole ts vs bs → size_of vs ≡ number_of ts
fields_count whole no_values ts bs are = sym (ap number_of are.0)
fields_count whole (value v vs) ts bs are = ap suc (fields_count whole vs are.2 are.5 are.8) ∙ sym (ap number_of are.3)

entries_are : (t u : AvroType) (n : ℕ) → t ≡ schema.map u → n < 2 ^ 63 → entries_in t n ≡ Some u
entries_are t u n is small = let test : nat_lt n (2 ^ 63) ≡ true = lt-ltb _ _ small in ap (λ (x : AvroType). entries_in x n) is ∙ rw test refl

mutual
  judged_again : (v : Value) (whole : AvroType) (levels : ℕ) (t : AvroType) (k : ℕ) (bs : List ℕ) → IsDatum whole t v bs → IsWithin levels v → k + nodes v ≤ max_nodes → judged whole levels t k v ≡ Ok (k + nodes v)
  judged_again null whole levels t k bs is within few = leaf_is k _ (ap is_null is.0) few
  judged_again (boolean b) whole levels t k bs is within few = leaf_is k _ (ap is_boolean is.0) few
  judged_again (int n) whole levels t k bs is within few = leaf_is k _ (all_hold _ _ (ap is_int is.0) (below32 n is.1.fits)) few
  judged_again (long n) whole levels t k bs is within few = leaf_is k _ (all_hold _ _ (ap is_long is.0) (below64 n is.1.fits)) few
  judged_again (bytes piece) whole levels t k bs is within few = leaf_is k _ (all_hold _ _ (ap is_bytes is.0) (lt-ltb _ _ is.1.size.fits.sfits)) few
  judged_again (string piece) whole levels t k bs is within few = leaf_is k _ (all_hold _ _ (ap is_string is.0) (all_hold _ _ is.2 (lt-ltb _ _ is.1.size.fits.sfits))) few
  judged_again (fixed piece) whole levels t k bs is within few = leaf_is k _ (ap (λ (u : AvroType). is_fixed u (length piece)) is.1 ∙ eq-eqb (length piece) (length piece) refl) few
  judged_again (symbol n) whole levels t k bs is within few =
      leaf_is k _ (all_hold _ _ (ap (λ (u : AvroType). has_symbol u n) is.2 ∙ lt-ltb n (length is.1) is.3) (lt-ltb _ _ is.4.fits.sfits)) few
  judged_again (branch n v) whole levels t k bs is within few =
      parts_is levels within.0 k (nodes v) _ is.2 (λ b u. judged whole b u (suc k) v) within.1 (branch_is (resolved whole t) is.0 n is.2 is.1 is.3 is.4) few
      (judged_again v whole within.0 is.2 (suc k) is.6 is.9 within.2 (omega arith))
  judged_again (fields vs) whole levels t k bs is within few =
      parts_is levels within.0 k (nodes_in vs) _ is.1 (λ b ts. judged_fields whole b ts (suc k) vs) within.1 (fields_are (resolved whole t) is.0 is.1 (size_of vs) is.2 (fields_count whole vs is.1 bs is.3)) few
      (fields_again vs whole within.0 is.1 (suc k) bs is.3 within.2 (omega arith))
  judged_again (items vs) whole levels t k bs is within few =
      parts_is levels within.0 k (nodes_in vs) _ is.0 (λ b u. judged_items whole b u (suc k) vs) within.1 (items_are (resolved whole t) is.0 (size_of vs) is.1 (omega (arith, size_few vs))) few
      (items_again vs whole within.0 is.0 (suc k) is.2 is.3 within.2 (omega arith))
  judged_again (entries es) whole levels t k bs is within few =
      parts_is levels within.0 k (nodes_among es) _ is.0 (λ b u. judged_entries whole b u (suc k) es) within.1 (entries_are (resolved whole t) is.0 (count_of es) is.1 (omega (arith, count_few es))) few
      (entries_again es whole within.0 is.0 (suc k) is.2 is.3 within.2 (omega arith))

  fields_again : (vs : Values) (whole : AvroType) (b : ℕ) (ts : Fields) (k : ℕ) (bs : List ℕ) → AreFields whole ts vs bs → AreWithin b vs → k + nodes_in vs ≤ max_nodes → judged_fields whole b ts k vs ≡ Ok (k + nodes_in vs)
  fields_again no_values whole b ts k bs are within few = let none : k ≡ k + 0 = omega arith in ap (λ (n : ℕ). Ok n) none
  fields_again (value v vs) whole b ts k bs are within few =
      let count : (k + nodes v) + nodes_in vs ≡ k + (nodes v + nodes_in vs) = omega arith in
      ap (λ (x : Fields). judged_fields whole b x k (value v vs)) are.3
      ∙ bind_at (judged whole b are.1 k v) (λ n. judged_fields whole b are.2 n vs) (k + nodes v) (judged_again v whole b are.1 k are.4 are.7 within.0 (omega arith))
      ∙ fields_again vs whole b are.2 (k + nodes v) are.5 are.8 within.1 (omega arith) ∙ ap (λ (n : ℕ). Ok n) count

  items_again : (vs : Values) (whole : AvroType) (b : ℕ) (u : AvroType) (k : ℕ) (pieces : List (List ℕ)) → AreItems whole u vs pieces → AreWithin b vs → k + nodes_in vs ≤ max_nodes → judged_items whole b u k vs ≡ Ok (k + nodes_in vs)
  items_again no_values whole b u k pieces are within few = let none : k ≡ k + 0 = omega arith in ap (λ (n : ℕ). Ok n) none
  items_again (value v vs) whole b u k pieces are within few =
      let count : (k + nodes v) + nodes_in vs ≡ k + (nodes v + nodes_in vs) = omega arith in
      bind_at (judged whole b u k v) (λ n. judged_items whole b u n vs) (k + nodes v) (judged_again v whole b u k are.0 are.3 within.0 (omega arith))
      ∙ items_again vs whole b u (k + nodes v) are.1 are.4 within.1 (omega arith) ∙ ap (λ (n : ℕ). Ok n) count

  entries_again : (es : Entries) (whole : AvroType) (b : ℕ) (u : AvroType) (k : ℕ) (pieces : List (List ℕ)) → AreEntries whole u es pieces → EntriesWithin b es → k + nodes_among es ≤ max_nodes → judged_entries whole b u k es ≡ Ok (k + nodes_among es)
  entries_again no_entries whole b u k pieces are within few = let none : k ≡ k + 0 = omega arith in ap (λ (n : ℕ). Ok n) none
  entries_again (entry key v es) whole b u k pieces are within few =
      let count : (k + nodes v) + nodes_among es ≡ k + (nodes v + nodes_among es) = omega arith in
      let valid : is_key key ≡ true = all_hold _ _ are.5 (lt-ltb _ _ are.4.size.fits.sfits) in
      let first : keyed k key (judged whole b u k v) ≡ Ok (k + nodes v) = rw valid (judged_again v whole b u k are.1 are.6 within.0 (omega arith)) in
      bind_at (keyed k key (judged whole b u k v)) (λ n. judged_entries whole b u n es) (k + nodes v) first
      ∙ entries_again es whole b u (k + nodes v) are.2 are.7 within.1 (omega arith) ∙ ap (λ (n : ℕ). Ok n) count

pub verdict_again : (whole : AvroType) (v : Value) (bs : List ℕ) → IsDatum whole whole v bs → IsSmall v → verdict whole v ≡ Ok (nodes v)
unfolding verdict
verdict_again whole v bs is small =
    let none : 0 + nodes v ≡ nodes v = omega arith in
    judged_again v whole max_levels whole 0 bs is small.levels (omega (arith, small.nodes)) ∙ ap (λ (n : ℕ). Ok n) none

-- a refusal of such a value is want of memory
pub only_want : (whole : AvroType) (v : Value) (bs : List ℕ) (e : AvroNo) → IsDatum whole whole v bs → IsSmall v → Fails e (verdict whole v) → e ≡ Want
only_want whole v bs e is small fails = elim fails [ inl want ↦ want | inr no_datum ↦ absurd (let a = verdict_again whole v bs is small in cc) ]
