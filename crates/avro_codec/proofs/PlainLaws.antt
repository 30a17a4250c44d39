-- A value that is judged to be of a type has its plain spelling, and each value that has a spelling is judged so.
use Rattle.std.proofs.Common.{◌≡◌, ℕ, zero, suc, ◌+◌, ◌^◌, ◌<◌, ◌≤◌, List, [], ◌∷◌, ◌++◌, length, Option, Some, None, Ok, Err, ℤ, pos, negsuc, Bool, true, false, cond, nat_lt, ◌&&◌, ◌==◌, FitsSigned, inl, refl, sym, ap, ◌∙◌, subst, arith, append_assoc, ltb-true}
use Rattle.std.specs.Int.{w32, w64}
use Rattle.std.specs.Str.{is_utf8}
use Rattle.std.proofs.lemmas.Bool.{eqb-true}
use Rattle.std.proofs.lemmas.List.{append-nil}
use Rattle.wire_prim.proofs.VarintLaws.{varint_spelled, varlong_spelled}
use Rattle.avro_schema.specs.Types as schema
use Rattle.avro_schema.specs.Types.{AvroType, Branches, Fields, resolved}
use Rattle.avro_value.specs.declared.error.AvroNo.TheVariants.{Mismatch, TooMany}
use Rattle.avro_value.specs.Value.{Value, Values, Entries, null, boolean, int, long, bytes, string, fixed, symbol, branch, fields, items, entries, no_values, value, no_entries, entry, nodes, nodes_in, nodes_among, IsWithin, AreWithin, EntriesWithin, IsSmall, max_levels, max_nodes}
use Rattle.avro_codec.specs.Plain.{int_bytes, long_bytes, sized, one_block, plain, plain_values, plain_entries}
use Rattle.avro_value.specs.Value.{size_of, count_of}
use Rattle.avro_codec.specs.Spelling.{IsInt, IsLong, IsSized, Block, joined, AreBlocks, IsDatum, AreFields, AreItems, AreEntries}
use Rattle.avro_value.specs.Judging.{branch_at}
use Rattle.avro_value.specs.Judging.{Verdict, is_null, is_boolean, is_int, is_long, is_bytes, is_string, is_fixed, has_symbol, branch_in, number_of, fields_in, items_in, entries_in, is_below, matched, leaf, opened, inside, node, is_key, keyed, judged, judged_fields, judged_items, judged_entries, verdict}
use Rattle.avro_codec.proofs.BlockSound.{joined-cons}
use Rattle.avro_value.proofs.StepLemmas.{bind_ok, ok_is, chosen_ok}

-- ---- tests and types

both : (a b : Bool) → (a && b) ≡ true → (a ≡ true) × (b ≡ true)
both true b is = (refl, is)
both false b is = absurd cc

null_type : (u : AvroType) → is_null u ≡ true → u ≡ schema.null
null_type schema.null is = refl
null_type u is = absurd cc

boolean_type : (u : AvroType) → is_boolean u ≡ true → u ≡ schema.boolean
boolean_type schema.boolean is = refl
boolean_type u is = absurd cc

int_type : (u : AvroType) → is_int u ≡ true → u ≡ schema.int
int_type schema.int is = refl
int_type u is = absurd cc

long_type : (u : AvroType) → is_long u ≡ true → u ≡ schema.long
long_type schema.long is = refl
long_type u is = absurd cc

bytes_type : (u : AvroType) → is_bytes u ≡ true → u ≡ schema.bytes
bytes_type schema.bytes is = refl
bytes_type u is = absurd cc

string_type : (u : AvroType) → is_string u ≡ true → u ≡ schema.string
string_type schema.string is = refl
string_type u is = absurd cc

fixed_type : (u : AvroType) (n : ℕ) → is_fixed u n ≡ true → (name : List ℕ) × (u ≡ schema.fixed name n)
fixed_type (schema.fixed name size) n is = (name, ap (schema.fixed name) (sym (eqb-true _ _ is)))
fixed_type u n is = absurd cc

symbol_type : (u : AvroType) (n : ℕ) → has_symbol u n ≡ true → (name : List ℕ) × (symbols : List (List ℕ)) × (u ≡ schema.enum_ name symbols) × (n < length symbols)
symbol_type (schema.enum_ name symbols) n is = (name, symbols, refl, ltb-true _ _ is)
symbol_type u n is = absurd cc

abbrev if_some : {T : Type 0} → Bool → Option T → Option T
if_some b o = cond b o None

if_some_is : {T : Type 0} (b : Bool) (o : Option T) (u : T) → if_some b o ≡ Some u → (b ≡ true) × (o ≡ Some u)
if_some_is true o u is = (refl, is)
if_some_is false o u is = absurd cc

some_same : (x u : AvroType) → Some x ≡ Some u → x ≡ u
some_same x u is = cc

branch_type : (t : AvroType) (n : ℕ) (u : AvroType) → branch_in t n ≡ Some u → (ts : Branches) × (t ≡ schema.union ts) × (branch_at ts n ≡ Some u) × (n < 2 ^ 32)
branch_type (schema.union ts) n u is = let a = if_some_is (nat_lt n (2 ^ 32)) (branch_at ts n) u is in (ts, refl, a.1, ltb-true _ _ a.0)
branch_type t n u is = absurd cc

some_fields : (x u : Fields) → Some x ≡ Some u → x ≡ u
some_fields x u is = cc

fields_type : (t : AvroType) (n : ℕ) (ts : Fields) → fields_in t n ≡ Some ts → (name : List ℕ) × (t ≡ schema.record_ name ts) × (n ≡ number_of ts)
fields_type (schema.record_ name us) n ts is =
    let a = if_some_is (n == number_of us) (Some us) ts is in
    let same : us ≡ ts = some_fields us ts a.1 in
    (name, ap (schema.record_ name) same, eqb-true _ _ a.0 ∙ ap number_of same)
fields_type t n ts is = absurd cc

items_type : (t : AvroType) (n : ℕ) (u : AvroType) → items_in t n ≡ Some u → (t ≡ schema.array u) × (n < 2 ^ 63)
items_type (schema.array x) n u is = let a = if_some_is (nat_lt n (2 ^ 63)) (Some x) u is in let same : x ≡ u = some_same x u a.1 in (ap schema.array same, ltb-true _ _ a.0)
items_type t n u is = absurd cc

entries_type : (t : AvroType) (n : ℕ) (u : AvroType) → entries_in t n ≡ Some u → (t ≡ schema.map u) × (n < 2 ^ 63)
entries_type (schema.map x) n u is = let a = if_some_is (nat_lt n (2 ^ 63)) (Some x) u is in let same : x ≡ u = some_same x u a.1 in (ap schema.map same, ltb-true _ _ a.0)
entries_type t n u is = absurd cc

fits32 : (n : ℤ) → is_below (2 ^ 31) n ≡ true → FitsSigned w32 n
fits32 (pos n) is = record { sfits = ltb-true _ _ is }
fits32 (negsuc n) is = record { sfits = ltb-true _ _ is }

fits64 : (n : ℤ) → is_below (2 ^ 63) n ≡ true → FitsSigned w64 n
fits64 (pos n) is = record { sfits = ltb-true _ _ is }
fits64 (negsuc n) is = record { sfits = ltb-true _ _ is }

int_plain : (n : ℤ) → FitsSigned w32 n → IsInt n (int_bytes n)
unfolding int_bytes
int_plain n fits = record { spells = varint_spelled n fits; fits = fits }

long_plain : (n : ℤ) → FitsSigned w64 n → IsLong n (long_bytes n)
unfolding long_bytes
long_plain n fits = record { spells = varlong_spelled n fits; fits = fits }

size_fits : (n : ℕ) → n < 2 ^ 63 → FitsSigned w64 (pos n)
size_fits n small = record { sfits = small }

sized_plain : (piece : List ℕ) → length piece < 2 ^ 63 → IsSized piece (sized piece)
sized_plain piece small = record { head = long_bytes (pos (length piece)); size = long_plain (pos (length piece)) (size_fits (length piece) small); is = refl }

-- ---- nodes

chosen_verdict : (b : Bool) (v : Verdict) (n : ℕ) → cond b v (Err TooMany) ≡ Ok n → (b ≡ true) × (v ≡ Ok n)
chosen_verdict true v n is = (refl, is)
chosen_verdict false v n is = absurd cc

inside_took : {T : Type 0} (k n : ℕ) (o : Option T) (f : T → Verdict) → inside k o f ≡ Ok n → (u : T) × (o ≡ Some u) × (f u ≡ Ok n)
inside_took k n None f is = absurd cc
inside_took k n (Some u) f is = (u, refl, is)

record LeafTook (k n : ℕ) (holds : Bool) : Type 0 where
  holds_is : holds ≡ true
  next : n ≡ suc k
  few : k < max_nodes

leaf_took : (k n : ℕ) (holds : Bool) → leaf k holds ≡ Ok n → LeafTook k n holds
leaf_took k n holds is =
    let a = chosen_verdict (nat_lt k max_nodes) (matched k holds) n is in
    let b = chosen_ok holds (Mismatch k) (suc k) n a.1 in
    record { holds_is = b.0; next = sym b.1; few = ltb-true _ _ a.0 }

record NodeTook {T : Type 0} (levels k n : ℕ) (o : Option T) (parts : ℕ → T → Verdict) : Type 0 where
  b : ℕ
  level : levels ≡ suc b
  few : k < max_nodes
  u : T
  some : o ≡ Some u
  inner : parts b u ≡ Ok n

node_took : {T : Type 0} (levels k n : ℕ) (o : Option T) (parts : ℕ → T → Verdict) → node levels k o parts ≡ Ok n → NodeTook levels k n o parts
node_took zero k n o parts is = absurd cc
node_took {T} (suc b) k n o parts is =
    let a = bind_ok (opened (suc b) k) (λ c. inside k o (parts c)) n is in
    let c = chosen_ok (nat_lt k max_nodes) TooMany b a.0 a.1 in
    let d = inside_took k n o (parts b) (subst (λ (x : ℕ). inside k o (parts x) ≡ Ok n) (sym c.1) a.2) in
    record { b = b; level = refl; few = ltb-true _ _ c.0; u = d.0; some = d.1; inner = d.2 }

-- ---- blocks

zero_ends : IsLong (pos 0) (0 ∷ [])
zero_ends = record { spells = record { ends = refl; within = omega arith; number = refl }; fits = record { sfits = omega arith } }

no_pieces : AreBlocks [] (0 ∷ [])
no_pieces = record { blocks = []; end = 0 ∷ []; each = tt; ends = zero_ends; all = refl; is = refl }

some_pieces : (first : List ℕ) (others : List (List ℕ)) → suc (length others) < 2 ^ 63 → AreBlocks (first ∷ others) (one_block (suc (length others)) (joined (first ∷ others)))
some_pieces first others small =
    let head = long_bytes (pos (suc (length others))) in
    let b : Block = record { head = head; first = first; others = others } in
    record {
      blocks = b ∷ [];
      end = 0 ∷ [];
      each = (inl (long_plain (pos (suc (length others))) (size_fits (suc (length others)) small)), tt);
      ends = zero_ends;
      all = append-nil (first ∷ others);
      is = sym (append_assoc head (joined (first ∷ others)) (0 ∷ [])) ∙ ap (λ (l : List ℕ). l ++ (0 ∷ [])) (sym (append-nil (head ++ joined (first ∷ others))));
    }

pieces_plain : (pieces : List (List ℕ)) → length pieces < 2 ^ 63 → AreBlocks pieces (one_block (length pieces) (joined pieces))
pieces_plain [] small = no_pieces
pieces_plain (first ∷ others) small = some_pieces first others small

-- ---- what is judged is spelled so

record Judged (whole : AvroType) (levels : ℕ) (t : AvroType) (k : ℕ) (v : Value) (n : ℕ) : Type 0 where
  is : IsDatum whole t v (plain v)
  within : IsWithin levels v
  next : n ≡ k + nodes v
  few : n ≤ max_nodes

record FieldsJudged (whole : AvroType) (b : ℕ) (ts : Fields) (k : ℕ) (vs : Values) (n : ℕ) : Type 0 where
  are : AreFields whole ts vs (plain_values vs)
  within : AreWithin b vs
  next : n ≡ k + nodes_in vs
  few : k ≤ max_nodes → n ≤ max_nodes

record ItemsJudged (whole : AvroType) (b : ℕ) (u : AvroType) (k : ℕ) (vs : Values) (n : ℕ) : Type 0 where
  pieces : List (List ℕ)
  are : AreItems whole u vs pieces
  size : length pieces ≡ size_of vs
  joins : joined pieces ≡ plain_values vs
  within : AreWithin b vs
  next : n ≡ k + nodes_in vs
  few : k ≤ max_nodes → n ≤ max_nodes

record EntriesJudged (whole : AvroType) (b : ℕ) (u : AvroType) (k : ℕ) (es : Entries) (n : ℕ) : Type 0 where
  pieces : List (List ℕ)
  are : AreEntries whole u es pieces
  size : length pieces ≡ count_of es
  joins : joined pieces ≡ plain_entries es
  within : EntriesWithin b es
  next : n ≡ k + nodes_among es
  few : k ≤ max_nodes → n ≤ max_nodes

-- a node without parts
plain_leaf : (whole : AvroType) (levels : ℕ) (t : AvroType) (k n : ℕ) (v : Value) (holds : Bool) → LeafTook k n holds → IsDatum whole t v (plain v) → IsWithin levels v → nodes v ≡ 1 → Judged whole levels t k v n
plain_leaf whole levels t k n v holds took is within one = record { is = is; within = within; next = omega (arith, took.next, one); few = omega (arith, took.next, took.few) }

chosen_key : (b : Bool) (k : ℕ) (v : Verdict) (n : ℕ) → cond b v (Err (Mismatch k)) ≡ Ok n → (b ≡ true) × (v ≡ Ok n)
chosen_key true k v n is = (refl, is)
chosen_key false k v n is = absurd cc

keyed_took : (k n : ℕ) (key : List ℕ) (v : Verdict) → keyed k key v ≡ Ok n → (is_key key ≡ true) × (v ≡ Ok n)
keyed_took k n key v is = chosen_key (is_key key) k v n is

fields_end : (ts : Fields) → 0 ≡ number_of ts → ts ≡ schema.no_fields
fields_end schema.no_fields is = refl
fields_end (schema.field name t ts) is = absurd (omega arith)

mutual
  judged_sound : (v : Value) (whole : AvroType) (levels : ℕ) (t : AvroType) (k n : ℕ) → judged whole levels t k v ≡ Ok n → Judged whole levels t k v n
  judged_sound null whole levels t k n is =
      let a = leaf_took k n _ is in
      plain_leaf whole levels t k n null _ a (null_type _ a.holds_is, refl) tt refl
  judged_sound (boolean b) whole levels t k n is =
      let a = leaf_took k n _ is in
      plain_leaf whole levels t k n (boolean b) _ a (boolean_type _ a.holds_is, refl) tt refl
  judged_sound (int m) whole levels t k n is =
      let a = leaf_took k n _ is in
      let h = both _ _ a.holds_is in
      plain_leaf whole levels t k n (int m) _ a (int_type _ h.0, int_plain m (fits32 m h.1)) tt refl
  judged_sound (long m) whole levels t k n is =
      let a = leaf_took k n _ is in
      let h = both _ _ a.holds_is in
      plain_leaf whole levels t k n (long m) _ a (long_type _ h.0, long_plain m (fits64 m h.1)) tt refl
  judged_sound (bytes piece) whole levels t k n is =
      let a = leaf_took k n _ is in
      let h = both _ _ a.holds_is in
      plain_leaf whole levels t k n (bytes piece) _ a (bytes_type _ h.0, sized_plain piece (ltb-true _ _ h.1)) tt refl
  judged_sound (string piece) whole levels t k n is =
      let a = leaf_took k n _ is in
      let h = both _ _ a.holds_is in
      let m = both _ _ h.1 in
      plain_leaf whole levels t k n (string piece) _ a (string_type _ h.0, sized_plain piece (ltb-true _ _ m.1), m.0) tt refl
  judged_sound (fixed piece) whole levels t k n is =
      let a = leaf_took k n _ is in
      let h = fixed_type _ (length piece) a.holds_is in
      plain_leaf whole levels t k n (fixed piece) _ a (h.0, h.1, refl) tt refl
  judged_sound (symbol m) whole levels t k n is =
      let a = leaf_took k n _ is in
      let h = both _ _ a.holds_is in
      let s = symbol_type _ m h.0 in
      plain_leaf whole levels t k n (symbol m) _ a (s.0, s.1, s.2, s.3, int_plain (pos m) (record { sfits = ltb-true _ _ h.1 })) tt refl
  judged_sound (branch m v) whole levels t k n is =
      let a = node_took levels k n (branch_in (resolved whole t) m) (λ b u. judged whole b u (suc k) v) is in
      let h = branch_type (resolved whole t) m a.u a.some in
      let c = judged_sound v whole a.b a.u (suc k) n a.inner in
      let small : m < 2 ^ 63 = omega (arith, h.3) in
      record {
        is = (h.0, h.1, a.u, h.2, h.3, long_bytes (pos m), plain v, refl, long_plain (pos m) (size_fits m small), c.is);
        within = (a.b, a.level, c.within);
        next = omega (arith, c.next);
        few = c.few;
      }
  judged_sound (fields vs) whole levels t k n is =
      let a = node_took levels k n (fields_in (resolved whole t) (size_of vs)) (λ b ts. judged_fields whole b ts (suc k) vs) is in
      let h = fields_type (resolved whole t) (size_of vs) a.u a.some in
      let c = fields_judged vs whole a.b a.u (suc k) n h.2 a.inner in
      record { is = (h.0, a.u, h.1, c.are); within = (a.b, a.level, c.within); next = omega (arith, c.next); few = c.few (omega (arith, a.few)) }
  judged_sound (items vs) whole levels t k n is =
      let a = node_took levels k n (items_in (resolved whole t) (size_of vs)) (λ b u. judged_items whole b u (suc k) vs) is in
      let h = items_type (resolved whole t) (size_of vs) a.u a.some in
      let c = items_judged vs whole a.b a.u (suc k) n a.inner in
      let blocks = pieces_plain c.pieces (omega (arith, c.size, h.1)) in
      let spelled : AreBlocks c.pieces (plain (items vs)) = subst (AreBlocks c.pieces) (ap (λ (m : ℕ). one_block m (joined c.pieces)) c.size ∙ ap (one_block (size_of vs)) c.joins) blocks in
      record { is = (a.u, h.0, c.pieces, c.are, spelled); within = (a.b, a.level, c.within); next = omega (arith, c.next); few = c.few (omega (arith, a.few)) }
  judged_sound (entries es) whole levels t k n is =
      let a = node_took levels k n (entries_in (resolved whole t) (count_of es)) (λ b u. judged_entries whole b u (suc k) es) is in
      let h = entries_type (resolved whole t) (count_of es) a.u a.some in
      let c = entries_judged es whole a.b a.u (suc k) n a.inner in
      let blocks = pieces_plain c.pieces (omega (arith, c.size, h.1)) in
      let spelled : AreBlocks c.pieces (plain (entries es)) = subst (AreBlocks c.pieces) (ap (λ (m : ℕ). one_block m (joined c.pieces)) c.size ∙ ap (one_block (count_of es)) c.joins) blocks in
      record { is = (a.u, h.0, c.pieces, c.are, spelled); within = (a.b, a.level, c.within); next = omega (arith, c.next); few = c.few (omega (arith, a.few)) }

  fields_judged : (vs : Values) (whole : AvroType) (b : ℕ) (ts : Fields) (k n : ℕ) → size_of vs ≡ number_of ts → judged_fields whole b ts k vs ≡ Ok n → FieldsJudged whole b ts k vs n
  fields_judged no_values whole b ts k n size is =
      let same = ok_is k n is in
      record { are = (fields_end ts size, refl); within = tt; next = omega (arith, same); few = λ h. omega (arith, same) }
  fields_judged (value v vs) whole b schema.no_fields k n size is = absurd cc
  fields_judged (value v vs) whole b (schema.field name t ts) k n size is =
      let a = bind_ok (judged whole b t k v) (λ m. judged_fields whole b ts m vs) n is in
      let first = judged_sound v whole b t k a.0 a.1 in
      let others = fields_judged vs whole b ts a.0 n (omega (arith, size)) a.2 in
      record {
        are = (name, t, ts, refl, plain v, plain_values vs, refl, first.is, others.are);
        within = (first.within, others.within);
        next = omega (arith, first.next, others.next);
        few = λ h. others.few first.few;
      }

  items_judged : (vs : Values) (whole : AvroType) (b : ℕ) (u : AvroType) (k n : ℕ) → judged_items whole b u k vs ≡ Ok n → ItemsJudged whole b u k vs n
  items_judged no_values whole b u k n is =
      let same = ok_is k n is in
      record { pieces = []; are = refl; size = refl; joins = refl; within = tt; next = omega (arith, same); few = λ h. omega (arith, same) }
  items_judged (value v vs) whole b u k n is =
      let a = bind_ok (judged whole b u k v) (λ m. judged_items whole b u m vs) n is in
      let first = judged_sound v whole b u k a.0 a.1 in
      let others = items_judged vs whole b u a.0 n a.2 in
      record {
        pieces = plain v ∷ others.pieces;
        are = (plain v, others.pieces, refl, first.is, others.are);
        size = ap suc others.size;
        joins = joined-cons (plain v) others.pieces ∙ ap (λ (l : List ℕ). plain v ++ l) others.joins;
        within = (first.within, others.within);
        next = omega (arith, first.next, others.next);
        few = λ h. others.few first.few;
      }

  entries_judged : (es : Entries) (whole : AvroType) (b : ℕ) (u : AvroType) (k n : ℕ) → judged_entries whole b u k es ≡ Ok n → EntriesJudged whole b u k es n
  entries_judged no_entries whole b u k n is =
      let same = ok_is k n is in
      record { pieces = []; are = refl; size = refl; joins = refl; within = tt; next = omega (arith, same); few = λ h. omega (arith, same) }
  entries_judged (entry key v es) whole b u k n is =
      let a = bind_ok (keyed k key (judged whole b u k v)) (λ m. judged_entries whole b u m es) n is in
      let c = keyed_took k a.0 key (judged whole b u k v) a.1 in
      let valid = both (is_utf8 key) (nat_lt (length key) (2 ^ 63)) c.0 in
      let first = judged_sound v whole b u k a.0 c.1 in
      let others = entries_judged es whole b u a.0 n a.2 in
      record {
        pieces = (sized key ++ plain v) ∷ others.pieces;
        are = (sized key, plain v, others.pieces, refl, sized_plain key (ltb-true _ _ valid.1), valid.0, first.is, others.are);
        size = ap suc others.size;
        joins = joined-cons (sized key ++ plain v) others.pieces ∙ ap (λ (l : List ℕ). (sized key ++ plain v) ++ l) others.joins;
        within = (first.within, others.within);
        next = omega (arith, first.next, others.next);
        few = λ h. others.few first.few;
      }

-- what the verdict lets through is spelled plainly, within the limits
pub verdict_sound : (whole : AvroType) (v : Value) (n : ℕ) → verdict whole v ≡ Ok n → IsDatum whole whole v (plain v) × IsSmall v
unfolding verdict
verdict_sound whole v n is =
    let a = judged_sound v whole max_levels whole 0 n is in
    (a.is, record { levels = a.within; nodes = omega (arith, a.next, a.few) })
