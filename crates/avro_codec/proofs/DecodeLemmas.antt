-- Reading the parts of a datum one after the other, as a loop does.
use Rattle.std.proofs.Common.{◌≡◌, ◌≢◌, negsuc, nat_abs, ℕ, zero, suc, ◌-◌, ◌^◌, ◌<◌, ◌≤◌, List, [], ◌∷◌, ◌++◌, length, slice_get, Option, Some, None, Result, Ok, Err, ℤ, pos, Bool, true, false, eqb, nat_lt, ◌&&◌, inl, inr, refl, sym, ap, ◌∙◌, subst, if◌then◌else◌, ◌==◌, arith, append_assoc, lt-ltb}
use Rattle.std.proofs.lemmas.Bool.{eq-eqb, eqb-false, ne_eqb}
use Rattle.std.specs.Int.{FitsUnsignedBits}
use Rattle.std.specs.Prelude.{IfOk, IfErr}
use Rattle.std.proofs.lemmas.List.{append-nil}
use Rattle.avro_schema.specs.Types as schema
use Rattle.avro_schema.specs.Types.{AvroType, Branches, Fields, resolved}
use Rattle.avro_schema.specs.declared.parts.Field.{Field}
use Rattle.avro_schema.specs.Nodes.{SchemaValue, Stands, StandForBranches, StandForFields, HasNode, IsOfKind, tree_of}
use Rattle.avro_schema.specs.declared.schema.Kind.{Kind}
use Rattle.avro_schema.specs.declared.schema.Kind.TheVariants as kinds
use Rattle.avro_codec.specs.declared.cursor.Head.{Head}
use Rattle.avro_value.specs.declared.error.AvroNo.{AvroNo}
use Rattle.avro_value.specs.declared.error.AvroNo.TheVariants.{Mismatch, Rest, Want}
use Rattle.avro_datum.specs.declared.datum.Datum.{Datum}
use Rattle.avro_datum.specs.Data.{value_of}
use Rattle.avro_value.specs.Value.{Value, branch, max_levels}
use Rattle.avro_value.specs.Judging.{branch_at}
use Rattle.avro_value.specs.Picks.{Picks, is_nesting}
use Rattle.avro_value.proofs.PickLemmas.{branch_stands, resolves_is}
use Rattle.avro_codec.specs.Reading.{Place, Read, Reader, Reads, many, with_front, weighs, head_at, long_at, text_at, block_at, blocks, all_blocks, entry_at, fields_at, picked, branch_of, union_at, giving, body_at, nests, entered, node_at, value_at, below_at, behind, datum_at, ended}
use Rattle.avro_value.specs.Steps.{◌>>=◌, Fails}
use Rattle.avro_value.proofs.StepLemmas.{bind_at, ok_is}
use Rattle.avro_value.proofs.NodeLemmas.{fails_on, fails_along}

-- ---- steps

-- what was read in front, and one more
regroup : {A : Type 0} (front : List A) (x : A) (read : Read (List A)) → with_front front (read >>= λ xs. Ok (x ∷ xs.0, xs.1)) ≡ with_front (front ++ (x ∷ [])) read
regroup {A} front x (Ok xs) = ap (λ (ys : List A). Ok (ys, xs.1)) (simp append_assoc)
regroup front x (Err e) = refl

regroup_all : {A : Type 0} (front xs : List A) (read : Read (List A)) → with_front front (with_front xs read) ≡ with_front (front ++ xs) read
regroup_all {A} front xs (Ok ys) = ap (λ (zs : List A). Ok (zs, ys.1)) (simp append_assoc)
regroup_all front xs (Err e) = refl

nothing_more : {A : Type 0} (front : List A) (p : Place) → with_front front (Ok ([], p)) ≡ Ok (front, p)
nothing_more {A} front p = ap (λ (xs : List A). Ok (xs, p)) (append-nil front)

all_there : {A : Type 0} (read : Read (List A)) → with_front [] read ≡ read
all_there (Ok xs) = refl
all_there (Err e) = refl

-- ---- so many

pub many_go : {A : Type 0} (front : List A) (n : ℕ) (one : Place → Read A) (p : Place) (x : A) (q : Place) (total : Read (List A)) → 0 < n → one p ≡ Ok (x, q)
    → with_front front (many n one p) ≡ total → with_front (front ++ (x ∷ [])) (many (n - 1) one q) ≡ total
unfolding many
many_go front zero one p x q total some is so_far = absurd (omega arith)
many_go {A} front (suc n) one p x q total some is so_far =
    let less : suc n - 1 ≡ n = omega arith in
    let step : many (suc n) one p ≡ (many n one q >>= λ xs. Ok (x ∷ xs.0, xs.1)) = bind_at (one p) (λ y. many n one y.1 >>= λ xs. Ok (y.0 ∷ xs.0, xs.1)) (x, q) is in
    ap (λ (m : ℕ). with_front (front ++ (x ∷ [])) (many m one q)) less ∙ sym (regroup front x (many n one q)) ∙ ap (with_front front) (sym step) ∙ so_far

pub many_stop : {A : Type 0} (front : List A) (n : ℕ) (one : Place → Read A) (p : Place) (e : AvroNo) (total : Read (List A)) → 0 < n → Fails e (one p)
    → with_front front (many n one p) ≡ total → Fails e total
unfolding many
many_stop front zero one p e total some fails so_far = absurd (omega arith)
many_stop front (suc n) one p e total some fails so_far =
    fails_along e _ _ so_far (fails_on e _ (λ xs. Ok (front ++ xs.0, xs.1)) (fails_on e (one p) (λ y. many n one y.1 >>= λ xs. Ok (y.0 ∷ xs.0, xs.1)) fails))

pub many_done : {A : Type 0} (front : List A) (n : ℕ) (one : Place → Read A) (p : Place) (total : Read (List A)) → n ≤ 0 → with_front front (many n one p) ≡ total → total ≡ Ok (front, p)
unfolding many
many_done front zero one p total none so_far = sym so_far ∙ nothing_more front p
many_done front (suc n) one p total none so_far = absurd (omega arith)

-- ---- blocks

-- the blocks that are left, behind what was read of the blocks before
pub record BlocksRead {A : Type 0} (front : List A) (k : ℕ) (one : Place → Read A) (p : Place) (total : Read (List A)) : Type 0 where
  pub most : ℕ
  pub enough : length p.left < most
  pub is : with_front front (blocks most k one p) ≡ total

pub blocks_begin : {A : Type 0} (k : ℕ) (one : Place → Read A) (p : Place) → BlocksRead [] k one p (all_blocks k one p)
blocks_begin k one p = record { most = suc (length p.left); enough = omega arith; is = all_there (blocks (suc (length p.left)) k one p) }

front_of : {A : Type 0} (front front' : List A) (r : Read (List A)) (q : Place) → with_front front r ≡ Ok (front', q) → (xs : List A) × (r ≡ Ok (xs, q)) × (front ++ xs ≡ front')
front_of {A} front front' (Ok xs) q is =
    let pair = ok_is (front ++ xs.0, xs.1) (front', q) is in
    (xs.0, ap (λ (p : Place). Ok (xs.0, p)) (ap (λ (y : List A × Place). y.1) pair), ap (λ (y : List A × Place). y.0) pair)
front_of front front' (Err e) q is = absurd cc

pub block_is : {A : Type 0} (k : ℕ) (one : Place → Read A) (h : Head) (q r : Place) (xs : List A) → many h.count one q ≡ Ok (xs, r) → weighs h.size (length q.left - length r.left) ≡ true → block_at k one h q ≡ Ok (xs, r)
block_is k one h q r xs is weight = bind_at (many h.count one q) (λ ys. if weighs h.size (length q.left - length ys.1.left) then Ok ys else Err (Mismatch k)) (xs, r) is ∙ rw weight refl

-- a block whose size is another
block_unlike : {A : Type 0} (k : ℕ) (one : Place → Read A) (h : Head) (q r : Place) (xs : List A) → many h.count one q ≡ Ok (xs, r) → weighs h.size (length q.left - length r.left) ≡ false → block_at k one h q ≡ Err (Mismatch k)
block_unlike k one h q r xs is weight = bind_at (many h.count one q) (λ ys. if weighs h.size (length q.left - length ys.1.left) then Ok ys else Err (Mismatch k)) (xs, r) is ∙ rw weight refl

abbrev pub behind_head : {A : Type 0} → ℕ → ℕ → (Place → Read A) → Head × Place → Read (List A)
behind_head most k one h = if h.0.count == 0 then Ok ([], h.1) else (block_at k one h.0 h.1 >>= λ xs. with_front xs.0 (blocks most k one xs.1))

abbrev pub rest_of : {A : Type 0} → ℕ → ℕ → (Place → Read A) → Head × Place → Read (List A)
rest_of most k one h = block_at k one h.0 h.1 >>= λ xs. with_front xs.0 (blocks most k one xs.1)

pub blocks_are : {A : Type 0} (most k : ℕ) (one : Place → Read A) (p : Place) (h : Head) (q : Place) → head_at k p ≡ Ok (h, q) → (h.count ≡ 0 → ⊥) → blocks (suc most) k one p ≡ rest_of most k one (h, q)
unfolding blocks
blocks_are most k one p h q is some = bind_at (head_at k p) (behind_head most k one) (h, q) is ∙ rw (ne_eqb h.count 0 some) refl

pub blocks_end : {A : Type 0} (most k : ℕ) (one : Place → Read A) (p : Place) (h : Head) (q : Place) → head_at k p ≡ Ok (h, q) → h.count ≡ 0 → blocks (suc most) k one p ≡ Ok ([], q)
unfolding blocks
blocks_end most k one p h q is none = bind_at (head_at k p) (behind_head most k one) (h, q) is ∙ rw (eq-eqb h.count 0 none) refl

pub blocks_go : {A : Type 0} (front front' : List A) (k : ℕ) (one : Place → Read A) (p : Place) (h : Head) (q r : Place) (total : Read (List A)) (weight : Bool) → BlocksRead front k one p total
    → head_at k p ≡ Ok (h, q) → (h.count ≡ 0 → ⊥) → with_front front (many h.count one q) ≡ Ok (front', r) → length q.left < length p.left → length r.left ≤ length q.left
    → weight ≡ weighs h.size (length q.left - length r.left) → weight ≡ true → BlocksRead front' k one r total
blocks_go {A} front front' k one p h q r total weight so_far head some body takes shrinks weighed true_is = go so_far.most so_far.enough so_far.is
  where
    go : (most : ℕ) → length p.left < most → with_front front (blocks most k one p) ≡ total → BlocksRead front' k one r total
    go zero enough is = absurd (omega arith)
    go (suc most) enough is =
        let xs = front_of front front' (many h.count one q) r body in
        let block = block_is k one h q r xs.0 xs.1 (sym weighed ∙ true_is) in
        let step : blocks (suc most) k one p ≡ with_front xs.0 (blocks most k one r) = blocks_are most k one p h q head some ∙ bind_at (block_at k one h q) (λ ys. with_front ys.0 (blocks most k one ys.1)) (xs.0, r) block in
        record {
          most = most;
          enough = omega arith;
          is = ap (λ (f : List A). with_front f (blocks most k one r)) (sym xs.2) ∙ sym (regroup_all front xs.0 (blocks most k one r)) ∙ ap (with_front front) (sym step) ∙ is;
        }

pub blocks_unlike : {A : Type 0} (front front' : List A) (k : ℕ) (one : Place → Read A) (p : Place) (h : Head) (q r : Place) (total : Read (List A)) (weight : Bool) → BlocksRead front k one p total
    → head_at k p ≡ Ok (h, q) → (h.count ≡ 0 → ⊥) → with_front front (many h.count one q) ≡ Ok (front', r)
    → weight ≡ weighs h.size (length q.left - length r.left) → weight ≡ false → Fails (Mismatch k) total
blocks_unlike {A} front front' k one p h q r total weight so_far head some body weighed false_is = go so_far.most so_far.enough so_far.is
  where
    go : (most : ℕ) → length p.left < most → with_front front (blocks most k one p) ≡ total → Fails (Mismatch k) total
    go zero enough is = absurd (omega arith)
    go (suc most) enough is =
        let xs = front_of front front' (many h.count one q) r body in
        let block = block_unlike k one h q r xs.0 xs.1 (sym weighed ∙ false_is) in
        let step : blocks (suc most) k one p ≡ Err (Mismatch k) = blocks_are most k one p h q head some ∙ ap (λ (b : Read (List A)). b >>= λ ys. with_front ys.0 (blocks most k one ys.1)) block in
        inr (sym is ∙ ap (with_front front) step)

-- the items of a block don't read
pub blocks_stop : {A : Type 0} (front : List A) (k : ℕ) (one : Place → Read A) (p : Place) (h : Head) (q : Place) (e : AvroNo) (total : Read (List A)) → BlocksRead front k one p total
    → head_at k p ≡ Ok (h, q) → (h.count ≡ 0 → ⊥) → Fails e (with_front front (many h.count one q)) → Fails e total
blocks_stop {A} front k one p h q e total so_far head some (inl want) = inl want
blocks_stop {A} front k one p h q e total so_far head some (inr fails) = go so_far.most so_far.enough so_far.is
  where
    lacks : (r : Read (List A)) → with_front front r ≡ Err e → r ≡ Err e
    lacks (Ok xs) is = absurd cc
    lacks (Err d) is = cc

    go : (most : ℕ) → length p.left < most → with_front front (blocks most k one p) ≡ total → Fails e total
    go zero enough is = absurd (omega arith)
    go (suc most) enough is =
        let none = lacks (many h.count one q) fails in
        let block : block_at k one h q ≡ Err e = ap (λ (r : Read (List A)). r >>= λ ys. if weighs h.size (length q.left - length ys.1.left) then Ok ys else Err (Mismatch k)) none in
        let step : blocks (suc most) k one p ≡ Err e = blocks_are most k one p h q head some ∙ ap (λ (b : Read (List A)). b >>= λ ys. with_front ys.0 (blocks most k one ys.1)) block in
        inr (sym is ∙ ap (with_front front) step)

-- a block's head doesn't read
pub blocks_headless : {A : Type 0} (front : List A) (k : ℕ) (one : Place → Read A) (p : Place) (e : AvroNo) (total : Read (List A)) → BlocksRead front k one p total → Fails e (head_at k p) → Fails e total
unfolding blocks
blocks_headless {A} front k one p e total so_far fails = go so_far.most so_far.enough so_far.is
  where
    go : (most : ℕ) → length p.left < most → with_front front (blocks most k one p) ≡ total → Fails e total
    go zero enough is = absurd (omega arith)
    go (suc most) enough is = fails_along e _ _ is (fails_on e _ (λ xs. Ok (front ++ xs.0, xs.1)) (fails_on e (head_at k p) (behind_head most k one) fails))

pub blocks_done : {A : Type 0} (front : List A) (k : ℕ) (one : Place → Read A) (p : Place) (h : Head) (q : Place) (total : Read (List A)) → BlocksRead front k one p total
    → head_at k p ≡ Ok (h, q) → h.count ≡ 0 → total ≡ Ok (front, q)
blocks_done {A} front k one p h q total so_far head none = go so_far.most so_far.enough so_far.is
  where
    go : (most : ℕ) → length p.left < most → with_front front (blocks most k one p) ≡ total → total ≡ Ok (front, q)
    go zero enough is = absurd (omega arith)
    go (suc most) enough is = sym is ∙ ap (with_front front) (blocks_end most k one p h q head none) ∙ nothing_more front q

-- ---- fields

pub record FieldsRead (s : SchemaValue) (left : List Field) (front : List Value) (inner : Reader) (p : Place) (total : Read (List Value)) : Type 0 where
  pub more : Fields
  pub stands : StandForFields s left more
  pub is : with_front front (fields_at inner more p) ≡ total

pub fields_begin : (s : SchemaValue) (fs : List Field) (ts : Fields) (inner : Reader) (p : Place) → StandForFields s fs ts → FieldsRead s fs [] inner p (fields_at inner ts p)
fields_begin s fs ts inner p is = record { more = ts; stands = is; is = all_there (fields_at inner ts p) }

pub fields_go : (s : SchemaValue) (left rest : List Field) (f : Field) (front : List Value) (inner : Reader) (p q : Place) (v : Value) (total : Read (List Value)) → FieldsRead s left front inner p total
    → left ≡ f ∷ rest → ((u : AvroType) → Stands s f.node u → inner u p ≡ Ok (v, q)) → FieldsRead s rest (front ++ (v ∷ [])) inner q total
unfolding fields_at
fields_go s left rest f front inner p q v total so_far is reads = go so_far.more (subst (λ (l : List Field). StandForFields s l so_far.more) is so_far.stands) so_far.is
  where
    go : (more : Fields) → StandForFields s (f ∷ rest) more → with_front front (fields_at inner more p) ≡ total → FieldsRead s rest (front ++ (v ∷ [])) inner q total
    go schema.no_fields stands at = absurd stands
    go (schema.field name t ts) stands at =
        let step : fields_at inner (schema.field name t ts) p ≡ (fields_at inner ts q >>= λ vs. Ok (v ∷ vs.0, vs.1)) = bind_at (inner t p) (λ x. fields_at inner ts x.1 >>= λ vs. Ok (x.0 ∷ vs.0, vs.1)) (v, q) (reads t stands.1) in
        record { more = ts; stands = stands.2; is = sym (regroup front v (fields_at inner ts q)) ∙ ap (with_front front) (sym step) ∙ at }

pub fields_stop : (s : SchemaValue) (left rest : List Field) (f : Field) (front : List Value) (inner : Reader) (p : Place) (e : AvroNo) (total : Read (List Value)) → FieldsRead s left front inner p total
    → left ≡ f ∷ rest → ((u : AvroType) → Stands s f.node u → Fails e (inner u p)) → Fails e total
unfolding fields_at
fields_stop s left rest f front inner p e total so_far is fails = go so_far.more (subst (λ (l : List Field). StandForFields s l so_far.more) is so_far.stands) so_far.is
  where
    go : (more : Fields) → StandForFields s (f ∷ rest) more → with_front front (fields_at inner more p) ≡ total → Fails e total
    go schema.no_fields stands at = absurd stands
    go (schema.field name t ts) stands at = fails_along e _ _ at (fails_on e _ (λ xs. Ok (front ++ xs.0, xs.1)) (fails_on e (inner t p) (λ x. fields_at inner ts x.1 >>= λ vs. Ok (x.0 ∷ vs.0, vs.1)) (fails t stands.1)))

pub fields_done : (s : SchemaValue) (left : List Field) (front : List Value) (inner : Reader) (p : Place) (total : Read (List Value)) → FieldsRead s left front inner p total → left ≡ [] → total ≡ Ok (front, p)
unfolding fields_at
fields_done s left front inner p total so_far is = go so_far.more (subst (λ (l : List Field). StandForFields s l so_far.more) is so_far.stands) so_far.is
  where
    go : (more : Fields) → StandForFields s [] more → with_front front (fields_at inner more p) ≡ total → total ≡ Ok (front, p)
    go schema.no_fields stands at = sym at ∙ nothing_more front p
    go (schema.field name t ts) stands at = absurd stands

-- ---- entries

pub entry_read : (inner : Reader) (k : ℕ) (t : AvroType) (p q r : Place) (key : List ℕ) (v : Value) → text_at k p ≡ Ok (key, q) → inner t q ≡ Ok (v, r) → entry_at inner k t p ≡ Ok (record { key = key; value = v }, r)
entry_read inner k t p q r key v text is =
    bind_at (text_at k p) (λ x. inner t x.1 >>= λ y. Ok (record { key = x.0; value = y.0 }, y.1)) (key, q) text ∙ bind_at (inner t q) (λ y. Ok (record { key = key; value = y.0 }, y.1)) (v, r) is

pub entry_keyless : (inner : Reader) (k : ℕ) (t : AvroType) (p : Place) (e : AvroNo) → Fails e (text_at k p) → Fails e (entry_at inner k t p)
entry_keyless inner k t p e fails = fails_on e (text_at k p) (λ x. inner t x.1 >>= λ y. Ok (record { key = x.0; value = y.0 }, y.1)) fails

pub entry_stop : (inner : Reader) (k : ℕ) (t : AvroType) (p q : Place) (key : List ℕ) (e : AvroNo) → text_at k p ≡ Ok (key, q) → Fails e (inner t q) → Fails e (entry_at inner k t p)
entry_stop inner k t p q key e text fails =
    fails_along e _ _ (sym (bind_at (text_at k p) (λ x. inner t x.1 >>= λ y. Ok (record { key = x.0; value = y.0 }, y.1)) (key, q) text)) (fails_on e (inner t q) (λ y. Ok (record { key = key; value = y.0 }, y.1)) fails)

-- ---- branches

pub union_at_branch : (s : SchemaValue) (ks : List ℕ) (ts : Branches) (inner : Reader) (k : ℕ) (p : Place) (z : ℤ) (n : ℕ) (q : Place) (site : ℕ) → z ≡ pos n → n < 2 ^ 32 → long_at k p ≡ Ok (z, q)
    → slice_get ks n ≡ Some site → StandForBranches s ks ts → (u : AvroType) × Stands s site u × (union_at inner k ts p ≡ picked inner k n (Some u) q)
union_at_branch s ks ts inner k p z n q site is small long at stand =
    let found = subst (λ (o : Option ℕ). Picks s o (branch_at ts n)) at (branch_stands s ks ts n stand) in
    let test : nat_lt n (2 ^ 32) ≡ true = lt-ltb _ _ small in
    let step : union_at inner k ts p ≡ branch_of inner k ts z q = bind_at (long_at k p) (λ x. branch_of inner k ts x.0 x.1) (z, q) long in
    (found.0, found.2, step ∙ ap (λ (y : ℤ). branch_of inner k ts y q) is ∙ rw test (ap (λ (o : Option AvroType). picked inner k n o q) found.1))

pub union_lacks : (s : SchemaValue) (ks : List ℕ) (ts : Branches) (inner : Reader) (k : ℕ) (p : Place) (z : ℤ) (n : ℕ) (q : Place) → z ≡ pos n → n < 2 ^ 32 → long_at k p ≡ Ok (z, q)
    → slice_get ks n ≡ None → StandForBranches s ks ts → Fails (Mismatch k) (union_at inner k ts p)
union_lacks s ks ts inner k p z n q is small long at stand =
    let found = subst (λ (o : Option ℕ). Picks s o (branch_at ts n)) at (branch_stands s ks ts n stand) in
    let test : nat_lt n (2 ^ 32) ≡ true = lt-ltb _ _ small in
    let step : union_at inner k ts p ≡ branch_of inner k ts z q = bind_at (long_at k p) (λ x. branch_of inner k ts x.0 x.1) (z, q) long in
    inr (step ∙ ap (λ (y : ℤ). branch_of inner k ts y q) is ∙ rw test (ap (λ (o : Option AvroType). picked inner k n o q) found))

pub picked_read : (inner : Reader) (k n : ℕ) (u : AvroType) (q r : Place) (v : Value) → inner u q ≡ Ok (v, r) → picked inner k n (Some u) q ≡ Ok (branch n v, r)
picked_read inner k n u q r v is = bind_at (inner u q) (λ x. Ok (branch n x.0, x.1)) (v, r) is

pub picked_stop : (inner : Reader) (k n : ℕ) (u : AvroType) (q : Place) (e : AvroNo) → Fails e (inner u q) → Fails e (picked inner k n (Some u) q)
picked_stop inner k n u q e fails = fails_on e (inner u q) (λ x. Ok (branch n x.0, x.1)) fails

-- a place below 2 ^ 32
pub place_is : (z : ℤ) (n : ℕ) → FitsUnsignedBits 32 z → n ≡ nat_abs z → (z ≡ pos n) × (n < 2 ^ 32)
place_is (pos m) n fits same = (ap (λ (k : ℕ). pos k) (sym same), subst (λ (k : ℕ). k < 2 ^ 32) (sym same) fits)
place_is (negsuc m) n fits same = absurd fits

pub fields_site : (s : SchemaValue) (left rest : List Field) (f : Field) (front : List Value) (inner : Reader) (p : Place) (total : Read (List Value)) → FieldsRead s left front inner p total
    → left ≡ f ∷ rest → HasNode s f.node
fields_site s left rest f front inner p total so_far is = go so_far.more (subst (λ (l : List Field). StandForFields s l so_far.more) is so_far.stands)
  where
    go : (more : Fields) → StandForFields s (f ∷ rest) more → HasNode s f.node
    go schema.no_fields stands = absurd stands
    go (schema.field name t ts) stands = (t, stands.1)

pub branch_site : (s : SchemaValue) (ks : List ℕ) (ts : Branches) (n site : ℕ) → slice_get ks n ≡ Some site → StandForBranches s ks ts → HasNode s site
branch_site s ks ts n site at stand =
    let found = subst (λ (o : Option ℕ). Picks s o (branch_at ts n)) at (branch_stands s ks ts n stand) in
    (found.0, found.2)

-- ---- a node

pub nests_is : (s : SchemaValue) (k : ℕ) (t : AvroType) (kind : Kind) → IsOfKind s k kind → Stands s k t → nests (resolved (tree_of s) t) ≡ is_nesting kind
nests_is s k t kinds.Null is stands = ap nests (resolves_is s k t schema.null stands is)
nests_is s k t kinds.Boolean is stands = ap nests (resolves_is s k t schema.boolean stands is)
nests_is s k t kinds.Int is stands = ap nests (resolves_is s k t schema.int stands is)
nests_is s k t kinds.Long is stands = ap nests (resolves_is s k t schema.long stands is)
nests_is s k t kinds.Bytes is stands = ap nests (resolves_is s k t schema.bytes stands is)
nests_is s k t kinds.Text is stands = ap nests (resolves_is s k t schema.string stands is)
nests_is s k t (kinds.Array item) is stands = ap nests (resolves_is s k t (schema.array is.0) stands is.1)
nests_is s k t (kinds.Map item) is stands = ap nests (resolves_is s k t (schema.map is.0) stands is.1)
nests_is s k t kinds.Union is stands = ap nests (resolves_is s k t (schema.union is.0) stands is.1)
nests_is s k t (kinds.Fixed size) is stands = ap nests (resolves_is s k t (schema.fixed is.0 size) stands is.1)
nests_is s k t kinds.Enum is stands = ap nests (resolves_is s k t (schema.enum_ is.0 is.1) stands is.2)
nests_is s k t kinds.Record is stands = ap nests (resolves_is s k t (schema.record_ is.0 is.1) stands is.2)

pub value_is : (whole : AvroType) (levels : ℕ) (t : AvroType) (p : Place) → value_at whole levels t p ≡ node_at (below_at whole levels) (levels == 0) (resolved whole t) p
unfolding value_at
value_is whole zero t p = refl
value_is whole (suc levels) t p = rw (ne_eqb (suc levels) 0 (λ (e : suc levels ≡ 0). omega arith)) refl

pub node_enters : (whole : AvroType) (levels : ℕ) (t : AvroType) (p q : Place) (kind deep : Bool) (k : ℕ) → deep ≡ (kind && (levels == 0)) → nests (resolved whole t) ≡ kind → entered deep p ≡ Ok (k, q)
    → value_at whole levels t p ≡ body_at (below_at whole levels) k (resolved whole t) q
node_enters whole levels t p q kind deep k is nest enters =
    let test : entered (nests (resolved whole t) && (levels == 0)) p ≡ Ok (k, q) = ap (λ (b : Bool). entered (b && (levels == 0)) p) nest ∙ ap (λ (b : Bool). entered b p) (sym is) ∙ enters in
    value_is whole levels t p ∙ bind_at (entered (nests (resolved whole t) && (levels == 0)) p) (λ x. body_at (below_at whole levels) x.0 (resolved whole t) x.1) (k, q) test

pub node_stops : (whole : AvroType) (levels : ℕ) (t : AvroType) (p : Place) (kind deep : Bool) (e : AvroNo) → deep ≡ (kind && (levels == 0)) → nests (resolved whole t) ≡ kind → Fails e (entered deep p)
    → Fails e (value_at whole levels t p)
node_stops whole levels t p kind deep e is nest fails =
    let test : entered deep p ≡ entered (nests (resolved whole t) && (levels == 0)) p = ap (λ (b : Bool). entered b p) is ∙ ap (λ (b : Bool). entered (b && (levels == 0)) p) (sym nest) in
    fails_along e _ _ (sym (value_is whole levels t p)) (fails_on e _ (λ x. body_at (below_at whole levels) x.0 (resolved whole t) x.1) (fails_along e _ _ test fails))

-- a node with parts has a level for them
pub room_is : (levels : ℕ) (kind : Bool) → kind ≡ true → (kind && (levels == 0)) ≡ false → levels ≡ suc (levels - 1)
room_is levels kind nest room =
    let test : eqb levels 0 ≡ false = ap (λ (b : Bool). b && eqb levels 0) (sym nest) ∙ room in
    let some : levels ≢ 0 = eqb-false _ _ test in
    omega arith

pub body_is : (whole : AvroType) (levels k : ℕ) (u t : AvroType) (p : Place) → levels ≡ suc (levels - 1) → u ≡ t → body_at (below_at whole levels) k u p ≡ body_at (value_at whole (levels - 1)) k t p
body_is whole levels k u t p some is = ap (λ (l : ℕ). body_at (below_at whole l) k u p) some ∙ ap (λ (x : AvroType). body_at (value_at whole (levels - 1)) k x p) is

pub giving_read : {A : Type 0} (f : A → Value) (r : Read A) (x : A) (q : Place) → r ≡ Ok (x, q) → giving f r ≡ Ok (f x, q)
giving_read f r x q is = bind_at r (λ y. Ok (f y.0, y.1)) (x, q) is

pub giving_stop : {A : Type 0} (f : A → Value) (r : Read A) (e : AvroNo) → Fails e r → Fails e (giving f r)
giving_stop f r e fails = fails_on e r (λ y. Ok (f y.0, y.1)) fails

pub reads_along : {X Y : Type 0} (view : X → Y) (r : Result X AvroNo) (a b : Read Y) (now : Place) → a ≡ b → Reads view r a now → Reads view r b now
reads_along {X} {Y} view r a b now same reads = subst (λ (x : Read Y). Reads view r x now) same reads

-- a branch that was made, or no memory for it
pub branch_made : (r : Result Datum AvroNo) (n : ℕ) (v : Value) (read : Read Value) (now : Place) → read ≡ Ok (branch n v, now) → IfOk r (λ d. value_of d ≡ branch n v) → IfErr r (λ e. e ≡ Want) → Reads value_of r read now
branch_made (Ok d) n v read now is ok want = is ∙ ap (λ (x : Value). Ok (x, now)) (sym ok)
branch_made (Err e) n v read now is ok want = inl want

-- ---- all of the bytes

pub datum_read : (whole : AvroType) (bs : List ℕ) (v : Value) (q : Place) (empty : Bool) → value_at whole max_levels whole (behind 0 bs) ≡ Ok (v, q) → empty ≡ (length q.left == 0) → empty ≡ true → datum_at whole bs ≡ Ok v
unfolding datum_at
datum_read whole bs v q empty is at ended_is = bind_at (value_at whole max_levels whole (behind 0 bs)) ended (v, q) is ∙ rw (sym at ∙ ended_is) refl

pub datum_more : (whole : AvroType) (bs : List ℕ) (v : Value) (q : Place) (empty : Bool) → value_at whole max_levels whole (behind 0 bs) ≡ Ok (v, q) → empty ≡ (length q.left == 0) → empty ≡ false → Fails Rest (datum_at whole bs)
unfolding datum_at
datum_more whole bs v q empty is at ended_is = inr (bind_at (value_at whole max_levels whole (behind 0 bs)) ended (v, q) is ∙ rw (sym at ∙ ended_is) refl)

pub datum_stop : (whole : AvroType) (bs : List ℕ) (e : AvroNo) → Fails e (value_at whole max_levels whole (behind 0 bs)) → Fails e (datum_at whole bs)
unfolding datum_at
datum_stop whole bs e fails = fails_on e (value_at whole max_levels whole (behind 0 bs)) ended fails
