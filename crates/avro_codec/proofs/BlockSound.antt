-- What is read of the items of an array or map is spelled so, in some split into blocks.
use Rattle.std.proofs.Common.{◌≡◌, ℕ, zero, suc, ◌+◌, ◌-◌, ◌≤◌, List, [], ◌∷◌, ◌++◌, length, Option, Some, None, Ok, Err, ℤ, pos, negsuc, true, eqb, if◌then◌else◌, ◌⊎◌, inl, inr, refl, sym, ap, ◌∙◌, subst, arith, append_assoc, length-append}
use Rattle.std.specs.List.{flat_map}
use Rattle.std.proofs.lemmas.Bool.{cases_Bool, eqb-true, eqb-false}
use Rattle.std.proofs.lemmas.List.Concat.{flat_map-cons}
use Rattle.avro_codec.specs.declared.cursor.Head.{Head}
use Rattle.avro_value.specs.declared.error.AvroNo.TheVariants.{Mismatch}
use Rattle.avro_codec.specs.Spelling.{IsLong, Block, joined, pieces_of, block_bytes, IsBlock, AreBlocks}
use Rattle.avro_value.specs.Value.{max_nodes}
use Rattle.avro_codec.specs.Reading.{Place, Read, long_at, head_of, head_at, many, with_front, weighs, block_at, blocks}
use Rattle.avro_value.specs.Steps.{◌>>=◌}
use Rattle.avro_codec.proofs.DecodeLemmas.{behind_head}
use Rattle.avro_codec.proofs.ItemSound.{Took, Sound, no_node, long_sound}
use Rattle.avro_value.proofs.StepLemmas.{bind_ok, ok_is, chosen_ok}

-- each of these has a piece
abbrev pub AllSpelled : {A : Type 0} → (A → List ℕ → Type 0) → List A → List (List ℕ) → Type 0
AllSpelled spells [] pieces = pieces ≡ []
AllSpelled spells (x ∷ xs) pieces = (piece : List ℕ) × (more : List (List ℕ)) × (pieces ≡ piece ∷ more) × spells x piece × AllSpelled spells xs more

abbrev pub total : {A : Type 0} → (A → ℕ) → List A → ℕ
total count [] = 0
total count (x ∷ xs) = count x + total count xs

pub joined-cons : (p : List ℕ) (ps : List (List ℕ)) → joined (p ∷ ps) ≡ p ++ joined ps
joined-cons p ps = flat_map-cons (λ piece. piece) p ps

pub joined-append : (ps qs : List (List ℕ)) → joined (ps ++ qs) ≡ joined ps ++ joined qs
joined-append [] qs = refl
joined-append (p ∷ ps) qs = joined-cons p (ps ++ qs) ∙ ap (λ (l : List ℕ). p ++ l) (joined-append ps qs) ∙ sym (append_assoc p (joined ps) (joined qs)) ∙ ap (λ (l : List ℕ). l ++ joined qs) (sym (joined-cons p ps))

pub all_spelled-append : {A : Type 0} (spells : A → List ℕ → Type 0) (xs ys : List A) (ps qs : List (List ℕ)) → AllSpelled spells xs ps → AllSpelled spells ys qs → AllSpelled spells (xs ++ ys) (ps ++ qs)
all_spelled-append spells [] ys ps qs a b = subst (λ (l : List (List ℕ)). AllSpelled spells ys (l ++ qs)) (sym a) b
all_spelled-append spells (x ∷ xs) ys ps qs a b = (a.0, a.1 ++ qs, ap (λ (l : List (List ℕ)). l ++ qs) a.2, a.3, all_spelled-append spells xs ys a.1 qs a.4 b)

pub total-append : {A : Type 0} (count : A → ℕ) (xs ys : List A) → total count (xs ++ ys) ≡ total count xs + total count ys
total-append count [] ys = omega arith
total-append count (x ∷ xs) ys = omega (arith, total-append count xs ys)

-- so many were read
pub record TookMany {A : Type 0} (spells : A → List ℕ → Type 0) (count : A → ℕ) (n : ℕ) (p : Place) (xs : List A) (q : Place) : Type 0 where
  pub pieces : List (List ℕ)
  pub each : AllSpelled spells xs pieces
  pub size : length pieces ≡ n
  pub left : p.left ≡ joined pieces ++ q.left
  pub next : q.next ≡ p.next + total count xs
  pub few : p.next ≤ max_nodes → q.next ≤ max_nodes

abbrev paired : {A : Type 0} → List A → Place → List A × Place
paired xs q = (xs, q)

many_along : {A : Type 0} (spells : A → List ℕ → Type 0) (count : A → ℕ) (n : ℕ) (p : Place) (xs ys : List A) (q r : Place) → paired xs q ≡ paired ys r → TookMany spells count n p xs q → TookMany spells count n p ys r
many_along {A} spells count n p xs ys q r same took = subst (λ (y : List A × Place). TookMany spells count n p y.0 y.1) same took

pub many_sound : {A : Type 0} (spells : A → List ℕ → Type 0) (count : A → ℕ) (one : Place → Read A) → Sound spells count one → (n : ℕ) (p : Place) (xs : List A) (q : Place) → many n one p ≡ Ok (xs, q) → TookMany spells count n p xs q
unfolding many
many_sound spells count one sound zero p xs q is =
    many_along spells count zero p [] xs p q (ok_is ([], p) (xs, q) is) (record { pieces = []; each = refl; size = refl; left = refl; next = omega arith; few = λ h. h })
many_sound spells count one sound (suc n) p xs q is =
    let a = bind_ok (one p) (λ x. many n one x.1 >>= λ ys. Ok (x.0 ∷ ys.0, ys.1)) (xs, q) is in
    let b = bind_ok (many n one a.0.1) (λ ys. Ok (a.0.0 ∷ ys.0, ys.1)) (xs, q) a.2 in
    let first = sound p a.0.0 a.0.1 a.1 in
    let others = many_sound spells count one sound n a.0.1 b.0.0 b.0.1 b.1 in
    many_along spells count (suc n) p (a.0.0 ∷ b.0.0) xs b.0.1 q (ok_is (a.0.0 ∷ b.0.0, b.0.1) (xs, q) b.2) (record {
      pieces = first.front ∷ others.pieces;
      each = (first.front, others.pieces, refl, first.is, others.each);
      size = ap suc others.size;
      left = first.left ∙ ap (λ (l : List ℕ). first.front ++ l) others.left ∙ sym (append_assoc first.front (joined others.pieces) b.0.1.left) ∙ ap (λ (l : List ℕ). l ++ b.0.1.left) (sym (joined-cons first.front others.pieces));
      next = omega (arith, first.next, others.next);
      few = λ h. others.few (first.few h);
    })

-- ---- heads

-- how a block begins
abbrev IsHead : Head → List ℕ → Type 0
IsHead h bs = ((h.size ≡ None) × IsLong (pos h.count) bs)
    ⊎ ((n : ℕ) × (z : ℤ) × (c : List ℕ) × (s : List ℕ) × (h.count ≡ suc n) × (h.size ≡ Some z) × (bs ≡ c ++ s) × IsLong (negsuc n) c × IsLong z s)

head_of_took : (k : ℕ) (z : ℤ) (p0 p : Place) (h : Head) (q : Place) → Took IsLong no_node p0 z p → head_of k z p ≡ Ok (h, q) → Took IsHead no_node p0 h q
head_of_took k (pos n) p0 p h q took is =
    subst (λ (y : Head × Place). Took IsHead no_node p0 y.0 y.1) (ok_is (record { count = n; size = None }, p) (h, q) is)
    (record { front = took.front; left = took.left; is = inl (refl, took.is); next = took.next; few = took.few })
head_of_took k (negsuc n) p0 p h q took is =
    let a = bind_ok (long_at k p) (λ size. Ok (record { count = suc n; size = Some size.0 }, size.1)) (h, q) is in
    let b = long_sound k p a.0.0 a.0.1 a.1 in
    subst (λ (y : Head × Place). Took IsHead no_node p0 y.0 y.1) (ok_is (record { count = suc n; size = Some a.0.0 }, a.0.1) (h, q) a.2) (record {
      front = took.front ++ b.front;
      left = took.left ∙ ap (λ (l : List ℕ). took.front ++ l) b.left ∙ sym (append_assoc took.front b.front a.0.1.left);
      is = inr (n, a.0.0, took.front, b.front, refl, refl, refl, took.is, b.is);
      next = omega (arith, took.next, b.next);
      few = λ h. b.few (took.few h);
    })

pub head_sound : (k : ℕ) → Sound IsHead no_node (head_at k)
unfolding head_at
head_sound k p h q is =
    let a = bind_ok (long_at k p) (λ n. head_of k n.0 n.1) (h, q) is in
    head_of_took k a.0.0 p a.0.1 h q (long_sound k p a.0.0 a.0.1 a.1) a.2

-- the end is a count of 0
head_ends : (h : Head) (bs : List ℕ) → IsHead h bs → h.count ≡ 0 → IsLong (pos 0) bs
head_ends h bs (inl plain) none = subst (λ (n : ℕ). IsLong (pos n) bs) none plain.1
head_ends h bs (inr sized) none = absurd (omega (arith, sized.4))

size_weighs : (z : ℤ) (n : ℕ) → weighs (Some z) n ≡ true → z ≡ pos n
size_weighs (pos m) n is = ap (λ (k : ℕ). pos k) (eqb-true _ _ is)
size_weighs (negsuc m) n is = absurd cc

-- a head before the items that it counts makes a block
head_begins : (h : Head) (bs first : List ℕ) (others : List (List ℕ)) (n : ℕ) → IsHead h bs → h.count ≡ suc (length others) → weighs h.size n ≡ true → n ≡ length (joined (first ∷ others)) → IsBlock (record { head = bs; first = first; others = others })
head_begins h bs first others n (inl plain) count weight is = inl (subst (λ (m : ℕ). IsLong (pos m) bs) count plain.1)
head_begins h bs first others n (inr sized) count weight is =
    let z = size_weighs sized.1 n (subst (λ (o : Option ℤ). weighs o n ≡ true) sized.5 weight) in
    let less : sized.0 ≡ length others = omega (arith, sized.4, count) in
    inr (record {
      count = sized.2;
      size = sized.3;
      is = sized.6;
      counts = subst (λ (m : ℕ). IsLong (negsuc m) sized.2) less sized.7;
      sizes = subst (λ (y : ℤ). IsLong y sized.3) (z ∙ ap (λ (m : ℕ). pos m) is) sized.8;
    })

-- ---- blocks

pub record TookBlocks {A : Type 0} (spells : A → List ℕ → Type 0) (count : A → ℕ) (p : Place) (xs : List A) (q : Place) : Type 0 where
  pub pieces : List (List ℕ)
  pub each : AllSpelled spells xs pieces
  pub front : List ℕ
  pub blocks : AreBlocks pieces front
  pub left : p.left ≡ front ++ q.left
  pub next : q.next ≡ p.next + total count xs
  pub few : p.next ≤ max_nodes → q.next ≤ max_nodes

blocks_along : {A : Type 0} (spells : A → List ℕ → Type 0) (count : A → ℕ) (p : Place) (xs ys : List A) (q r : Place) → paired xs q ≡ paired ys r → TookBlocks spells count p xs q → TookBlocks spells count p ys r
blocks_along {A} spells count p xs ys q r same took = subst (λ (y : List A × Place). TookBlocks spells count p y.0 y.1) same took

pub more_blocks : (b : Block) (pieces : List (List ℕ)) (bs : List ℕ) → IsBlock b → AreBlocks pieces bs → AreBlocks (pieces_of b ++ pieces) (block_bytes b ++ bs)
more_blocks b pieces bs is are = record {
  blocks = b ∷ are.blocks;
  end = are.end;
  each = (is, are.each);
  ends = are.ends;
  all = flat_map-cons pieces_of b are.blocks ∙ ap (λ (l : List (List ℕ)). pieces_of b ++ l) are.all;
  is = ap (λ (l : List ℕ). block_bytes b ++ l) are.is ∙ sym (append_assoc (block_bytes b) (flat_map block_bytes are.blocks) are.end) ∙ ap (λ (l : List ℕ). l ++ are.end) (sym (flat_map-cons block_bytes b are.blocks));
}

-- one block was read, and the blocks behind it
one_more : {A : Type 0} (spells : A → List ℕ → Type 0) (count : A → ℕ) (h : Head) (p q r s : Place) (ys zs : List A) → Took IsHead no_node p h q → TookMany spells count h.count q ys r
    → (h.count ≡ 0 → ⊥) → weighs h.size (length q.left - length r.left) ≡ true → TookBlocks spells count r zs s → TookBlocks spells count p (ys ++ zs) s
one_more spells count h p q r s ys zs head items some weight rest = cases items.pieces items.each items.size items.left
  where
    cases : (pieces : List (List ℕ)) → AllSpelled spells ys pieces → length pieces ≡ h.count → q.left ≡ joined pieces ++ r.left → TookBlocks spells count p (ys ++ zs) s
    cases [] each size left = absurd (some (sym size))
    cases (first ∷ others) each size left =
        let b : Block = record { head = head.front; first = first; others = others } in
        let taken : length q.left - length r.left ≡ length (joined (first ∷ others)) = omega (arith, ap (λ (l : List ℕ). length l) left, length-append (joined (first ∷ others)) r.left) in
        let is = head_begins h head.front first others (length q.left - length r.left) head.is (sym size) weight taken in
        record {
          pieces = (first ∷ others) ++ rest.pieces;
          each = all_spelled-append spells ys zs (first ∷ others) rest.pieces each rest.each;
          front = block_bytes b ++ rest.front;
          blocks = more_blocks b rest.pieces rest.front is rest.blocks;
          left = head.left ∙ ap (λ (l : List ℕ). head.front ++ l) (left ∙ ap (λ (l : List ℕ). joined (first ∷ others) ++ l) rest.left)
              ∙ sym (append_assoc head.front (joined (first ∷ others)) (rest.front ++ s.left)) ∙ sym (append_assoc (head.front ++ joined (first ∷ others)) rest.front s.left);
          next = omega (arith, head.next, items.next, rest.next, total-append count ys zs);
          few = λ few. rest.few (items.few (head.few few));
        }

front_is : {A : Type 0} (front xs : List A) (r : Read (List A)) (q : Place) → with_front front r ≡ Ok (xs, q) → (zs : List A) × (r ≡ Ok (zs, q)) × (front ++ zs ≡ xs)
front_is {A} front xs (Ok zs) q is = let pair = ok_is (front ++ zs.0, zs.1) (xs, q) is in (zs.0, ap (λ (p : Place). Ok (zs.0, p)) (ap (λ (y : List A × Place). y.1) pair), ap (λ (y : List A × Place). y.0) pair)
front_is front xs (Err e) q is = absurd cc

no_block : {A : Type 0} (spells : A → List ℕ → Type 0) (count : A → ℕ) (h : Head) (p q : Place) → Took IsHead no_node p h q → h.count ≡ 0 → TookBlocks spells count p [] q
no_block spells count h p q head none = record {
  pieces = [];
  each = refl;
  front = head.front;
  blocks = record { blocks = []; end = head.front; each = tt; ends = head_ends h head.front head.is none; all = refl; is = refl };
  left = head.left;
  next = head.next;
  few = head.few;
}

block_took : {A : Type 0} (spells : A → List ℕ → Type 0) (count : A → ℕ) (one : Place → Read A) → Sound spells count one → (k : ℕ) (h : Head) (q r : Place) (ys : List A) → block_at k one h q ≡ Ok (ys, r)
    → TookMany spells count h.count q ys r × (weighs h.size (length q.left - length r.left) ≡ true)
block_took {A} spells count one sound k h q r ys is =
    let a = bind_ok (many h.count one q) (λ xs. if weighs h.size (length q.left - length xs.1.left) then Ok xs else Err (Mismatch k)) (ys, r) is in
    let b = chosen_ok (weighs h.size (length q.left - length a.0.1.left)) (Mismatch k) a.0 (ys, r) a.2 in
    let items = many_sound spells count one sound h.count q a.0.0 a.0.1 a.1 in
    subst (λ (y : List A × Place). TookMany spells count h.count q y.0 y.1 × (weighs h.size (length q.left - length y.1.left) ≡ true)) b.1 (items, b.0)

blocks_step : {A : Type 0} (spells : A → List ℕ → Type 0) (count : A → ℕ) (one : Place → Read A) → Sound spells count one → (most k : ℕ)
    → ((p : Place) (xs : List A) (q : Place) → blocks most k one p ≡ Ok (xs, q) → TookBlocks spells count p xs q)
    → (p : Place) (h : Head) (r : Place) (xs : List A) (q : Place) → Took IsHead no_node p h r → behind_head most k one (h, r) ≡ Ok (xs, q) → TookBlocks spells count p xs q
blocks_step {A} spells count one sound most k others p h r xs q head is =
    elim (cases_Bool (eqb h.count 0)) [
      | inl none ↦
          let pair = ok_is (paired [] r) (paired xs q) (rw none at is) in
          blocks_along spells count p [] xs r q pair (no_block spells count h p r head (eqb-true _ _ none))
      | inr some ↦
          let a = bind_ok (block_at k one h r) (λ ys. with_front ys.0 (blocks most k one ys.1)) (xs, q) (rw some at is) in
          let items = block_took spells count one sound k h r a.0.1 a.0.0 a.1 in
          let b = front_is a.0.0 xs (blocks most k one a.0.1) q a.2 in
          subst (λ (l : List A). TookBlocks spells count p l q) b.2 (one_more spells count h p r a.0.1 q a.0.0 b.0 head items.0 (eqb-false _ _ some) items.1 (others a.0.1 b.0 q b.1))
    ]

pub blocks_sound : {A : Type 0} (spells : A → List ℕ → Type 0) (count : A → ℕ) (one : Place → Read A) → Sound spells count one → (most k : ℕ) (p : Place) (xs : List A) (q : Place) → blocks most k one p ≡ Ok (xs, q) → TookBlocks spells count p xs q
unfolding blocks
blocks_sound spells count one sound zero k p xs q is = absurd cc
blocks_sound spells count one sound (suc most) k p xs q is =
    let a = bind_ok (head_at k p) (behind_head most k one) (xs, q) is in
    blocks_step spells count one sound most k (blocks_sound spells count one sound most k) p a.0.0 a.0.1 xs q (head_sound k p a.0.0 a.0.1 a.1) a.2
