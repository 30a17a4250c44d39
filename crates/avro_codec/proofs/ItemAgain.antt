-- A spelling of an item is read as the item: integers, pieces of bytes, flags and blocks.
use Rattle.std.proofs.Common.{◌≡◌, ℕ, zero, suc, ◌-◌, ◌<◌, ◌≤◌, List, [], ◌∷◌, ◌++◌, length, Some, None, Ok, ℤ, pos, negsuc, Bool, true, false, nat_le, inl, inr, refl, sym, ap, ◌∙◌, subst, arith, append_assoc, length-append}
use Rattle.std.specs.List.{flat_map, AllByRecursion}
use Rattle.std.specs.Str.{is_utf8}
use Rattle.std.proofs.lemmas.Bool.{eq-eqb, le-leb}
use Rattle.std.proofs.lemmas.List.{take_at, drop_at}
use Rattle.std.proofs.lemmas.List.Concat.{flat_map-cons}
use Rattle.wire_prim.proofs.VarintLaws.{varint_reads, varlong_reads, varint_at_front}
use Rattle.avro_codec.specs.declared.cursor.Head.{Head}
use Rattle.avro_codec.specs.Plain.{flag}
use Rattle.avro_codec.specs.Spelling.{IsInt, IsLong, IsSized, Block, joined, pieces_of, block_bytes, IsBlock, AreBlocks}
use Rattle.avro_codec.specs.Reading.{Place, Read, behind, int_at, long_at, run_at, measured, sized_at, utf8, text_at, flag_at, head_of, head_at, many, with_front, block_at, blocks, all_blocks}
use Rattle.avro_value.specs.Steps.{◌>>=◌}
use Rattle.avro_codec.proofs.VarintLemmas.{int_read, long_read}
use Rattle.avro_codec.proofs.DecodeLemmas.{block_is, blocks_are, blocks_end}
use Rattle.avro_codec.proofs.BlockSound.{joined-cons}
use Rattle.avro_value.proofs.StepLemmas.{bind_at}

pub int_again : (k next : ℕ) (n : ℤ) (bs rest : List ℕ) → IsInt n bs → int_at k (behind next (bs ++ rest)) ≡ Ok (n, behind next rest)
int_again k next n bs rest is = int_read k (behind next (bs ++ rest)) n rest (sym (varint_at_front 5 n bs rest is.spells)) (varint_reads n bs is.fits is.spells rest)

pub long_again : (k next : ℕ) (n : ℤ) (bs rest : List ℕ) → IsLong n bs → long_at k (behind next (bs ++ rest)) ≡ Ok (n, behind next rest)
long_again k next n bs rest is = long_read k (behind next (bs ++ rest)) n rest (sym (varint_at_front 10 n bs rest is.spells)) (varlong_reads n bs is.fits is.spells rest)

pub run_again : (n next : ℕ) (piece rest : List ℕ) → length piece ≡ n → run_at n (behind next (piece ++ rest)) ≡ Ok (piece, behind next rest)
run_again n next piece rest is =
    let enough : nat_le n (length (piece ++ rest)) ≡ true = le-leb _ _ (omega (arith, length-append piece rest)) in
    rw (enough, take_at piece rest n is, drop_at piece rest n is) refl

pub sized_again : (k next : ℕ) (piece bs rest : List ℕ) → IsSized piece bs → sized_at k (behind next (bs ++ rest)) ≡ Ok (piece, behind next rest)
unfolding sized_at
sized_again k next piece bs rest is =
    let regrouped : bs ++ rest ≡ is.head ++ (piece ++ rest) = ap (λ (l : List ℕ). l ++ rest) is.is ∙ append_assoc is.head piece rest in
    let long : long_at k (behind next (bs ++ rest)) ≡ Ok (pos (length piece), behind next (piece ++ rest)) = ap (λ (l : List ℕ). long_at k (behind next l)) regrouped ∙ long_again k next (pos (length piece)) is.head (piece ++ rest) is.size in
    bind_at (long_at k (behind next (bs ++ rest))) (λ n. measured k n.0 n.1) (pos (length piece), behind next (piece ++ rest)) long ∙ run_again (length piece) next piece rest refl

pub text_again : (k next : ℕ) (piece bs rest : List ℕ) → IsSized piece bs → is_utf8 piece ≡ true → text_at k (behind next (bs ++ rest)) ≡ Ok (piece, behind next rest)
unfolding text_at
text_again k next piece bs rest is valid = bind_at (sized_at k (behind next (bs ++ rest))) utf8 (piece, behind next rest) (sized_again k next piece bs rest is) ∙ rw valid refl

pub flag_again : (k next : ℕ) (b : Bool) (bs rest : List ℕ) → bs ≡ flag b ∷ [] → flag_at k (behind next (bs ++ rest)) ≡ Ok (b, behind next rest)
unfolding flag_at
flag_again k next true bs rest is = rw is refl
flag_again k next false bs rest is = rw is refl

-- ---- items in turn

-- each piece is read as its item, whatever follows
abbrev pub ReadsEach : {A : Type 0} → (Place → Read A) → ℕ → List A → List (List ℕ) → ℕ → Type 0
ReadsEach one next [] pieces end = (pieces ≡ []) × (end ≡ next)
ReadsEach {A} one next (x ∷ xs) pieces end = (piece : List ℕ) × (more : List (List ℕ)) × (pieces ≡ piece ∷ more) × (mid : ℕ)
    × ((rest : List ℕ) → one (behind next (piece ++ rest)) ≡ Ok (x, behind mid rest)) × ReadsEach one mid xs more end

pub many_again : {A : Type 0} (one : Place → Read A) (next : ℕ) (xs : List A) (pieces : List (List ℕ)) (end : ℕ) (rest : List ℕ) → ReadsEach one next xs pieces end
    → many (length pieces) one (behind next (joined pieces ++ rest)) ≡ Ok (xs, behind end rest)
unfolding many
many_again {A} one next [] pieces end rest is = rw (is.0, is.1) refl
many_again {A} one next (x ∷ xs) pieces end rest is =
    let piece = is.0 in
    let more = is.1 in
    let regrouped : joined (piece ∷ more) ++ rest ≡ piece ++ (joined more ++ rest) = ap (λ (l : List ℕ). l ++ rest) (joined-cons piece more) ∙ append_assoc piece (joined more) rest in
    let first : one (behind next (joined (piece ∷ more) ++ rest)) ≡ Ok (x, behind is.3 (joined more ++ rest)) = ap (λ (l : List ℕ). one (behind next l)) regrouped ∙ is.4 (joined more ++ rest) in
    let others = many_again one is.3 xs more end rest is.5 in
    ap (λ (ps : List (List ℕ)). many (length ps) one (behind next (joined ps ++ rest))) is.2
    ∙ bind_at (one (behind next (joined (piece ∷ more) ++ rest))) (λ y. many (length more) one y.1 >>= λ ys. Ok (y.0 ∷ ys.0, ys.1)) (x, behind is.3 (joined more ++ rest)) first
    ∙ bind_at (many (length more) one (behind is.3 (joined more ++ rest))) (λ ys. Ok (x ∷ ys.0, ys.1)) (xs, behind end rest) others

cons_is : (p q : List ℕ) (ps qs : List (List ℕ)) → p ∷ ps ≡ q ∷ qs → (p ≡ q) × (ps ≡ qs)
cons_is p q ps qs is = (cc, cc)

record Split {A : Type 0} (one : Place → Read A) (next : ℕ) (xs : List A) (ps qs : List (List ℕ)) (end : ℕ) : Type 0 where
  ys : List A
  zs : List A
  mid : ℕ
  is : ys ++ zs ≡ xs
  first : ReadsEach one next ys ps mid
  second : ReadsEach one mid zs qs end

split_reads : {A : Type 0} (one : Place → Read A) (next : ℕ) (xs : List A) (ps qs : List (List ℕ)) (end : ℕ) → ReadsEach one next xs (ps ++ qs) end → Split one next xs ps qs end
split_reads one next xs [] qs end is = record { ys = []; zs = xs; mid = next; is = refl; first = (refl, refl); second = is }
split_reads one next [] (p ∷ ps) qs end is = absurd (let e = is.0 in cc)
split_reads {A} one next (x ∷ xs) (p ∷ ps) qs end is =
    let same = cons_is p is.0 (ps ++ qs) is.1 is.2 in
    let s = split_reads one is.3 xs ps qs end (subst (λ (l : List (List ℕ)). ReadsEach one is.3 xs l end) (sym same.1) is.5) in
    record {
      ys = x ∷ s.ys;
      zs = s.zs;
      mid = s.mid;
      is = ap (λ (l : List A). x ∷ l) s.is;
      first = (p, ps, refl, is.3, (λ rest. ap (λ (l : List ℕ). one (behind next (l ++ rest))) same.0 ∙ is.4 rest), s.first);
      second = s.second;
    }

-- ---- blocks

head_plain : (k next n : ℕ) (bs rest : List ℕ) → IsLong (pos n) bs → head_at k (behind next (bs ++ rest)) ≡ Ok (record { count = n; size = None }, behind next rest)
unfolding head_at
head_plain k next n bs rest is = bind_at (long_at k (behind next (bs ++ rest))) (λ z. head_of k z.0 z.1) (pos n, behind next rest) (long_again k next (pos n) bs rest is)

head_sized : (k next n m : ℕ) (bs c s rest : List ℕ) → bs ≡ c ++ s → IsLong (negsuc n) c → IsLong (pos m) s → head_at k (behind next (bs ++ rest)) ≡ Ok (record { count = suc n; size = Some (pos m) }, behind next rest)
unfolding head_at
head_sized k next n m bs c s rest is count size =
    let regrouped : bs ++ rest ≡ c ++ (s ++ rest) = ap (λ (l : List ℕ). l ++ rest) is ∙ append_assoc c s rest in
    ap (λ (l : List ℕ). head_at k (behind next l)) regrouped
    ∙ bind_at (long_at k (behind next (c ++ (s ++ rest)))) (λ z. head_of k z.0 z.1) (negsuc n, behind next (s ++ rest)) (long_again k next (negsuc n) c (s ++ rest) count)
    ∙ bind_at (long_at k (behind next (s ++ rest))) (λ z. Ok (record { count = suc n; size = Some z.0 }, z.1)) (pos m, behind next rest) (long_again k next (pos m) s rest size)

record BlockAgain {A : Type 0} (k : ℕ) (one : Place → Read A) (next : ℕ) (b : Block) (xs : List A) (end : ℕ) (rest : List ℕ) : Type 0 where
  h : Head
  head : head_at k (behind next (block_bytes b ++ rest)) ≡ Ok (h, behind next (joined (pieces_of b) ++ rest))
  some : h.count ≡ 0 → ⊥
  block : block_at k one h (behind next (joined (pieces_of b) ++ rest)) ≡ Ok (xs, behind end rest)

block_again : {A : Type 0} (k : ℕ) (one : Place → Read A) (next : ℕ) (b : Block) (xs : List A) (end : ℕ) (rest : List ℕ) → IsBlock b → ReadsEach one next xs (pieces_of b) end → BlockAgain k one next b xs end rest
block_again k one next b xs end rest (inl is) each =
    let h : Head = record { count = suc (length b.others); size = None } in
    let p = behind next (joined (pieces_of b) ++ rest) in
    record {
      h = h;
      head = ap (λ (l : List ℕ). head_at k (behind next l)) (append_assoc b.head (joined (pieces_of b)) rest) ∙ head_plain k next (suc (length b.others)) b.head (joined (pieces_of b) ++ rest) is;
      some = λ (e : suc (length b.others) ≡ 0). omega arith;
      block = block_is k one h p (behind end rest) xs (many_again one next xs (pieces_of b) end rest each) refl;
    }
block_again k one next b xs end rest (inr is) each =
    let m = length (joined (pieces_of b)) in
    let h : Head = record { count = suc (length b.others); size = Some (pos m) } in
    let p = behind next (joined (pieces_of b) ++ rest) in
    let taken : m ≡ length (joined (pieces_of b) ++ rest) - length rest = omega (arith, length-append (joined (pieces_of b)) rest) in
    record {
      h = h;
      head = ap (λ (l : List ℕ). head_at k (behind next l)) (append_assoc b.head (joined (pieces_of b)) rest)
          ∙ head_sized k next (length b.others) m b.head is.count is.size (joined (pieces_of b) ++ rest) is.is is.counts is.sizes;
      some = λ (e : suc (length b.others) ≡ 0). omega arith;
      block = block_is k one h p (behind end rest) xs (many_again one next xs (pieces_of b) end rest each) (eq-eqb _ _ taken);
    }

no_item : {A : Type 0} (one : Place → Read A) (next : ℕ) (xs : List A) (end : ℕ) → ReadsEach one next xs [] end → (xs ≡ []) × (end ≡ next)
no_item one next [] end is = (refl, is.1)
no_item one next (x ∷ xs) end is = absurd (let e = is.2 in cc)

blocks_again : {A : Type 0} (k : ℕ) (one : Place → Read A) (most next : ℕ) (bs : List Block) (end : List ℕ) (xs : List A) (stop : ℕ) (rest : List ℕ) → AllByRecursion IsBlock bs → IsLong (pos 0) end
    → ReadsEach one next xs (flat_map pieces_of bs) stop → length bs < most → blocks most k one (behind next ((flat_map block_bytes bs ++ end) ++ rest)) ≡ Ok (xs, behind stop rest)
blocks_again k one zero next bs end xs stop rest each ends reads enough = absurd (omega arith)
blocks_again {A} k one (suc most) next [] end xs stop rest each ends reads enough =
    let none = no_item one next xs stop reads in
    blocks_end most k one (behind next (end ++ rest)) (record { count = 0; size = None }) (behind next rest) (head_plain k next 0 end rest ends) refl
    ∙ ap (λ (l : List A). Ok (l, behind next rest)) (sym none.0) ∙ ap (λ (n : ℕ). Ok (xs, behind n rest)) (sym none.1)
blocks_again {A} k one (suc most) next (b ∷ bs) end xs stop rest each ends reads enough =
    let after = (flat_map block_bytes bs ++ end) ++ rest in
    let s = split_reads one next xs (pieces_of b) (flat_map pieces_of bs) stop (subst (λ (l : List (List ℕ)). ReadsEach one next xs l stop) (flat_map-cons pieces_of b bs) reads) in
    let a = block_again k one next b s.ys s.mid after each.0 s.first in
    let others = blocks_again k one most s.mid bs end s.zs stop rest each.1 ends s.second (omega arith) in
    let regrouped : (flat_map block_bytes (b ∷ bs) ++ end) ++ rest ≡ block_bytes b ++ after =
    ap (λ (l : List ℕ). (l ++ end) ++ rest) (flat_map-cons block_bytes b bs) ∙ ap (λ (l : List ℕ). l ++ rest) (append_assoc (block_bytes b) (flat_map block_bytes bs) end) ∙ append_assoc (block_bytes b) (flat_map block_bytes bs ++ end) rest in
    ap (λ (l : List ℕ). blocks (suc most) k one (behind next l)) regrouped
    ∙ blocks_are most k one (behind next (block_bytes b ++ after)) a.h (behind next (joined (pieces_of b) ++ after)) a.head a.some
    ∙ bind_at (block_at k one a.h (behind next (joined (pieces_of b) ++ after))) (λ ys. with_front ys.0 (blocks most k one ys.1)) (s.ys, behind s.mid after) a.block
    ∙ ap (with_front s.ys) others ∙ ap (λ (l : List A). Ok (l, behind stop rest)) s.is

-- each block has a byte at least
block_long : (b : Block) → IsBlock b → 1 ≤ length (block_bytes b)
block_long b (inl is) = omega (arith, is.spells.ends, length-append b.head (joined (pieces_of b)))
block_long b (inr is) = omega (arith, is.counts.spells.ends, ap (λ (l : List ℕ). length l) is.is, length-append is.count is.size, length-append b.head (joined (pieces_of b)))

blocks_long : (bs : List Block) → AllByRecursion IsBlock bs → length bs ≤ length (flat_map block_bytes bs)
blocks_long [] each = omega arith
blocks_long (b ∷ bs) each = omega (arith, block_long b each.0, blocks_long bs each.1, ap (λ (l : List ℕ). length l) (flat_map-cons block_bytes b bs), length-append (block_bytes b) (flat_map block_bytes bs))

pub all_blocks_again : {A : Type 0} (k : ℕ) (one : Place → Read A) (next : ℕ) (pieces : List (List ℕ)) (bs : List ℕ) (xs : List A) (stop : ℕ) (rest : List ℕ) → AreBlocks pieces bs → ReadsEach one next xs pieces stop
    → all_blocks k one (behind next (bs ++ rest)) ≡ Ok (xs, behind stop rest)
all_blocks_again {A} k one next pieces bs xs stop rest are reads =
    let all = flat_map block_bytes are.blocks ++ are.end in
    let enough : length are.blocks < suc (length (bs ++ rest)) =
    omega (arith, blocks_long are.blocks are.each, length-append (flat_map block_bytes are.blocks) are.end, ap (λ (l : List ℕ). length l) are.is, length-append bs rest) in
    ap (λ (l : List ℕ). blocks (suc (length (bs ++ rest))) k one (behind next (l ++ rest))) are.is
    ∙ blocks_again k one (suc (length (bs ++ rest))) next are.blocks are.end xs stop rest are.each are.ends (subst (λ (l : List (List ℕ)). ReadsEach one next xs l stop) (sym are.all) reads) enough
