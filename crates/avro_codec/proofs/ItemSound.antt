-- What is read of an item is spelled so: integers, pieces of bytes, and flags.
use Rattle.std.proofs.Common.{◌≡◌, ℕ, zero, suc, ◌+◌, ◌%◌, ◌^◌, ◌<◌, ◌≤◌, List, [], ◌∷◌, ◌++◌, length, take, drop, Ok, Err, ℤ, pos, negsuc, Bool, true, false, cond, eqb, nat_le, nat_lt, refl, sym, ap, ◌∙◌, subst, inl, inr, arith, ltb-true, length-take, append_assoc}
use Rattle.std.specs.Str.{is_utf8}
use Rattle.std.proofs.lemmas.Bool.{cases_Bool, eqb-true, eqb-false, leb-true, leb-false}
use Rattle.std.proofs.lemmas.List.{take-append-drop}
use Rattle.wire_prim.specs.declared.error.PrimNo.TheVariants.{TooLong, Short as Ends}
use Rattle.wire_prim.specs.Behind.{Behind}
use Rattle.wire_prim.specs.Varint.{lead, zigzag, unzigzag, grouped, run_of, varint_at, behind_run, behind_bounded, behind_varint, behind_varlong, IsVarint}
use Rattle.wire_prim.proofs.VarintLemmas.{run_ends}
use Rattle.avro_value.specs.declared.error.AvroNo.TheVariants.{Short, BadUtf8}
use Rattle.avro_codec.specs.Plain.{flag}
use Rattle.avro_codec.specs.Spelling.{IsInt, IsLong, IsSized}
use Rattle.avro_value.specs.Value.{max_nodes}
use Rattle.avro_codec.specs.Reading.{Place, Read, behind, number, int_at, long_at, run_at, measured, sized_at, utf8, text_at, flag_of, flag_at}
use Rattle.avro_codec.proofs.VarintLemmas.{bounded_ok, int_fits, long_fits}
use Rattle.avro_value.proofs.StepLemmas.{bind_ok, ok_is, chosen_ok, chosen_else}

-- the front of the bytes was read as x, whose nodes were counted
pub record Took {A : Type 0} (spells : A → List ℕ → Type 0) (count : A → ℕ) (p : Place) (x : A) (q : Place) : Type 0 where
  pub front : List ℕ
  pub left : p.left ≡ front ++ q.left
  pub is : spells x front
  pub next : q.next ≡ p.next + count x
  pub few : p.next ≤ max_nodes → q.next ≤ max_nodes

abbrev pub Sound : {A : Type 0} → (A → List ℕ → Type 0) → (A → ℕ) → (Place → Read A) → Type 0
Sound {A} spells count one = (p : Place) (x : A) (q : Place) → one p ≡ Ok (x, q) → Took spells count p x q

abbrev pub no_node : {A : Type 0} → A → ℕ
no_node x = 0

-- ---- integers

zigzag-unzigzag : (n : ℕ) → zigzag (unzigzag n) ≡ n
zigzag-unzigzag n =
    elim (cases_Bool (eqb (n % 2) 0)) [
      | inl even ↦ let half = eqb-true _ _ even in rw even (omega arith)
      | inr odd ↦ let half = eqb-false _ _ odd in rw odd (omega arith)
    ]

run_took : (limit : ℕ) (bytes rest : List ℕ) → behind_run limit bytes ≡ Ok rest → (lead bytes < limit) × (lead bytes < length bytes) × (drop (suc (lead bytes)) bytes ≡ rest)
run_took limit bytes rest is =
    let a = chosen_else (nat_le limit (lead bytes)) TooLong (cond (nat_lt (lead bytes) (length bytes)) (Ok (drop (suc (lead bytes)) bytes)) (Err Ends)) rest is in
    let b = chosen_ok (nat_lt (lead bytes) (length bytes)) Ends (drop (suc (lead bytes)) bytes) rest a.1 in
    let below : lead bytes < limit = leb-false _ _ a.0 in
    (below, ltb-true _ _ b.0, b.1)

varint_spelled : (limit bound : ℕ) (bytes rest : List ℕ) → behind_bounded limit bound bytes ≡ Ok rest → IsVarint limit (varint_at bytes) (run_of bytes) × (bytes ≡ run_of bytes ++ rest)
varint_spelled limit bound bytes rest is =
    let a = bounded_ok limit bound bytes rest is in
    let b = run_took limit bytes rest a.1 in (
      record {
        ends = run_ends bytes b.1;
        within = omega (arith, length-take (suc (lead bytes)) bytes, b.0, b.1);
        number = sym (zigzag-unzigzag (grouped (run_of bytes)));
      },
      sym (take-append-drop (suc (lead bytes)) bytes) ∙ ap (λ (r : List ℕ). run_of bytes ++ r) b.2,
    )

number_took : (k : ℕ) (m n : ℤ) (p q : Place) (b : Behind) → number k m p b ≡ Ok (n, q) → (rest : List ℕ) × (b ≡ Ok rest) × (m ≡ n) × (behind p.next rest ≡ q)
number_took k m n p q (Ok rest) is = let pair = ok_is (m, behind p.next rest) (n, q) is in (rest, refl, ap (λ (y : ℤ × Place). y.0) pair, ap (λ (y : ℤ × Place). y.1) pair)
number_took k m n p q (Err e) is = absurd cc

took_along : {A : Type 0} (spells : A → List ℕ → Type 0) (count : A → ℕ) (p : Place) (x y : A) (q r : Place) → x ≡ y → q ≡ r → Took spells count p x q → Took spells count p y r
took_along spells count p x y q r same at took = subst (λ z. Took spells count p z r) same (subst (λ (s : Place). Took spells count p x s) at took)

pub int_sound : (k : ℕ) → Sound IsInt no_node (int_at k)
unfolding int_at
int_sound k p n q is =
    let a = number_took k (varint_at p.left) n p q (behind_varint p.left) is in
    let b = varint_spelled 5 (2 ^ 32) p.left a.0 a.1 in
    let took : Took IsInt no_node p (varint_at p.left) (behind p.next a.0) = record { front = run_of p.left; left = b.1; is = record { spells = b.0; fits = int_fits p.left a.0 a.1 }; next = omega arith; few = λ h. h } in
    took_along IsInt no_node p (varint_at p.left) n (behind p.next a.0) q a.2 a.3 took

pub long_sound : (k : ℕ) → Sound IsLong no_node (long_at k)
unfolding long_at
long_sound k p n q is =
    let a = number_took k (varint_at p.left) n p q (behind_varlong p.left) is in
    let b = varint_spelled 10 (2 ^ 64) p.left a.0 a.1 in
    let took : Took IsLong no_node p (varint_at p.left) (behind p.next a.0) = record { front = run_of p.left; left = b.1; is = record { spells = b.0; fits = long_fits p.left a.0 a.1 }; next = omega arith; few = λ h. h } in
    took_along IsLong no_node p (varint_at p.left) n (behind p.next a.0) q a.2 a.3 took

-- ---- pieces

abbrev IsPiece : ℕ → List ℕ → List ℕ → Type 0
IsPiece n piece bs = (bs ≡ piece) × (length piece ≡ n)

pub run_sound : (n : ℕ) → Sound (IsPiece n) no_node (run_at n)
run_sound n p piece q is =
    let a = chosen_ok (nat_le n (length p.left)) Short (take n p.left, behind p.next (drop n p.left)) (piece, q) is in
    let enough : n ≤ length p.left = leb-true _ _ a.0 in
    let took : Took (IsPiece n) no_node p (take n p.left) (behind p.next (drop n p.left)) = record {
      front = take n p.left;
      left = sym (take-append-drop n p.left);
      is = (refl, omega (arith, length-take n p.left));
      next = omega arith;
      few = λ h. h;
    } in
    took_along (IsPiece n) no_node p (take n p.left) piece (behind p.next (drop n p.left)) q (ap (λ (y : List ℕ × Place). y.0) a.1) (ap (λ (y : List ℕ × Place). y.1) a.1) took

measured_took : (k : ℕ) (z : ℤ) (p q : Place) (piece : List ℕ) → measured k z p ≡ Ok (piece, q) → (z ≡ pos (length piece)) × (p.left ≡ piece ++ q.left) × (q.next ≡ p.next)
measured_took k (pos n) p q piece is =
    let a = run_sound n p piece q is in
    (ap (λ (m : ℕ). pos m) (sym a.is.1), a.left ∙ ap (λ (f : List ℕ). f ++ q.left) a.is.0, a.next ∙ omega arith)
measured_took k (negsuc n) p q piece is = absurd cc

pub sized_sound : (k : ℕ) → Sound IsSized no_node (sized_at k)
unfolding sized_at
sized_sound k p piece q is =
    let a = bind_ok (long_at k p) (λ n. measured k n.0 n.1) (piece, q) is in
    let b = long_sound k p a.0.0 a.0.1 a.1 in
    let c = measured_took k a.0.0 a.0.1 q piece a.2 in
    record {
      front = b.front ++ piece;
      left = b.left ∙ ap (λ (l : List ℕ). b.front ++ l) c.1 ∙ sym (append_assoc b.front piece q.left);
      is = record { head = b.front; size = subst (λ (z : ℤ). IsLong z b.front) c.0 b.is; is = refl };
      next = omega (arith, c.2, b.next);
      few = λ h. omega (arith, c.2, b.next);
    }

abbrev pub IsString : List ℕ → List ℕ → Type 0
IsString piece bs = IsSized piece bs × (is_utf8 piece ≡ true)

pub text_sound : (k : ℕ) → Sound IsString no_node (text_at k)
unfolding text_at
text_sound k p piece q is =
    let a = bind_ok (sized_at k p) utf8 (piece, q) is in
    let b = chosen_ok (is_utf8 a.0.0) BadUtf8 a.0 (piece, q) a.2 in
    let c = sized_sound k p a.0.0 a.0.1 a.1 in
    let took : Took IsString no_node p a.0.0 a.0.1 = record { front = c.front; left = c.left; is = (c.is, b.0); next = c.next; few = c.few } in
    took_along IsString no_node p a.0.0 piece a.0.1 q (ap (λ (y : List ℕ × Place). y.0) b.1) (ap (λ (y : List ℕ × Place). y.1) b.1) took

-- ---- flags

flag_took : (k next : ℕ) (l left : List ℕ) (b : Bool) (q : Place) → flag_of k next l left ≡ Ok (b, q) → (l ≡ flag b ∷ q.left) × (q.next ≡ next)
flag_took k next [] left b q is = absurd cc
flag_took k next (zero ∷ rest) left b q is = let pair = ok_is (false, behind next rest) (b, q) is in subst (λ (y : Bool × Place). (0 ∷ rest ≡ flag y.0 ∷ y.1.left) × (y.1.next ≡ next)) pair (refl, refl)
flag_took k next (suc zero ∷ rest) left b q is = let pair = ok_is (true, behind next rest) (b, q) is in subst (λ (y : Bool × Place). (1 ∷ rest ≡ flag y.0 ∷ y.1.left) × (y.1.next ≡ next)) pair (refl, refl)
flag_took k next (suc (suc n) ∷ rest) left b q is = absurd cc

abbrev pub IsFlag : Bool → List ℕ → Type 0
IsFlag b bs = bs ≡ flag b ∷ []

pub flag_sound : (k : ℕ) → Sound IsFlag no_node (flag_at k)
unfolding flag_at
flag_sound k p b q is =
    let a = flag_took k p.next p.left p.left b q is in
    record { front = flag b ∷ []; left = a.0; is = refl; next = omega (arith, a.1); few = λ h. omega (arith, a.1) }
