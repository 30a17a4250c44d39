-- From an int or a long that was read, to its bytes and its range.
use Rattle.std.proofs.Common.{◌≡◌, ℕ, ◌%◌, ◌^◌, ◌<◌, List, Ok, Err, ℤ, Bool, true, false, cond, eqb, nat_lt, FitsSigned, refl, sym, ap, ◌∙◌, inl, inr, arith, ltb-true}
use Rattle.std.specs.Int.{w32, w64}
use Rattle.std.proofs.lemmas.Bool.{cases_Bool}
use Rattle.wire_prim.specs.declared.error.PrimNo.{PrimNo}
use Rattle.wire_prim.specs.declared.error.PrimNo.TheVariants.{TooLong}
use Rattle.wire_prim.specs.Behind.{Behind, next}
use Rattle.wire_prim.specs.Varint.{unzigzag, grouped, run_of, varint_at, behind_run, behind_bounded, behind_varint, behind_varlong}
use Rattle.avro_value.specs.declared.error.AvroNo.{AvroNo}
use Rattle.avro_codec.specs.Reading.{Place, Read, behind, stopped, number, int_at, long_at}
use Rattle.avro_value.specs.Steps.{Fails}

pub next_ok : (b : Behind) (f : List ℕ → Behind) (rest : List ℕ) → next b f ≡ Ok rest → (x : List ℕ) × (b ≡ Ok x) × (f x ≡ Ok rest)
next_ok (Ok x) f rest is = (x, refl, is)
next_ok (Err e) f rest is = absurd cc

test_ok : (b : Bool) (x rest : List ℕ) → cond b (Ok x) (Err TooLong) ≡ Ok rest → (b ≡ true) × (x ≡ rest)
test_ok true x rest is = (refl, cc)
test_ok false x rest is = absurd cc

-- what was read is below its bound, and its run ended in time
pub bounded_ok : (limit bound : ℕ) (bytes rest : List ℕ) → behind_bounded limit bound bytes ≡ Ok rest → (grouped (run_of bytes) < bound) × (behind_run limit bytes ≡ Ok rest)
bounded_ok limit bound bytes rest is =
    let run = next_ok (behind_run limit bytes) (λ r. cond (nat_lt (grouped (run_of bytes)) bound) (Ok r) (Err TooLong)) rest is in
    let below = test_ok (nat_lt (grouped (run_of bytes)) bound) run.0 rest run.2 in
    (ltb-true _ _ below.0, run.1 ∙ ap (λ r. Ok r) below.1)

unzigzag_fits32 : (n : ℕ) → n < 2 ^ 32 → FitsSigned w32 (unzigzag n)
unzigzag_fits32 n small =
    elim (cases_Bool (eqb (n % 2) 0)) [
      | inl even ↦ rw even (record { sfits = omega arith })
      | inr odd ↦ rw odd (record { sfits = omega arith })
    ]

unzigzag_fits64 : (n : ℕ) → n < 2 ^ 64 → FitsSigned w64 (unzigzag n)
unzigzag_fits64 n small =
    elim (cases_Bool (eqb (n % 2) 0)) [
      | inl even ↦ rw even (record { sfits = omega arith })
      | inr odd ↦ rw odd (record { sfits = omega arith })
    ]

pub int_fits : (bytes rest : List ℕ) → behind_varint bytes ≡ Ok rest → FitsSigned w32 (varint_at bytes)
int_fits bytes rest is = unzigzag_fits32 (grouped (run_of bytes)) (bounded_ok 5 (2 ^ 32) bytes rest is).0

pub long_fits : (bytes rest : List ℕ) → behind_varlong bytes ≡ Ok rest → FitsSigned w64 (varint_at bytes)
long_fits bytes rest is = unzigzag_fits64 (grouped (run_of bytes)) (bounded_ok 10 (2 ^ 64) bytes rest is).0

number_ok : (k : ℕ) (n m : ℤ) (p : Place) (b : Behind) (rest : List ℕ) → n ≡ m → b ≡ Ok rest → number k m p b ≡ Ok (n, behind p.next rest)
number_ok k n m p b rest same is = ap (number k m p) is ∙ ap (λ (x : ℤ). Ok (x, behind p.next rest)) (sym same)

number_fails : (k : ℕ) (n : ℤ) (p : Place) (b : Behind) (e : PrimNo) (cause : AvroNo) → cause ≡ stopped k e → b ≡ Err e → Fails cause (number k n p b)
number_fails k n p b e cause same is = inr (ap (number k n p) is ∙ ap (λ (x : AvroNo). Err x) (sym same))

pub int_read : (k : ℕ) (p : Place) (n : ℤ) (rest : List ℕ) → n ≡ varint_at p.left → behind_varint p.left ≡ Ok rest → int_at k p ≡ Ok (n, behind p.next rest)
unfolding int_at
int_read k p n rest at is = number_ok k n _ p _ rest at is

pub long_read : (k : ℕ) (p : Place) (n : ℤ) (rest : List ℕ) → n ≡ varint_at p.left → behind_varlong p.left ≡ Ok rest → long_at k p ≡ Ok (n, behind p.next rest)
unfolding long_at
long_read k p n rest at is = number_ok k n _ p _ rest at is

pub int_unread : (k : ℕ) (p : Place) (e : PrimNo) (cause : AvroNo) → cause ≡ stopped k e → behind_varint p.left ≡ Err e → Fails cause (int_at k p)
unfolding int_at
int_unread k p e cause same is = number_fails k _ p _ e cause same is

pub long_unread : (k : ℕ) (p : Place) (e : PrimNo) (cause : AvroNo) → cause ≡ stopped k e → behind_varlong p.left ≡ Err e → Fails cause (long_at k p)
unfolding long_at
long_unread k p e cause same is = number_fails k _ p _ e cause same is

abbrev answered : {A : Type 0} → A → ℕ → List ℕ → Read A
answered v next left = Ok (v, behind next left)

pub placed : {A : Type 0} (v : A) (a b : ℕ) (x y : List ℕ) → a ≡ b → x ≡ y → answered v b y ≡ answered v a x
placed v a b x y e f = ap (λ (n : ℕ). answered v n y) (sym e) ∙ ap (λ (l : List ℕ). answered v a l) (sym f)
