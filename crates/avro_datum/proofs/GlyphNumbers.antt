-- Decimal digits without a leading zero are a number of JSON, and their value is its integer.
use Rattle.std.proofs.Common.{◌≡◌, ℕ, zero, suc, ◌+◌, ◌-◌, ◌*◌, ◌^◌, ◌<◌, ◌≤◌, List, [], ◌∷◌, true, false, cond, ◌==◌, length, get_or, ℤ, pos, negsuc, Some, None, inl, inr, refl, sym, ap, ◌∙◌, arith, append-nil, fold}
use Rattle.std.proofs.lemmas.Bool.{and_from, le-leb, ne_eqb}
use Rattle.std.proofs.lemmas.Bool.Decides.{nat_tests}
use Rattle.std.proofs.lemmas.Fmt.{decimal_digit, first_decimal, length-decimal-le, digits_decimal, digits_value-decimal}
use Rattle.std.proofs.lemmas.Str.Parse.{IsDigitsTest, IsNumeralModel, numerals_by_fold}
use Rattle.std.specs.Fmt.{signed_decimal}
use Rattle.std.specs.Fmt as fmt
use Rattle.std.specs.List.{list_all}
use Rattle.json_token.specs.Grammar.{AreDigits, IsUnsigned}
use Rattle.json_token.specs.Integer.{decimal, magnitude_of, above, below, integer_of}
use Rattle.json_token.specs.Number.{IsNumber, is_digit, is_leading}
use Rattle.json_token.proofs.NumberGrammar.{numeral_number}
use lib.Signed.{mag}

tells : IsDigitsTest AreDigits
tells = record {
  empty = tt;
  parts = λ c cs h. let d = h.0 in ((grind (arith, nat_tests), grind (arith, nat_tests)), h.1);
  more = λ c cs r h. let low = r.0 in let high = r.1 in (grind (arith, nat_tests), h);
}

own : IsNumeralModel AreDigits decimal
own = numerals_by_fold AreDigits tells (λ n ds. fold (λ n d. n * 10 + (d - 48)) n ds) (record { empty = λ n. refl; more = λ n c cs r. refl })

all_digits : (ds : List ℕ) → AreDigits ds → list_all is_digit ds ≡ true
all_digits [] h = refl
all_digits (d ∷ ds) h = and_from _ _ h.0 (all_digits ds h.1)

magnitude_is : (ds : List ℕ) → AreDigits ds → length ds ≤ 38 → magnitude_of ds ≡ Some (decimal ds)
magnitude_is ds h l = ap (λ b. cond b (Some (decimal ds)) None) (and_from _ _ (all_digits ds h) (le-leb (length ds) 38 l))

unsigned_is : (d : ℕ) (ds : List ℕ) → is_leading d ≡ true → AreDigits ds → IsUnsigned (d ∷ ds)
unsigned_is d ds i h = inr (d, ds, [], ap (λ x. d ∷ x) (sym (append-nil ds)), i, h, inl (inl refl))

-- the digits are an int, without a sign, and say n
abbrev IsWhole : List ℕ → ℕ → Type 0
IsWhole ds n = IsUnsigned ds × (magnitude_of ds ≡ Some n) × ((get_or ds 0 0 == 45) ≡ false) × (0 < length ds)

whole_digits : (ds : List ℕ) (n : ℕ) → 48 < get_or ds 0 0 → AreDigits ds → length ds ≤ 38 → decimal ds ≡ n → IsWhole ds n
whole_digits [] n first h l e = absurd (omega arith)
whole_digits (d ∷ ds) n first h l e =
    let digit = h.0 in
    (unsigned_is d ds (grind (arith, nat_tests)) h.1, magnitude_is (d ∷ ds) h l ∙ ap Some e, ne_eqb d 45 (λ e. omega arith), omega arith)

whole_decimal : (n : ℕ) → n < 2 ^ 64 → IsWhole (fmt.decimal n) n
whole_decimal zero h = rw (decimal_digit 0 (omega arith)) (inl ([], refl, inl (inl refl)), refl, refl, omega arith)
whole_decimal (suc n) h =
    whole_digits (fmt.decimal (suc n)) (suc n) (first_decimal (suc n) (omega arith) h) (digits_decimal own (suc n) h)
    (omega (arith, length-decimal-le 20 (suc n) (omega arith) (omega arith) h)) (digits_value-decimal own (suc n) h)

integer_is : (ds : List ℕ) (n : ℕ) → IsWhole ds n → integer_of ds ≡ Some (pos n)
integer_is [] n w = absurd (omega arith)
integer_is (d ∷ ds) n w = ap (λ t. cond t (below (magnitude_of ds)) (above (magnitude_of (d ∷ ds)))) w.2 ∙ ap above w.1

pub signed_is : (n : ℤ) → mag n < 2 ^ 63 → IsNumber (signed_decimal n) × (integer_of (signed_decimal n) ≡ Some n)
signed_is (pos n) h = let w = whole_decimal n (omega arith) in (numeral_number _ (inl w.0), integer_is _ n w)
signed_is (negsuc n) h = let w = whole_decimal (suc n) (omega arith) in (numeral_number _ (inr (fmt.decimal (suc n), refl, w.0)), ap below w.1)
