-- The right-linear grammar of numbers gives the texts of RFC 8259's productions, and no others.
use Rattle.std.proofs.Common.{◌≡◌, ℕ, List, [], ◌∷◌, ◌++◌, Bool, true, false, cond, ◌==◌, ◌||◌, ◌⊎◌, inl, inr, Option, Some, None, refl, sym, ap, ◌∙◌, subst, arith}
use Rattle.std.proofs.lemmas.Bool.{false≢true}
use Rattle.std.proofs.lemmas.Bool.Decides.{nat_tests}
use Rattle.json_token.specs.Number.{is_digit, is_leading, is_mark, after_minus, after_digits, after_whole, next_part, may_end, Leads, IsNumber}
use Rattle.json_token.specs.Grammar.{AreDigits, SomeDigits, IsSigned, EndsInExp, EndsInFrac, IsUnsigned, IsNumeral}
use Rattle.json_token.specs.declared.number.Part.{Part}
use Rattle.json_token.specs.declared.number.Part.TheVariants.{Start, Whole, Zero, Digits, Point, Fraction, Mark, Sign, Exponent}

-- from this part the bytes end a number
abbrev Ends : Part → List ℕ → Type 0
Ends p s = (q : Part) × Leads p s q × (may_end q ≡ true)

chosen : (t : Bool) (x y : Option Part) (r : Part) → cond t x y ≡ Some r → ((t ≡ true) × (x ≡ Some r)) ⊎ ((t ≡ false) × (y ≡ Some r))
chosen true x y r e = inl (refl, e)
chosen false x y r e = inr (refl, e)

to_part : (p q : Part) (s : List ℕ) → Some p ≡ Some q → Ends q s → Ends p s
to_part p q s e h = let same : q ≡ p = cc in let P : Part → Type 0 = λ x. Ends x s in subst P same h

no_part : (q : Part) → None ≡ Some q → ⊥
no_part q e = cc

step : (p q : Part) (b : ℕ) (s : List ℕ) → next_part p b ≡ Some q → Ends q s → Ends p (b ∷ s)
step p q b s e (r, l, m) = (r, (q, e, l), m)

never : (p q : Part) → may_end p ≡ false → Leads p [] q → may_end q ≡ true → ⊥
never p q n l m = false≢true (sym n ∙ (ap may_end l ∙ m))

-- ---- from the parts to the productions

from_exponent : (s : List ℕ) → Ends Exponent s → AreDigits s
unfolding next_part
from_exponent [] h = tt
from_exponent (b ∷ s) (q, l, m) = by (λ h. from_exponent s h) (chosen _ _ _ l.0 l.1)
  where
    by : (Ends Exponent s → AreDigits s) → ((is_digit b ≡ true) × (Some Exponent ≡ Some l.0)) ⊎ ((is_digit b ≡ false) × (None ≡ Some l.0)) → AreDigits (b ∷ s)
    by f (inl w) = (w.0, f (to_part Exponent l.0 s w.1 (q, l.2, m)))
    by f (inr w) = absurd (no_part l.0 w.1)

from_sign : (s : List ℕ) → Ends Sign s → SomeDigits s
unfolding next_part
from_sign [] (q, l, m) = absurd (never Sign q refl l m)
from_sign (b ∷ s) (q, l, m) = by (chosen _ _ _ l.0 l.1)
  where
    by : ((is_digit b ≡ true) × (Some Exponent ≡ Some l.0)) ⊎ ((is_digit b ≡ false) × (None ≡ Some l.0)) → SomeDigits (b ∷ s)
    by (inl w) = (b, s, refl, w.0, from_exponent s (to_part Exponent l.0 s w.1 (q, l.2, m)))
    by (inr w) = absurd (no_part l.0 w.1)

from_mark : (s : List ℕ) → Ends Mark s → IsSigned s
unfolding next_part
from_mark [] (q, l, m) = absurd (never Mark q refl l m)
from_mark (b ∷ s) (q, l, m) = by (chosen _ _ _ l.0 l.1)
  where
    digit : ((is_digit b ≡ true) × (Some Exponent ≡ Some l.0)) ⊎ ((is_digit b ≡ false) × (None ≡ Some l.0)) → IsSigned (b ∷ s)
    digit (inl w) = inl (b, s, refl, w.0, from_exponent s (to_part Exponent l.0 s w.1 (q, l.2, m)))
    digit (inr w) = absurd (no_part l.0 w.1)

    by : ((((b == 43) || (b == 45)) ≡ true) × (Some Sign ≡ Some l.0)) ⊎ ((((b == 43) || (b == 45)) ≡ false) × (cond (is_digit b) (Some Exponent) None ≡ Some l.0)) → IsSigned (b ∷ s)
    by (inl w) = inr (b, s, refl, w.0, from_sign s (to_part Sign l.0 s w.1 (q, l.2, m)))
    by (inr w) = digit (chosen _ _ _ l.0 w.1)

-- behind digits, an exponent or nothing
from_after_digits : (b : ℕ) (s : List ℕ) (p q : Part) → after_digits b ≡ Some p → Leads p s q → may_end q ≡ true → EndsInExp (b ∷ s)
from_after_digits b s p q e l m = by (chosen _ _ _ p e)
  where
    by : ((is_mark b ≡ true) × (Some Mark ≡ Some p)) ⊎ ((is_mark b ≡ false) × (None ≡ Some p)) → EndsInExp (b ∷ s)
    by (inl w) = inr (b, s, refl, w.0, from_mark s (to_part Mark p s w.1 (q, l, m)))
    by (inr w) = absurd (no_part p w.1)

from_fraction : (s : List ℕ) → Ends Fraction s → (ds : List ℕ) × (rest : List ℕ) × (s ≡ ds ++ rest) × AreDigits ds × EndsInExp rest
unfolding next_part
from_fraction [] h = ([], [], refl, tt, inl refl)
from_fraction (b ∷ s) (q, l, m) = by (λ h. from_fraction s h) (chosen _ _ _ l.0 l.1)
  where
    by : (Ends Fraction s → (ds : List ℕ) × (rest : List ℕ) × (s ≡ ds ++ rest) × AreDigits ds × EndsInExp rest) → ((is_digit b ≡ true) × (Some Fraction ≡ Some l.0)) ⊎ ((is_digit b ≡ false) × (after_digits b ≡ Some l.0)) → (ds : List ℕ) × (rest : List ℕ) × (b ∷ s ≡ ds ++ rest) × AreDigits ds × EndsInExp rest
    by f (inl w) = let h = f (to_part Fraction l.0 s w.1 (q, l.2, m)) in (b ∷ h.0, h.1, ap (λ x. b ∷ x) h.2, (w.0, h.3), h.4)
    by f (inr w) = ([], b ∷ s, refl, tt, from_after_digits b s l.0 q w.1 l.2 m)

from_point : (s : List ℕ) → Ends Point s → (ds : List ℕ) × (rest : List ℕ) × (s ≡ ds ++ rest) × SomeDigits ds × EndsInExp rest
unfolding next_part
from_point [] (q, l, m) = absurd (never Point q refl l m)
from_point (b ∷ s) (q, l, m) = by (chosen _ _ _ l.0 l.1)
  where
    by : ((is_digit b ≡ true) × (Some Fraction ≡ Some l.0)) ⊎ ((is_digit b ≡ false) × (None ≡ Some l.0)) → (ds : List ℕ) × (rest : List ℕ) × (b ∷ s ≡ ds ++ rest) × SomeDigits ds × EndsInExp rest
    by (inl w) = let h = from_fraction s (to_part Fraction l.0 s w.1 (q, l.2, m)) in (b ∷ h.0, h.1, ap (λ x. b ∷ x) h.2, (b, h.0, refl, w.0, h.3), h.4)
    by (inr w) = absurd (no_part l.0 w.1)

from_after_whole : (b : ℕ) (s : List ℕ) (p q : Part) → after_whole b ≡ Some p → Leads p s q → may_end q ≡ true → EndsInFrac (b ∷ s)
from_after_whole b s p q e l m = by (chosen _ _ _ p e)
  where
    by : (((b == 46) ≡ true) × (Some Point ≡ Some p)) ⊎ (((b == 46) ≡ false) × (after_digits b ≡ Some p)) → EndsInFrac (b ∷ s)
    by (inl w) = let h = from_point s (to_part Point p s w.1 (q, l, m)) in let dot : b ≡ 46 = let t = w.0 in grind (arith, nat_tests) in inr (h.0, h.1, (λ i. dot i ∷ h.2 i), h.3, h.4)
    by (inr w) = inl (from_after_digits b s p q w.1 l m)

from_zero : (s : List ℕ) → Ends Zero s → EndsInFrac s
unfolding next_part
from_zero [] h = inl (inl refl)
from_zero (b ∷ s) (q, l, m) = from_after_whole b s l.0 q l.1 l.2 m

from_digits : (s : List ℕ) → Ends Digits s → (ds : List ℕ) × (rest : List ℕ) × (s ≡ ds ++ rest) × AreDigits ds × EndsInFrac rest
unfolding next_part
from_digits [] h = ([], [], refl, tt, inl (inl refl))
from_digits (b ∷ s) (q, l, m) = by (λ h. from_digits s h) (chosen _ _ _ l.0 l.1)
  where
    by : (Ends Digits s → (ds : List ℕ) × (rest : List ℕ) × (s ≡ ds ++ rest) × AreDigits ds × EndsInFrac rest) → ((is_digit b ≡ true) × (Some Digits ≡ Some l.0)) ⊎ ((is_digit b ≡ false) × (after_whole b ≡ Some l.0)) → (ds : List ℕ) × (rest : List ℕ) × (b ∷ s ≡ ds ++ rest) × AreDigits ds × EndsInFrac rest
    by f (inl w) = let h = f (to_part Digits l.0 s w.1 (q, l.2, m)) in (b ∷ h.0, h.1, ap (λ x. b ∷ x) h.2, (w.0, h.3), h.4)
    by f (inr w) = ([], b ∷ s, refl, tt, from_after_whole b s l.0 q w.1 l.2 m)

from_after_minus : (b : ℕ) (s : List ℕ) (p q : Part) → after_minus b ≡ Some p → Leads p s q → may_end q ≡ true → IsUnsigned (b ∷ s)
from_after_minus b s p q e l m = by (chosen _ _ _ p e)
  where
    lead : ((is_leading b ≡ true) × (Some Digits ≡ Some p)) ⊎ ((is_leading b ≡ false) × (None ≡ Some p)) → IsUnsigned (b ∷ s)
    lead (inl w) = let h = from_digits s (to_part Digits p s w.1 (q, l, m)) in inr (b, h.0, h.1, ap (λ x. b ∷ x) h.2, w.0, h.3, h.4)
    lead (inr w) = absurd (no_part p w.1)

    by : (((b == 48) ≡ true) × (Some Zero ≡ Some p)) ⊎ (((b == 48) ≡ false) × (cond (is_leading b) (Some Digits) None ≡ Some p)) → IsUnsigned (b ∷ s)
    by (inl w) = let zero_is : b ≡ 48 = let t = w.0 in grind (arith, nat_tests) in inl (s, ap (λ x. x ∷ s) zero_is, from_zero s (to_part Zero p s w.1 (q, l, m)))
    by (inr w) = lead (chosen _ _ _ p w.1)

from_whole : (s : List ℕ) → Ends Whole s → IsUnsigned s
unfolding next_part
from_whole [] (q, l, m) = absurd (never Whole q refl l m)
from_whole (b ∷ s) (q, l, m) = from_after_minus b s l.0 q l.1 l.2 m

pub number_numeral : (s : List ℕ) → IsNumber s → IsNumeral s
unfolding next_part
number_numeral [] (q, l, m) = absurd (never Start q refl l m)
number_numeral (b ∷ s) (q, l, m) = by (chosen _ _ _ l.0 l.1)
  where
    by : (((b == 45) ≡ true) × (Some Whole ≡ Some l.0)) ⊎ (((b == 45) ≡ false) × (after_minus b ≡ Some l.0)) → IsNumeral (b ∷ s)
    by (inl w) = let minus_is : b ≡ 45 = let t = w.0 in grind (arith, nat_tests) in inr (s, ap (λ x. x ∷ s) minus_is, from_whole s (to_part Whole l.0 s w.1 (q, l.2, m)))
    by (inr w) = inl (from_after_minus b s l.0 q w.1 l.2 m)

-- ---- from the productions to the parts

ends_along : (p : Part) (s t : List ℕ) → s ≡ t → Ends p t → Ends p s
ends_along p s t e h = let P : List ℕ → Type 0 = λ x. Ends p x in subst P (sym e) h

to_exponent : (s : List ℕ) → AreDigits s → Ends Exponent s
unfolding next_part
to_exponent [] h = (Exponent, refl, refl)
to_exponent (b ∷ s) h = step Exponent Exponent b s (ap (λ t. cond t (Some Exponent) None) h.0) (to_exponent s h.1)

to_sign : (s : List ℕ) → SomeDigits s → Ends Sign s
unfolding next_part
to_sign s (d, ds, e, i, h) = ends_along Sign s (d ∷ ds) e (step Sign Exponent d ds (ap (λ t. cond t (Some Exponent) None) i) (to_exponent ds h))

digit_no_sign : (d : ℕ) → is_digit d ≡ true → ((d == 43) || (d == 45)) ≡ false
digit_no_sign d e = grind (arith, nat_tests)

to_mark : (s : List ℕ) → IsSigned s → Ends Mark s
unfolding next_part
to_mark s (inl (d, ds, e, i, h)) = ends_along Mark s (d ∷ ds) e (step Mark Exponent d ds (ap (λ t. cond t (Some Sign) (cond (is_digit d) (Some Exponent) None)) (digit_no_sign d i) ∙ ap (λ t. cond t (Some Exponent) None) i) (to_exponent ds h))
to_mark s (inr (sign, ds, e, i, h)) = ends_along Mark s (sign ∷ ds) e (step Mark Sign sign ds (ap (λ t. cond t (Some Sign) (cond (is_digit sign) (Some Exponent) None)) i) (to_sign ds h))

mark_no_digit : (e : ℕ) → is_mark e ≡ true → is_digit e ≡ false
mark_no_digit e h = grind (arith, nat_tests)

mark_no_dot : (e : ℕ) → is_mark e ≡ true → (e == 46) ≡ false
mark_no_dot e h = grind (arith, nat_tests)

to_fraction : (ds rest : List ℕ) → AreDigits ds → EndsInExp rest → Ends Fraction (ds ++ rest)
unfolding next_part
to_fraction [] rest h (inl e) = ends_along Fraction rest [] e (Fraction, refl, refl)
to_fraction [] rest h (inr (e, t, f, i, k)) = ends_along Fraction rest (e ∷ t) f (step Fraction Mark e t (ap (λ x. cond x (Some Fraction) (after_digits e)) (mark_no_digit e i) ∙ ap (λ x. cond x (Some Mark) None) i) (to_mark t k))
to_fraction (d ∷ ds) rest h k = step Fraction Fraction d (ds ++ rest) (ap (λ x. cond x (Some Fraction) (after_digits d)) h.0) (to_fraction ds rest h.1 k)

-- behind an int stands its end
to_frac : (p : Part) (s : List ℕ) → may_end p ≡ true → ((b : ℕ) (q : Part) → is_digit b ≡ false → after_whole b ≡ Some q → next_part p b ≡ Some q) → EndsInFrac s → Ends p s
unfolding next_part
to_frac p s m f (inl (inl e)) = ends_along p s [] e (p, refl, m)
to_frac p s m f (inl (inr (e, t, g, i, k))) = ends_along p s (e ∷ t) g (step p Mark e t (f e Mark (mark_no_digit e i) (ap (λ x. cond x (Some Point) (after_digits e)) (mark_no_dot e i) ∙ ap (λ x. cond x (Some Mark) None) i)) (to_mark t k))
to_frac p s m f (inr (ds, rest, e, (d, more, g, i, h), k)) =
    ends_along p s (46 ∷ (ds ++ rest)) e (step p Point 46 (ds ++ rest) (f 46 Point refl refl)
    (ends_along Point (ds ++ rest) (d ∷ (more ++ rest)) (ap (λ x. x ++ rest) g) (step Point Fraction d (more ++ rest) (ap (λ x. cond x (Some Fraction) None) i) (to_fraction more rest h k))))

to_digits : (ds rest : List ℕ) → AreDigits ds → EndsInFrac rest → Ends Digits (ds ++ rest)
unfolding next_part
to_digits [] rest h k = to_frac Digits rest refl (λ b q n e. ap (λ x. cond x (Some Digits) (after_whole b)) n ∙ e) k
to_digits (d ∷ ds) rest h k = step Digits Digits d (ds ++ rest) (ap (λ x. cond x (Some Digits) (after_whole d)) h.0) (to_digits ds rest h.1 k)

leading_no_zero : (d : ℕ) → is_leading d ≡ true → (d == 48) ≡ false
leading_no_zero d h = grind (arith, nat_tests)

leading_no_minus : (d : ℕ) → is_leading d ≡ true → (d == 45) ≡ false
leading_no_minus d h = grind (arith, nat_tests)

-- a part that goes on as behind the minus
to_unsigned : (p : Part) (s : List ℕ) → ((b : ℕ) (q : Part) → (b == 45) ≡ false → after_minus b ≡ Some q → next_part p b ≡ Some q) → IsUnsigned s → Ends p s
unfolding next_part
to_unsigned p s f (inl (rest, e, k)) = ends_along p s (48 ∷ rest) e (step p Zero 48 rest (f 48 Zero refl refl) (to_frac Zero rest refl (λ b q n g. g) k))
to_unsigned p s f (inr (d, ds, rest, e, i, h, k)) = ends_along p s (d ∷ (ds ++ rest)) e (step p Digits d (ds ++ rest) (f d Digits (leading_no_minus d i) (ap (λ x. cond x (Some Zero) (cond (is_leading d) (Some Digits) None)) (leading_no_zero d i) ∙ ap (λ x. cond x (Some Digits) None) i)) (to_digits ds rest h k))

pub numeral_number : (s : List ℕ) → IsNumeral s → IsNumber s
unfolding next_part
numeral_number s (inl h) = to_unsigned Start s (λ b q n e. ap (λ x. cond x (Some Whole) (after_minus b)) n ∙ e) h
numeral_number s (inr (rest, e, h)) = ends_along Start s (45 ∷ rest) e (step Start Whole 45 rest refl (to_unsigned Whole rest (λ b q n g. g) h))
