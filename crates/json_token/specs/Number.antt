-- The text of a number (RFC 8259, section 6), as a right-linear grammar: each part says which byte may come next.
use Rattle.std.specs.Prelude.{◌≡◌, ℕ, List, [], ◌∷◌, Bool, true, false, cond, ◌==◌, nat_lt, nat_le, ◌&&◌, ◌||◌, Option, Some, None}
use Rattle.json_token.specs.declared.number.Part.{Part}
use Rattle.json_token.specs.declared.number.Part.TheVariants.{Start, Whole, Zero, Digits, Point, Fraction, Mark, Sign, Exponent}

abbrev pub is_digit : ℕ → Bool
is_digit b = nat_le 48 b && nat_lt b 58

-- 1 to 9
abbrev pub is_leading : ℕ → Bool
is_leading b = nat_le 49 b && nat_lt b 58

-- e and E
abbrev pub is_mark : ℕ → Bool
is_mark b = (b == 101) || (b == 69)

-- int = zero / ( digit1-9 *DIGIT )
abbrev pub after_minus : ℕ → Option Part
after_minus b = cond (b == 48) (Some Zero) (cond (is_leading b) (Some Digits) None)

-- an exponent, or nothing
abbrev pub after_digits : ℕ → Option Part
after_digits b = cond (is_mark b) (Some Mark) None

-- a fraction, an exponent, or nothing
abbrev pub after_whole : ℕ → Option Part
after_whole b = cond (b == 46) (Some Point) (after_digits b)

-- the part after the byte b
unfoldable pub next_part : Part → ℕ → Option Part
next_part Start b = cond (b == 45) (Some Whole) (after_minus b)
next_part Whole b = after_minus b
next_part Zero b = after_whole b
next_part Digits b = cond (is_digit b) (Some Digits) (after_whole b)
next_part Point b = cond (is_digit b) (Some Fraction) None
next_part Fraction b = cond (is_digit b) (Some Fraction) (after_digits b)
next_part Mark b = cond ((b == 43) || (b == 45)) (Some Sign) (cond (is_digit b) (Some Exponent) None)
next_part Sign b = cond (is_digit b) (Some Exponent) None
next_part Exponent b = cond (is_digit b) (Some Exponent) None

-- the number may end here
abbrev pub may_end : Part → Bool
may_end Start = false
may_end Whole = false
may_end Zero = true
may_end Digits = true
may_end Point = false
may_end Fraction = true
may_end Mark = false
may_end Sign = false
may_end Exponent = true

-- from this part the bytes lead to that one
abbrev pub Leads : Part → List ℕ → Part → Type 0
Leads p [] q = p ≡ q
Leads p (b ∷ s) q = (r : Part) × (next_part p b ≡ Some r) × Leads r s q

-- number = [ minus ] int [ frac ] [ exp ]
abbrev pub IsNumber : List ℕ → Type 0
IsNumber s = (q : Part) × Leads Start s q × (may_end q ≡ true)
