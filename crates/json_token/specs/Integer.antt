-- The integer that a number's text is, where it is one (RFC 8259, section 6).
use Rattle.std.specs.Prelude.{ℕ, ◌+◌, ◌-◌, ◌*◌, List, [], ◌∷◌, length, fold, if◌then◌else◌, ◌&&◌, ◌==◌, nat_le, Option, Some, None, pos, ℤ}
use Rattle.std.specs.Prelude.{neg_ℤ}
use Rattle.std.specs.List.{list_all}
use Rattle.json_token.specs.Number.{is_digit}

-- the number that decimal digits spell
abbrev pub decimal : List ℕ → ℕ
decimal digits = fold (λ n d. n * 10 + (d - 48)) 0 digits

-- what digits alone spell, at most 38 of them
abbrev pub magnitude_of : List ℕ → Option ℕ
magnitude_of digits = if list_all is_digit digits && nat_le (length digits) 38 then Some (decimal digits) else None

abbrev pub above : Option ℕ → Option ℤ
above None = None
above (Some n) = Some (pos n)

abbrev pub below : Option ℕ → Option ℤ
below None = None
below (Some n) = Some (neg_ℤ (pos n))

-- none where the text has a fraction, an exponent or more than 38 digits
abbrev pub integer_of : List ℕ → Option ℤ
integer_of [] = None
integer_of (b ∷ digits) = if b == 45 then below (magnitude_of digits) else above (magnitude_of (b ∷ digits))
