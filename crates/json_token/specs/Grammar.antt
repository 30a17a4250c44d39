-- The grammar of a number in the form of RFC 8259, section 6: number = [ minus ] int [ frac ] [ exp ].
use Rattle.std.specs.Prelude.{◌≡◌, ℕ, List, [], ◌∷◌, ◌++◌, true, ◌==◌, ◌||◌, ◌⊎◌, ⊤}
use Rattle.json_token.specs.Number.{is_digit, is_leading, is_mark}

-- *DIGIT
abbrev pub AreDigits : List ℕ → Type 0
AreDigits [] = ⊤
AreDigits (d ∷ ds) = (is_digit d ≡ true) × AreDigits ds

-- 1*DIGIT
abbrev pub SomeDigits : List ℕ → Type 0
SomeDigits s = (d : ℕ) × (ds : List ℕ) × (s ≡ d ∷ ds) × (is_digit d ≡ true) × AreDigits ds

-- [ minus / plus ] 1*DIGIT
abbrev pub IsSigned : List ℕ → Type 0
IsSigned s = SomeDigits s ⊎ ((sign : ℕ) × (ds : List ℕ) × (s ≡ sign ∷ ds) × (((sign == 43) || (sign == 45)) ≡ true) × SomeDigits ds)

-- [ exp ], where exp = e [ minus / plus ] 1*DIGIT
abbrev pub EndsInExp : List ℕ → Type 0
EndsInExp s = (s ≡ []) ⊎ ((e : ℕ) × (rest : List ℕ) × (s ≡ e ∷ rest) × (is_mark e ≡ true) × IsSigned rest)

-- [ frac ] [ exp ], where frac = decimal-point 1*DIGIT
abbrev pub EndsInFrac : List ℕ → Type 0
EndsInFrac s = EndsInExp s ⊎ ((ds : List ℕ) × (rest : List ℕ) × (s ≡ 46 ∷ (ds ++ rest)) × SomeDigits ds × EndsInExp rest)

-- int [ frac ] [ exp ], where int = zero / ( digit1-9 *DIGIT )
abbrev pub IsUnsigned : List ℕ → Type 0
IsUnsigned s = ((rest : List ℕ) × (s ≡ 48 ∷ rest) × EndsInFrac rest) ⊎ ((d : ℕ) × (ds : List ℕ) × (rest : List ℕ) × (s ≡ d ∷ (ds ++ rest)) × (is_leading d ≡ true) × AreDigits ds × EndsInFrac rest)

-- [ minus ] int [ frac ] [ exp ]
abbrev pub IsNumeral : List ℕ → Type 0
IsNumeral s = IsUnsigned s ⊎ ((rest : List ℕ) × (s ≡ 45 ∷ rest) × IsUnsigned rest)
