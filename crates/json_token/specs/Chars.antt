-- What stands between the quotes of a string (RFC 8259, section 7), in UTF-8 (RFC 3629, section 4), as a right-linear
-- grammar: each place says which byte may come next. The escape of a surrogate stands only in a pair.
use Rattle.std.specs.Prelude.{◌≡◌, ℕ, ◌+◌, ◌-◌, ◌*◌, List, [], ◌∷◌, ◌++◌, Bool, cond, ◌==◌, nat_lt, nat_le, ◌&&◌, ◌||◌, Option, Some, None}
use Rattle.std.specs.List.{list_any}
use Rattle.std.specs.Char.{digit_value, encode_utf8}
use lib.Utf8.{scalar}
use Rattle.json_token.specs.declared.chars.Inside.{Inside}
use Rattle.json_token.specs.declared.chars.Inside.TheVariants.{Plain, Tail1, Tail2, Tail3, AfterE0, AfterEd, AfterF0, AfterF4, Escape, Unit4, Unit3, Unit2, Unit1, UnitD, High2, High1, LowSlash, LowU, LowD, LowC}

abbrev pub within : ℕ → ℕ → ℕ → Bool
within low high b = nat_le low b && nat_le b high

abbrev pub goes : Bool → Inside → Option Inside
goes test to = cond test (Some to) None

-- 0-9, A-F, a-f
abbrev pub is_hex : ℕ → Bool
is_hex b = within 48 57 b || (within 65 70 b || within 97 102 b)

-- d and D
abbrev pub is_d : ℕ → Bool
is_d b = (b == 68) || (b == 100)

-- C to F
abbrev pub is_c_to_f : ℕ → Bool
is_c_to_f b = within 67 70 b || within 99 102 b

-- 8, 9, A, B
abbrev pub is_8_to_b : ℕ → Bool
is_8_to_b b = within 56 57 b || (within 65 66 b || within 97 98 b)

-- behind a backslash: " \ / b f n r t
abbrev pub is_short : ℕ → Bool
is_short b = (b == 34) || ((b == 92) || ((b == 47) || ((b == 98) || ((b == 102) || ((b == 110) || ((b == 114) || (b == 116)))))))

-- the first byte of a character past ASCII (RFC 3629, section 4)
abbrev pub after_lead : ℕ → Option Inside
after_lead b =
    cond (nat_lt b 194) None (cond (nat_lt b 224) (Some Tail1) (cond (b == 224) (Some AfterE0) (cond (b == 237) (Some AfterEd)
    (cond (nat_lt b 240) (Some Tail2) (cond (b == 240) (Some AfterF0) (cond (nat_lt b 244) (Some Tail3) (cond (b == 244) (Some AfterF4) None)))))))

-- a character: no control, no quote
abbrev pub after_plain : ℕ → Option Inside
after_plain b = cond (nat_lt b 32) None (cond (b == 34) None (cond (b == 92) (Some Escape) (cond (nat_lt b 128) (Some Plain) (after_lead b))))

-- a byte that stands for itself: printable ASCII but the quote and the backslash
abbrev pub is_plain : ℕ → Bool
is_plain b = within 32 33 b || (within 35 91 b || within 93 127 b)

-- whether a backslash is among the bytes
abbrev pub has_backslash : List ℕ → Bool
has_backslash s = list_any (λ b. b == 92) s

-- the place after the byte b
unfoldable pub next_inside : Inside → ℕ → Option Inside
next_inside Plain b = after_plain b
next_inside Tail1 b = goes (within 128 191 b) Plain
next_inside Tail2 b = goes (within 128 191 b) Tail1
next_inside Tail3 b = goes (within 128 191 b) Tail2
next_inside AfterE0 b = goes (within 160 191 b) Tail1
next_inside AfterEd b = goes (within 128 159 b) Tail1
next_inside AfterF0 b = goes (within 144 191 b) Tail2
next_inside AfterF4 b = goes (within 128 143 b) Tail2
next_inside Escape b = cond (b == 117) (Some Unit4) (goes (is_short b) Plain)
next_inside Unit4 b = cond (is_d b) (Some UnitD) (goes (is_hex b) Unit3)
next_inside Unit3 b = goes (is_hex b) Unit2
next_inside Unit2 b = goes (is_hex b) Unit1
next_inside Unit1 b = goes (is_hex b) Plain
next_inside UnitD b = cond (within 48 55 b) (Some Unit2) (goes (is_8_to_b b) High2)
next_inside High2 b = goes (is_hex b) High1
next_inside High1 b = goes (is_hex b) LowSlash
next_inside LowSlash b = goes (b == 92) LowU
next_inside LowU b = goes (b == 117) LowD
next_inside LowD b = goes (is_d b) LowC
next_inside LowC b = goes (is_c_to_f b) Unit2

-- from this place the bytes lead to that one
abbrev pub Leads : Inside → List ℕ → Inside → Type 0
Leads p [] q = p ≡ q
Leads p (b ∷ s) q = (r : Inside) × (next_inside p b ≡ Some r) × Leads r s q

-- *char
abbrev pub IsChars : List ℕ → Type 0
IsChars s = Leads Plain s Plain

-- what a backslash and a byte other than u stand for
abbrev pub short_escape : ℕ → ℕ
short_escape x = cond (x == 98) 8 (cond (x == 102) 12 (cond (x == 110) 10 (cond (x == 114) 13 (cond (x == 116) 9 x))))

-- the code unit of four hexadecimal digits
abbrev pub code_unit : ℕ → ℕ → ℕ → ℕ → ℕ
code_unit a b c d = digit_value a * 4096 + digit_value b * 256 + digit_value c * 16 + digit_value d

abbrev pub is_high : ℕ → Bool
is_high u = within 0xd800 0xdbff u

abbrev pub pair_of : ℕ → ℕ → ℕ
pair_of high low = 0x10000 + (high - 0xd800) * 1024 + (low - 0xdc00)

-- the character in UTF-8
abbrev pub char_bytes : ℕ → List ℕ
char_bytes c = cond (scalar c) (encode_utf8 c) []

pub data Behind : Type 0 where
  anything : Behind
  backslash : Behind
  letter_u : Behind
  high : ℕ → Behind

-- the bytes that the spelled ones stand for, behind what was read last
unfoldable pub content_behind : Behind → List ℕ → List ℕ
content_behind anything [] = []
content_behind anything (x ∷ s) = cond (x == 92) (content_behind backslash s) (x ∷ content_behind anything s)
content_behind backslash [] = []
content_behind backslash (x ∷ s) = cond (x == 117) (content_behind letter_u s) (short_escape x ∷ content_behind anything s)
content_behind letter_u [] = []
content_behind letter_u (a ∷ []) = []
content_behind letter_u (a ∷ (b ∷ [])) = []
content_behind letter_u (a ∷ (b ∷ (c ∷ []))) = []
content_behind letter_u (a ∷ (b ∷ (c ∷ (d ∷ s)))) =
    cond (is_high (code_unit a b c d)) (content_behind (high (code_unit a b c d)) s) (char_bytes (code_unit a b c d) ++ content_behind anything s)
content_behind (high h) [] = []
content_behind (high h) (u ∷ []) = []
content_behind (high h) (u ∷ (v ∷ [])) = []
content_behind (high h) (u ∷ (v ∷ (a ∷ []))) = []
content_behind (high h) (u ∷ (v ∷ (a ∷ (b ∷ [])))) = []
content_behind (high h) (u ∷ (v ∷ (a ∷ (b ∷ (c ∷ []))))) = []
content_behind (high h) (u ∷ (v ∷ (a ∷ (b ∷ (c ∷ (d ∷ s)))))) = char_bytes (pair_of h (code_unit a b c d)) ++ content_behind anything s

-- the bytes that the characters of a string stand for
abbrev pub content : List ℕ → List ℕ
content s = content_behind anything s
