-- A JSON text is a list of tokens, with white space before, between and after them (RFC 8259, section 2).
use Rattle.std.specs.Prelude.{◌≡◌, ℕ, List, [], ◌∷◌, ◌++◌, Bool, ◌==◌, ◌||◌, true, ⊤}
use Rattle.json_token.specs.Number.{IsNumber}
use Rattle.json_token.specs.Chars.{IsChars}

-- the six structural characters, the three literal names, a number, a string
pub data Token : Type 0 where
  begin_array : Token
  end_array : Token
  begin_object : Token
  end_object : Token
  comma : Token
  colon : Token
  null_name : Token
  true_name : Token
  false_name : Token
  numeral : List ℕ → Token
  quoted : List ℕ → Token

-- space, tab, line feed and carriage return
abbrev pub is_blank : ℕ → Bool
is_blank b = (b == 32) || ((b == 10) || ((b == 13) || (b == 9)))

-- each byte is white space
abbrev pub AreBlank : List ℕ → Type 0
AreBlank [] = ⊤
AreBlank (b ∷ bs) = (is_blank b ≡ true) × AreBlank bs

-- the bytes of a token
abbrev pub spelled : Token → List ℕ
spelled begin_array = 91 ∷ []
spelled end_array = 93 ∷ []
spelled begin_object = 123 ∷ []
spelled end_object = 125 ∷ []
spelled comma = 44 ∷ []
spelled colon = 58 ∷ []
spelled null_name = 110 ∷ (117 ∷ (108 ∷ (108 ∷ [])))
spelled true_name = 116 ∷ (114 ∷ (117 ∷ (101 ∷ [])))
spelled false_name = 102 ∷ (97 ∷ (108 ∷ (115 ∷ (101 ∷ []))))
spelled (numeral s) = s
spelled (quoted s) = 34 ∷ (s ++ (34 ∷ []))

-- numbers and strings are of their grammars
abbrev pub IsToken : Token → Type 0
IsToken begin_array = ⊤
IsToken end_array = ⊤
IsToken begin_object = ⊤
IsToken end_object = ⊤
IsToken comma = ⊤
IsToken colon = ⊤
IsToken null_name = ⊤
IsToken true_name = ⊤
IsToken false_name = ⊤
IsToken (numeral s) = IsNumber s
IsToken (quoted s) = IsChars s

-- the text has these tokens in order, and besides them white space alone
abbrev pub Laid : List Token → List ℕ → Type 0
Laid [] bytes = AreBlank bytes
Laid (t ∷ ts) bytes = (blanks : List ℕ) × (more : List ℕ) × AreBlank blanks × (bytes ≡ blanks ++ (spelled t ++ more)) × IsToken t × Laid ts more

-- each token is of its grammar
abbrev pub AreTokens : List Token → Type 0
AreTokens [] = ⊤
AreTokens (t ∷ ts) = IsToken t × AreTokens ts
