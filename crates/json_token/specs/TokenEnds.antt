-- Where white space, a string, a number or a word that begins at a place ends, or why none stands there.
use Rattle.std.specs.Prelude.{◌≡◌, ℕ, suc, ◌+◌, ◌<◌, ◌≤◌, List, ◌∷◌, ◌++◌, length, drop, get_or, Bool, true, false, ◌||◌, ◌==◌, None}
use Rattle.json_token.specs.Tokens.{AreBlank, is_blank}
use Rattle.json_token.specs.Chars.{IsChars, next_inside}
use Rattle.json_token.specs.Chars as chars
use Rattle.json_token.specs.Number.{next_part, may_end, is_digit}
use Rattle.json_token.specs.Number as number
use Rattle.json_token.specs.Scans.{StopsAt}
use Rattle.json_token.specs.declared.chars.Inside.{Inside}
use Rattle.json_token.specs.declared.chars.Inside.TheVariants.{Plain}
use Rattle.json_token.specs.declared.number.Part.{Part}
use Rattle.json_token.specs.declared.number.Part.TheVariants.{Start}
use Rattle.json_token.specs.declared.error.JsonNo.{JsonNo}
use Rattle.json_token.specs.declared.error.JsonNo.TheVariants.{BadByte, Cut, TooDeep, Want}

-- white space was passed
pub record Skips (bytes : List ℕ) (from to : ℕ) : Type 0 where
  pub blanks : List ℕ
  pub blank : AreBlank blanks
  pub split : drop from bytes ≡ blanks ++ drop to bytes
  pub moved : to ≡ from + length blanks
  pub inside : to ≤ length bytes
  pub stops : to < length bytes → is_blank (get_or bytes to 0) ≡ false

-- a string stands at the place
pub record QuotedTo (bytes : List ℕ) (from to : ℕ) : Type 0 where
  pub s : List ℕ
  pub valid : IsChars s
  pub split : drop from bytes ≡ 34 ∷ (s ++ (34 ∷ drop to bytes))
  pub moved : to ≡ from + (length s + 2)
  pub inside : to ≤ length bytes

pub record QuotedBreaks (bytes : List ℕ) (from place : ℕ) : Type 0 where
  pub p : List ℕ
  pub b : ℕ
  pub rest : List ℕ
  pub last : Inside
  pub split : drop from bytes ≡ 34 ∷ (p ++ (b ∷ rest))
  pub leads : chars.Leads Plain p last
  pub stops : next_inside last b ≡ None
  pub no_quote : last ≡ Plain → b ≡ 34 → ⊥
  pub at : place ≡ from + suc (length p)

pub record QuotedCut (bytes : List ℕ) (from : ℕ) : Type 0 where
  pub p : List ℕ
  pub last : Inside
  pub split : drop from bytes ≡ 34 ∷ p
  pub leads : chars.Leads Plain p last

-- no string stands at the place
abbrev pub QuotedFails : List ℕ → ℕ → JsonNo → Type 0
QuotedFails bytes from (BadByte place) = QuotedBreaks bytes from place
QuotedFails bytes from Cut = QuotedCut bytes from
QuotedFails bytes from TooDeep = ⊥
QuotedFails bytes from Want = ⊥

-- the first byte of a number
abbrev pub begins_number : ℕ → Bool
begins_number b = (b == 45) || is_digit b

-- a number stands at the place
pub record NumberTo (bytes : List ℕ) (from to : ℕ) : Type 0 where
  pub b : ℕ
  pub s : List ℕ
  pub last : Part
  pub begins : begins_number b ≡ true
  pub split : drop from bytes ≡ b ∷ (s ++ drop to bytes)
  pub leads : number.Leads Start (b ∷ s) last
  pub ends : may_end last ≡ true
  pub stops : StopsAt last (drop to bytes)
  pub moved : to ≡ from + length (b ∷ s)
  pub inside : to ≤ length bytes

pub record NumberBreaks (bytes : List ℕ) (from place : ℕ) : Type 0 where
  pub a : ℕ
  pub p : List ℕ
  pub b : ℕ
  pub rest : List ℕ
  pub last : Part
  pub begins : begins_number a ≡ true
  pub split : drop from bytes ≡ a ∷ (p ++ (b ∷ rest))
  pub leads : number.Leads Start (a ∷ p) last
  pub partial : may_end last ≡ false
  pub stops : next_part last b ≡ None
  pub at : place ≡ from + length (a ∷ p)

pub record NumberCut (bytes : List ℕ) (from : ℕ) : Type 0 where
  pub a : ℕ
  pub p : List ℕ
  pub last : Part
  pub begins : begins_number a ≡ true
  pub split : drop from bytes ≡ a ∷ p
  pub leads : number.Leads Start (a ∷ p) last
  pub partial : may_end last ≡ false

-- no number stands at the place
abbrev pub NumberFails : List ℕ → ℕ → JsonNo → Type 0
NumberFails bytes from (BadByte place) = NumberBreaks bytes from place
NumberFails bytes from Cut = NumberCut bytes from
NumberFails bytes from TooDeep = ⊥
NumberFails bytes from Want = ⊥

-- the word stands at the place
pub record WordTo (bytes word : List ℕ) (from to : ℕ) : Type 0 where
  pub split : drop from bytes ≡ word ++ drop to bytes
  pub moved : to ≡ from + length word
  pub inside : to ≤ length bytes

pub record WordBreaks (bytes word : List ℕ) (from place : ℕ) : Type 0 where
  pub p : List ℕ
  pub c : ℕ
  pub s : List ℕ
  pub b : ℕ
  pub rest : List ℕ
  pub word_is : word ≡ p ++ (c ∷ s)
  pub split : drop from bytes ≡ p ++ (b ∷ rest)
  pub other : b ≡ c → ⊥
  pub at : place ≡ from + length p

pub record WordCut (bytes word : List ℕ) (from : ℕ) : Type 0 where
  pub p : List ℕ
  pub c : ℕ
  pub s : List ℕ
  pub word_is : word ≡ p ++ (c ∷ s)
  pub split : drop from bytes ≡ p

-- the word doesn't stand at the place
abbrev pub WordFails : List ℕ → List ℕ → ℕ → JsonNo → Type 0
WordFails bytes word from (BadByte place) = WordBreaks bytes word from place
WordFails bytes word from Cut = WordCut bytes word from
WordFails bytes word from TooDeep = ⊥
WordFails bytes word from Want = ⊥
