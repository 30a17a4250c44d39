-- How far a number or the bytes of a string go (RFC 8259, sections 6 and 7). Only private clauses cite it.
use Rattle.std.specs.Prelude.{◌≡◌, ℕ, ◌<◌, ◌≤◌, List, [], ◌∷◌, length, take, drop, get_or, Bool, true, false, None, ⊤}
use Rattle.json_token.specs.declared.scan.Scan.{Scan}
use Rattle.json_token.specs.declared.scan.Scan.TheVariants.{End, Bad, Short}
use Rattle.json_token.specs.declared.number.Part.{Part}
use Rattle.json_token.specs.declared.number.Part.TheVariants.{Start}
use Rattle.json_token.specs.declared.chars.Inside.{Inside}
use Rattle.json_token.specs.declared.chars.Inside.TheVariants.{Plain}
use Rattle.json_token.specs.Number as number
use Rattle.json_token.specs.Chars as chars

-- the number doesn't go on with these bytes
abbrev pub StopsAt : Part → List ℕ → Type 0
StopsAt q [] = ⊤
StopsAt q (b ∷ bs) = number.next_part q b ≡ None

pub record EndsNumber (bytes : List ℕ) (n : ℕ) : Type 0 where
  pub inside : n ≤ length bytes
  pub last : Part
  pub leads : number.Leads Start (take n bytes) last
  pub may_end : number.may_end last ≡ true
  pub stops : StopsAt last (drop n bytes)

pub record BreaksNumber (bytes : List ℕ) (n : ℕ) : Type 0 where
  pub inside : n < length bytes
  pub last : Part
  pub leads : number.Leads Start (take n bytes) last
  pub may_end : number.may_end last ≡ false
  pub stops : number.next_part last (get_or bytes n 0) ≡ None

pub record CutsNumber (bytes : List ℕ) : Type 0 where
  pub last : Part
  pub leads : number.Leads Start bytes last
  pub may_end : number.may_end last ≡ false

abbrev pub ScansNumber : List ℕ → Scan → Type 0
ScansNumber bytes (End n) = EndsNumber bytes n
ScansNumber bytes (Bad n) = BreaksNumber bytes n
ScansNumber bytes Short = CutsNumber bytes

pub record EndsChars (bytes : List ℕ) (n : ℕ) : Type 0 where
  pub inside : n < length bytes
  pub leads : chars.Leads Plain (take n bytes) Plain
  pub quote : get_or bytes n 0 ≡ 34

pub record BreaksChars (bytes : List ℕ) (n : ℕ) : Type 0 where
  pub inside : n < length bytes
  pub last : Inside
  pub leads : chars.Leads Plain (take n bytes) last
  pub stops : chars.next_inside last (get_or bytes n 0) ≡ None
  pub no_quote : last ≡ Plain → get_or bytes n 0 ≡ 34 → ⊥

pub record CutsChars (bytes : List ℕ) : Type 0 where
  pub last : Inside
  pub leads : chars.Leads Plain bytes last

abbrev pub ScansChars : List ℕ → Scan → Type 0
ScansChars bytes (End n) = EndsChars bytes n
ScansChars bytes (Bad n) = BreaksChars bytes n
ScansChars bytes Short = CutsChars bytes

-- only where the mark is set, a backslash is among the characters up to the end
abbrev pub MarksEscapes : List ℕ → Scan → Bool → Type 0
MarksEscapes bytes (End n) marked = marked ≡ false → chars.has_backslash (take n bytes) ≡ false
MarksEscapes bytes (Bad n) marked = ⊤
MarksEscapes bytes Short marked = ⊤
