-- Where bytes stop being the beginning of a JSON text (RFC 8259, section 2) nested at most 127 levels deep.
use Rattle.std.specs.Prelude.{ℕ, ◌+◌, ◌<◌, List, ◌++◌, length, take, ⊤}
use Rattle.json_span.specs.Json.{Json}
use Rattle.json_span.specs.Text.{IsText}
use Rattle.json_token.specs.declared.error.JsonNo.{JsonNo}
use Rattle.json_token.specs.declared.error.JsonNo.TheVariants.{BadByte, Cut, TooDeep, Want}

-- the greatest depth that is read
abbrev pub max_levels : ℕ
max_levels = 127

-- some JSON text of that depth begins with these bytes
abbrev pub Begins : ℕ → List ℕ → Type 0
Begins levels bytes = (more : List ℕ) × (j : Json) × IsText levels (bytes ++ more) j

-- this byte is the first at which no JSON text goes on, however deep
pub record IsBadByte (bytes : List ℕ) (place : ℕ) : Type 0 where
  pub inside : place < length bytes
  pub before : Begins max_levels (take place bytes)
  pub never : (levels : ℕ) → Begins levels (take (place + 1) bytes) → ⊥

-- the bytes end before a JSON text does
pub record IsCut (bytes : List ℕ) : Type 0 where
  pub before : Begins max_levels bytes
  pub short : (levels : ℕ) (j : Json) → IsText levels bytes j → ⊥

-- at the byte where no JSON text of the greatest depth goes on, a deeper one does
pub record IsTooDeep (bytes : List ℕ) (place : ℕ) : Type 0 where
  pub inside : place < length bytes
  pub before : Begins max_levels (take place bytes)
  pub never : Begins max_levels (take (place + 1) bytes) → ⊥
  pub deeper : (levels : ℕ) × Begins levels (take (place + 1) bytes)

-- the cause of each refusal; want of memory is free
abbrev pub Refuses : List ℕ → JsonNo → Type 0
Refuses bytes (BadByte place) = IsBadByte bytes place
Refuses bytes Cut = IsCut bytes
Refuses bytes TooDeep = (place : ℕ) × IsTooDeep bytes place
Refuses bytes Want = ⊤
