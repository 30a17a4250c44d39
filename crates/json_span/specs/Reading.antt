-- From what was read of the bytes to what completes them to a JSON text. Only private clauses cite it.
use Rattle.std.specs.Prelude.{ℕ, ◌+◌, ◌≤◌, List, ◌++◌, length, take, drop, Option, Some, None, ⊤}
use Rattle.json_span.specs.Json.{Json}
use Rattle.json_token.specs.Tokens.{Token, Laid}
use Rattle.json_span.specs.Text.{IsText}
use Rattle.json_token.specs.Scans.{StopsAt}
use Rattle.json_span.specs.Ahead.{Ahead}
use Rattle.json_token.specs.declared.number.Part.{Part}

-- these bytes are the tokens of one of the lists that R completes to the value
pub record Bytes (R : List Token → Json → Type 0) (bytes : List ℕ) (j : Json) : Type 0 where
  pub ts : List Token
  pub ahead : R ts j
  pub laid : Laid ts bytes

-- behind a number no byte comes that goes on with it
abbrev pub Follow : Option Part → List ℕ → Type 0
Follow None w = ⊤
Follow (Some q) w = StopsAt q w

-- the texts that begin with the front are those that R completes; `extra` levels are allowed beyond the limit
pub record Reads (front : List ℕ) (o : Option Part) (R : Ahead) : Type 0 where
  pub forth : (extra : ℕ) (w : List ℕ) (j : Json) → Follow o w → IsText (127 + extra) (front ++ w) j → Bytes (R extra) w j
  pub back : (extra : ℕ) (w : List ℕ) (j : Json) → Follow o w → Bytes (R extra) w j → IsText (127 + extra) (front ++ w) j

-- the bytes before the place are read, and R completes them
pub record ReadsTo (bytes : List ℕ) (place : ℕ) (R : Ahead) : Type 0 where
  pub inside : place ≤ length bytes
  pub last : Option Part
  pub reads : Reads (take place bytes) last R
  pub follow : Follow last (drop place bytes)
