-- A JSON text (RFC 8259, section 2) is the tokens of a value, with white space before, between and after them.
use Rattle.std.specs.Prelude.{ℕ, List}
use Rattle.std.specs.List.{flat_map}
use Rattle.json_span.specs.Json.{Json, tokens, IsWithin}
use Rattle.json_token.specs.Tokens.{spelled, Laid}

-- the bytes are a JSON text of this value, nested at most so many levels deep
abbrev pub IsText : ℕ → List ℕ → Json → Type 0
IsText levels bytes j = IsWithin levels j × Laid (tokens j) bytes

-- the value's text without white space between tokens
abbrev pub compact : Json → List ℕ
compact j = flat_map spelled (tokens j)
