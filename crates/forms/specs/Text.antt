-- The value that bytes are a JSON text of (RFC 8259), nested at most 127 levels deep.
use Rattle.std.specs.Prelude.{ℕ, List, Option}
use Rattle.json_span.specs.Json.{Json}
use Rattle.json_span.specs.Refusals.{max_levels}
use Rattle.forms.specs.decide.Values.{decided_text, found}

-- that value, or none where the bytes are a text of none
abbrev pub value_of : List ℕ → Option Json
value_of bytes = found max_levels bytes (decided_text max_levels bytes)
