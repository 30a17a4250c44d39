-- A head at the front of bytes (RFC 9112), by the grammar of `httparse`, and what it tells of its body.
use Rattle.std.specs.Prelude.{◌≡◌, ℕ, ◌≤◌, List, length, map, Result, Ok, Err, Bool, false, ◌&&◌}
use Rattle.httparse.specs.Grammar.{RequestHead, ReadsRequest, print_request}
use Rattle.httparse.specs.Spans.{name_and_value}
use Rattle.http_head.specs.Fields.{asks_interim, frame_of, has_body}
use Rattle.http_head.specs.declared.fields.Framing.{Framing}

-- the longest head
abbrev pub max_head : ℕ
max_head = 16384

-- the bytes begin with this head, which isn't too long
pub record HasHead (bytes : List ℕ) (head : RequestHead) (after : List ℕ) : Type 0 where
  pub reads : ReadsRequest bytes head after
  pub short : length (print_request head) ≤ max_head

-- the bytes begin with no head that isn't too long
abbrev pub HasNoHead : List ℕ → Type 0
HasNoHead bytes = (head : RequestHead) (after : List ℕ) → HasHead bytes head after → ⊥

-- the name and the value of each field
abbrev pub fields_of : RequestHead → List (List ℕ × List ℕ)
fields_of head = map name_and_value head.fields

-- the framing of the body that a head tells, or the status that refuses it
abbrev pub frame : RequestHead → Result Framing ℕ
frame head = frame_of head.minor head.target (fields_of head)

-- a head that isn't refused tells a body
abbrev pub tells_body : Result Framing ℕ → Bool
tells_body (Ok framing) = has_body framing
tells_body (Err code) = false

-- the client may wait for the interim response before it sends the body (RFC 9110, section 10.1.1): HTTP/1.1, the expectation
-- `100-continue`, and a body to come
abbrev pub awaits : RequestHead → Bool
awaits head = asks_interim head.minor (fields_of head) && tells_body (frame head)

-- a whole head that is refused with this status
pub record IsRefused (bytes : List ℕ) (code : ℕ) : Type 0 where
  pub head : RequestHead
  pub after : List ℕ
  pub at : HasHead bytes head after
  pub why : frame head ≡ Err code
