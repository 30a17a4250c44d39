-- The fields of a head, and the framing of the body that they tell (RFC 9110, section 5; RFC 9112, section 6).
use Rattle.std.specs.Prelude.{ℕ, List, [], ◌∷◌, length, map, filter, Option, Some, None, Result, Ok, Err, Bool, true, false, ◌&&◌, ◌||◌, ◌==◌, ◌++◌, not, nat_le, nat_lt, if◌then◌else◌, codes, ◌≤◌, ⊤}
use Rattle.std.specs.List.{list_all, list_any}
use Rattle.std.specs.Str.{bytes_eq}
use Rattle.std.specs.Str.Parse.{digits_value}
use Rattle.std.specs.Char.{to_ascii_lowercase, is_ascii_digit}
use Rattle.http_head.specs.Member.{has_member}
use Rattle.http_head.specs.Asked.{is_served}
use Rattle.http_head.specs.declared.fields.Framing.{Framing}
use Rattle.http_head.specs.declared.fields.Framing.TheVariants.{Length, Chunks}

-- the field has this name, without ASCII case
abbrev pub is_named : List ℕ → List ℕ × List ℕ → Bool
is_named name field = bytes_eq (map to_ascii_lowercase field.0) (map to_ascii_lowercase name)

-- the values of the fields of a name
abbrev pub values_of : List ℕ → List (List ℕ × List ℕ) → List (List ℕ)
values_of name fields = map (λ f. f.1) (filter (is_named name) fields)

-- there is no field of that name
abbrev pub is_absent : List (List ℕ) → Bool
is_absent [] = true
is_absent (v ∷ vs) = false

-- a value and those behind it, joined by commas
abbrev pub joined_from : List ℕ → List (List ℕ) → List ℕ
joined_from v [] = v
joined_from v (w ∷ ws) = joined_from (v ++ (codes "," ++ w)) ws

-- the same, and none where there is no field
abbrev pub joined : List (List ℕ) → Option (List ℕ)
joined [] = None
joined (v ∷ vs) = Some (joined_from v vs)

-- the coding is one that changes the body
abbrev pub is_encoding : List ℕ → Bool
is_encoding v = not (bytes_eq (map to_ascii_lowercase v) (codes "identity"))

-- the largest body
abbrev pub max_body : ℕ
max_body = 8388608

-- the size that one value tells, or its refusal: 400 where it isn't decimal digits, 413 where it is above the largest
abbrev pub size_in : List ℕ → Result ℕ ℕ
size_in digits =
    if not (nat_lt 0 (length digits) && list_all is_ascii_digit digits) then Err 400 else
    if nat_le (digits_value 10 digits) max_body then Ok (digits_value 10 digits) else Err 413

-- the size that the values of Content-Length tell
abbrev pub size_of : List (List ℕ) → Result ℕ ℕ
size_of [] = Ok 0
size_of (v ∷ []) = size_in v
size_of (v ∷ w ∷ vs) = Err 400

-- the framing by a length, or its refusal
abbrev pub by_length : Result ℕ ℕ → Result Framing ℕ
by_length (Ok size) = Ok (Length size)
by_length (Err code) = Err code

-- the framing by one transfer coding: `chunked` in HTTP/1.1, with no Content-Length beside it, and nothing else
unfoldable pub by_coding : ℕ → List ℕ → Bool → Result Framing ℕ
by_coding minor v alone =
    if not (minor == 0) && bytes_eq (map to_ascii_lowercase v) (codes "chunked") && alone then Ok Chunks else Err 400

-- the framing that the values of Transfer-Encoding and of Content-Length tell
abbrev pub framing_of : ℕ → List (List ℕ) → List (List ℕ) → Result Framing ℕ
framing_of minor [] lengths = by_length (size_of lengths)
framing_of minor (v ∷ []) lengths = by_coding minor v (is_absent lengths)
framing_of minor (v ∷ w ∷ vs) lengths = Err 400

-- a length isn't above the largest
abbrev pub FramingFits : Framing → Type 0
FramingFits (Length size) = size ≤ max_body
FramingFits Chunks = ⊤

-- a body follows the head: its length is above 0, or it comes in chunks
abbrev pub has_body : Framing → Bool
has_body (Length size) = nat_lt 0 size
has_body Chunks = true

-- there is one field of that name
abbrev pub is_single : List (List ℕ) → Bool
is_single [] = false
is_single (v ∷ []) = true
is_single (v ∷ w ∷ vs) = false

-- the hosts are as the version asks: HTTP/1.1 has one Host field
abbrev pub is_hosted : ℕ → List (List ℕ × List ℕ) → Bool
is_hosted minor fields = minor == 0 || is_single (values_of (codes "host") fields)

-- the expectation is that of the interim response
abbrev pub is_interim : List ℕ → Bool
is_interim v = bytes_eq (map to_ascii_lowercase v) (codes "100-continue")

-- an HTTP/1.1 request asks for the interim response before its body
abbrev pub asks_interim : ℕ → List (List ℕ × List ℕ) → Bool
asks_interim minor fields = not (minor == 0) && list_any is_interim (values_of (codes "expect") fields)

-- the client closes: HTTP/1.0, or a Connection field has the member `close`
abbrev pub asks_close : ℕ → List (List ℕ × List ℕ) → Bool
asks_close minor fields = minor == 0 || list_any (has_member (codes "close")) (values_of (codes "connection") fields)

-- the most fields of a head
abbrev pub max_fields : ℕ
max_fields = 64

-- the framing of the body that a head tells, or the status that refuses it: the tests stand in their order
unfoldable pub frame_of : ℕ → List ℕ → List (List ℕ × List ℕ) → Result Framing ℕ
frame_of minor target fields =
    if nat_lt max_fields (length fields) then Err 431 else
    if not (is_hosted minor fields) then Err 400 else
    if not (is_served target) then Err 400 else
    framing_of minor (values_of (codes "transfer-encoding") fields) (values_of (codes "content-length") fields)
