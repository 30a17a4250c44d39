-- The requests of a stream of bytes (RFC 9112). A head is judged by the grammar of `httparse`.
use Rattle.std.specs.Prelude.{◌≡◌, ℕ, ◌+◌, ◌<◌, ◌≤◌, ◌⊎◌, ◌==◌, Bool, true, false, List, [], ◌∷◌, ◌++◌, length, Ok, codes, ⊤}
use Rattle.std.specs.List.{list_any, before_first, after_first}
use Rattle.httparse.specs.Grammar.{RequestHead, NeverHasRequest, EndsInTarget, MayBecomeRequest}
use Rattle.rest_codes.specs.declared.response.Reply.{Reply}
use Rattle.rest_codes.specs.Errors.{refusal_of}
use Rattle.http_head.specs.Asked.{asked_in}
use Rattle.http_head.specs.Fields.{values_of, joined, is_encoding, asks_close}
use Rattle.http_head.specs.Head.{max_head, HasHead, HasNoHead, IsRefused, awaits, fields_of, frame}
use Rattle.http_head.specs.declared.fields.Framing.{Framing}
use Rattle.body_read.specs.Chunks.{Outcome}
use Rattle.body_read.specs.Body.{BodyIs}
use Rattle.http_conn.specs.declared.request.Request.{Request}

-- the most requests of a connection
abbrev pub max_requests : ℕ
max_requests = 100000

-- the mark between a path and its query
abbrev pub is_mark : ℕ → Bool
is_mark b = b == 63

-- the bytes begin with a head that is served, and this comes of the body that the head tells
pub record HasBody (bytes : List ℕ) (outcome : Outcome) : Type 0 where
  pub head : RequestHead
  pub after : List ℕ
  pub framing : Framing
  pub at : HasHead bytes head after
  pub told : frame head ≡ Ok framing
  pub body : BodyIs framing after outcome

-- what a request takes of its head
pub record Asks (head : RequestHead) (request : Request) : Type 0 where
  pub method : request.method ≡ head.method
  pub path : request.path ≡ before_first is_mark (asked_in head.target)
  pub query : request.query ≡ after_first is_mark (asked_in head.target)
  pub accept : request.accept ≡ joined (values_of (codes "accept") (fields_of head))
  pub content_type : request.content_type ≡ joined (values_of (codes "content-type") (fields_of head))
  pub encoded : request.encoded ≡ list_any is_encoding (values_of (codes "content-encoding") (fields_of head))
  pub close : request.close ≡ asks_close head.minor (fields_of head)
  pub expects : request.expects ≡ awaits head

-- the bytes begin with this request: its head, and its body whole
pub record IsRequest (bytes : List ℕ) (request : Request) (rest : List ℕ) : Type 0 where
  pub whole : HasBody bytes (Outcome.Whole request.body rest)
  pub asks : Asks whole.head request

-- a front of the bytes shorter than the longest head can't become a head, whatever follows.
-- A front that ends inside a target decides nothing.
pub record IsHopeless (bytes : List ℕ) : Type 0 where
  pub front : List ℕ
  pub behind : List ℕ
  pub parts : bytes ≡ front ++ behind
  pub short : length front < max_head
  pub never : NeverHasRequest front
  pub decided : EndsInTarget front → ⊥

-- as many bytes as a head may have hold none, and each shorter front of them may become one
pub record IsTooLong (bytes : List ℕ) : Type 0 where
  pub long : max_head ≤ length bytes
  pub none : HasNoHead bytes
  pub hope : IsHopeless bytes → ⊥

-- No head that is served can stand here, and this is the status: that of a whole head that is refused, 431 where no head ends in as
-- many bytes as one may have, 400 where the bytes can't become a head.
abbrev pub IsBadHead : List ℕ → ℕ → Type 0
IsBadHead bytes code = IsRefused bytes code ⊎ ((IsTooLong bytes × (code ≡ 431)) ⊎ (IsHopeless bytes × (code ≡ 400)))

-- no request can stand here, and this is the status: that of the head, or that of a body that is refused
abbrev pub IsBadPlace : List ℕ → ℕ → Type 0
IsBadPlace bytes code = IsBadHead bytes code ⊎ HasBody bytes (Outcome.Refused code)

-- the place is bad, and is answered so
abbrev pub IsBad : List ℕ → Reply → Type 0
IsBad bytes reply = (code : ℕ) × IsBadPlace bytes code × (reply ≡ refusal_of code)

-- the bytes end inside the body of a request
abbrev pub IsCutBody : List ℕ → Type 0
IsCutBody bytes = HasBody bytes Outcome.Short

-- the bytes end inside a head that may still become one
pub record IsCutHead (bytes : List ℕ) : Type 0 where
  pub some : 0 < length bytes
  pub short : length bytes < max_head
  pub none : HasNoHead bytes
  pub may : MayBecomeRequest bytes

-- the bytes end inside a request
abbrev pub IsCut : List ℕ → Type 0
IsCut bytes = IsCutBody bytes ⊎ IsCutHead bytes

-- The interim response is due for the request at the front: its head is whole and isn't refused, and the client may wait for that
-- response before it sends the body.
pub record IsDue (bytes : List ℕ) : Type 0 where
  pub head : RequestHead
  pub after : List ℕ
  pub at : HasHead bytes head after
  pub waits : awaits head ≡ true

-- the interim response (RFC 9110, section 15.2.1)
abbrev pub interim_bytes : List ℕ
interim_bytes = codes "HTTP/1.1 100 Continue\r\n\r\n"

-- the interim response is due, or isn't
abbrev pub DueIs : List ℕ → Bool → Type 0
DueIs bytes true = IsDue bytes
DueIs bytes false = IsDue bytes → ⊥

-- Why a stream isn't read further. `due` says that the interim response was due for the request in which it ends.
pub data Ending : Type 0 where
  End Closed Limit : Ending
  CutShort : (due : Bool) → Ending
  BadPlace : (due : Bool) → Reply → Ending

-- the last of the requests closes
abbrev pub is_closed : List Request → Bool
is_closed [] = false
is_closed (r ∷ []) = r.close
is_closed (r ∷ q ∷ rs) = is_closed (q ∷ rs)

-- What stands behind the first n requests, of which the last closes or doesn't. The limit comes before what the last one asks.
abbrev pub EndsBehind : ℕ → Bool → List ℕ → Ending → Type 0
EndsBehind n closed rest End = (n < max_requests) × (closed ≡ false) × (rest ≡ [])
EndsBehind n closed rest Closed = (n < max_requests) × (closed ≡ true)
EndsBehind n closed rest Limit = n ≡ max_requests
EndsBehind n closed rest (CutShort due) = (n < max_requests) × (closed ≡ false) × DueIs rest due × IsCut rest
EndsBehind n closed rest (BadPlace due reply) = (n < max_requests) × (closed ≡ false) × DueIs rest due × IsBad rest reply

-- behind a request that closes there is no other
abbrev pub GoesOn : Request → List Request → Type 0
GoesOn r [] = ⊤
GoesOn r (q ∷ rs) = r.close ≡ false

-- the bytes begin with these requests, behind n others, and the rest follows
abbrev pub Begins : ℕ → List ℕ → List Request → List ℕ → Type 0
Begins n bytes [] rest = bytes ≡ rest
Begins n bytes (r ∷ rs) rest = ((n < max_requests) × GoesOn r rs) × ((mid : List ℕ) × IsRequest bytes r mid × Begins (n + 1) mid rs rest)

-- the requests of the bytes, and why there is no further one
pub record Stream (bytes : List ℕ) (requests : List Request) (ending : Ending) : Type 0 where
  pub rest : List ℕ
  pub begins : Begins 0 bytes requests rest
  pub ends : EndsBehind (length requests) (is_closed requests) rest ending

-- all whole requests of the bytes, of which the last doesn't close, and of what is behind them nothing can be said yet
pub record StreamSoFar (bytes : List ℕ) (requests : List Request) : Type 0 where
  pub rest : List ℕ
  pub begins : Begins 0 bytes requests rest
  pub goes : is_closed requests ≡ false
  pub waits : (rest ≡ []) ⊎ IsCut rest
