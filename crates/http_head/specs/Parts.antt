-- What the steps of reading a request say.
use Rattle.std.specs.Prelude.{◌≡◌, ℕ, ◌≤◌, List, [], ◌∷◌, length, Some, Ok, Bool, true, false}
use Rattle.httparse.specs.Grammar.{RequestHead, NeverHasRequest, EndsInTarget, MayBecomeRequest, HasNoRequest}
use Rattle.httparse.specs.Spans.{IsRequestAt, IsRequestWithin, span_bytes, IsWithin}
use Rattle.httparse.specs.declared.spans.Span.{Span}
use Rattle.httparse.specs.declared.spans.HeaderSpan.{HeaderSpan}
use Rattle.http_head.specs.Fields.{FramingFits, joined}
use Rattle.http_head.specs.Head.{frame, max_head, IsRefused}
use Rattle.http_head.specs.declared.fields.Found.{Found}
use Rattle.http_head.specs.declared.fields.Found.TheVariants.{Absent, One, Several}
use Rattle.http_head.specs.declared.verdict.Head.{Head}
use Rattle.http_head.specs.declared.verdict.Verdict.{Verdict}
use Rattle.http_head.specs.declared.verdict.Verdict.TheVariants.{Whole, Unfinished, Refused, Lost}

-- room for the fields of every head: a field line has three bytes at least
abbrev pub max_spans : ℕ
max_spans = 5462

-- what was found are these values
abbrev pub FoundIs : List ℕ → List (List ℕ) → Found → Type 0
FoundIs buf values Absent = values ≡ []
FoundIs buf values (One span) = (values ≡ span_bytes buf span ∷ []) × IsWithin (length buf) span
FoundIs buf values Several = 2 ≤ length values

-- nothing was found
abbrev pub found_absent : Found → Bool
found_absent Absent = true
found_absent (One span) = false
found_absent Several = false

-- one was found
abbrev pub found_single : Found → Bool
found_single Absent = false
found_single (One span) = true
found_single Several = false

-- what is found with one value more
abbrev pub more_found : Found → Span → Found
more_found Absent span = One span
more_found (One first) span = Several
more_found Several span = Several

-- the text is the values joined, once one was found
abbrev pub JoinedIs : List (List ℕ) → Bool → List ℕ → Type 0
JoinedIs values false text = (values ≡ []) × (text ≡ [])
JoinedIs values true text = joined values ≡ Some text

-- the bytes begin with that head, which is served
pub record IsHead (buf : List ℕ) (headers : List HeaderSpan) (h : Head) : Type 0 where
  pub head : RequestHead
  pub at : IsRequestAt buf headers h.spans head
  pub within : IsRequestWithin buf headers h.spans
  pub short : h.spans.len ≤ max_head
  pub framed : frame head ≡ Ok h.framing
  pub fits : FramingFits h.framing

-- bytes that can't become a head, and don't end inside a target
abbrev pub IsLost : List ℕ → Type 0
IsLost buf = NeverHasRequest buf × (EndsInTarget buf → ⊥)

-- what the bytes are judged to be
abbrev pub Judges : List ℕ → List HeaderSpan → Verdict → Type 0
Judges buf headers (Whole h) = IsHead buf headers h
Judges buf headers Unfinished = HasNoRequest buf × MayBecomeRequest buf
Judges buf headers (Refused code) = IsRefused buf code
Judges buf headers Lost = IsLost buf
