-- A head at the front stays there whatever follows.
use Rattle.std.proofs.Common.{◌≡◌, ℕ, ◌-◌, ◌≤◌, List, [], ◌∷◌, ◌++◌, length, take, drop, map, refl, ap, sym, subst, ◌∙◌, arith, length-append, length-drop, length-take}
use Rattle.std.specs.Prelude.{All, Bool, Ok, ◌&&◌}
use Rattle.std.proofs.lemmas.List.{take-append-le, drop-append-le, take-append-drop, append-nil}
use Rattle.std.proofs.lemmas.List.Elements.{All-head, All-tail}
use Rattle.std.proofs.Math.Seq.{take-append_seam}
use Rattle.httparse.specs.Grammar.{RequestHead, ReadsRequest, print_request, HasNoRequest, NeverHasRequest}
use Rattle.httparse.specs.Spans.{IsRequestAt, IsRequestWithin, IsHeaderWithin, header_bytes, span_bytes, IsWithin}
use Rattle.httparse.specs.declared.spans.Span.{Span}
use Rattle.httparse.specs.declared.spans.HeaderSpan.{HeaderSpan}
use Rattle.httparse.proofs.GrammarLemmas.{ReadsRequest-append}
use Rattle.http_head.specs.Head.{HasHead, HasNoHead, IsRefused, awaits, fields_of, frame, max_head, tells_body}
use Rattle.http_head.specs.Fields.{asks_interim, has_body}
use Rattle.http_head.specs.declared.fields.Framing.{Framing}
use Rattle.http_head.specs.Parts.{IsHead}
use Rattle.http_head.specs.declared.verdict.Head.{Head}

-- a head at the front stays there
pub HasHead-append : (buf more : List ℕ) (head : RequestHead) (after : List ℕ) → HasHead buf head after → HasHead (buf ++ more) head (after ++ more)
HasHead-append buf more head after at = record { reads = ReadsRequest-append buf head after more at.reads; short = at.short }

-- a head of all bytes that lies in the front is a head of the front
pub HasHead-front : (held rest : List ℕ) (head : RequestHead) (after : List ℕ) → HasHead (held ++ rest) head after
    → length (print_request head) ≤ length held → HasHead held head (drop (length (print_request head)) held)
HasHead-front held rest head after at fits =
    let n : ℕ = length (print_request head) in
    let front : take n (held ++ rest) ≡ take n held = take-append-le n held rest fits in
    let is : take n (print_request head ++ after) ≡ print_request head = take-append_seam (print_request head) after in
    let same : take n (held ++ rest) ≡ take n (print_request head ++ after) = ap (take n) at.reads.1 in
    let whole : take n held ++ drop n held ≡ held = take-append-drop n held in
    record { reads = (at.reads.0, cc); short = at.short }

-- a span of the front covers the same bytes
pub span-append : (buf more : List ℕ) (n : ℕ) (s : Span) → IsWithin n s → n ≤ length buf → span_bytes (buf ++ more) s ≡ span_bytes buf s
span-append buf more n s within fits =
    ap (take (s.end - s.start)) (drop-append-le s.start buf more (omega arith))
    ∙ take-append-le (s.end - s.start) (drop s.start buf) more (omega (arith, length-drop s.start buf))

pub header-append : (buf more : List ℕ) (n : ℕ) (h : HeaderSpan) → IsHeaderWithin n h → n ≤ length buf → header_bytes (buf ++ more) h ≡ header_bytes buf h
header-append buf more n h within fits =
    let name = span-append buf more n h.name within.0 fits in
    let value = span-append buf more n h.value within.1 fits in
    cc

pub headers-append : (buf more : List ℕ) (n : ℕ) (hs : List HeaderSpan) → All (IsHeaderWithin n) hs → n ≤ length buf
    → map (header_bytes (buf ++ more)) hs ≡ map (header_bytes buf) hs
headers-append buf more n [] within fits = refl
headers-append buf more n (h ∷ hs) within fits =
    let first = header-append buf more n h (All-head (IsHeaderWithin n) h hs within) fits in
    let others = headers-append buf more n hs (All-tail (IsHeaderWithin n) h hs within) fits in
    cc

pub spans-append : (buf more : List ℕ) (headers : List HeaderSpan) (h : Head) (head : RequestHead) → IsRequestAt buf headers h.spans head
    → IsRequestWithin buf headers h.spans → IsRequestAt (buf ++ more) headers h.spans head
spans-append buf more headers h head at within =
    let fits : h.spans.len ≤ length buf = within.section.len_fits in
    record {
      reads = subst (λ (l : List ℕ). ReadsRequest (buf ++ more) head l) (sym (drop-append-le h.spans.len buf more fits)) (ReadsRequest-append buf head (drop h.spans.len buf) more at.reads);
      len = at.len;
      method = span-append buf more h.spans.len h.spans.method within.method fits ∙ at.method;
      path = span-append buf more h.spans.len h.spans.path within.path fits ∙ at.path;
      version = at.version;
      fields = headers-append buf more h.spans.len (take h.spans.headers headers) within.section.headers_fit fits ∙ at.fields;
    }

pub IsHead-append : (buf more : List ℕ) (headers : List HeaderSpan) (h : Head) → IsHead buf headers h → IsHead (buf ++ more) headers h
IsHead-append buf more headers h is = record {
  head = is.head;
  at = spans-append buf more headers h is.head is.at is.within;
  within = record {
    method = is.within.method;
    path = is.within.path;
    version = is.within.version;
    section = record {
      len_fits = omega (arith, is.within.section.len_fits, length-append buf more);
      count_fits = is.within.section.count_fits;
      headers_fit = is.within.section.headers_fit;
    };
  };
  short = is.short;
  framed = is.framed;
  fits = is.fits;
}

-- the head that the spans cover
pub head_of : (buf : List ℕ) (headers : List HeaderSpan) (h : Head) → (is : IsHead buf headers h) → HasHead buf is.head (drop h.spans.len buf)
head_of buf headers h is = record { reads = is.at.reads; short = omega (arith, is.at.len, is.short) }

pub IsRefused-append : (buf more : List ℕ) (code : ℕ) → IsRefused buf code → IsRefused (buf ++ more) code
IsRefused-append buf more code is = record { head = is.head; after = is.after ++ more; at = HasHead-append buf more is.head is.after is.at; why = is.why }

-- as many bytes as a head may have, and no head
pub no_head-append : (held rest : List ℕ) → max_head ≤ length held → HasNoHead held → HasNoHead (held ++ rest)
no_head-append held rest long none = λ head after at.
    none head (drop (length (print_request head)) held) (HasHead-front held rest head after at (omega (arith, at.short)))

pub no_request_no_head : (buf : List ℕ) → HasNoRequest buf → HasNoHead buf
no_request_no_head buf none = λ head after at. none head after at.reads

pub never_none : (buf : List ℕ) → NeverHasRequest buf → HasNoRequest buf
never_none buf never = subst (λ (l : List ℕ). HasNoRequest l) (append-nil buf) (never [])

-- the front of the held bytes has no head, and is as long as a head may be
pub full_none : (held : List ℕ) → max_head ≤ length held → HasNoRequest (take max_head held) → HasNoHead held
full_none held long none =
    let front : List ℕ = take max_head held in
    let whole : front ++ drop max_head held ≡ held = take-append-drop max_head held in
    let n : max_head ≤ length front = omega (arith, length-take {A = ℕ} max_head held) in
    subst (λ (l : List ℕ). HasNoHead l) whole (no_head-append front (drop max_head held) n (no_request_no_head front none))

-- a head of a front is one of the whole
pub front_has_head : (held : List ℕ) (n : ℕ) (head : RequestHead) (after : List ℕ) → HasNoHead held → HasHead (take n held) head after → ⊥
front_has_head held n head after none at =
    none head (after ++ drop n held) (subst (λ (l : List ℕ). HasHead l head (after ++ drop n held)) (take-append-drop n held) (HasHead-append (take n held) (drop n held) head after at))

-- the parts of what a head that is served awaits
pub awaits_parts : (h : RequestHead) (f : Framing) (a b : Bool) → frame h ≡ Ok f → a ≡ asks_interim h.minor (fields_of h) → b ≡ has_body f → (a && b) ≡ awaits h
awaits_parts h f a b told asks has =
    ap (λ (x : Bool). x && b) asks ∙ ap (λ (x : Bool). asks_interim h.minor (fields_of h) && x) (has ∙ sym (ap tells_body told))
