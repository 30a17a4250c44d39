-- The steps of reading a body.
use Rattle.std.proofs.Common.{◌≡◌, ℕ, ◌+◌, ◌-◌, ◌<◌, ◌≤◌, List, [], ◌++◌, length, take, drop, ap, sym, subst, ◌∙◌, arith, append_assoc, length-append, length-drop, length-take, Option, true, inl, inr}
use Rattle.std.specs.Prelude.{◌⊎◌, slice_range}
use Rattle.std.proofs.lemmas.List.{append-nil, drop-append-le, drop-drop}
use Rattle.std.proofs.lemmas.List.Folds.{drop_split}
use Rattle.http_head.specs.declared.fields.Framing.TheVariants.{Length, Chunks}
use Rattle.httparse.specs.declared.spans.HeaderSpan.{HeaderSpan}
use Rattle.http_head.specs.Head.{HasHead}
use Rattle.http_head.specs.Parts.{IsHead}
use Rattle.http_head.specs.declared.verdict.Head.{Head}
use Rattle.http_head.proofs.HeadLemmas.{HasHead-append, head_of}
use Rattle.http_conn.specs.Stream.{Asks, HasBody, IsRequest}
use Rattle.http_conn.specs.declared.request.Request.{Request}
use Rattle.body_read.specs.Chunks.{Outcome, Piece, PieceAt, EndsIn}
use Rattle.body_read.specs.Body.{BodyIs}
use Rattle.body_read.proofs.BodyLaws.{IsReached, body_one, reached_more, reached_chunk, reached_end}
use Rattle.http_conn.specs.Next.{IsShort}
use Rattle.http_conn.specs.Body.{IsBehind, IsCutAt, EndsInPart, PartFound}
use Rattle.std.specs.Io.KnownBytes.{IsAtEnd}
use Rattle.body_read.specs.Found.{PartIs, is_cut_part, max_part}
use Rattle.body_read.specs.declared.part.Part.{Part}
use Rattle.body_read.specs.declared.part.Part.TheVariants as part

pub behind_same : (start : List ℕ) → IsBehind start start
behind_same start = ([], sym (append-nil start))

pub behind_more : (start held new : List ℕ) → IsBehind start held → IsBehind held new → IsBehind start new
behind_more start held new was more = (was.0 ++ more.0, more.1 ∙ ap (λ (l : List ℕ). l ++ more.0) was.1 ∙ append_assoc start was.0 more.0)

pub behind_long : (start held : List ℕ) → IsBehind start held → length start ≤ length held
behind_long start held is = omega (arith, ap length is.1, length-append start is.0)

-- what is behind a place, with more behind it
pub drop_behind : (place : ℕ) (start held : List ℕ) → place ≤ length start → (is : IsBehind start held) → drop place held ≡ drop place start ++ is.0
drop_behind place start held fits is = ap (drop place) is.1 ∙ drop-append-le place start is.0 fits

-- too few bytes for a body of that size
pub short_cut : (start held : List ℕ) (place size : ℕ) → place ≤ length start → IsShort start (place + size) held → IsCutAt (Length size) place start held
short_cut start held place size fits short = (short.0, omega (arith, short.1, length-drop place held, behind_long start held short.0, fits))

-- a body of that size is held
pub length_held : (held body rest : List ℕ) (place size : ℕ) → place ≤ length held → BodyIs (Length size) (drop place held) (Outcome.Whole body rest) → place + size ≤ length held
length_held held body rest place size fits is = omega (arith, is.0, ap length is.1, length-append body rest, length-drop place held, fits)

-- a body of that size
pub length_whole : (held body : List ℕ) (place size : ℕ) → place + size ≤ length held → body ≡ take (place + size - place) (drop place held)
    → BodyIs (Length size) (drop place held) (Outcome.Whole body (drop (place + size) held))
length_whole held body place size fits is = (
  ap length is ∙ omega (arith, length-take {A = ℕ} (place + size - place) (drop place held), length-drop place held, fits),
  drop_split held place (place + size) (omega arith) ∙ ap (λ (l : List ℕ). l ++ drop (place + size) held) (sym is),
)

-- where a whole body was held at first, nothing was read
abbrev pub IsPrompt : {X : Type 0} → List ℕ → List ℕ → List ℕ → X → X → Type 0
IsPrompt {X} bytes old held s t = (body rest : List ℕ) → BodyIs Chunks bytes (Outcome.Whole body rest) → (t ≡ s) × (held ≡ old)

-- where so much was gathered and more is read
pub reached_behind : (first place : ℕ) (content held new : List ℕ) → first ≤ length held → place ≤ length held → IsReached (drop first held) content (drop place held) → IsBehind held new
    → IsReached (drop first new) content (drop place new)
reached_behind first place content held new fits inside was more =
    let here = reached_more (drop first held) content (drop place held) more.0 was in
    subst (λ (l : List ℕ). IsReached l content (drop place new)) (sym (drop_behind first held new fits more))
    (subst (λ (l : List ℕ). IsReached (drop first held ++ more.0) content l) (sym (drop_behind place held new inside more)) here)

-- a part of which the bytes end inside it
pub part_is_cut : (sum : ℕ) (bytes : List ℕ) (p : Part) → is_cut_part p ≡ true → PartIs sum bytes p → PieceAt sum bytes Piece.Cut × (length bytes < max_part)
part_is_cut sum bytes (part.Chunk start end) is found = absurd (cc is)
part_is_cut sum bytes (part.Last len) is found = absurd (cc is)
part_is_cut sum bytes (part.Bad code) is found = absurd (cc is)
part_is_cut sum bytes part.Cut is found = found

pub cut_found : (sum : ℕ) (bytes : List ℕ) (left : Option (List ℕ)) (p : Part) → is_cut_part p ≡ true → PartIs sum bytes p → IsAtEnd left → PartFound sum bytes left p
cut_found sum bytes left (part.Chunk start end) is found at = absurd (cc is)
cut_found sum bytes left (part.Last len) is found at = absurd (cc is)
cut_found sum bytes left (part.Bad code) is found at = absurd (cc is)
cut_found sum bytes left part.Cut is found at = (found, at)

-- the part that was held at first was cut
pub prompt_more : {X : Type 0} (sum place : ℕ) (start held : List ℕ) (s t : X) → PieceAt sum (drop place start) Piece.Cut ⊎ ((t ≡ s) × (held ≡ start))
    → PieceAt sum (drop place held) Piece.Cut → PieceAt sum (drop place start) Piece.Cut
prompt_more sum place start held s t (inl is) cut = is
prompt_more sum place start held s t (inr same) cut = subst (λ (l : List ℕ). PieceAt sum (drop place l) Piece.Cut) same.1 cut

-- where the body ends in this
pub reached_out : (first place : ℕ) (content held new : List ℕ) (o : Outcome) → first ≤ length held → place ≤ length held → IsReached (drop first held) content (drop place held) → IsBehind held new
    → EndsIn content (drop place new) o → BodyIs Chunks (drop first new) o
reached_out first place content held new o fits inside was more ends =
    reached_end (drop first new) content (drop place new) o (reached_behind first place content held new fits inside was more) ends

-- the next chunk was gathered
pub reached_next : (first place start end : ℕ) (content held new : List ℕ) → first ≤ length held → place ≤ length held → IsReached (drop first held) content (drop place held) → IsBehind held new
    → PieceAt (length content) (drop place new) (Piece.Chunk (slice_range (drop place new) start end) (drop (end + 2) (drop place new)))
    → IsReached (drop first new) (content ++ slice_range (drop place new) start end) (drop (place + (end + 2)) new)
reached_next first place start end content held new fits inside was more chunk =
    let now = reached_behind first place content held new fits inside was more in
    let next = reached_chunk (drop first new) content (drop place new) (slice_range (drop place new) start end) (drop (end + 2) (drop place new)) now chunk in
    subst (λ (l : List ℕ). IsReached (drop first new) (content ++ slice_range (drop place new) start end) l) (drop-drop (end + 2) place new) next

-- a chunk with content
pub chunk_long : (bytes : List ℕ) (start end : ℕ) → start < end → end + 2 ≤ length bytes → length (slice_range bytes start end) ≡ end - start
chunk_long bytes start end some fits = omega (arith, length-take {A = ℕ} (end - start) (drop start bytes), length-drop start bytes, some, fits)

-- a part that isn't whole ends inside the body
pub part_cut : (first place : ℕ) (content start held new : List ℕ) → first ≤ length held → place ≤ length held → IsReached (drop first held) content (drop place held)
    → IsBehind start held → EndsInPart (length content) place held new → IsCutAt Chunks first start new
part_cut first place content start held new fits inside was behind cut =
    (behind_more start held new behind cut.0, reached_out first place content held new Outcome.Short fits inside was cut.0 cut.1)

-- what is held whole has no cut part
pub prompt_part : {X : Type 0} (first place : ℕ) (content start held : List ℕ) (s t : X) (body rest : List ℕ) → first ≤ length held → place ≤ length held
    → IsReached (drop first held) content (drop place held) → IsPrompt (drop first start) start held s t → BodyIs Chunks (drop first start) (Outcome.Whole body rest)
    → PieceAt (length content) (drop place held) Piece.Cut → ⊥
prompt_part first place content start held s t body rest fits inside was prompt whole cut =
    let same = prompt body rest whole in
    let short = reached_out first place content held held Outcome.Short fits inside was (behind_same held) cut in
    let here : BodyIs Chunks (drop first held) (Outcome.Whole body rest) = subst (λ (l : List ℕ). BodyIs Chunks (drop first l) (Outcome.Whole body rest)) (sym same.1) whole in
    absurd (cc (body_one Chunks (drop first held) (Outcome.Whole body rest) Outcome.Short here short))

-- nothing is read for a part that is held whole
pub prompt_stays : {X : Type 0} (first place : ℕ) (content start held new : List ℕ) (s t u : X) → first ≤ length held → place ≤ length held
    → IsReached (drop first held) content (drop place held) → IsPrompt (drop first start) start held s t
    → ((PieceAt (length content) (drop place held) Piece.Cut → ⊥) → (u ≡ t) × (new ≡ held)) → IsPrompt (drop first start) start new s u
prompt_stays first place content start held new s t u fits inside was prompt reads = λ body rest whole.
    let same = prompt body rest whole in
    let still = reads (λ cut. prompt_part first place content start held s t body rest fits inside was prompt whole cut) in
    (still.0 ∙ same.0, still.1 ∙ same.1)

-- what comes of the body behind a head, where more is held by then
abbrev pub body_behind : (held new : List ℕ) (headers : List HeaderSpan) (h : Head) (x : Outcome) → IsHead held headers h → IsBehind held new
    → BodyIs h.framing (drop h.spans.len new) x → HasBody new x
body_behind held new headers h x is behind body = record {
  head = is.head;
  after = drop h.spans.len new;
  framing = h.framing;
  at =
      subst (λ (l : List ℕ). HasHead new is.head l) (sym (drop_behind h.spans.len held new is.within.section.len_fits behind))
      (subst (λ (l : List ℕ). HasHead l is.head (drop h.spans.len held ++ behind.0)) (sym behind.1)
      (HasHead-append held behind.0 is.head (drop h.spans.len held) (head_of held headers h is)));
  told = is.framed;
  body = body;
}

-- the request whose head was read, and whose body is held by now
pub request_behind : (held new : List ℕ) (headers : List HeaderSpan) (h : Head) (request : Request) (body rest : List ℕ) → (is : IsHead held headers h) → IsBehind held new
    → BodyIs h.framing (drop h.spans.len new) (Outcome.Whole body rest) → Asks is.head request → request.body ≡ body → IsRequest new request rest
request_behind held new headers h request body rest is behind found asks same = record {
  whole =
      body_behind held new headers h (Outcome.Whole request.body rest) is behind
      (subst (λ (b : List ℕ). BodyIs h.framing (drop h.spans.len new) (Outcome.Whole b rest)) (sym same) found);
  asks = asks;
}
