-- What a front of the bytes shows of all of them.
use Rattle.std.proofs.Common.{◌≡◌, ℕ, ◌+◌, ◌-◌, ◌<◌, ◌≤◌, ◌==◌, ◌&&◌, Bool, true, false, List, [], ◌∷◌, ◌++◌, length, take, drop, Some, refl, ap, sym, subst, ◌∙◌, arith, length-append, length-take, length-drop, inr}
use Rattle.std.specs.Prelude.{if◌then◌else◌, slice_range}
use Rattle.std.specs.List.{flat_map}
use Rattle.std.proofs.lemmas.Bool.Decides.{nat_tests}
use Rattle.std.proofs.lemmas.List.{append-nil, take-append-drop, drop-append-le, drop-drop}
use Rattle.std.proofs.lemmas.List.Folds.{drop_split}
use Rattle.httparse.specs.Grammar.{ChunkLine, chunk_size, HasNoChunkLine, NeverHasChunkLine, Field, lf, print_end, print_field, print_section, HasNoSection, NeverHasSection, MayBecomeSection}
use Rattle.httparse.specs.Spans.{SectionExceeds}
use Rattle.http_head.specs.Fields.{max_body}
use Rattle.http_head.specs.Head.{max_head}
use Rattle.http_head.specs.Parts.{max_spans}
use Rattle.http_head.proofs.JudgeLemmas.{fields_long}
use Rattle.body_read.specs.Chunks.{max_line, max_front, HasLine, HasNoLine, HasTrailers, HasNoTrailers, IsSpoilt, After, after_content, Piece, PieceAt}
use Rattle.body_read.specs.Found.{ended_of}
use Rattle.body_read.proofs.ChunkMore.{HasLine-append, HasTrailers-append, no_line-append, no_trailers-append}

-- what is behind a place of a front
pub rest_of : (n len : ℕ) (bytes : List ℕ) → len ≤ length (take n bytes) → drop len (take n bytes) ++ drop n bytes ≡ drop len bytes
rest_of n len bytes fits = sym (drop-append-le len (take n bytes) (drop n bytes) fits) ∙ ap (drop len) (take-append-drop n bytes)

-- a line of the front is one of the bytes
pub line_of_front : (bytes : List ℕ) (len : ℕ) (l : ChunkLine) → len ≤ length (take max_line bytes) → HasLine (take max_line bytes) l (drop len (take max_line bytes))
    → (len ≤ length bytes) × (len ≤ max_line) × HasLine bytes l (drop len bytes)
line_of_front bytes len l fits here =
    let front : List ℕ = take max_line bytes in
    let whole : HasLine (front ++ drop max_line bytes) l (drop len front ++ drop max_line bytes) = HasLine-append front (drop max_line bytes) l (drop len front) here in
    let line : HasLine bytes l (drop len front ++ drop max_line bytes) =
    subst (λ (b : List ℕ). HasLine b l (drop len front ++ drop max_line bytes)) (take-append-drop max_line bytes) whole in (
      omega (arith, fits, length-take {A = ℕ} max_line bytes),
      omega (arith, fits, length-take {A = ℕ} max_line bytes),
      subst (λ (b : List ℕ). HasLine bytes l b) (rest_of max_line len bytes fits) line,
    )

pub never_no_line : (bytes : List ℕ) → NeverHasChunkLine bytes → HasNoChunkLine bytes
never_no_line bytes never = subst (λ (l : List ℕ). HasNoChunkLine l) (append-nil bytes) (never [])

-- where as many bytes as a line may have hold none
pub front_no_line : (bytes : List ℕ) → max_line ≤ length bytes → HasNoChunkLine (take max_line bytes) → HasNoLine bytes
front_no_line bytes long none =
    let size : max_line ≤ length (take max_line bytes) = omega (arith, long, length-take {A = ℕ} max_line bytes) in
    let here : HasNoLine (take max_line bytes) = λ line behind has. none line behind has.reads in
    subst (λ (l : List ℕ). HasNoLine l) (take-append-drop max_line bytes) (no_line-append (take max_line bytes) (drop max_line bytes) size here)

-- trailers of a front are trailers of the bytes
pub trailers_of_front : (n : ℕ) (bytes : List ℕ) (fields : List Field) (rest : List ℕ) → HasTrailers (take n bytes) fields rest → HasTrailers bytes fields (rest ++ drop n bytes)
trailers_of_front n bytes fields rest has =
    subst (λ (b : List ℕ). HasTrailers b fields (rest ++ drop n bytes)) (take-append-drop n bytes) (HasTrailers-append (take n bytes) (drop n bytes) fields rest has)

pub trailers_at_front : (n len : ℕ) (bytes : List ℕ) (fields : List Field) → len ≤ length (take n bytes) → HasTrailers (take n bytes) fields (drop len (take n bytes))
    → (len ≤ length bytes) × HasTrailers bytes fields (drop len bytes)
trailers_at_front n len bytes fields fits has = (
  omega (arith, fits, length-take {A = ℕ} n bytes),
  subst (λ (b : List ℕ). HasTrailers bytes fields b) (rest_of n len bytes fits) (trailers_of_front n bytes fields (drop len (take n bytes)) has),
)

pub never_no_section : (bytes : List ℕ) → NeverHasSection bytes → HasNoSection bytes
never_no_section bytes never = subst (λ (l : List ℕ). HasNoSection l) (append-nil bytes) (never [])

pub front_no_trailers : (bytes : List ℕ) → max_head ≤ length bytes → HasNoSection (take max_head bytes) → HasNoTrailers bytes
front_no_trailers bytes long none =
    let size : max_head ≤ length (take max_head bytes) = omega (arith, long, length-take {A = ℕ} max_head bytes) in
    let here : HasNoTrailers (take max_head bytes) = λ fields behind has. none fields has.last behind has.reads in
    subst (λ (l : List ℕ). HasNoTrailers l) (take-append-drop max_head bytes) (no_trailers-append (take max_head bytes) (drop max_head bytes) size here)

pub may_not_spoilt : (bytes : List ℕ) → MayBecomeSection (take max_front bytes) → IsSpoilt bytes → ⊥
may_not_spoilt bytes may spoilt = spoilt may.0 may.1 may.2 [] may.3

pub has_not_spoilt : (bytes : List ℕ) (fields : List Field) (rest : List ℕ) → HasTrailers (take max_front bytes) fields rest → IsSpoilt bytes → ⊥
has_not_spoilt bytes fields rest has spoilt = never_no_section (take max_front bytes) spoilt fields has.last rest has.reads

-- there is room for the fields of all trailers that fit
pub never_too_many : (buf : List ℕ) (room : ℕ) → length buf ≤ max_head → max_spans ≤ room → SectionExceeds room buf → ⊥
never_too_many buf room short fits over =
    let front : List ℕ = over.0 in
    let fields : List Field = over.3 in
    let long = fields_long fields over.4.0 in
    let parts : length buf ≡ length front + length over.1 = ap length over.2 ∙ length-append front over.1 in
    let whole : length front + 1 ≡ length (print_section fields lf) =
    omega (arith, length-append front (10 ∷ []), ap length over.4.1, ap length (append-nil (print_section fields lf))) in
    let section : length (print_section fields lf) ≡ length (flat_map print_field fields) + 1 = length-append (flat_map print_field fields) (print_end lf) in
    omega (arith, long, over.5, parts, whole, section, short, fits)

-- CR LF at the front
both_are : (a b : ℕ) (rest : List ℕ) → ended_of (if (a == 13) && (b == 10) then After.Ended rest else After.Broken) ≡ Some true → (a ≡ 13) × (b ≡ 10)
both_are a b rest is = tested (a == 13) (b == 10) refl refl is
  where
    tested : (p q : Bool) → (a == 13) ≡ p → (b == 10) ≡ q → ended_of (if p && q then After.Ended rest else After.Broken) ≡ Some true → (a ≡ 13) × (b ≡ 10)
    tested true true first second e = (grind (arith, nat_tests), grind (arith, nat_tests))
    tested true false first second e = absurd (cc e)
    tested false q first second e = absurd (cc e)

one_no : (p : Bool) → ended_of (if p then After.Unclear else After.Broken) ≡ Some true → ⊥
one_no true is = absurd (cc is)
one_no false is = absurd (cc is)

pub ended_is : (bytes : List ℕ) → ended_of (after_content bytes) ≡ Some true → bytes ≡ 13 ∷ 10 ∷ drop 2 bytes
ended_is [] is = absurd (cc is)
ended_is (a ∷ []) is = absurd (one_no (a == 13) is)
ended_is (a ∷ b ∷ rest) is = let both = both_are a b rest is in λ i. both.0 i ∷ both.1 i ∷ rest

-- a chunk whose content ends in CR LF
pub chunk_at : (bytes : List ℕ) (len size sum : ℕ) (l : ChunkLine) → HasLine bytes l (drop len bytes) → size ≡ chunk_size l → 0 < size → sum + size ≤ max_body
    → ended_of (after_content (drop (len + size) bytes)) ≡ Some true
    → (len < len + size) × (len + size + 2 ≤ length bytes)
    × PieceAt sum bytes (Piece.Chunk (slice_range bytes len (len + size)) (drop (len + size + 2) bytes))
chunk_at bytes len size sum l has is some fits ended =
    let end : ℕ = len + size in
    let tail : drop end bytes ≡ 13 ∷ 10 ∷ drop 2 (drop end bytes) = ended_is (drop end bytes) ended in
    let rest : drop 2 (drop end bytes) ≡ drop (end + 2) bytes = drop-drop 2 end bytes in
    let long : length (drop end bytes) ≡ length (drop 2 (drop end bytes)) + 2 = ap length tail ∙ omega arith in
    let whole : end + 2 ≤ length bytes = omega (arith, long, length-drop end bytes, some) in
    let content : length (slice_range bytes len end) ≡ size = omega (arith, length-take {A = ℕ} (end - len) (drop len bytes), length-drop len bytes, whole) in
    let parts : drop len bytes ≡ slice_range bytes len end ++ 13 ∷ 10 ∷ drop (end + 2) bytes =
    drop_split bytes len end (omega arith) ∙ ap (λ (b : List ℕ). slice_range bytes len end ++ b) (tail ∙ ap (λ (b : List ℕ). 13 ∷ 10 ∷ b) rest) in (
      omega (arith, some),
      whole,
      inr (
        l,
        drop len bytes,
        has,
        inr (omega (arith, some, is), (omega (arith, fits, is), content ∙ is, parts)),
      ),
    )
