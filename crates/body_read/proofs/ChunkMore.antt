-- What stands whole at the front of bytes stands there whatever follows, and in the bytes before what follows.
use Rattle.std.proofs.Common.{◌≡◌, ℕ, ◌+◌, ◌-◌, ◌≤◌, ◌==◌, ◌&&◌, Bool, true, false, List, [], ◌∷◌, ◌++◌, length, take, drop, refl, ap, sym, subst, ◌∙◌, arith, append_assoc, length-append, inl, inr}
use Rattle.std.specs.Prelude.{if◌then◌else◌}
use Rattle.std.proofs.lemmas.Bool.{cases_lt}
use Rattle.std.proofs.lemmas.List.{append-nil, take-append-drop, take-append-le, drop-append-le, take_all, drop_all}
use Rattle.std.proofs.Math.Seq.{take-append_seam, take-append-add}
use Rattle.httparse.specs.Grammar.{ChunkLine, print_chunk_line, chunk_size, ReadsChunkLine, NeverHasChunkLine, Field, print_section, ReadsSection, NeverHasSection}
use Rattle.httparse.proofs.ChunkLemmas.{ReadsChunkLine-append}
use Rattle.httparse.proofs.GrammarLemmas.{ReadsSection-append}
use Rattle.http_head.specs.Head.{max_head}
use Rattle.body_read.specs.Chunks.{max_line, max_front, HasLine, HasNoLine, IsBadLine, HasTrailers, HasNoTrailers, IsSpoilt, TrailersAre, After, after_content, ContentIs, Piece, PieceAt, Outcome, ChunksGo, BodyComes}

pub HasLine-append : (bytes more : List ℕ) (line : ChunkLine) (behind : List ℕ) → HasLine bytes line behind → HasLine (bytes ++ more) line (behind ++ more)
HasLine-append bytes more line behind has = record { reads = ReadsChunkLine-append bytes line behind more has.reads; short = has.short }

pub HasTrailers-append : (bytes more : List ℕ) (fields : List Field) (behind : List ℕ) → HasTrailers bytes fields behind → HasTrailers (bytes ++ more) fields (behind ++ more)
HasTrailers-append bytes more fields behind has =
    record { last = has.last; reads = ReadsSection-append bytes fields has.last behind more has.reads; short = has.short }

-- what a list begins with, where that lies in its front
front_is : (front more text rest : List ℕ) → front ++ more ≡ text ++ rest → length text ≤ length front → front ≡ text ++ drop (length text) front
front_is front more text rest same fits =
    let n : ℕ = length text in
    let begins : take n front ≡ text = sym (take-append-le n front more fits) ∙ ap (take n) same ∙ take-append_seam text rest in
    sym (take-append-drop n front) ∙ ap (λ (l : List ℕ). l ++ drop n front) begins

-- a line that lies in the front is one of the front
pub line_in_front : (front more : List ℕ) (line : ChunkLine) (behind : List ℕ) → HasLine (front ++ more) line behind → max_line ≤ length front
    → HasLine front line (drop (length (print_chunk_line line)) front)
line_in_front front more line behind has fits = record {
  reads = (has.reads.0, front_is front more (print_chunk_line line) behind has.reads.1 (omega (arith, has.short, fits)));
  short = has.short;
}

pub no_line-append : (front more : List ℕ) → max_line ≤ length front → HasNoLine front → HasNoLine (front ++ more)
no_line-append front more long none = λ line behind has. none line (drop (length (print_chunk_line line)) front) (line_in_front front more line behind has long)

pub trailers_in_front : (front more : List ℕ) (fields : List Field) (behind : List ℕ) → (has : HasTrailers (front ++ more) fields behind) → max_head ≤ length front
    → HasTrailers front fields (drop (length (print_section fields has.last)) front)
trailers_in_front front more fields behind has fits = record {
  last = has.last;
  reads = (has.reads.0, front_is front more (print_section fields has.last) behind has.reads.1 (omega (arith, has.short, fits)));
  short = has.short;
}

pub no_trailers-append : (front more : List ℕ) → max_head ≤ length front → HasNoTrailers front → HasNoTrailers (front ++ more)
no_trailers-append front more long none = λ fields behind has.
    none fields (drop (length (print_section fields has.last)) front) (trailers_in_front front more fields behind has long)

pub never_line-append : (bytes more : List ℕ) → NeverHasChunkLine bytes → NeverHasChunkLine (bytes ++ more)
never_line-append bytes more never = λ next line rest reads.
    never (more ++ next) line rest (subst (λ (l : List ℕ). ReadsChunkLine l line rest) (append_assoc bytes more next) reads)

pub never_section-append : (bytes more : List ℕ) → NeverHasSection bytes → NeverHasSection (bytes ++ more)
never_section-append bytes more never = λ next fields last rest reads.
    never (more ++ next) fields last rest (subst (λ (l : List ℕ). ReadsSection l fields last rest) (append_assoc bytes more next) reads)

bad_line-append : (bytes more : List ℕ) → IsBadLine bytes → IsBadLine (bytes ++ more)
bad_line-append bytes more (inl full) = inl (omega (arith, full.0, length-append bytes more), no_line-append bytes more full.0 full.1)
bad_line-append bytes more (inr never) = inr (never_line-append bytes more never)

-- the front of a longer list begins with the front
longer_front : (n : ℕ) (bytes more : List ℕ) → (tail : List ℕ) × (take n (bytes ++ more) ≡ take n bytes ++ tail)
longer_front n bytes more =
    elim (cases_lt (length bytes) n) [
      | inl short ↦
          let k : ℕ = n - length bytes in
          let whole : length bytes + k ≡ n = omega (arith, short) in (
            take k more,
            ap (λ (m : ℕ). take m (bytes ++ more)) (sym whole) ∙ take-append-add bytes more k ∙ ap (λ (l : List ℕ). l ++ take k more) (sym (take_all n bytes (omega (arith, short)))),
          )
      | inr long ↦ ([], take-append-le n bytes more long ∙ sym (append-nil (take n bytes)))
    ]

pub spoilt-append : (bytes more : List ℕ) → IsSpoilt bytes → IsSpoilt (bytes ++ more)
spoilt-append bytes more spoilt =
    let longer = longer_front max_front bytes more in
    subst (λ (l : List ℕ). NeverHasSection l) (sym longer.1) (never_section-append (take max_front bytes) longer.0 spoilt)

spoilt_front : (bytes more : List ℕ) → max_head ≤ length bytes → IsSpoilt (bytes ++ more) → IsSpoilt bytes
spoilt_front bytes more long spoilt = subst (λ (l : List ℕ). NeverHasSection l) (take-append-le max_front bytes more (omega (arith, long))) spoilt

bad_trailers-append : (bytes more : List ℕ) (code : ℕ) → TrailersAre bytes (Piece.Bad code) → TrailersAre (bytes ++ more) (Piece.Bad code)
bad_trailers-append bytes more code (inl many) =
    inl ((many.0.0, many.0.1 ++ more, HasTrailers-append bytes more many.0.0 many.0.1 many.0.2, many.0.3), many.1)
bad_trailers-append bytes more code (inr (inl long)) =
    inr (inl ((omega (arith, long.0.0, length-append bytes more), no_trailers-append bytes more long.0.0 long.0.1, λ spoilt. long.0.2 (spoilt_front bytes more long.0.0 spoilt)), long.1))
bad_trailers-append bytes more code (inr (inr spoilt)) = inr (inr (spoilt-append bytes more spoilt.0, spoilt.1))

-- what can't be CR LF can't become it
broken_more : (bytes more : List ℕ) → after_content bytes ≡ After.Broken → after_content (bytes ++ more) ≡ After.Broken
broken_more [] more is = absurd (cc is)
broken_more (a ∷ b ∷ rest) more is = second ((a == 13) && (b == 10)) rest (rest ++ more) is
  where
    second : (p : Bool) (l m : List ℕ) → (if p then After.Ended l else After.Broken) ≡ After.Broken → (if p then After.Ended m else After.Broken) ≡ After.Broken
    second true l m is = absurd (cc is)
    second false l m is = refl
broken_more (a ∷ []) [] is = is
broken_more (a ∷ []) (b ∷ more) is = first (a == 13) (b == 10) more is
  where
    first : (p q : Bool) (l : List ℕ) → (if p then After.Unclear else After.Broken) ≡ After.Broken → (if p && q then After.Ended l else After.Broken) ≡ After.Broken
    first true q l is = absurd (cc is)
    first false q l is = refl

broken_behind : (size : ℕ) (bytes more : List ℕ) → after_content (drop size bytes) ≡ After.Broken → after_content (drop size (bytes ++ more)) ≡ After.Broken
broken_behind size bytes more is =
    elim (cases_lt (length bytes) size) [
      | inl short ↦ absurd (cc (sym (ap after_content (drop_all size bytes (omega (arith, short)))) ∙ is))
      | inr long ↦ ap after_content (drop-append-le size bytes more long) ∙ broken_more (drop size bytes) more is
    ]

bad_content-append : (sum size : ℕ) (bytes more : List ℕ) (code : ℕ) → ContentIs sum size bytes (Piece.Bad code) → ContentIs sum size (bytes ++ more) (Piece.Bad code)
bad_content-append sum size bytes more code (inl large) = inl large
bad_content-append sum size bytes more code (inr broken) = inr (broken.0, broken_behind size bytes more broken.1, broken.2)

pub bad_piece-append : (sum : ℕ) (bytes more : List ℕ) (code : ℕ) → PieceAt sum bytes (Piece.Bad code) → PieceAt sum (bytes ++ more) (Piece.Bad code)
bad_piece-append sum bytes more code (inl none) = inl (bad_line-append bytes more none.0, none.1)
bad_piece-append sum bytes more code (inr (line, behind, has, inl zero)) =
    inr (line, behind ++ more, HasLine-append bytes more line behind has, inl (zero.0, bad_trailers-append behind more code zero.1))
bad_piece-append sum bytes more code (inr (line, behind, has, inr some)) =
    inr (line, behind ++ more, HasLine-append bytes more line behind has, inr (some.0, bad_content-append sum (chunk_size line) behind more code some.1))

pub chunk-append : (sum : ℕ) (bytes more content rest : List ℕ) → PieceAt sum bytes (Piece.Chunk content rest) → PieceAt sum (bytes ++ more) (Piece.Chunk content (rest ++ more))
chunk-append sum bytes more content rest (inl none) = absurd none
chunk-append sum bytes more content rest (inr (line, behind, has, inl zero)) = absurd zero.1
chunk-append sum bytes more content rest (inr (line, behind, has, inr some)) =
    inr (
      line,
      behind ++ more,
      HasLine-append bytes more line behind has,
      inr (some.0, (some.1.0, some.1.1, ap (λ (l : List ℕ). l ++ more) some.1.2 ∙ append_assoc content (13 ∷ 10 ∷ rest) more)),
    )

pub last-append : (sum : ℕ) (bytes more rest : List ℕ) → PieceAt sum bytes (Piece.Last rest) → PieceAt sum (bytes ++ more) (Piece.Last (rest ++ more))
last-append sum bytes more rest (inl none) = absurd none
last-append sum bytes more rest (inr (line, behind, has, inr some)) = absurd some.1
last-append sum bytes more rest (inr (line, behind, has, inl zero)) =
    inr (line, behind ++ more, HasLine-append bytes more line behind has, inl (zero.0, (zero.1.0, HasTrailers-append behind more zero.1.0 rest zero.1.1, zero.1.2)))

goes_whole-append : (content bytes more : List ℕ) (cs : List (List ℕ)) (body rest : List ℕ) → ChunksGo content bytes cs (Outcome.Whole body rest)
    → ChunksGo content (bytes ++ more) cs (Outcome.Whole body (rest ++ more))
goes_whole-append content bytes more [] body rest is = (last-append (length content) bytes more rest is.0, is.1)
goes_whole-append content bytes more (c ∷ cs) body rest is =
    (is.0 ++ more, chunk-append (length content) bytes more c is.0 is.1, goes_whole-append (content ++ c) is.0 more cs body rest is.2)

goes_refused-append : (content bytes more : List ℕ) (cs : List (List ℕ)) (code : ℕ) → ChunksGo content bytes cs (Outcome.Refused code) → ChunksGo content (bytes ++ more) cs (Outcome.Refused code)
goes_refused-append content bytes more [] code is = bad_piece-append (length content) bytes more code is
goes_refused-append content bytes more (c ∷ cs) code is =
    (is.0 ++ more, chunk-append (length content) bytes more c is.0 is.1, goes_refused-append (content ++ c) is.0 more cs code is.2)

-- a body that is whole is so whatever follows
pub whole-append : (content bytes more body rest : List ℕ) → BodyComes content bytes (Outcome.Whole body rest) → BodyComes content (bytes ++ more) (Outcome.Whole body (rest ++ more))
whole-append content bytes more body rest is = (is.0, goes_whole-append content bytes more is.0 body rest is.1)

-- and so is one that is refused
pub refused-append : (content bytes more : List ℕ) (code : ℕ) → BodyComes content bytes (Outcome.Refused code) → BodyComes content (bytes ++ more) (Outcome.Refused code)
refused-append content bytes more code is = (is.0, goes_refused-append content bytes more is.0 code is.1)

-- the same body stands in the bytes without those that are left
goes_cut : (content all : List ℕ) (cs : List (List ℕ)) (body h l : List ℕ) → ChunksGo content all cs (Outcome.Whole body (h ++ l))
    → (got : List ℕ) × (all ≡ got ++ l) × ChunksGo content got cs (Outcome.Whole body h)
goes_cut content all [] body h l (inl none, same) = absurd none
goes_cut content all [] body h l (inr (line, behind, has, inr some), same) = absurd some.1
goes_cut content all [] body h l (inr (line, behind, has, inl zero), same) =
    let fields : List Field = zero.1.0 in
    let trailers = zero.1.1 in
    let section : List ℕ = print_section fields trailers.last in
    let text : List ℕ = print_chunk_line line in
    let tail : behind ≡ (section ++ h) ++ l = trailers.reads.1 ∙ sym (append_assoc section h l) in
    let whole : all ≡ (text ++ (section ++ h)) ++ l = has.reads.1 ∙ ap (λ (m : List ℕ). text ++ m) tail ∙ sym (append_assoc text (section ++ h) l) in
    let here : HasTrailers (section ++ h) fields h = record { last = trailers.last; reads = (trailers.reads.0, refl); short = trailers.short } in
    let at : HasLine (text ++ (section ++ h)) line (section ++ h) = record { reads = (has.reads.0, refl); short = has.short } in
    (text ++ (section ++ h), whole, (inr (line, section ++ h, at, inl (zero.0, (fields, here, zero.1.2))), same))
goes_cut content all (c ∷ cs) body h l (mid, inl none, goes) = absurd none
goes_cut content all (c ∷ cs) body h l (mid, inr (line, behind, has, inl zero), goes) = absurd zero.1
goes_cut content all (c ∷ cs) body h l (mid, inr (line, behind, has, inr some), goes) =
    let rest = goes_cut (content ++ c) mid cs body h l goes in
    let g : List ℕ = c ++ 13 ∷ 10 ∷ rest.0 in
    let text : List ℕ = print_chunk_line line in
    let tail : behind ≡ g ++ l = some.1.2 ∙ ap (λ (m : List ℕ). c ++ 13 ∷ 10 ∷ m) rest.1 ∙ sym (append_assoc c (13 ∷ 10 ∷ rest.0) l) in
    let whole : all ≡ (text ++ g) ++ l = has.reads.1 ∙ ap (λ (m : List ℕ). text ++ m) tail ∙ sym (append_assoc text g l) in
    let at : HasLine (text ++ g) line g = record { reads = (has.reads.0, refl); short = has.short } in
    (text ++ g, whole, (rest.0, inr (line, g, at, inr (some.0, (some.1.0, some.1.1, refl))), rest.2))

pub whole_cut : (content all body h l : List ℕ) → BodyComes content all (Outcome.Whole body (h ++ l))
    → (got : List ℕ) × (all ≡ got ++ l) × BodyComes content got (Outcome.Whole body h)
whole_cut content all body h l is =
    let cut = goes_cut content all is.0 body h l is.1 in
    (cut.0, cut.1, (is.0, cut.2))
