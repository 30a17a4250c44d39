-- The bytes of a body in chunks come to one thing alone, whatever follows what stands whole.
use Rattle.std.proofs.Common.{◌≡◌, ℕ, ◌<◌, List, [], ◌∷◌, ◌++◌, length, take, drop, refl, ap, sym, subst, ◌∙◌, arith, inl, inr}
use Rattle.std.proofs.lemmas.List.{append-nil, take-append-drop, take_all}
use Rattle.std.proofs.Math.Seq.{take-append_seam, drop-append_seam}
use Rattle.httparse.specs.Grammar.{ChunkLine, chunk_size, ReadsChunkLine, Field, ReadsSection, NeverHasSection}
use Rattle.httparse.proofs.ChunkLemmas.{chunk_line_unique}
use Rattle.httparse.proofs.GrammarLemmas.{section_unique}
use Rattle.http_head.specs.Head.{max_head}
use Rattle.body_read.specs.Chunks.{max_front, HasLine, LinelessIs, HasTrailers, IsSpoilt, TrailersAre, After, after_content, ContentIs, SizedIs, Piece, PieceAt, Outcome, EndsIn, ChunksGo, BodyComes}

-- a line that is there leaves no other case
pub line_stands : (bytes : List ℕ) (line : ChunkLine) (behind : List ℕ) (p : Piece) → HasLine bytes line behind → LinelessIs bytes p → ⊥
line_stands bytes line behind (Piece.Chunk content rest) has is = is
line_stands bytes line behind (Piece.Last rest) has is = is
line_stands bytes line behind (Piece.Bad code) has (inl full, same) = full.1 line behind has
line_stands bytes line behind (Piece.Bad code) has (inr never, same) =
    never [] line behind (subst (λ (l : List ℕ). ReadsChunkLine l line behind) (sym (append-nil bytes)) has.reads)
line_stands bytes line behind Piece.Cut has is = is.1 line behind has

lineless_one : (bytes : List ℕ) (p q : Piece) → LinelessIs bytes p → LinelessIs bytes q → p ≡ q
lineless_one bytes (Piece.Chunk c r) q is are = absurd is
lineless_one bytes (Piece.Last r) q is are = absurd is
lineless_one bytes p (Piece.Chunk c r) is are = absurd are
lineless_one bytes p (Piece.Last r) is are = absurd are
lineless_one bytes (Piece.Bad a) (Piece.Bad b) is are = ap (λ (n : ℕ). Piece.Bad n) (is.1 ∙ sym are.1)
lineless_one bytes (Piece.Bad a) Piece.Cut (inl full, same) are = absurd (omega (arith, full.0, are.0))
lineless_one bytes (Piece.Bad a) Piece.Cut (inr never, same) are = absurd (never are.2.0 are.2.1 [] are.2.2)
lineless_one bytes Piece.Cut (Piece.Bad a) is (inl full, same) = absurd (omega (arith, full.0, is.0))
lineless_one bytes Piece.Cut (Piece.Bad a) is (inr never, same) = absurd (never is.2.0 is.2.1 [] is.2.2)
lineless_one bytes Piece.Cut Piece.Cut is are = refl

-- trailers that are there aren't spoilt
spoilt_none : (bytes : List ℕ) (fields : List Field) (rest : List ℕ) → IsSpoilt bytes → HasTrailers bytes fields rest → ⊥
spoilt_none bytes fields rest spoilt has =
    spoilt (drop max_front bytes) fields has.last rest (subst (λ (l : List ℕ). ReadsSection l fields has.last rest) (sym (take-append-drop max_front bytes)) has.reads)

-- the same trailers
trailers_same : (bytes : List ℕ) (fs gs : List Field) (r q : List ℕ) → HasTrailers bytes fs r → HasTrailers bytes gs q → (fs ≡ gs) × (r ≡ q)
trailers_same bytes fs gs r q x y = let same = section_unique bytes fs gs x.last y.last r q x.reads y.reads in (same.0, same.2)

last_not_bad : (bytes rest : List ℕ) (code : ℕ) → TrailersAre bytes (Piece.Last rest) → TrailersAre bytes (Piece.Bad code) → ⊥
last_not_bad bytes rest code is (inl many) =
    let same = trailers_same bytes is.0 many.0.0 rest many.0.1 is.1 many.0.2 in
    absurd (omega (arith, is.2, many.0.3, ap (length {A = Field}) same.0))
last_not_bad bytes rest code is (inr (inl long)) = long.0.1 is.0 rest is.1
last_not_bad bytes rest code is (inr (inr spoilt)) = spoilt_none bytes is.0 rest spoilt.0 is.1

cut_not_last : (bytes rest : List ℕ) → TrailersAre bytes (Piece.Last rest) → TrailersAre bytes Piece.Cut → ⊥
cut_not_last bytes rest is cut = cut.1 is.0 is.1.last rest is.1.reads

-- a front that isn't shorter than the bytes is all of them
pub whole_front : (bytes : List ℕ) → length bytes < max_head → take max_front bytes ≡ bytes
whole_front bytes short = take_all max_front bytes (omega (arith, short))

cut_not_bad : (bytes : List ℕ) (code : ℕ) → TrailersAre bytes (Piece.Bad code) → TrailersAre bytes Piece.Cut → ⊥
cut_not_bad bytes code (inl many) cut = cut.1 many.0.0 many.0.2.last many.0.1 many.0.2.reads
cut_not_bad bytes code (inr (inl long)) cut = absurd (omega (arith, long.0.0, cut.0))
cut_not_bad bytes code (inr (inr spoilt)) cut =
    let never : NeverHasSection bytes = subst (λ (l : List ℕ). NeverHasSection l) (whole_front bytes cut.0) spoilt.0 in
    never cut.2.0 cut.2.1 cut.2.2 [] cut.2.3

bad_codes : (bytes : List ℕ) (a b : ℕ) → TrailersAre bytes (Piece.Bad a) → TrailersAre bytes (Piece.Bad b) → a ≡ b
bad_codes bytes a b (inl many) (inl more) = many.1 ∙ sym more.1
bad_codes bytes a b (inl many) (inr (inl long)) = many.1 ∙ sym long.1
bad_codes bytes a b (inl many) (inr (inr spoilt)) = absurd (spoilt_none bytes many.0.0 many.0.1 spoilt.0 many.0.2)
bad_codes bytes a b (inr (inl long)) (inl many) = long.1 ∙ sym many.1
bad_codes bytes a b (inr (inl long)) (inr (inl full)) = long.1 ∙ sym full.1
bad_codes bytes a b (inr (inl long)) (inr (inr spoilt)) = absurd (long.0.2 spoilt.0)
bad_codes bytes a b (inr (inr spoilt)) (inl many) = absurd (spoilt_none bytes many.0.0 many.0.1 spoilt.0 many.0.2)
bad_codes bytes a b (inr (inr spoilt)) (inr (inl long)) = absurd (long.0.2 spoilt.0)
bad_codes bytes a b (inr (inr spoilt)) (inr (inr other)) = spoilt.1 ∙ sym other.1

trailers_one : (bytes : List ℕ) (p q : Piece) → TrailersAre bytes p → TrailersAre bytes q → p ≡ q
trailers_one bytes (Piece.Chunk c r) q is are = absurd is
trailers_one bytes p (Piece.Chunk c r) is are = absurd are
trailers_one bytes (Piece.Last r) (Piece.Last q) is are = ap (λ (l : List ℕ). Piece.Last l) (trailers_same bytes is.0 are.0 r q is.1 are.1).1
trailers_one bytes (Piece.Last r) (Piece.Bad b) is are = absurd (last_not_bad bytes r b is are)
trailers_one bytes (Piece.Last r) Piece.Cut is are = absurd (cut_not_last bytes r is are)
trailers_one bytes (Piece.Bad a) (Piece.Last q) is are = absurd (last_not_bad bytes q a are is)
trailers_one bytes (Piece.Bad a) (Piece.Bad b) is are = ap (λ (n : ℕ). Piece.Bad n) (bad_codes bytes a b is are)
trailers_one bytes (Piece.Bad a) Piece.Cut is are = absurd (cut_not_bad bytes a is are)
trailers_one bytes Piece.Cut (Piece.Last q) is are = absurd (cut_not_last bytes q are is)
trailers_one bytes Piece.Cut (Piece.Bad b) is are = absurd (cut_not_bad bytes b are is)
trailers_one bytes Piece.Cut Piece.Cut is are = refl

-- where the content of a chunk ends
pub content_is : (size : ℕ) (bytes content rest : List ℕ) → length content ≡ size → bytes ≡ content ++ 13 ∷ 10 ∷ rest
    → (take size bytes ≡ content) × (after_content (drop size bytes) ≡ After.Ended rest)
content_is size bytes content rest long is =
    let front : take size bytes ≡ content =
    ap (λ (n : ℕ). take n bytes) (sym long) ∙ ap (take (length content)) is ∙ take-append_seam content (13 ∷ 10 ∷ rest) in
    let behind : drop size bytes ≡ 13 ∷ 10 ∷ rest =
    ap (λ (n : ℕ). drop n bytes) (sym long) ∙ ap (drop (length content)) is ∙ drop-append_seam content (13 ∷ 10 ∷ rest) in
    (front, ap after_content behind)

content_one : (sum size : ℕ) (bytes : List ℕ) (p q : Piece) → ContentIs sum size bytes p → ContentIs sum size bytes q → p ≡ q
content_one sum size bytes (Piece.Last r) q is are = absurd is
content_one sum size bytes p (Piece.Last r) is are = absurd are
content_one sum size bytes (Piece.Chunk c r) (Piece.Chunk d q) is are =
    let one = content_is size bytes c r is.1 is.2 in
    let two = content_is size bytes d q are.1 are.2 in
    let rest : After.Ended r ≡ After.Ended q = sym one.1 ∙ two.1 in
    let same : r ≡ q = cc in
    let content : c ≡ d = sym one.0 ∙ two.0 in
    λ i. Piece.Chunk (content i) (same i)
content_one sum size bytes (Piece.Chunk c r) (Piece.Bad b) is (inl large) = absurd (omega (arith, is.0, large.0))
content_one sum size bytes (Piece.Chunk c r) (Piece.Bad b) is (inr broken) =
    let one = content_is size bytes c r is.1 is.2 in
    absurd (cc (sym one.1 ∙ broken.1))
content_one sum size bytes (Piece.Chunk c r) Piece.Cut is are =
    let one = content_is size bytes c r is.1 is.2 in
    absurd (cc (sym one.1 ∙ are.1))
content_one sum size bytes (Piece.Bad a) (Piece.Chunk d q) (inl large) are = absurd (omega (arith, are.0, large.0))
content_one sum size bytes (Piece.Bad a) (Piece.Chunk d q) (inr broken) are =
    let one = content_is size bytes d q are.1 are.2 in
    absurd (cc (sym one.1 ∙ broken.1))
content_one sum size bytes (Piece.Bad a) (Piece.Bad b) (inl large) (inl larger) = ap (λ (n : ℕ). Piece.Bad n) (large.1 ∙ sym larger.1)
content_one sum size bytes (Piece.Bad a) (Piece.Bad b) (inl large) (inr broken) = absurd (omega (arith, broken.0, large.0))
content_one sum size bytes (Piece.Bad a) (Piece.Bad b) (inr broken) (inl large) = absurd (omega (arith, broken.0, large.0))
content_one sum size bytes (Piece.Bad a) (Piece.Bad b) (inr broken) (inr other) = ap (λ (n : ℕ). Piece.Bad n) (broken.2 ∙ sym other.2)
content_one sum size bytes (Piece.Bad a) Piece.Cut (inl large) are = absurd (omega (arith, are.0, large.0))
content_one sum size bytes (Piece.Bad a) Piece.Cut (inr broken) are = absurd (cc (sym broken.1 ∙ are.1))
content_one sum size bytes Piece.Cut (Piece.Chunk d q) is are =
    let one = content_is size bytes d q are.1 are.2 in
    absurd (cc (sym one.1 ∙ is.1))
content_one sum size bytes Piece.Cut (Piece.Bad b) is (inl large) = absurd (omega (arith, is.0, large.0))
content_one sum size bytes Piece.Cut (Piece.Bad b) is (inr broken) = absurd (cc (sym broken.1 ∙ is.1))
content_one sum size bytes Piece.Cut Piece.Cut is are = refl

sized_one : (sum size : ℕ) (bytes : List ℕ) (p q : Piece) → SizedIs sum size bytes p → SizedIs sum size bytes q → p ≡ q
sized_one sum size bytes p q (inl is) (inl are) = trailers_one bytes p q is.1 are.1
sized_one sum size bytes p q (inl is) (inr are) = absurd (omega (arith, is.0, are.0))
sized_one sum size bytes p q (inr is) (inl are) = absurd (omega (arith, is.0, are.0))
sized_one sum size bytes p q (inr is) (inr are) = content_one sum size bytes p q is.1 are.1

-- one thing stands at a place
pub piece_one : (sum : ℕ) (bytes : List ℕ) (p q : Piece) → PieceAt sum bytes p → PieceAt sum bytes q → p ≡ q
piece_one sum bytes p q (inl is) (inl are) = lineless_one bytes p q is are
piece_one sum bytes p q (inl is) (inr are) = absurd (line_stands bytes are.0 are.1 p are.2 is)
piece_one sum bytes p q (inr is) (inl are) = absurd (line_stands bytes is.0 is.1 q is.2 are)
piece_one sum bytes p q (inr is) (inr are) =
    let same = chunk_line_unique bytes is.0 are.0 is.1 are.1 is.2.reads are.2.reads in
    let line : SizedIs sum (chunk_size is.0) are.1 q = subst (λ (l : ChunkLine). SizedIs sum (chunk_size l) are.1 q) (sym same.0) are.3 in
    let here : SizedIs sum (chunk_size is.0) is.1 q = subst (λ (l : List ℕ). SizedIs sum (chunk_size is.0) l q) (sym same.1) line in
    sized_one sum (chunk_size is.0) is.1 p q is.3 here

-- no chunk goes on where the body ends
ends_no_chunk : (content bytes c mid : List ℕ) (x : Outcome) → EndsIn content bytes x → PieceAt (length content) bytes (Piece.Chunk c mid) → ⊥
ends_no_chunk content bytes c mid (Outcome.Whole body rest) is chunk = absurd (cc (piece_one (length content) bytes (Piece.Last rest) (Piece.Chunk c mid) is.0 chunk))
ends_no_chunk content bytes c mid (Outcome.Refused code) is chunk = absurd (cc (piece_one (length content) bytes (Piece.Bad code) (Piece.Chunk c mid) is chunk))
ends_no_chunk content bytes c mid Outcome.Short is chunk = absurd (cc (piece_one (length content) bytes Piece.Cut (Piece.Chunk c mid) is chunk))

ends_one : (content bytes : List ℕ) (x y : Outcome) → EndsIn content bytes x → EndsIn content bytes y → x ≡ y
ends_one content bytes (Outcome.Whole b r) (Outcome.Whole d q) is are =
    let last = piece_one (length content) bytes (Piece.Last r) (Piece.Last q) is.0 are.0 in
    let rest : r ≡ q = cc in
    let body : b ≡ d = is.1 ∙ sym are.1 in
    λ i. Outcome.Whole (body i) (rest i)
ends_one content bytes (Outcome.Whole b r) (Outcome.Refused c) is are = absurd (cc (piece_one (length content) bytes (Piece.Last r) (Piece.Bad c) is.0 are))
ends_one content bytes (Outcome.Whole b r) Outcome.Short is are = absurd (cc (piece_one (length content) bytes (Piece.Last r) Piece.Cut is.0 are))
ends_one content bytes (Outcome.Refused a) (Outcome.Whole d q) is are = absurd (cc (piece_one (length content) bytes (Piece.Bad a) (Piece.Last q) is are.0))
ends_one content bytes (Outcome.Refused a) (Outcome.Refused b) is are =
    let bad = piece_one (length content) bytes (Piece.Bad a) (Piece.Bad b) is are in
    let code : a ≡ b = cc in
    ap (λ (n : ℕ). Outcome.Refused n) code
ends_one content bytes (Outcome.Refused a) Outcome.Short is are = absurd (cc (piece_one (length content) bytes (Piece.Bad a) Piece.Cut is are))
ends_one content bytes Outcome.Short (Outcome.Whole d q) is are = absurd (cc (piece_one (length content) bytes Piece.Cut (Piece.Last q) is are.0))
ends_one content bytes Outcome.Short (Outcome.Refused b) is are = absurd (cc (piece_one (length content) bytes Piece.Cut (Piece.Bad b) is are))
ends_one content bytes Outcome.Short Outcome.Short is are = refl

goes_one : (content bytes : List ℕ) (cs ds : List (List ℕ)) (x y : Outcome) → ChunksGo content bytes cs x → ChunksGo content bytes ds y → x ≡ y
goes_one content bytes [] [] x y is are = ends_one content bytes x y is are
goes_one content bytes [] (d ∷ ds) x y is are = absurd (ends_no_chunk content bytes d are.0 x is are.1)
goes_one content bytes (c ∷ cs) [] x y is are = absurd (ends_no_chunk content bytes c is.0 y are is.1)
goes_one content bytes (c ∷ cs) (d ∷ ds) x y is are =
    let same = piece_one (length content) bytes (Piece.Chunk c is.0) (Piece.Chunk d are.0) is.1 are.1 in
    let chunk : c ≡ d = cc in
    let mid : is.0 ≡ are.0 = cc in
    let other : ChunksGo (content ++ d) is.0 ds y = subst (λ (l : List ℕ). ChunksGo (content ++ d) l ds y) (sym mid) are.2 in
    let here : ChunksGo (content ++ c) is.0 ds y = subst (λ (l : List ℕ). ChunksGo (content ++ l) is.0 ds y) (sym chunk) other in
    goes_one (content ++ c) is.0 cs ds x y is.2 here

-- the bytes behind a content come to one thing
pub comes_one : (content bytes : List ℕ) (x y : Outcome) → BodyComes content bytes x → BodyComes content bytes y → x ≡ y
comes_one content bytes x y is are = goes_one content bytes is.0 are.0 x y is.1 are.1
