-- Bodies in chunks (RFC 9112, section 7.1): chunks one behind the other, a last one of size 0, and trailers.
use Rattle.std.specs.Prelude.{◌≡◌, ℕ, ◌+◌, ◌<◌, ◌≤◌, ◌⊎◌, ◌==◌, ◌&&◌, List, [], ◌∷◌, ◌++◌, length, take, drop, if◌then◌else◌}
use Rattle.httparse.specs.Grammar.{ChunkLine, print_chunk_line, chunk_size, ReadsChunkLine, NeverHasChunkLine, MayBecomeChunkLine, Field, LineEnd, print_section, ReadsSection, HasNoSection, NeverHasSection, MayBecomeSection}
use Rattle.http_head.specs.Fields.{max_body, max_fields}
use Rattle.http_head.specs.Head.{max_head}

-- the longest chunk line, with its CR LF
abbrev pub max_line : ℕ
max_line = 256

-- one byte less than the longest trailers
abbrev pub max_front : ℕ
max_front = 16383

-- the bytes begin with this chunk line, which isn't too long
pub record HasLine (bytes : List ℕ) (line : ChunkLine) (behind : List ℕ) : Type 0 where
  pub reads : ReadsChunkLine bytes line behind
  pub short : length (print_chunk_line line) ≤ max_line

-- the bytes begin with no chunk line that isn't too long
abbrev pub HasNoLine : List ℕ → Type 0
HasNoLine bytes = (line : ChunkLine) (behind : List ℕ) → HasLine bytes line behind → ⊥

-- no chunk line can stand here: as many bytes as one may have hold none, or they can't become one
abbrev pub IsBadLine : List ℕ → Type 0
IsBadLine bytes = ((max_line ≤ length bytes) × HasNoLine bytes) ⊎ NeverHasChunkLine bytes

-- the bytes end inside a chunk line
abbrev pub IsCutLine : List ℕ → Type 0
IsCutLine bytes = (length bytes < max_line) × HasNoLine bytes × MayBecomeChunkLine bytes

-- the bytes begin with these trailers, which aren't too long
pub record HasTrailers (bytes : List ℕ) (fields : List Field) (behind : List ℕ) : Type 0 where
  pub last : LineEnd
  pub reads : ReadsSection bytes fields last behind
  pub short : length (print_section fields last) ≤ max_head

-- the bytes begin with no trailers that aren't too long
abbrev pub HasNoTrailers : List ℕ → Type 0
HasNoTrailers bytes = (fields : List Field) (behind : List ℕ) → HasTrailers bytes fields behind → ⊥

-- a front of the bytes shorter than the longest trailers can't become trailers
abbrev pub IsSpoilt : List ℕ → Type 0
IsSpoilt bytes = NeverHasSection (take max_front bytes)

-- as many bytes as trailers may have hold none, and each shorter front of them may become trailers
abbrev pub AreTooLong : List ℕ → Type 0
AreTooLong bytes = (max_head ≤ length bytes) × HasNoTrailers bytes × (IsSpoilt bytes → ⊥)

-- what follows the content of a chunk: CR LF and the rest, something else, or too little to say
pub data After : Type 0 where
  Ended : (rest : List ℕ) → After
  Broken Unclear : After

abbrev pub after_content : List ℕ → After
after_content [] = After.Unclear
after_content (a ∷ []) = if a == 13 then After.Unclear else After.Broken
after_content (a ∷ b ∷ rest) = if (a == 13) && (b == 10) then After.Ended rest else After.Broken

-- What stands at a place where a chunk may begin: a chunk of this content, the last chunk with its trailers, what is refused with
-- this status, or the end of the bytes inside one of these.
pub data Piece : Type 0 where
  Chunk : (content rest : List ℕ) → Piece
  Last : (rest : List ℕ) → Piece
  Bad : (code : ℕ) → Piece
  Cut : Piece

-- where there is no chunk line
abbrev pub LinelessIs : List ℕ → Piece → Type 0
LinelessIs bytes (Piece.Chunk content rest) = ⊥
LinelessIs bytes (Piece.Last rest) = ⊥
LinelessIs bytes (Piece.Bad code) = IsBadLine bytes × (code ≡ 400)
LinelessIs bytes Piece.Cut = IsCutLine bytes

-- behind the line of the last chunk: trailers, which are dropped
abbrev pub TrailersAre : List ℕ → Piece → Type 0
TrailersAre bytes (Piece.Chunk content rest) = ⊥
TrailersAre bytes (Piece.Last rest) = (fields : List Field) × HasTrailers bytes fields rest × (length fields ≤ max_fields)
TrailersAre bytes (Piece.Bad code) =
    (((fields : List Field) × (rest : List ℕ) × HasTrailers bytes fields rest × (max_fields < length fields)) × (code ≡ 431))
    ⊎ ((AreTooLong bytes × (code ≡ 431)) ⊎ (IsSpoilt bytes × (code ≡ 400)))
TrailersAre bytes Piece.Cut = (length bytes < max_head) × HasNoSection bytes × MayBecomeSection bytes

-- behind the line of a chunk of this size, where so many bytes of content stand before it
abbrev pub ContentIs : ℕ → ℕ → List ℕ → Piece → Type 0
ContentIs sum size bytes (Piece.Chunk content rest) = (sum + size ≤ max_body) × (length content ≡ size) × (bytes ≡ content ++ 13 ∷ 10 ∷ rest)
ContentIs sum size bytes (Piece.Last rest) = ⊥
ContentIs sum size bytes (Piece.Bad code) =
    ((max_body < sum + size) × (code ≡ 413)) ⊎ ((sum + size ≤ max_body) × (after_content (drop size bytes) ≡ After.Broken) × (code ≡ 400))
ContentIs sum size bytes Piece.Cut = (sum + size ≤ max_body) × (after_content (drop size bytes) ≡ After.Unclear)

-- behind a chunk line that tells this size
abbrev pub SizedIs : ℕ → ℕ → List ℕ → Piece → Type 0
SizedIs sum size bytes piece = ((size ≡ 0) × TrailersAre bytes piece) ⊎ ((0 < size) × ContentIs sum size bytes piece)

-- at a place where a chunk may begin, behind so many bytes of content
abbrev pub PieceAt : ℕ → List ℕ → Piece → Type 0
PieceAt sum bytes piece =
    LinelessIs bytes piece ⊎ ((line : ChunkLine) × (behind : List ℕ) × HasLine bytes line behind × SizedIs sum (chunk_size line) behind piece)

-- what a body is: whole, with the rest behind it; refused with this status; or cut
pub data Outcome : Type 0 where
  Whole : (body rest : List ℕ) → Outcome
  Refused : (code : ℕ) → Outcome
  Short : Outcome

-- a body that ends in this piece, behind this content
abbrev pub EndsIn : List ℕ → List ℕ → Outcome → Type 0
EndsIn content bytes (Outcome.Whole body rest) = PieceAt (length content) bytes (Piece.Last rest) × (body ≡ content)
EndsIn content bytes (Outcome.Refused code) = PieceAt (length content) bytes (Piece.Bad code)
EndsIn content bytes Outcome.Short = PieceAt (length content) bytes Piece.Cut

-- these chunks stand behind this content, one behind the other, and then the body ends so
abbrev pub ChunksGo : List ℕ → List ℕ → List (List ℕ) → Outcome → Type 0
ChunksGo content bytes [] outcome = EndsIn content bytes outcome
ChunksGo content bytes (c ∷ cs) outcome =
    (mid : List ℕ) × PieceAt (length content) bytes (Piece.Chunk c mid) × ChunksGo (content ++ c) mid cs outcome

-- what comes of the bytes behind this content
abbrev pub BodyComes : List ℕ → List ℕ → Outcome → Type 0
BodyComes content bytes outcome = (chunks : List (List ℕ)) × ChunksGo content bytes chunks outcome

-- what the bytes behind a head are, as a body in chunks
abbrev pub IsChunked : List ℕ → Outcome → Type 0
IsChunked bytes outcome = BodyComes [] bytes outcome
