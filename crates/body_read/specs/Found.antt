-- What the steps of reading a body in chunks say.
use Rattle.std.specs.Prelude.{◌≡◌, ℕ, ◌+◌, ◌<◌, ◌≤◌, List, length, drop, slice_range, Bool, true, false, Option, Some, None}
use Rattle.httparse.specs.Grammar.{ChunkLine, chunk_size, HasNoChunkLine, NeverHasChunkLine, MayBecomeChunkLine, Field, HasNoSection, NeverHasSection, MayBecomeSection}
use Rattle.http_head.specs.Fields.{max_fields}
use Rattle.body_read.specs.Chunks.{HasLine, IsBadLine, IsCutLine, HasTrailers, TrailersAre, After, Piece, PieceAt}
use Rattle.body_read.specs.declared.part.Part.{Part}
use Rattle.body_read.specs.declared.part.Part.TheVariants as part
use Rattle.body_read.specs.declared.part.Line.{Line}
use Rattle.body_read.specs.declared.part.Line.TheVariants as line
use Rattle.body_read.specs.declared.trailers.Trailers.{Trailers}
use Rattle.body_read.specs.declared.trailers.Trailers.TheVariants as trailers
use Rattle.body_read.specs.declared.trailers.End.{End}
use Rattle.body_read.specs.declared.trailers.End.TheVariants as end

-- a part that isn't whole is shorter: a line, the largest content and its CR LF
abbrev pub max_part : ℕ
max_part = 8388866

-- CR LF follows, something else does, or nothing can be said yet
abbrev pub ended_of : After → Option Bool
ended_of (After.Ended rest) = Some true
ended_of After.Broken = Some false
ended_of After.Unclear = None

-- what the line of so few bytes was found to be
abbrev pub LineFound : List ℕ → Line → Type 0
LineFound bytes (line.Whole len size) = (len ≤ length bytes) × (l : ChunkLine) × HasLine bytes l (drop len bytes) × (size ≡ chunk_size l)
LineFound bytes line.Bad = NeverHasChunkLine bytes
LineFound bytes line.Cut = HasNoChunkLine bytes × MayBecomeChunkLine bytes

-- what the line at the front was found to be
abbrev pub LineIs : List ℕ → Line → Type 0
LineIs bytes (line.Whole len size) = (len ≤ length bytes) × (len ≤ 256) × (l : ChunkLine) × HasLine bytes l (drop len bytes) × (size ≡ chunk_size l)
LineIs bytes line.Bad = IsBadLine bytes
LineIs bytes line.Cut = IsCutLine bytes

-- what the trailers of so few bytes were found to be
abbrev pub TrailersFound : List ℕ → Trailers → Type 0
TrailersFound bytes (trailers.Whole len) = (len ≤ length bytes) × (fields : List Field) × HasTrailers bytes fields (drop len bytes) × (length fields ≤ max_fields)
TrailersFound bytes trailers.Many = (fields : List Field) × (rest : List ℕ) × HasTrailers bytes fields rest × (max_fields < length fields)
TrailersFound bytes trailers.Open = HasNoSection bytes × MayBecomeSection bytes
TrailersFound bytes trailers.Lost = NeverHasSection bytes

-- what stands behind the last chunk line was found to be
abbrev pub EndIs : List ℕ → End → Type 0
EndIs bytes (end.Whole len) = (len ≤ length bytes) × TrailersAre bytes (Piece.Last (drop len bytes))
EndIs bytes (end.Bad code) = TrailersAre bytes (Piece.Bad code)
EndIs bytes end.Cut = TrailersAre bytes Piece.Cut

-- the bytes end inside the part
abbrev pub is_cut_part : Part → Bool
is_cut_part (part.Chunk start end) = false
is_cut_part (part.Last len) = false
is_cut_part (part.Bad code) = false
is_cut_part part.Cut = true

-- what the part at the front was found to be, behind so many bytes of content
abbrev pub PartIs : ℕ → List ℕ → Part → Type 0
PartIs sum bytes (part.Chunk start end) =
    (start < end) × (end + 2 ≤ length bytes) × PieceAt sum bytes (Piece.Chunk (slice_range bytes start end) (drop (end + 2) bytes))
PartIs sum bytes (part.Last len) = (len ≤ length bytes) × PieceAt sum bytes (Piece.Last (drop len bytes))
PartIs sum bytes (part.Bad code) = PieceAt sum bytes (Piece.Bad code)
PartIs sum bytes part.Cut = PieceAt sum bytes Piece.Cut × (length bytes < max_part)
