-- What the steps of reading a body say.
use Rattle.std.specs.Prelude.{◌≡◌, ◌≤◌, ℕ, List, Option, ◌++◌, length, drop}
use Rattle.std.specs.Io.KnownBytes.{IsAtEnd}
use Rattle.http_head.specs.declared.fields.Framing.{Framing}
use Rattle.body_read.specs.Chunks.{Outcome, Piece, PieceAt}
use Rattle.body_read.specs.Body.{BodyIs}
use Rattle.body_read.specs.Found.{PartIs}
use Rattle.body_read.specs.declared.part.Part.{Part}
use Rattle.body_read.specs.declared.part.Part.TheVariants as part
use Rattle.http_conn.specs.declared.body.Found.{Found}
use Rattle.http_conn.specs.declared.body.Found.TheVariants.{Whole, Bad, Cut}

-- more is held behind the start
abbrev pub IsBehind : List ℕ → List ℕ → Type 0
IsBehind start held = (more : List ℕ) × (held ≡ start ++ more)

-- more is held, and it ends inside the body that begins at the place
abbrev pub IsCutAt : Framing → ℕ → List ℕ → List ℕ → Type 0
IsCutAt framing place start held = IsBehind start held × BodyIs framing (drop place held) Outcome.Short

-- more is held, and it ends inside the part that begins at the place
abbrev pub EndsInPart : ℕ → ℕ → List ℕ → List ℕ → Type 0
EndsInPart sum place start held = IsBehind start held × PieceAt sum (drop place held) Piece.Cut

-- what was found of the body that begins at the place
abbrev pub BodyFound : Framing → ℕ → List ℕ → Option (List ℕ) → Found → Type 0
BodyFound framing place held left (Whole body end) = (end ≤ length held) × BodyIs framing (drop place held) (Outcome.Whole body (drop end held))
BodyFound framing place held left (Bad code) = BodyIs framing (drop place held) (Outcome.Refused code)
BodyFound framing place held left Cut = BodyIs framing (drop place held) Outcome.Short × IsAtEnd left

-- what was found of the part that begins at the place
abbrev pub PartFound : ℕ → List ℕ → Option (List ℕ) → Part → Type 0
PartFound sum bytes left (part.Chunk start end) = PartIs sum bytes (part.Chunk start end)
PartFound sum bytes left (part.Last len) = PartIs sum bytes (part.Last len)
PartFound sum bytes left (part.Bad code) = PartIs sum bytes (part.Bad code)
PartFound sum bytes left part.Cut = PartIs sum bytes part.Cut × IsAtEnd left
