-- The body behind a head (RFC 9112, section 6): by its length, or in chunks.
use Rattle.std.specs.Prelude.{◌≡◌, ℕ, ◌<◌, List, ◌++◌, length}
use Rattle.http_head.specs.declared.fields.Framing.{Framing}
use Rattle.http_head.specs.declared.fields.Framing.TheVariants.{Length, Chunks}
use Rattle.body_read.specs.Chunks.{Outcome, IsChunked}

-- what the bytes behind a head are, as the body that its framing tells
abbrev pub BodyIs : Framing → List ℕ → Outcome → Type 0
BodyIs (Length size) bytes (Outcome.Whole body rest) = (length body ≡ size) × (bytes ≡ body ++ rest)
BodyIs (Length size) bytes (Outcome.Refused code) = ⊥
BodyIs (Length size) bytes Outcome.Short = length bytes < size
BodyIs Chunks bytes outcome = IsChunked bytes outcome
