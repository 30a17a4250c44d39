-- What the embedded forms show (Confluent REST Proxy API v2, the binary and the JSON format).
use Rattle.std.specs.Prelude.{codes, ℕ, List, Option, Some, None}
use Rattle.model.specs.state.World.{Format}
use Rattle.model.specs.state.World.Format.{Binary, Json, Avro}
use Rattle.model.specs.state.Forms.{Showing, Forms}
use Rattle.model.specs.state.Forms.Showing.{Text, Unshown}
use Rattle.forms.specs.Shown.{showing}
use Rattle.forms.specs.declared.format.Format.TheVariants as form

-- How what is stored is shown. No instance has the Avro format yet, and nothing but null is shown in it.
abbrev pub shows : Format → Option (List ℕ) → Showing
shows Binary stored = showing form.Binary stored
shows Json stored = showing form.Json stored
shows Avro None = Text (codes "null")
shows Avro (Some bytes) = Unshown 3

-- As `shows` says, whatever the table of schemas: no form has schemas yet.
abbrev pub shown : List (List ℕ) → Format → Option (List ℕ) → Showing
shown table = shows

-- the forms of every step
abbrev pub forms : Forms
forms = record { shows = shows }
