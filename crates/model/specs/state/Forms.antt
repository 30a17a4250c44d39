-- What stored bytes are shown as in the embedded formats of the Confluent REST Proxy API v2, and why a row doesn't read.
use Rattle.std.specs.Prelude.{ℕ, ◌≡◌, List, Option, Some, None, codes}
use Rattle.model.specs.state.Log.{Row}
use Rattle.model.specs.state.World.{Format}
use Rattle.model.specs.state.World.Format.{Binary}

-- the text, or the reason from 1 to 5
pub data Showing : Type 0 where
  Text : List ℕ → Showing
  Unshown : (reason : ℕ) → Showing

-- how stored bytes are shown in a format, with the table of schemas of the turn; stored null is None
pub record Forms : Type 0 where
  pub shows : Format → Option (List ℕ) → Showing

-- the first reason of two
abbrev pub or_reason : Showing → Showing → Option ℕ
or_reason (Unshown reason) other = Some reason
or_reason (Text text) (Unshown reason) = Some reason
or_reason (Text text) (Text other) = None

-- the reason of a row; its key is shown before its value
abbrev pub reason_of : Forms → Format → Row → Option ℕ
reason_of forms format row = or_reason (forms.shows format row.key) (forms.shows format row.value)

-- What holds of each table: null is null, and Binary reads all bytes. The rest is said by the crate that reads stored bytes.
pub record IsForms (forms : Forms) : Type 0 where
  pub null : (format : Format) → forms.shows format None ≡ Text (codes "null")
  pub base64 : List ℕ → List ℕ
  pub binary : (bytes : List ℕ) → forms.shows Binary (Some bytes) ≡ Text (base64 bytes)
