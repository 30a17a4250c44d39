-- What stored bytes are shown as (Confluent REST Proxy API v2, the binary and the JSON format; RFC 4648, section 4; RFC 8259).
use Rattle.std.specs.Prelude.{◌≡◌, ◌++◌, ℕ, codes, List, Option, Some, None, Result, Ok, Err, ⊤}
use Rattle.base64.specs.GeneralPurpose.{encode_of}
use Rattle.base64.specs.Engines.{standard}
use Rattle.json_span.specs.Json.{Json as Value}
use Rattle.json_span.specs.Text.{compact}
use Rattle.model.specs.state.Forms.{Showing}
use Rattle.model.specs.state.Forms.Showing.{Text, Unshown}
use Rattle.forms.specs.Text.{value_of}
use Rattle.forms.specs.declared.format.Format.{Format}
use Rattle.forms.specs.declared.format.Format.TheVariants.{Binary, Json}
use Rattle.forms.specs.declared.format.FormNo.{FormNo}
use Rattle.forms.specs.declared.format.FormNo.TheVariants as no

-- bytes as a JSON string of base64
unfoldable pub base64_text : List ℕ → List ℕ
base64_text bytes = codes "\"" ++ (encode_of standard bytes ++ codes "\"")

-- a value is shown without white space between tokens, and other bytes can't be shown
abbrev pub text_or_not : Option Value → Showing
text_or_not (Some j) = Text (compact j)
text_or_not None = Unshown 2

-- how bytes are shown, which in JSON are to be a text of at most 127 levels
abbrev pub showing_of : Format → List ℕ → Showing
showing_of Binary bytes = Text (base64_text bytes)
showing_of Json bytes = text_or_not (value_of bytes)

-- how what is stored is shown: nothing is shown as null
abbrev pub showing : Format → Option (List ℕ) → Showing
showing format None = Text (codes "null")
showing format (Some bytes) = showing_of format bytes

-- The text of what is stored was put behind a text; or it can't be shown, for the reason that the model has, and the text is as it
-- was; or there was no memory.
abbrev pub ShowsSo : Format → Option (List ℕ) → (before now : List ℕ) → Result Unit FormNo → Type 0
ShowsSo format stored before now (Ok done) = (shown : List ℕ) × (showing format stored ≡ Text shown) × (now ≡ before ++ shown)
ShowsSo format stored before now (Err no.Json) = (showing format stored ≡ Unshown 2) × (now ≡ before)
ShowsSo format stored before now (Err no.Base64) = ⊥
ShowsSo format stored before now (Err no.Want) = ⊤
