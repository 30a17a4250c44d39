-- What a JSON value is stored as (Confluent REST Proxy API v2, the binary and the JSON format; RFC 4648, section 4; RFC 8259).
use Rattle.std.specs.Prelude.{◌≡◌, ℕ, List, Option, Some, None, option_map, Result, Ok, Err, ⊤}
use Rattle.std.specs.Result.{result_ok}
use Rattle.base64.specs.GeneralPurpose.{decode_of}
use Rattle.base64.specs.Engines.{standard}
use Rattle.json_token.specs.Chars.{content}
use Rattle.json_span.specs.Json as json
use Rattle.json_span.specs.Text.{compact}
use Rattle.forms.specs.declared.format.Format.{Format}
use Rattle.forms.specs.declared.format.Format.TheVariants.{Binary, Json}
use Rattle.forms.specs.declared.format.FormNo.{FormNo}
use Rattle.forms.specs.declared.format.FormNo.TheVariants as no

-- the bytes of a text of base64, in the standard alphabet with padding
abbrev pub decoded_of : List ℕ → Option (List ℕ)
decoded_of text = result_ok (decode_of standard text)

-- the bytes that a text stands for, if the value is one
abbrev pub binary_of : json.Json → Option (List ℕ)
binary_of (json.text s) = decoded_of (content s)
binary_of j = None

-- what a value that isn't null is stored as, if it can be
abbrev pub bytes_of : Format → json.Json → Option (List ℕ)
bytes_of Binary j = binary_of j
bytes_of Json j = Some (compact j)

-- what a value is stored as, if it can be; null is stored null
abbrev pub stored_of : Format → json.Json → Option (Option (List ℕ))
stored_of format json.null = Some None
stored_of format (json.boolean b) = option_map (λ bytes. Some bytes) (bytes_of format (json.boolean b))
stored_of format (json.number s) = option_map (λ bytes. Some bytes) (bytes_of format (json.number s))
stored_of format (json.text s) = option_map (λ bytes. Some bytes) (bytes_of format (json.text s))
stored_of format (json.array js) = option_map (λ bytes. Some bytes) (bytes_of format (json.array js))
stored_of format (json.object ms) = option_map (λ bytes. Some bytes) (bytes_of format (json.object ms))

-- a value was stored so, or can't be stored, or there was no memory
abbrev pub StoresSo : Format → json.Json → Result (Option (List ℕ)) FormNo → Type 0
StoresSo format j (Ok stored) = stored_of format j ≡ Some stored
StoresSo format j (Err no.Base64) = (format ≡ Binary) × (stored_of format j ≡ None)
StoresSo format j (Err no.Json) = ⊥
StoresSo format j (Err no.Want) = ⊤

-- the same of a text of base64, and of a value that may be one; only private clauses cite them
abbrev pub Decodes : List ℕ → Result (List ℕ) FormNo → Type 0
Decodes text (Ok bytes) = decoded_of text ≡ Some bytes
Decodes text (Err no.Base64) = decoded_of text ≡ None
Decodes text (Err no.Json) = ⊥
Decodes text (Err no.Want) = ⊤

abbrev pub StoresText : json.Json → Result (List ℕ) FormNo → Type 0
StoresText j (Ok bytes) = binary_of j ≡ Some bytes
StoresText j (Err no.Base64) = binary_of j ≡ None
StoresText j (Err no.Json) = ⊥
StoresText j (Err no.Want) = ⊤
