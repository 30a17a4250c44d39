-- The body of a request for a new instance: its name, and its settings `format`, `auto.offset.reset`, `auto.commit.enable`, `fetch.min.bytes` and `consumer.request.timeout.ms` (Confluent REST Proxy API v2, POST /consumers/{group}).
use Rattle.std.specs.Prelude.{ℕ, zero, suc, pos, negsuc, Bool, true, false, ◌&&◌, ◌||◌, not, List, [], length, take, Option, Some, None, Result, Ok, Err, option_and_then, if◌then◌else◌, is_some, nat_lt, nat_le, bytes_eq, codes}
use Rattle.std.specs.List.{list_all}
use Rattle.std.specs.Char.{is_ascii_digit}
use Rattle.std.specs.Str.Parse.{digits_value}
use Rattle.serde_json.specs.Data.{Data, Num, unsigned, negative, float}
use Rattle.serde_json.specs.Find.{get, as_number, as_bool, as_null, as_str, as_object}
use Rattle.model.specs.state.Names.{is_word}
use Rattle.model.specs.state.World.{Settings, Edge, Format}
use Rattle.model.specs.state.World.Edge.{Start, End}
use Rattle.rest_calls.specs.declared.create.Bounds.{Bounds}
use Rattle.model.specs.state.World.Format.{Binary, Json}

-- a member of the body; null counts as absent
abbrev pub unless_null : Option Data → Option Data
unless_null None = None
unless_null (Some d) = if is_some (as_null d) then None else Some d

-- the member of that name
abbrev pub member_of : List ℕ → Data → Option Data
member_of name d = unless_null (get name d)

-- a name that a client may give: a word that doesn't begin as the gateway's own names do
abbrev pub is_given_name : List ℕ → Bool
is_given_name name = is_word name && not (bytes_eq (take 5 name) (codes "auto-"))

-- a name that is text, where it may be given
abbrev pub name_from : Option (List ℕ) → Result (List ℕ) ℕ
name_from None = Err 422
name_from (Some name) = if is_given_name name then Ok name else Err 42204

-- the name of the instance: empty where none is given
abbrev pub name_of : Option Data → Result (List ℕ) ℕ
name_of None = Ok []
name_of (Some d) = name_from (as_str d)

-- binary or json; avro isn't built
abbrev pub format_named : List ℕ → Option Format
format_named text =
    if bytes_eq text (codes "binary") then Some Binary else
    if bytes_eq text (codes "json") then Some Json else None

-- the format in which keys and values are shown: binary, if nothing is said
unfoldable pub format_in : Option Data → Option Format
format_in None = Some Binary
format_in (Some d) = option_and_then format_named (as_str d)

-- earliest or latest
abbrev pub edge_in : List ℕ → Option Edge
edge_in text =
    if bytes_eq text (codes "earliest") then Some Start else
    if bytes_eq text (codes "latest") then Some End else None

-- where reading begins: at the end, if nothing is said
unfoldable pub reset_of : Option Data → Option Edge
reset_of None = Some End
reset_of (Some d) = option_and_then edge_in (as_str d)

-- one of two texts
abbrev pub is_truth : Option (List ℕ) → Bool
is_truth None = false
is_truth (Some text) = bytes_eq text (codes "true") || bytes_eq text (codes "false")

-- true or false, as JSON or as text
unfoldable pub is_boolean : Option Data → Bool
is_boolean None = true
is_boolean (Some d) = is_some (as_bool d) || is_truth (as_str d)

-- a number within its bounds
abbrev pub within : Bounds → ℕ → Option ℕ
within bounds n = if nat_le bounds.least n && nat_le n bounds.most then Some n else None

-- the number that a text writes; -1 means the usual one
unfoldable pub number_in : Bounds → List ℕ → Option ℕ
number_in bounds text =
    if bytes_eq text (codes "-1") then Some bounds.usual else
    if nat_lt 0 (length text) && list_all is_ascii_digit text then within bounds (digits_value 10 text) else None

-- the number that a JSON integer is; -1 means the usual one
abbrev pub number_at : Bounds → Num → Option ℕ
number_at bounds (unsigned n) = within bounds n
number_at bounds (negative (pos n)) = None
number_at bounds (negative (negsuc zero)) = Some bounds.usual
number_at bounds (negative (negsuc (suc n))) = None
number_at bounds (float x) = None

-- a number, as text or as JSON
abbrev pub number_from : Bounds → Option (List ℕ) → Option Num → Option ℕ
number_from bounds (Some text) number = number_in bounds text
number_from bounds None number = option_and_then (number_at bounds) number

-- the number of a setting, the usual one where nothing is said
unfoldable pub number_of : Bounds → Option Data → Option ℕ
number_of bounds None = Some bounds.usual
number_of bounds (Some d) = number_from bounds (as_str d) (as_number d)

-- `fetch.min.bytes`: 1 to 4194304 bytes
abbrev pub bytes_bounds : Bounds
bytes_bounds = record { least = 1; most = 4194304; usual = 1 }

-- `consumer.request.timeout.ms`: 0 to 30000 milliseconds
abbrev pub wait_bounds : Bounds
wait_bounds = record { least = 0; most = 30000; usual = 1000 }

-- the settings, where each of them reads
abbrev pub settings_from : Option Format → (boolean : Bool) → Option Edge → (bytes wait : Option ℕ) → Option Settings
settings_from (Some format) true (Some reset) (Some bytes) (Some wait) =
    Some (record { format = format; reset = reset; auto_commit = false; min_bytes = bytes; timeout_ms = wait })
settings_from _ _ _ _ _ = None

-- the settings of a body
unfoldable pub settings_in : Data → Option Settings
settings_in d =
    settings_from
    (format_in (member_of (codes "format") d))
    (is_boolean (member_of (codes "auto.commit.enable") d))
    (reset_of (member_of (codes "auto.offset.reset") d))
    (number_of bytes_bounds (member_of (codes "fetch.min.bytes") d))
    (number_of wait_bounds (member_of (codes "consumer.request.timeout.ms") d))

-- the settings where nothing is said
abbrev pub usual_settings : Settings
usual_settings = record { format = Binary; reset = End; auto_commit = false; min_bytes = 1; timeout_ms = 1000 }

-- a name and settings; a body that doesn't read comes before one that isn't allowed
abbrev pub created_from : Result (List ℕ) ℕ → Option Settings → Result (List ℕ × Settings) ℕ
created_from (Err code) settings = Err code
created_from (Ok name) None = Err 42204
created_from (Ok name) (Some settings) = Ok (name, settings)

-- what the body of a Create says, or the code that refuses it
unfoldable pub created_by : Option Data → Result (List ℕ × Settings) ℕ
created_by None = Err 422
created_by (Some d) =
    if is_some (as_object d)
    then created_from (name_of (member_of (codes "name") d)) (settings_in d) else Err 422
