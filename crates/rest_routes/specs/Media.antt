-- The media types that a request names (RFC 9110, sections 8.3 and 12.5.1), each without its parameters and without ASCII case.
use Rattle.std.specs.Prelude.{ℕ, List, [], ◌∷◌, Bool, true, false, ◌||◌, ◌&&◌, ◌==◌, if◌then◌else◌, Option, Some, None, is_some, codes, not}
use Rattle.std.specs.List.{before_first, list_any, slice_split}
use Rattle.http_head.specs.Member.{is_comma, is_word}
use Rattle.http_conn.specs.declared.request.Request.{Request}
use Rattle.forms.specs.declared.format.Format.{Format}
use Rattle.forms.specs.declared.format.Format.TheVariants as format
use Rattle.rest_routes.specs.declared.media.Accepted.{Accepted}
use Rattle.rest_routes.specs.declared.media.Kind.{Kind}
use Rattle.rest_routes.specs.declared.media.Kind.TheVariants.{Any, Binary, Json, Avro}
use Rattle.rest_routes.specs.declared.place.Place.{Place}
use Rattle.rest_routes.specs.declared.place.Place.TheVariants.{Topic, Partition, Group, Instance}
use Rattle.rest_routes.specs.declared.place.TopicAsk.TheVariants.{Produce}
use Rattle.rest_routes.specs.declared.place.PartitionAsk.TheVariants as partition
use Rattle.rest_routes.specs.declared.place.Ask.TheVariants.{Assign, Seek, SeekBeginning, SeekEnd, Records}

-- what stands before the parameters
abbrev pub is_semicolon : ℕ → Bool
is_semicolon b = b == 59

-- the member names this type
abbrev pub names : (type member : List ℕ) → Bool
names type member = is_word type (before_first is_semicolon member)

-- the types of bodies and replies that hold no records
unfoldable pub is_general : List ℕ → Bool
is_general member =
    names (codes "application/vnd.kafka.v2+json") member || names (codes "application/vnd.kafka+json") member || names (codes "application/json") member

-- the ranges that hold them
unfoldable pub is_wildcard : List ℕ → Bool
is_wildcard member = names (codes "*/*") member || names (codes "application/*") member

-- of any records, or of records in one of the embedded formats
unfoldable pub is_in : Kind → List ℕ → Bool
is_in Any member = is_general member || is_wildcard member
is_in Binary member = names (codes "application/vnd.kafka.binary.v2+json") member
is_in Json member = names (codes "application/vnd.kafka.json.v2+json") member
is_in Avro member = names (codes "application/vnd.kafka.avro.v2+json") member

-- one of the members is so
abbrev pub has_one : Kind → List ℕ → Bool
has_one kind value = list_any (is_in kind) (slice_split is_comma value)

-- one of them names an embedded format
abbrev pub has_records : List ℕ → Bool
has_records value = has_one Binary value || (has_one Json value || has_one Avro value)

-- a reply of this kind is of a type that one of the members names, or there is no such field
abbrev pub accepts : (records : Bool) → Option (List ℕ) → Bool
accepts records None = true
accepts records (Some value) = has_one Any value || (records && has_records value)

-- no format is named, so that every one is accepted
abbrev pub all_formats : Accepted
all_formats = record { binary = false; json = false; avro = false }

-- The formats that the members name. One that stands for each type of reply names none, whichever others stand beside it.
abbrev pub accepted_by : List ℕ → Accepted
accepted_by value =
    if has_one Any value then all_formats
    else record { binary = has_one Binary value; json = has_one Json value; avro = has_one Avro value }

-- the formats that an Accept names
abbrev pub accepted_formats : Option (List ℕ) → Accepted
accepted_formats None = all_formats
accepted_formats (Some value) = accepted_by value

-- the reply of a place is of a type that the request accepts: that of a read of records holds records, no other does
abbrev pub is_acceptable : Place → Option (List ℕ) → Bool
is_acceptable (Instance group name Records) accept = accepts true accept
is_acceptable place accept = accepts false accept

-- the format of records that a type names
abbrev pub format_named : List ℕ → Option Format
format_named type =
    if is_in Binary type then Some format.Binary else
    if is_in Json type then Some format.Json else None

-- the format of a body's records, if its type names one that is built
abbrev pub format_in : Option (List ℕ) → Option Format
format_in None = None
format_in (Some type) = format_named type

-- no other type than a general one is named
abbrev pub holds_general : Option (List ℕ) → Bool
holds_general None = true
holds_general (Some type) = is_general type

-- a body that isn't there has no type
abbrev pub is_described : (body : List ℕ) → Option (List ℕ) → Bool
is_described [] type = true
is_described (b ∷ bs) type = holds_general type

-- The place reads a body of the type that the request names, as it stands: a produce only one of records in a format that is built, a
-- Create, an Assign and the seeks any of the general types, if there is a body. The other places read none.
abbrev pub is_supported : Place → Request → Bool
is_supported (Topic topic Produce) request = not request.encoded && is_some (format_in request.content_type)
is_supported (Partition topic number partition.Produce) request = not request.encoded && is_some (format_in request.content_type)
is_supported (Group group) request = not request.encoded && is_described request.body request.content_type
is_supported (Instance group name Assign) request = not request.encoded && is_described request.body request.content_type
is_supported (Instance group name Seek) request = not request.encoded && is_described request.body request.content_type
is_supported (Instance group name SeekBeginning) request = not request.encoded && is_described request.body request.content_type
is_supported (Instance group name SeekEnd) request = not request.encoded && is_described request.body request.content_type
is_supported place request = true
