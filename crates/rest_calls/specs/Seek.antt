-- The body of a request to set positions: `offsets`, a list of `topic`, `partition` and `offset` (Confluent REST Proxy API v2, POST /consumers/{group}/instances/{instance}/positions).
use Rattle.std.specs.Prelude.{ℕ, ◌^◌, List, Option, Some, None, option_and_then, if◌then◌else◌, nat_lt, codes}
use Rattle.serde_json.specs.Data.{Data}
use Rattle.serde_json.specs.Find.{get, as_array, as_number, as_u64}
use Rattle.model.specs.state.Log.{TopicPart}
use Rattle.model.specs.step.Walk.{Place}
use Rattle.rest_calls.specs.Assign.{part_of}
use Rattle.rest_calls.specs.Json.{all_of}

-- an offset, from 0 to 9223372036854775807
abbrev pub offset_in : Data → Option ℕ
offset_in d = option_and_then (λ n. if nat_lt n (2 ^ 63) then Some n else None) (option_and_then as_u64 (as_number d))

-- the offset that an object names
abbrev pub offset_of : Data → Option ℕ
offset_of d = option_and_then offset_in (get (codes "offset") d)

-- a place, where its partition and its offset read
abbrev pub place_from : Option TopicPart → Option ℕ → Option Place
place_from (Some at) (Some offset) = Some (record { at = at; position = offset })
place_from _ _ = None

-- one place
unfoldable pub place_in : Data → Option Place
place_in d = place_from (part_of d) (offset_of d)

-- the places of a body: its other members are ignored
unfoldable pub places_of : Data → Option (List Place)
places_of d = option_and_then (all_of place_in) (option_and_then as_array (get (codes "offsets") d))

-- the places of a body that is JSON, or isn't
abbrev pub sought_by : Option Data → Option (List Place)
sought_by value = option_and_then places_of value
