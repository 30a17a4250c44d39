-- The body of a request to assign partitions: `partitions`, a list of `topic` and `partition` (Confluent REST Proxy API v2, POST /consumers/{group}/instances/{instance}/assignments).
use Rattle.std.specs.Prelude.{ℕ, ◌^◌, ◌&&◌, List, length, Option, Some, None, option_and_then, if◌then◌else◌, nat_le, nat_lt, codes}
use Rattle.serde_json.specs.Data.{Data}
use Rattle.serde_json.specs.Find.{get, as_array, as_number, as_str, as_u64}
use Rattle.model.specs.state.Log.{TopicPart}
use Rattle.rest_calls.specs.Json.{all_of}

-- a partition's number, from 0 to 2147483647
abbrev pub number_of : Data → Option ℕ
number_of d = option_and_then (λ n. if nat_lt n (2 ^ 31) then Some n else None) (option_and_then as_u64 (as_number d))

-- the partition that an object names
abbrev pub partition_of : Data → Option ℕ
partition_of d = option_and_then number_of (get (codes "partition") d)

-- 1 to 249 bytes
abbrev pub topic_in : List ℕ → Option (List ℕ)
topic_in text = if nat_le 1 (length text) && nat_le (length text) 249 then Some text else None

-- the topic that a part names
unfoldable pub topic_of : Data → Option (List ℕ)
topic_of d = option_and_then topic_in (option_and_then as_str (get (codes "topic") d))

-- a part, where its topic and its partition read
abbrev pub part_from : Option (List ℕ) → Option ℕ → Option TopicPart
part_from (Some topic) (Some partition) = Some (record { topic = topic; partition = partition })
part_from _ _ = None

-- one part
unfoldable pub part_of : Data → Option TopicPart
part_of d = part_from (topic_of d) (partition_of d)

-- the parts of a body: its other members are ignored
unfoldable pub parts_of : Data → Option (List TopicPart)
parts_of d = option_and_then (all_of part_of) (option_and_then as_array (get (codes "partitions") d))

-- the parts of a body that is JSON, or isn't
abbrev pub assigned_by : Option Data → Option (List TopicPart)
assigned_by value = option_and_then parts_of value
