-- What a call stands for in the sequential model of the gateway (Confluent REST Proxy API v2, produce).
use Rattle.std.specs.Prelude.{◌≡◌, ◌<◌, ◌^◌, ◌+◌, ◌-◌, min, ℕ, ℤ, pos, nat_abs, Bool, true, false, cond, codes, decimal, List, [], ◌∷◌, ◌++◌, length, map, All, Option, Some, None, option_map, IfSome}
use Rattle.model.specs.state.Entry as model
use Rattle.model.specs.state.World as world
use Rattle.model.specs.state.World.{Format}
use Rattle.model.specs.state.World.Format.{Binary, Json, Avro}
use Rattle.model.specs.state.Entry.Act.{Create as Creates, Delete as Deletes, Subscription as AsksSubscription, Assign as Assigns, Assignments as AsksAssignments, Seek as Seeks, SeekEdge as SeeksEdge, Records as AsksRecords}
use Rattle.model.specs.state.Entry.Call.{Produce as Asks, Ask as Questions, Of}
use Rattle.broker_link.specs.Fetching.{at_of, edge_view}
use Rattle.broker_link.specs.Places.{place_of}
use Rattle.forms.specs.Formats.{format_of}
use Rattle.rest_routes.specs.declared.media.Accepted.{Accepted}
use Rattle.rest_calls.specs.Questions.{question_of}
use Rattle.rest_calls.specs.declared.call.Payload.{Payload}
use Rattle.rest_calls.specs.declared.call.Payload.TheVariants.{Null, Ready}
use Rattle.rest_calls.specs.declared.call.Row.{Row}
use Rattle.rest_calls.specs.declared.call.Batch.{Batch}
use Rattle.rest_calls.specs.declared.call.Call.{Call}
use Rattle.rest_calls.specs.declared.call.Settings.{Settings}
use Rattle.rest_calls.specs.declared.call.Call.TheVariants.{Produce, Ask, Create, Delete, Subscription, Assign, Assignments, Seek, SeekEdge, Records}

-- the bytes of a key or value: null has none
abbrev pub bytes_of : Payload → Option (List ℕ)
bytes_of Null = None
bytes_of (Ready bytes) = Some bytes

-- a record, with the partition that it names
abbrev pub given_of : Row → model.Given
given_of row =
    record { partition = option_map nat_abs row.partition; key = bytes_of row.key; value = bytes_of row.value }

-- the records of a batch, in its order
abbrev pub givens_of : Batch → List model.Given
givens_of batch = map given_of batch.rows

-- a batch without schemas
abbrev pub batch_of : Batch → model.Batch
batch_of batch = record { key_id = None; value_id = None; records = givens_of batch }

-- The settings of a new instance; nothing is committed by itself yet.
abbrev pub settings_of : Settings → world.Settings
settings_of s = record { format = format_of s.format; reset = edge_view s.reset; auto_commit = false; min_bytes = s.min_bytes; timeout_ms = s.timeout_ms }

-- a consumer's key
abbrev pub key_in : List ℕ → List ℕ → world.Key
key_in group instance = record { group = group; instance = instance }

-- the name that a Create gives, or an empty one
abbrev pub name_in : Option (List ℕ) → List ℕ
name_in None = []
name_in (Some name) = name

-- the formats that a request names, if it names any
abbrev pub formats_in : Accepted → List Format
formats_in accepts = cond accepts.binary (Binary ∷ []) [] ++ (cond accepts.json (Json ∷ []) [] ++ cond accepts.avro (Avro ∷ []) [])

-- What a call asks. A Create without a name has an empty one here, which no instance has.
abbrev pub asked_of : Call → model.Call
asked_of (Produce topic batch) = Asks topic (batch_of batch)
asked_of (Ask question) = Questions (question_of question)
asked_of (Create group name settings) = Of (key_in group (name_in name)) (Creates (settings_of settings))
asked_of (Delete group instance) = Of (key_in group instance) Deletes
asked_of (Subscription group instance) = Of (key_in group instance) AsksSubscription
asked_of (Assign group instance parts) = Of (key_in group instance) (Assigns (map at_of parts))
asked_of (Assignments group instance) = Of (key_in group instance) AsksAssignments
asked_of (Seek group instance places) = Of (key_in group instance) (Seeks (map place_of places))
asked_of (SeekEdge group instance edge parts) = Of (key_in group instance) (SeeksEdge (edge_view edge) (map at_of parts))
asked_of (Records group instance accepts timeout bound) = Of (key_in group instance) (AsksRecords (formats_in accepts) timeout bound)

-- no byte
abbrev pub is_empty : List ℕ → Bool
is_empty [] = true
is_empty (x ∷ xs) = false

-- a Create that has no name yet
abbrev pub is_unnamed : model.Call → Bool
is_unnamed (Of key (Creates settings)) = is_empty key.instance
is_unnamed _ = false

-- the name that the gateway gives: the worker's number, and the count of the instances that it has named with this one
abbrev pub given_name : (worker count : ℕ) → List ℕ
given_name worker count = codes "auto-" ++ (decimal worker ++ (codes "-" ++ decimal count))

-- one more; a count that stands at its end stays there
abbrev pub counted : ℕ → ℕ
counted n = min (n + 1) (2 ^ 64 - 1)

-- the call as it enters a shard: a Create without a name gets one, where `unnamed` were named before
abbrev pub entered : (worker unnamed : ℕ) → model.Call → model.Call
entered worker unnamed (Of key (Creates settings)) = Of (key_in key.group (cond (is_empty key.instance) (given_name worker (counted unnamed)) key.instance)) (Creates settings)
entered worker unnamed call = call

-- an offset is from 0 to 9223372036854775807
abbrev pub IsOffset : ℤ → Type 0
IsOffset z = (n : ℕ) × (z ≡ pos n) × (n < 2 ^ 63)

-- the number of a partition is from 0 to 2147483647
abbrev pub IsNumber : ℤ → Type 0
IsNumber p = (n : ℕ) × (p ≡ pos n) × (n < 2 ^ 31)

-- so is that of a partition that the record names
abbrev pub PartitionFits : Row → Type 0
PartitionFits row = IfSome row.partition IsNumber

-- and each that a record of a produce names
abbrev pub PartitionsFit : Call → Type 0
PartitionsFit (Produce topic batch) = All PartitionFits batch.rows
PartitionsFit _ = Unit {0}

-- a produce has a record
abbrev pub HasRecords : Call → Type 0
HasRecords (Produce topic batch) = 0 < length batch.rows
HasRecords _ = Unit {0}

-- a produce has fewer than 2^63 records
abbrev pub HasFewRecords : Call → Type 0
HasFewRecords (Produce topic batch) = length batch.rows < 2 ^ 63
HasFewRecords _ = Unit {0}
