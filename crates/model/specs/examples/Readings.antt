-- Example histories of reading over the Confluent REST Proxy API v2: with `max_bytes`, after a seek, and from a position out of range.
use Rattle.std.specs.Prelude.{ℕ, ◌&&◌, Bool, true, false, cond, codes, List, [], ◌∷◌, ◌++◌, map, length, bytes_eq, Option, Some, None}
use Rattle.model.specs.state.Log.{TopicPart, is_at, Row, Log}
use Rattle.model.specs.step.Walk.{Place, Item}
use Rattle.model.specs.state.Forms.{Showing}
use Rattle.model.specs.state.Forms.Showing.{Text}
use Rattle.model.specs.state.World.{Key, is_key, Edge, Settings, Consumer, World}
use Rattle.model.specs.state.World.Format.{Binary}
use Rattle.model.specs.state.World.Edge.{Start, End}
use Rattle.model.specs.state.World.Mode.{Assigned}
use Rattle.model.specs.state.Entry.{Given, Act, Event, Call, Reply, Turn, Entry}
use Rattle.model.specs.state.Entry.Act.{Create, Assign, Seek, SeekEdge, Records}
use Rattle.model.specs.state.Entry.Call.{Produce, Of}
use Rattle.model.specs.state.Entry.Event.{Committed, Reset, Looked}
use Rattle.model.specs.state.Entry.Placed.{Stored}
use Rattle.model.specs.state.Entry.Reply.{Done, Made, Answers, Shown, Refused}

-- the first partition of the topic `orders`
abbrev pub orders : TopicPart
orders = record { topic = codes "orders"; partition = 0 }

-- the second one
abbrev pub other_orders : TopicPart
other_orders = record { topic = codes "orders"; partition = 1 }

-- the record `Kafka` at an offset
abbrev pub kafka_at : ℕ → Row
kafka_at offset = record { offset = offset; key = None; value = Some (codes "Kafka") }

-- these many of them, from offset 0
abbrev pub three : List Row
three = kafka_at 0 ∷ kafka_at 1 ∷ kafka_at 2 ∷ []

-- one more
abbrev pub four : List Row
four = kafka_at 0 ∷ kafka_at 1 ∷ kafka_at 2 ∷ kafka_at 3 ∷ []

-- the consumer `c1` of the group `g`
abbrev pub reader : Key
reader = record { group = codes "g"; instance = codes "c1" }

-- a topic of two partitions of which the first has these rows, and what the group has committed there
abbrev pub log_of : List Row → Option ℕ → Log
log_of rows saved = record {
  topics = record { name = codes "orders"; parts = record { start = 0; end = length rows; rows = rows } ∷ record { start = 0; end = 0; rows = [] } ∷ [] } ∷ [];
  committed = λ group at. cond (bytes_eq reader.group group && is_at orders at) saved None;
  others = 0;
}

-- the settings of a Create that gives the reset setting alone
abbrev pub settings_of : Edge → Settings
settings_of reset = record { format = Binary; reset = reset; auto_commit = true; min_bytes = 1; timeout_ms = 1000 }

-- the first partition with a position
abbrev pub place_at : ℕ → Place
place_at position = record { at = orders; position = position }

-- the consumer with the first partition assigned, at a position; `unsaved` says that an auto commit is due
abbrev pub reader_at : Edge → ℕ → Bool → Consumer
reader_at reset position unsaved = record { settings = settings_of reset; mode = Assigned; topics = []; assignment = place_at position ∷ []; rotation = 0; unsaved = unsaved; last_use = 0 }

-- only this consumer is live
abbrev pub only : Consumer → World
only c = record { at = λ key. cond (is_key key reader) (Some c) None; last = 0 }

-- the one value that is read here, in base64
abbrev pub shown_value : Option (List ℕ) → Showing
shown_value None = Text (codes "null")
shown_value (Some bytes) = Text (codes "\"S2Fma2E=\"")

-- all entries here are of round 0, at moment 0
abbrev pub turn : Turn
turn = record { round = 0; forms = record { shows = λ format. shown_value } }

-- an entry of the one caller
abbrev pub entry_of : Call → List Event → Reply → Entry
entry_of call events reply = record { caller = 0; moment = 0; turn = turn; expired = []; events = events; call = Some call; reply = Some reply }

-- an entry of the consumer's
abbrev pub entry : Act → List Event → Reply → Entry
entry act events reply = entry_of (Of reader act) events reply

-- a produce of this many records `Kafka` that name the first partition, and where the first of them stands
abbrev pub given : Given
given = record { partition = Some 0; key = None; value = Some (codes "Kafka") }

-- three records are stored at 0, 1 and 2
abbrev pub three_produced : Entry
three_produced = entry_of (Produce (codes "orders") (record { key_id = None; value_id = None; records = given ∷ given ∷ given ∷ [] })) [] (Answers (Stored 0 0 ∷ Stored 0 1 ∷ Stored 0 2 ∷ []))

-- one is stored at 3
abbrev pub one_produced : Entry
one_produced = entry_of (Produce (codes "orders") (record { key_id = None; value_id = None; records = given ∷ [] })) [] (Answers (Stored 0 3 ∷ []))

-- the consumer is made
abbrev pub made : Edge → Entry
made reset = entry (Create (settings_of reset)) [] Made

-- the first partition is assigned to it
abbrev pub assigned : Entry
assigned = entry (Assign (orders ∷ [])) [] Done

-- the event of an auto commit, where one is due
abbrev pub committed_if : Bool → ℕ → List Event
committed_if false position = []
committed_if true position = Committed (place_at position ∷ []) ∷ []

-- rows of the first partition
abbrev pub items_of : List Row → List Item
items_of rows = map (λ row. record { at = orders; row = row }) rows

-- a Records call with `timeout=0` and this bound: its look commits the position where that is due, sets it back where it is out of range, and shows these rows
abbrev pub read : (bound : Option ℕ) → (due : Bool) → (position : ℕ) → (resets : List Place) → List Row → Entry
read bound due position resets rows = entry (Records [] (Some 0) bound) (committed_if due position ++ (map Reset resets ++ Looked 0 ∷ [])) (Shown Binary (items_of rows))

-- three records are read one by one, since `max_bytes=1` lets the first of each reply through and no other
abbrev pub read_by_one : List Entry
read_by_one =
    three_produced ∷ made Start ∷ assigned
    ∷ read (Some 1) false 0 [] (kafka_at 0 ∷ [])
    ∷ read (Some 1) true 1 [] (kafka_at 1 ∷ [])
    ∷ read (Some 1) true 2 [] (kafka_at 2 ∷ [])
    ∷ read (Some 1) true 3 [] []
    ∷ []

-- `max_bytes=10` has room for two; a seek to 1 shows the second again; a seek of a partition that isn't assigned moves nothing
abbrev pub read_after_seek : List Entry
read_after_seek =
    three_produced ∷ made Start ∷ assigned
    ∷ read (Some 10) false 0 [] (kafka_at 0 ∷ kafka_at 1 ∷ [])
    ∷ entry (Seek (place_at 1 ∷ [])) [] Done
    ∷ read None true 1 [] (kafka_at 1 ∷ kafka_at 2 ∷ [])
    ∷ entry (Seek (record { at = other_orders; position = 0 } ∷ [])) [] (Refused 40990)
    ∷ read None true 3 [] []
    ∷ []

-- a position out of range is set to the start, where the consumer is made with `earliest`
abbrev pub read_from_the_start : List Entry
read_from_the_start =
    three_produced ∷ made Start ∷ assigned
    ∷ entry (Seek (place_at 99 ∷ [])) [] Done
    ∷ read None false 99 (place_at 0 ∷ []) three
    ∷ []

-- and to the end, where it is made with `latest`: what is produced then is read next; after seeks to the end and to the beginning all are
abbrev pub read_from_the_end : List Entry
read_from_the_end =
    three_produced ∷ made End ∷ assigned
    ∷ entry (Seek (place_at 99 ∷ [])) [] Done
    ∷ read None false 99 (place_at 3 ∷ []) []
    ∷ one_produced
    ∷ read None false 3 [] (kafka_at 3 ∷ [])
    ∷ entry (SeekEdge End (orders ∷ [])) [] Done
    ∷ entry (SeekEdge Start (orders ∷ [])) [] Done
    ∷ read None true 0 [] four
    ∷ []
