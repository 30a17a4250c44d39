-- Calls, events, replies and the entries of a history: the calls are those of the Confluent REST Proxy API v2.
use Rattle.std.specs.Prelude.{ℕ, ℤ, pos, negsuc, zero, suc, ◌≡◌, Bool, true, false, cond, List, [], Option, Some, None}
use Rattle.model.specs.state.Log.{TopicPart}
use Rattle.model.specs.step.Walk.{Place, Item}
use Rattle.model.specs.state.World.{Key, is_key, Settings, Edge, Format}
use Rattle.model.specs.state.Forms.{Forms}

-- a record as it is stored, and the partition that the request names, if it names one
pub record Given : Type 0 where
  pub partition : Option ℕ
  pub key : Option (List ℕ)
  pub value : Option (List ℕ)

-- a record as it is stored, and its partition
pub record Payload : Type 0 where
  pub partition : ℕ
  pub key : Option (List ℕ)
  pub value : Option (List ℕ)

-- a prepared batch: the schema ids that the reply tells, and the records in request order
pub record Batch : Type 0 where
  pub key_id : Option ℕ
  pub value_id : Option ℕ
  pub records : List Given

-- what a consumer is asked
pub data Act : Type 0 where
  Create : Settings → Act
  Delete Subscription Unsubscribe Assignments : Act
  Subscribe : List (List ℕ) → Act
  Assign Fixed : List TopicPart → Act
  Seek : List Place → Act
  SeekEdge : Edge → List TopicPart → Act
  Commit : Option (List Place) → Act
  Records : (formats : List Format) (timeout bound : Option ℕ) → Act

-- what is asked of the topics
pub data Question : Type 0 where
  Brokers Topics : Question
  OneTopic Parts : List ℕ → Question
  OnePart EndOffsets : TopicPart → Question

-- A ProduceTo is a Produce whose records all name its partition.
pub data Call : Type 0 where
  Produce : List ℕ → Batch → Call
  Ask : Question → Call
  Of : Key → Act → Call

-- what a look or a commit told: the rows committed, the places after a rebalance, a position set back, the look of a round
pub data Event : Type 0 where
  Committed Rebalanced : List Place → Event
  Reset : Place → Event
  Looked : ℕ → Event

-- a broker's code is an INT16: below 0 too
abbrev pub is_zero : ℤ → Bool
is_zero (pos zero) = true
is_zero (pos (suc n)) = false
is_zero (negsuc n) = false

-- one record's answer: where it stands, or the code of its partition
pub data Placed : Type 0 where
  Stored : (partition offset : ℕ) → Placed
  Failed : (partition : ℕ) (code : ℤ) → Placed

-- one partition as the link tells it: its number, and the nodes that lead it, have it and are in sync
pub record PartTold : Type 0 where
  pub number : ℕ
  pub leader : ℤ
  pub replicas : List ℤ
  pub in_sync : List ℤ

-- what a call is told, as data; `Refused` has a code of the gateway, `Broker` one of the link
pub data Reply : Type 0 where
  Done Made : Reply
  Names : List (List ℕ) → Reply
  Nodes : List ℤ → Reply
  Offsets : List Place → Reply
  Told : List PartTold → Reply
  Edged : (start end : ℕ) → Reply
  Listed : List TopicPart → Reply
  Answers : List Placed → Reply
  Shown : Format → List Item → Reply
  Unread : Item → (reason : ℕ) → Reply
  Refused : ℕ → Reply
  Broker : ℤ → Reply
  LinkFault Want : Reply

-- beside an entry: the round of its look, and the forms by the table of the turn
pub record Turn : Type 0 where
  pub round : ℕ
  pub forms : Forms

-- `expired` has the keys of the Expired events, which stand first, and `events` the others
pub record Entry : Type 0 where
  pub caller : ℕ
  pub moment : ℕ
  pub turn : Turn
  pub expired : List Key
  pub events : List Event
  pub call : Option Call
  pub reply : Option Reply

-- the link refused by a code that isn't 0, or failed, or there was no memory
abbrev pub IsLinks : Reply → Type 0
IsLinks (Broker code) = is_zero code ≡ false
IsLinks LinkFault = Unit {0}
IsLinks Want = Unit {0}
IsLinks _ = ⊥

-- what a reply shows
abbrev pub shown_in : Option Reply → List Item
shown_in (Some (Shown format items)) = items
shown_in _ = []

-- the call is this consumer's
abbrev pub is_of : Key → Option Call → Bool
is_of key None = false
is_of key (Some (Produce topic batch)) = false
is_of key (Some (Ask question)) = false
is_of key (Some (Of other act)) = is_key key other

-- what the entry's reply shows to that consumer
abbrev pub shown_to : Key → Entry → List Item
shown_to key e = cond (is_of key e.call) (shown_in e.reply) []
