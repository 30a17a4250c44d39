-- What produces tell as stored: the offsets of a produce response, Confluent REST Proxy API v2.
use Rattle.std.specs.Prelude.{ℕ, Bool, true, false, count_by, Option, Some, List, Contains, ◌≡◌, ◌++◌, ◌≤◌, All, slice_get, ◌∷◌, ◌+◌, sum_by}
use Rattle.model.specs.state.Log.{TopicPart, Row, Log, part_at, rows_in_all}
use Rattle.model.specs.step.Walk.{Item}
use Rattle.model.specs.state.World.{Key, World}
use Rattle.model.specs.state.Entry.{Batch, Given, Call, Placed, Reply, Entry, shown_to}
use Rattle.model.specs.step.Step.{Step}
use Rattle.model.specs.history.Legal.{Counts, Legal, Run, Tally}
use Rattle.model.specs.state.Entry.Call.{Produce}
use Rattle.model.specs.state.Entry.Placed.{Stored, Failed}
use Rattle.model.specs.state.Entry.Reply.{Answers, Broker, LinkFault, Want}

-- the record stands in the log
abbrev pub is_stored : Placed → Bool
is_stored (Stored partition offset) = true
is_stored (Failed partition code) = false

-- how many records the reply of a produce tells as stored
abbrev pub stored_of : Option Call → Option Reply → ℕ
stored_of (Some (Produce topic batch)) (Some (Answers answers)) = count_by is_stored answers
stored_of _ _ = 0

-- how many the entry tells
abbrev pub stored_by : Entry → ℕ
stored_by e = stored_of e.call e.reply

-- a produce of which it isn't told what was stored
abbrev pub is_unknown : Option Call → Option Reply → Bool
is_unknown (Some (Produce topic batch)) (Some (Broker code)) = true
is_unknown (Some (Produce topic batch)) (Some LinkFault) = true
is_unknown (Some (Produce topic batch)) (Some Want) = true
is_unknown _ _ = false

-- the entry answered that the row was stored there
pub record HasStored (e : Entry) (at : TopicPart) (row : Row) : Type 0 where
  pub batch : Batch
  pub answers : List Placed
  pub call : e.call ≡ Some (Produce at.topic batch)
  pub reply : e.reply ≡ Some (Answers answers)
  pub index : ℕ
  pub given : Given
  pub there : slice_get batch.records index ≡ Some given
  pub key : given.key ≡ row.key
  pub value : given.value ≡ row.value
  pub answer : slice_get answers index ≡ Some (Stored at.partition row.offset)

-- A row that a produce answered as stored is the one that any later reply shows at its topic, partition and offset.
abbrev pub StoredIsShown : Type 0
StoredIsShown =
    (idle : ℕ) (counts : Counts) (before : List Entry) (e : Entry) (between : List Entry) (f : Entry) (after : List Entry) (w : World) (l : Log)
    → Legal idle counts (before ++ (e ∷ (between ++ (f ∷ after)))) w l
    → (at : TopicPart) (row : Row) → HasStored e at row
    → (key : Key) (item : Item) → Contains (shown_to key f) item → item.at ≡ at → item.row.offset ≡ row.offset → item.row ≡ row

-- the same of a run from any consumers and log
abbrev pub StoredIsShownInRuns : Type 0
StoredIsShownInRuns =
    (idle : ℕ) (begin : World) (first : Log) (before : List Entry) (e : Entry) (between : List Entry) (f : Entry) (after : List Entry) (l : Log) (w : World) (n : Tally)
    → Run idle begin first (before ++ (e ∷ (between ++ (f ∷ after)))) l w n
    → (at : TopicPart) (row : Row) → HasStored e at row
    → (key : Key) (item : Item) → Contains (shown_to key f) item → item.at ≡ at → item.row.offset ≡ row.offset → item.row ≡ row

-- a row that a produce answers as stored stands behind all that its partition had before
abbrev pub StoredRowsAreNew : Type 0
StoredRowsAreNew =
    (idle : ℕ) (w : World) (a : Log) (e : Entry) (b : Log) (w2 : World) (at : TopicPart) (row : Row)
    → Step idle w a e b w2 → HasStored e at row → Contains (part_at b at).rows row × ((part_at a at).end ≤ row.offset)

-- others have added no fewer rows than before
abbrev pub OthersRise : Type 0
OthersRise =
    (idle : ℕ) (w : World) (a : Log) (entries : List Entry) (b : Log) (w2 : World) (n : Tally) → Run idle w a entries b w2 n → a.others ≤ b.others

-- Where each produce was answered, the rows that a run adds are those that it told as stored, and those of others.
abbrev pub RowsAreThoseStored : Type 0
RowsAreThoseStored =
    (idle : ℕ) (w : World) (a : Log) (entries : List Entry) (b : Log) (w2 : World) (n : Tally)
    → Run idle w a entries b w2 n → All (λ (e : Entry). is_unknown e.call e.reply ≡ false) entries
    → rows_in_all b + a.others ≡ rows_in_all a + b.others + sum_by stored_by entries
