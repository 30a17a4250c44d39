-- What a produce leaves in the log, and what it answers: Apache Kafka protocol guide, Produce.
use Rattle.std.specs.Prelude.{ℕ, ℤ, ◌+◌, ◌<◌, ◌≤◌, ◌≡◌, ◌==◌, true, cond, List, [], ◌∷◌, ◌++◌, map, All, Contains, count_by, Option, Some, None}
pub use Rattle.model.specs.state.Hashes.{murmur2, partition_of}
use Rattle.model.specs.state.Log.{Log, part_at, rows_in_all}
use Rattle.model.specs.step.Walk.{Item}
use Rattle.model.specs.state.Entry.{Given, Payload, Placed, is_zero}
use Rattle.model.specs.state.Entry.Placed.{Stored, Failed}

-- the partition that the request names, else another
abbrev pub or_named : Option ℕ → ℕ → ℕ
or_named None other = other
or_named (Some partition) other = partition

-- the records of a request, from an index on, with their partitions in a topic of n
abbrev pub chosen : (n index : ℕ) → List Given → List Payload
chosen n index [] = []
chosen n index (g ∷ records) = record { partition = or_named g.partition (partition_of g.key index n); key = g.key; value = g.value } ∷ chosen n (index + 1) records

-- A topic of n partitions has those that the record needs. One without partitions lacks every partition.
abbrev pub has_room : ℕ → Given → Type 0
has_room n g = or_named g.partition 0 < n

-- Each record as it stands where the first of each partition has its base; `before` are the records before it.
abbrev pub numbered : List ℕ → (ℕ → ℕ) → List Payload → List Payload → List Item
numbered topic base before [] = []
numbered topic base before (p ∷ payloads) =
    record { at = record { topic = topic; partition = p.partition }; row = record { offset = base p.partition + count_by (λ q. q.partition == p.partition) before; key = p.key; value = p.value } }
    ∷ numbered topic base (before ++ p ∷ []) payloads

-- a record's answer: its partition and offset, or its partition's code
abbrev pub answer_of : (ℕ → ℤ) → Item → Placed
answer_of code item = cond (is_zero (code item.at.partition)) (Stored item.at.partition item.row.offset) (Failed item.at.partition (code item.at.partition))

-- the records of the partitions with code 0 stand in `b`, behind what `a` has, and no other row was added but those of others
pub record Places (a b : Log) (code : ℕ → ℤ) (items : List Item) : Type 0 where
  pub stand : All (λ item. is_zero (code item.at.partition) ≡ true → Contains (part_at b item.at).rows item.row) items
  pub behind : All (λ item. is_zero (code item.at.partition) ≡ true → (part_at a item.at).end ≤ item.row.offset) items
  pub added : rows_in_all b + a.others ≡ rows_in_all a + b.others + count_by (λ item. is_zero (code item.at.partition)) items

-- each record was answered by where it stands, or by its partition's code
pub record Answered (a b : Log) (topic : List ℕ) (payloads : List Payload) (answers : List Placed) : Type 0 where
  pub base : ℕ → ℕ
  pub code : ℕ → ℤ
  pub places : Places a b code (numbered topic base [] payloads)
  pub told : answers ≡ map (answer_of code) (numbered topic base [] payloads)

-- after a fault, a refusal of the whole or want of memory
pub record Unknown (a b : Log) (topic : List ℕ) (payloads : List Payload) : Type 0 where
  pub base : ℕ → ℕ
  pub code : ℕ → ℤ
  pub places : Places a b code (numbered topic base [] payloads)

-- no row was added but those of others
abbrev pub NoneAdded : Log → Log → Type 0
NoneAdded a b = rows_in_all b + a.others ≡ rows_in_all a + b.others
