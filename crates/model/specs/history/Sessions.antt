-- What a session over a link of its own never answers: Apache Kafka protocol guide, error codes 3, 10, 22, 25 and 27.
use Rattle.std.specs.Prelude.{ℕ, ℤ, pos, ◌<◌, ◌≤◌, ◌≡◌, ◌==◌, ◌⊎◌, ◌&&◌, ◌||◌, Bool, false, cond, List, [], ◌∷◌, All, Contains, IsTrue, bytes_eq, count_by, Option, Some, None}
use Rattle.model.specs.state.Log.{Log}
use Rattle.model.specs.step.Walk.{Place}
use Rattle.model.specs.state.World.{Consumer, World, nobody}
use Rattle.model.specs.state.Entry.{Batch, Call, Entry, Given, Placed}
use Rattle.model.specs.state.Entry.Act.{Commit, Records}
use Rattle.model.specs.state.Entry.Call.{Produce, Of}
use Rattle.model.specs.state.Entry.Placed.{Stored, Failed}
use Rattle.model.specs.state.Entry.Reply.{Answers, Broker}
use Rattle.model.specs.step.Fixed.{HasPart}
use Rattle.model.specs.history.Legal.{Tally, Run, entry_tally, is_fault}
use Rattle.model.specs.step.Step.{left, is_by_topics, sent_of}

-- a consumer by topics: it is a member of its group
abbrev pub is_joining : Option Consumer → Bool
is_joining None = false
is_joining (Some c) = is_by_topics c.mode

-- a Records call of that group on a consumer by topics
abbrev pub joins_group : List ℕ → World → Entry → Option Call → Bool
joins_group group w e (Some (Of key (Records formats timeout bound))) = bytes_eq key.group group && is_joining (left e.expired w key)
joins_group group w e _ = false

-- the partition that a record's answer names
abbrev pub partition_of : Placed → ℕ
partition_of (Stored partition offset) = partition
partition_of (Failed partition code) = partition

-- the records that were answered for a partition, in request order
abbrev pub records_for : ℕ → List Given → List Placed → List Given
records_for partition (given ∷ records) (answer ∷ answers) = cond (partition_of answer == partition) (given ∷ records_for partition records answers) (records_for partition records answers)
records_for partition _ _ = []

-- An answer has no code but 10, MESSAGE_TOO_LARGE, and that only where the batch of its partition's records has more than 4,194,304 bytes.
abbrev pub IsTooLarge : (size : List Given → ℕ) → List Given → List Placed → Placed → Type 0
IsTooLarge size records answers (Stored partition offset) = Unit {0}
IsTooLarge size records answers (Failed partition code) = (code ≡ pos 10) × (4194304 < size (records_for partition records answers))

-- the records of a produce
abbrev pub records_of : Option Call → List Given
records_of (Some (Produce topic batch)) = batch.records
records_of _ = []

-- a row of the commit names a partition that the log lacks
abbrev pub LacksRow : Log → List Place → Type 0
LacksRow log rows = (row : Place) × Contains rows row × (HasPart log row.at → ⊥)

-- Where a code may come in a session. `grouped` says which groups a consumer by topics has looked in before.
abbrev pub IsCodeOf : Log → (List ℕ → Bool) → Option Consumer → Option Call → ℤ → Type 0
IsCodeOf log grouped (Some c) (Some (Of key (Commit rows))) code =
    ((code ≡ pos 3) × LacksRow log (sent_of rows c)) ⊎ (((code ≡ pos 22) ⊎ ((code ≡ pos 25) ⊎ (code ≡ pos 27))) × IsTrue (grouped key.group))
IsCodeOf log grouped (Some c) (Some (Of key (Records formats timeout bound))) code = (code ≡ pos 3) × IsTrue (is_by_topics c.mode)
IsCodeOf log grouped found call code = ⊥

-- the consumer that the entry's call finds
abbrev pub found_by : World → Entry → Option Call → Option Consumer
found_by w e (Some (Of key act)) = left e.expired w key
found_by w e _ = None

-- the group of a consumer's call
abbrev pub group_of : Option Call → List ℕ
group_of (Some (Of key act)) = key.group
group_of _ = []

-- What the entry doesn't answer, and where its auto commit may lack a row. `size` tells how many bytes the batch of such records has.
pub record IsQuiet (size : List Given → ℕ) (log : Log) (grouped : List ℕ → Bool) (w : World) (e : Entry) : Type 0 where
  pub too_large : (answers : List Placed) → e.reply ≡ Some (Answers answers) → All (IsTooLarge size (records_of e.call) answers) answers
  pub code : (code : ℤ) → e.reply ≡ Some (Broker code) → IsCodeOf log grouped (found_by w e e.call) e.call code
  pub short : (let t = entry_tally w e in 0 < t.short) → IsTrue (grouped (group_of e.call))

-- Each entry of a run is quiet. `grouped` says of a group that a consumer by topics has looked in it before.
abbrev pub IsQuietRun : (size : List Given → ℕ) (idle : ℕ) (log : Log) (grouped : List ℕ → Bool) (w : World) (a : Log) (entries : List Entry) (b : Log) (w2 : World) (n : Tally) → Run idle w a entries b w2 n → Type 0
IsQuietRun size idle log grouped w a [] b w2 n run = Unit {0}
IsQuietRun size idle log grouped w a (e ∷ entries) b w2 n run =
    IsQuiet size log grouped w e × IsQuietRun size idle log (λ group. grouped group || joins_group group w e e.call) run.1 run.0 entries b w2 run.3.0 run.3.2

-- The same from the beginning, where nobody has looked. No more entries blame the link than it counts answers of more than 16,777,216 bytes.
pub record IsQuietSession (size : List Given → ℕ) (large idle : ℕ) (first : Log) (entries : List Entry) (b : Log) (w2 : World) (n : Tally) (run : Run idle nobody first entries b w2 n) : Type 0 where
  pub quiet : IsQuietRun size idle first (λ group. false) nobody first entries b w2 n run
  pub faults : count_by (λ (e : Entry). is_fault e.reply) entries ≤ large

-- where no answer was too large, no entry blames the link
abbrev pub QuietSessionsBlameNobody : Type 0
QuietSessionsBlameNobody =
    (size : List Given → ℕ) (idle : ℕ) (first : Log) (entries : List Entry) (b : Log) (w2 : World) (n : Tally) (run : Run idle nobody first entries b w2 n)
    → IsQuietSession size 0 idle first entries b w2 n run → All (λ (e : Entry). is_fault e.reply ≡ false) entries

-- a record that is refused is of a batch that is too large
abbrev pub RefusedBatchesAreLarge : Type 0
RefusedBatchesAreLarge =
    (size : List Given → ℕ) (log : Log) (grouped : List ℕ → Bool) (w : World) (e : Entry) (topic : List ℕ) (batch : Batch) (partition : ℕ) (code : ℤ)
    → IsQuiet size log grouped w e → e.call ≡ Some (Produce topic batch) → e.reply ≡ Some (Answers (Failed partition code ∷ []))
    → (code ≡ pos 10) × (4194304 < size (records_for partition batch.records (Failed partition code ∷ [])))
