-- What a produce of several partitions does to a log (Kafka protocol guide, Produce).
use Rattle.std.specs.Prelude.{AllPairs, ◌≡◌, ◌≢◌, ℕ, ◌+◌, ◌≤◌, ◌<◌, ◌^◌, cond, ℤ, pos, nat_abs, List, [], ◌∷◌, length, All, Contains, Option, Some, None}
use Rattle.std.specs.List.{AllZip}
use Rattle.model.specs.state.Log.{TopicPart, Row, Log, part_at, parts_in, rows_in_all}
use Rattle.model.specs.state.Entry.{is_zero}
use Rattle.broker_link.specs.declared.link.NewRecord.{NewRecord}
use Rattle.broker_link.specs.declared.link.PartRecords.{PartRecords}
use Rattle.broker_link.specs.declared.link.PartPlaced.{PartPlaced}

-- the records at the offsets from base on
abbrev pub numbered : ℕ → List NewRecord → List Row
numbered base [] = []
numbered base (r ∷ rs) = (record { offset = base; key = r.key; value = r.value }) ∷ numbered (base + 1) rs

abbrev pub at_of : List ℕ → PartRecords → TopicPart
at_of topic part = record { topic = topic; partition = nat_abs part.partition }

-- a partition's answer: with code 0 its records stand in order from the base on, behind what there was
pub record Takes (a b : Log) (topic : List ℕ) (part : PartRecords) (placed : PartPlaced) : Type 0 where
  pub same : placed.partition ≡ part.partition
  pub based : placed.code ≡ pos 0 → placed.base ≡ pos (nat_abs placed.base)
  pub behind : placed.code ≡ pos 0 → (part_at a (at_of topic part)).end ≤ nat_abs placed.base
  pub stand : placed.code ≡ pos 0 → All (λ row. Contains (part_at b (at_of topic part)).rows row) (numbered (nat_abs placed.base) part.rows)

-- how many records were taken
abbrev pub taken_of : List PartRecords → List PartPlaced → ℕ
taken_of [] placed = 0
taken_of (part ∷ parts) [] = 0
taken_of (part ∷ parts) (p ∷ placed) = cond (is_zero p.code) (length part.rows) 0 + taken_of parts placed

-- each partition is answered so, in the order asked, and no other row was added but those of others
pub record IsPlaced (a b : Log) (topic : List ℕ) (parts : List PartRecords) (placed : List PartPlaced) : Type 0 where
  pub each : AllZip (Takes a b topic) parts placed
  pub added : rows_in_all b + a.others ≡ rows_in_all a + b.others + taken_of parts placed

-- after a fault, a refusal of the whole call or want of memory each partition took all its records or none
abbrev pub MayBePlaced : Log → Log → List ℕ → List PartRecords → Type 0
MayBePlaced a b topic parts = (placed : List PartPlaced) × IsPlaced a b topic parts placed

-- the first code that isn't 0
abbrev pub first_code : List PartPlaced → Option ℤ
first_code [] = None
first_code (p ∷ placed) = cond (is_zero p.code) (first_code placed) (Some p.code)

-- what holds of every link: a base that was given, and what follows it, are offsets
abbrev pub IsBased : PartRecords → PartPlaced → Type 0
IsBased part placed = placed.code ≡ pos 0 → (n : ℕ) × (placed.base ≡ pos n) × (n + length part.rows < 2 ^ 63)

-- the answers name the partitions in the order asked
abbrev pub IsAsked : PartRecords → PartPlaced → Type 0
IsAsked part placed = placed.partition ≡ part.partition

-- the log lacks the partition
abbrev pub Lacks : Log → List ℕ → PartRecords → Type 0
Lacks log topic part = nat_abs part.partition < length (parts_in log.topics topic) → ⊥

-- a link that is plain refuses a partition with code 3 alone, and only where its log lacks it
abbrev pub IsPlainly : Log → List ℕ → PartRecords → PartPlaced → Type 0
IsPlainly log topic part placed = placed.code ≢ pos 0 → (placed.code ≡ pos 3) × Lacks log topic part

-- the numbers of the partitions are all different, none is below 0, and each has a record
pub record AreParts (parts : List PartRecords) : Type 0 where
  pub whole : All (λ part. part.partition ≡ pos (nat_abs part.partition)) parts
  pub some : 0 < length parts
  pub each : All (λ part. 0 < length part.rows) parts
  pub apart : AllPairs (λ x y. x.partition ≢ y.partition) parts
