-- What a link in memory does with one partition's records, and with those of several.
use Rattle.std.specs.Prelude.{◌≡◌, ℕ, ◌+◌, cond, List, ◌++◌, length, None}
use Rattle.model.specs.step.Fixed.{SameCommits}
use Rattle.model.specs.step.Produced.{NoneAdded}
use Rattle.std.specs.List.{AllZip}
use Rattle.model.specs.state.Log.{Part, Topic, Log, Keeps, IsLog, rows_in_all}
use Rattle.model.specs.state.Entry.{is_zero}
use Rattle.broker_link.specs.Produced.{numbered, Takes, IsBased, IsPlainly, taken_of}
use Rattle.broker_link.specs.declared.link.NewRecord.{NewRecord}
use Rattle.broker_link.specs.declared.link.PartRecords.{PartRecords}
use Rattle.broker_link.specs.declared.link.PartPlaced.{PartPlaced}

-- nothing is committed, and there are no others
abbrev pub log_of : List Topic → Log
log_of topics = record { topics = topics; committed = λ group at. None; others = 0 }

-- the same with so many rows of others
abbrev pub log_with : List Topic → ℕ → Log
log_with topics others = record { topics = topics; committed = λ group at. None; others = others }

-- a partition of these records, each at its place
abbrev pub part_of : List NewRecord → Part
part_of records = record { start = 0; end = length records; rows = numbered 0 records }

-- rows of others came, and nothing else
pub record OthersCame (a b : Log) : Type 0 where
  pub keeps : Keeps a b
  pub none : NoneAdded a b
  pub commits : SameCommits a b
  pub is_log : IsLog a → IsLog b

-- the partition with these records behind its rows, from its end on
unfoldable pub appended : Part → List NewRecord → Part
appended part records =
    record { start = part.start; end = part.end + length records; rows = part.rows ++ numbered part.end records }

abbrev pub taken_by : PartRecords → PartPlaced → ℕ
taken_by part placed = cond (is_zero placed.code) (length part.rows) 0

-- one partition's answer
pub record IsPut (a b : Log) (topic : List ℕ) (part : PartRecords) (placed : PartPlaced) : Type 0 where
  pub keeps : Keeps a b
  pub is_log : IsLog a → IsLog b
  pub takes : Takes a b topic part placed
  pub added : rows_in_all b ≡ rows_in_all a + taken_by part placed
  pub based : IsBased part placed
  pub plainly : IsPlainly a topic part placed

-- the answers of several, in the order asked
pub record ArePut (a b : Log) (topic : List ℕ) (parts : List PartRecords) (placed : List PartPlaced) : Type 0 where
  pub keeps : Keeps a b
  pub is_log : IsLog a → IsLog b
  pub takes : AllZip (Takes a b topic) parts placed
  pub added : rows_in_all b ≡ rows_in_all a + taken_of parts placed
  pub based : AllZip IsBased parts placed
  pub plainly : AllZip (IsPlainly a topic) parts placed

-- Memory was wanting: the first ones were answered, and nothing was done for the others.
pub record SomePut (a b : Log) (topic : List ℕ) (parts : List PartRecords) : Type 0 where
  pub keeps : Keeps a b
  pub is_log : IsLog a → IsLog b
  pub placed : List PartPlaced
  pub takes : AllZip (Takes a b topic) parts placed
  pub added : rows_in_all b ≡ rows_in_all a + taken_of parts placed
