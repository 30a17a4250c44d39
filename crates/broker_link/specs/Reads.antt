-- What a link in memory reads of one partition after another.
use mathlib.Core.List.{IsPrefix}
use Rattle.std.specs.Prelude.{ℕ, true, false, pos, take, not, cond, nat_le, ◌≡◌, ◌-◌, ◌<◌, ◌≤◌, List, [], ◌++◌, ◌∷◌, map, drop, length, All, Option, Some, None}
use Rattle.std.specs.List.{AllZip}
use Rattle.model.specs.state.Log.{Log, Row}
use Rattle.model.specs.step.Walk.{Place}
use Rattle.broker_link.specs.Fetching.{AreInTurn, IsFetched, IsGot, IsOffsetFrom, are_none, asked, bytes_in, fitting, row_of, stored_from}
use Rattle.broker_link.specs.Produced.{numbered}
use Rattle.broker_link.specs.declared.fetch.FetchFrom.{FetchFrom}
use Rattle.broker_link.specs.declared.fetch.Fetched.{Fetched}
use Rattle.broker_link.specs.declared.link.NewRecord.{NewRecord}
use Rattle.broker_link.specs.declared.link.Stored.{Stored}
use Rattle.broker_link.specs.declared.reading.Bound.{Bound}

-- the first of these records, numbered from an offset on
pub record AreTaken (base : ℕ) (records : List NewRecord) (rows : List Stored) : Type 0 where
  pub first : IsPrefix (map row_of rows) (numbered base records)
  pub offsets : All (IsOffsetFrom base) rows

-- so many bytes may still come behind these rows; None where they have more already
abbrev pub room : (most : ℕ) → List Row → Option ℕ
room most rows = cond (nat_le (bytes_in rows) most) (Some (most - bytes_in rows)) None

-- what may still come, so many bytes later
abbrev pub less : ℕ → Option ℕ → Option ℕ
less size None = None
less size (Some left) = cond (nat_le size left) (Some (left - size)) None

-- the bound stands behind these rows, taken or not
pub record IsBound (most : ℕ) (before : List Row) (bound : Bound) : Type 0 where
  pub left : bound.left ≡ room most before
  pub begun : bound.begun ≡ not (are_none before)

-- Of these rows those were taken that fit behind what was read before, and the bound stands behind all of them.
abbrev pub Fills : (old new : Bound) → List Row → List Stored → Type 0
Fills old new there rows = (most : ℕ) (before : List Row) → IsBound most before old → (map row_of rows ≡ fitting most before there) × IsBound most (before ++ there) new

-- so many of these records were taken, and each fitted
pub record IsTaking (base : ℕ) (records : List NewRecord) (count : ℕ) (rows : List Stored) (old new : Bound) : Type 0 where
  pub are : map row_of rows ≡ numbered base (take count records)
  pub offsets : All (IsOffsetFrom base) rows
  pub fills : Fills old new (numbered base (take count records)) rows

-- what is read of a partition's records from an offset on
pub record IsRead (records : List NewRecord) (low : ℕ) (f : Fetched) : Type 0 where
  pub outside : f.out_of_range ≡ true → (f.rows ≡ []) × (length records < low)
  pub inside : f.out_of_range ≡ false → low ≤ length records
  pub end : f.end ≡ pos (length records)
  pub taken : AreTaken low (drop low records) f.rows

-- what is read of several partitions in turn
pub record AreRead (log : Log) (most : ℕ) (asks : List FetchFrom) (all : List Fetched) : Type 0 where
  pub fetched : AllZip IsFetched asks all
  pub each : AllZip (IsGot log) asks all
  pub turn : AreInTurn most log asks all

-- the rows of these places, one after the other
abbrev pub all_from : Log → List Place → List Row
all_from log [] = []
all_from log (place ∷ places) = stored_from log place ++ all_from log places

-- so many of several were read, and the bound stands behind all their rows
pub record IsReading (log : Log) (most : ℕ) (asks : List FetchFrom) (all : List Fetched) (met : Bound) : Type 0 where
  pub are : AreRead log most asks all
  pub bound : IsBound most (all_from log (map asked asks)) met
