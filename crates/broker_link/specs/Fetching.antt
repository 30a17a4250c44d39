-- What a link answers of stored rows, edges and committed offsets: Apache Kafka protocol guide, Fetch, ListOffsets and OffsetFetch.
use mathlib.Core.List.{IsPrefix}
use Rattle.std.specs.List.{AllZip}
use Rattle.std.specs.Prelude.{ℕ, ℤ, pos, negsuc, nat_abs, nat_le, nat_lt, ◌+◌, ◌<◌, ◌≤◌, ◌^◌, ◌≡◌, ◌⊎◌, ◌||◌, Bool, true, false, cond, List, [], ◌∷◌, ◌++◌, map, length, sum_by, All, AllPairs, Option, Some, None}
use Rattle.model.specs.state.Log.{TopicPart, is_at, Row, Log, part_at, from}
use Rattle.model.specs.step.Walk.{Place, size_of}
use Rattle.model.specs.state.World.{Edge}
use Rattle.model.specs.state.World.Edge.{Start, End}
use Rattle.model.specs.step.Fixed.{HasPart, edge_of}
use Rattle.broker_link.specs.declared.fetch.TopicPart.{TopicPart as Part}
use Rattle.broker_link.specs.declared.fetch.FetchFrom.{FetchFrom}
use Rattle.broker_link.specs.declared.fetch.Fetched.{Fetched}
use Rattle.broker_link.specs.declared.fetch.Edge.{Edge as CodeEdge}
use Rattle.broker_link.specs.declared.fetch.Edge.TheVariants.{Start as CodeStart, End as CodeEnd}
use Rattle.broker_link.specs.declared.link.Stored.{Stored}

-- the partition of a topic
abbrev pub at_of : Part → TopicPart
at_of part = record { topic = part.topic; partition = nat_abs part.partition }

-- the partition of that number in a topic
abbrev pub named_at : List ℕ → ℤ → TopicPart
named_at topic partition = record { topic = topic; partition = nat_abs partition }

-- the partition that is asked for
abbrev pub ask_at : FetchFrom → TopicPart
ask_at ask = record { topic = ask.topic; partition = nat_abs ask.partition }

-- the place that is asked from
abbrev pub asked : FetchFrom → Place
asked ask = record { at = ask_at ask; position = nat_abs ask.offset }

-- a row as the log has it
abbrev pub row_of : Stored → Row
row_of s = record { offset = nat_abs s.offset; key = s.key; value = s.value }

-- the start or the end of a partition
abbrev pub edge_view : CodeEdge → Edge
edge_view CodeStart = Start
edge_view CodeEnd = End

-- an offset from the asked one on, behind which another one fits
abbrev pub IsOffsetFrom : ℕ → Stored → Type 0
IsOffsetFrom low s = (n : ℕ) × (s.offset ≡ pos n) × (low ≤ n) × (n + 1 < 2 ^ 63)

-- What holds of what every link fetches: out of range there are no rows; the offsets are those of an INT64.
pub record IsFetched (ask : FetchFrom) (f : Fetched) : Type 0 where
  pub outside : f.out_of_range ≡ true → f.rows ≡ []
  pub end : f.out_of_range ≡ false → f.end ≡ pos (nat_abs f.end)
  pub offsets : All (IsOffsetFrom (nat_abs ask.offset)) f.rows

-- the offset is below the start or above the end of its partition
abbrev pub IsOutside : Log → TopicPart → ℕ → Type 0
IsOutside log at offset = (offset < (part_at log at).start) ⊎ ((part_at log at).end < offset)

-- the offset lies from the start to the end
abbrev pub IsInside : Log → TopicPart → ℕ → Type 0
IsInside log at offset = ((part_at log at).start ≤ offset) × (offset ≤ (part_at log at).end)

-- the first rows of a partition from the asked offset on, where it lies in range
pub record IsGot (log : Log) (ask : FetchFrom) (f : Fetched) : Type 0 where
  pub outside : f.out_of_range ≡ true → IsOutside log (ask_at ask) (nat_abs ask.offset)
  pub inside : f.out_of_range ≡ false → IsInside log (ask_at ask) (nat_abs ask.offset)
  pub first : IsPrefix (map row_of f.rows) (from log (ask_at ask) (nat_abs ask.offset))

-- The answers in the order asked. Where all asks are in range and no row came, no partition has a row there.
pub record AreGot (log : Log) (asks : List FetchFrom) (fetched : List Fetched) : Type 0 where
  pub each : AllZip (IsGot log) asks fetched
  pub none : All (λ f. f.out_of_range ≡ false) fetched → All (λ f. f.rows ≡ []) fetched
      → All (λ ask. from log (ask_at ask) (nat_abs ask.offset) ≡ []) asks

-- the rows that came of one ask
abbrev pub rows_in : Fetched → List Row
rows_in f = map row_of f.rows

-- the rows of a partition from a position on; there are none where the position is below the start
abbrev pub stored_from : Log → Place → List Row
stored_from log place = cond (nat_lt place.position (part_at log place.at).start) [] (from log place.at place.position)

-- the key and value bytes of rows
abbrev pub bytes_in : List Row → ℕ
bytes_in rows = sum_by size_of rows

abbrev pub are_none : List Row → Bool
are_none [] = true
are_none (row ∷ rows) = false

-- a row fits behind others: there are none, or all of them together have at most so many bytes
abbrev pub fits : (most : ℕ) → (before : List Row) → Row → Bool
fits most before row = are_none before || nat_le (bytes_in (before ++ row ∷ [])) most

-- these rows up to the first that doesn't fit
abbrev pub fitting : (most : ℕ) → (before rows : List Row) → List Row
fitting most before [] = []
fitting most before (row ∷ rows) = cond (fits most before row) (row ∷ fitting most (before ++ row ∷ []) rows) []

-- of each place in turn the rows that fit behind all rows of the places before it
abbrev pub rows_in_turn : (most : ℕ) → (before : List Row) → Log → List Place → List (List Row)
rows_in_turn most before log [] = []
rows_in_turn most before log (place ∷ places) = fitting most before (stored_from log place) ∷ rows_in_turn most (before ++ stored_from log place) log places

-- The asks in turn were given their rows until one would bring the bytes of all above the bound; the first row of all always.
abbrev pub AreInTurn : (most : ℕ) → Log → List FetchFrom → List Fetched → Type 0
AreInTurn most log asks fetched = map rows_in fetched ≡ rows_in_turn most [] log (map asked asks)

-- some asks, no partition twice
pub record AreAsks (asks : List FetchFrom) : Type 0 where
  pub some : 0 < length asks
  pub apart : AllPairs (λ x y. is_at (ask_at x) (ask_at y) ≡ false) asks

-- the topics have each of these partitions
abbrev pub HaveAsked : Log → List FetchFrom → Type 0
HaveAsked log asks = All (λ ask. HasPart log (ask_at ask)) asks

-- some partitions, none twice
pub record ArePartsOf (parts : List Part) : Type 0 where
  pub some : 0 < length parts
  pub apart : AllPairs (λ x y. is_at (at_of x) (at_of y) ≡ false) parts

-- an offset as the link tells it; -1 is none
abbrev pub told_offset : ℤ → Option ℕ
told_offset (pos n) = Some n
told_offset (negsuc n) = None

-- an offset, or -1
abbrev pub IsToldOffset : ℤ → Type 0
IsToldOffset offset = ((n : ℕ) × (offset ≡ pos n)) ⊎ (offset ≡ negsuc 0)

-- the offset that the group has committed at the partition, where it has one
abbrev pub IsCommittedAt : Log → List ℕ → Part → ℤ → Type 0
IsCommittedAt log group part offset = log.committed group (at_of part) ≡ told_offset offset

-- the edge of a partition that the topics have
pub record IsEdge (log : Log) (at : TopicPart) (edge : Edge) (offset : ℤ) : Type 0 where
  pub have : HasPart log at
  pub is : nat_abs offset ≡ edge_of edge log at
