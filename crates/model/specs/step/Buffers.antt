-- What a look does to the rows that a consumer has at hand, as Apache Kafka's consumer keeps fetched records between polls.
use Rattle.std.specs.Prelude.{ℕ, ◌+◌, ◌*◌, ◌<◌, ◌≤◌, ◌≡◌, ◌⊎◌, Bool, false, cond, List, [], ◌∷◌, ◌++◌, length, sum_by, All, Contains, None}
use Rattle.model.specs.state.Log.{TopicPart, is_at, Row}
use Rattle.model.specs.step.Walk.{Lot, Item, rows_at, size_of}
use Rattle.model.specs.state.World.{Consumer, position_in}
use Rattle.model.specs.state.World.Mode.{Assigned}
use Rattle.model.specs.state.Entry.{Act, Event}
use Rattle.model.specs.state.Entry.Act.{Assign, Seek, SeekEdge, Subscribe, Unsubscribe}
use Rattle.model.specs.state.Entry.Event.{Rebalanced, Reset}
use Rattle.model.specs.step.Ends.{is_in_force}

-- the rows buffered of a partition
abbrev pub buffered_at : TopicPart → List Lot → List Row
buffered_at at [] = []
buffered_at at (lot ∷ lots) = (let place = lot.place in cond (is_at at place.at) lot.rows (buffered_at at lots))

-- no row buffered of that partition
abbrev pub without : TopicPart → List Lot → List Lot
without at [] = []
without at (lot ∷ lots) = (let place = lot.place in cond (is_at at place.at) (record { place = lot.place; rows = [] } ∷ without at lots) (lot ∷ without at lots))

-- a Rebalanced clears all, a Reset its partition
abbrev pub left_by : List Event → List Lot → List Lot
left_by [] lots = lots
left_by (Rebalanced places ∷ events) lots = left_by events []
left_by (Reset place ∷ events) lots = left_by events (without place.at lots)
left_by (_ ∷ events) lots = left_by events lots

-- key and value bytes of the rows buffered
abbrev pub bytes_at_hand : List Lot → ℕ
bytes_at_hand lots = sum_by (λ lot. sum_by size_of lot.rows) lots

-- how many rows are buffered
abbrev pub rows_at_hand : List Lot → ℕ
rows_at_hand lots = sum_by (λ lot. length lot.rows) lots

-- what a link counts of its fetches, and the calls that went out
pub record Fetches : Type 0 where
  pub asks : ℕ
  pub room : ℕ
  pub fetched : ℕ
  pub sent : ℕ

-- 1 where a Reset stands among the events: one more fetch is made then
abbrev pub resets_in : List Event → ℕ
resets_in [] = 0
resets_in (Reset place ∷ events) = 1
resets_in (_ ∷ events) = resets_in events

-- An accepted call leaves no row buffered of a partition that it moves or takes away, on the consumer that it found. A Subscribe to the list in force takes none away.
abbrev pub IsCleared : Consumer → Act → (after : List Lot) → Type 0
IsCleared c (Assign ats) after = (at : TopicPart) → ((Contains ats at → ⊥) ⊎ (position_in c.assignment at ≡ None)) → buffered_at at after ≡ []
IsCleared c (Seek news) after = All (λ place. buffered_at place.at after ≡ []) news
IsCleared c (SeekEdge edge ats) after = All (λ at. buffered_at at after ≡ []) ats
IsCleared c (Subscribe names) after = is_in_force c names ≡ false → rows_at_hand after ≡ 0
IsCleared c Unsubscribe after = rows_at_hand after ≡ 0
IsCleared c _ after = Unit {0}

-- `before` and `after` are the rows at hand, `shown` the rows of the reply, `more` those that were fetched.
pub record IsBuffered (before after : List Lot) (events : List Event) (shown : List Item) : Type 0 where
  pub more : TopicPart → List Row
  pub order : (at : TopicPart) → rows_at at shown ++ buffered_at at after ≡ buffered_at at (left_by events before) ++ more at

-- The same of a look that nothing ended before its walk: nothing that was fetched is dropped, and how much was asked.
-- `c` is the consumer after the events, and `due` says that look 0 had something to save.
pub record IsFetched (before after : List Lot) (f g : Fetches) (due : Bool) (c : Consumer) (events : List Event) (shown : List Item) : Type 0 where
  pub count : length shown + rows_at_hand after + f.fetched ≡ rows_at_hand (left_by events before) + g.fetched
  pub asked : 0 < length c.assignment → (bytes_at_hand (left_by events before) < (let s = c.settings in s.min_bytes)) ⊎ (rows_at_hand (left_by events before) ≡ 0)
      → (g.asks ≡ f.asks + (1 + resets_in events) * length c.assignment) × (g.room ≡ f.room + (1 + resets_in events) * 1048576)
  pub still : c.mode ≡ Assigned → due ≡ false → 0 < rows_at_hand before → (let s = c.settings in s.min_bytes) ≤ bytes_at_hand before → g.sent ≡ f.sent
