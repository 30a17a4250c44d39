-- The walk of a look over the rows at hand: Confluent REST Proxy API v2, `max_bytes` of consumer records.
use Rattle.std.specs.Prelude.{ℕ, ◌+◌, ◌&&◌, ◌||◌, Bool, true, false, if◌then◌else◌, nat_le, nat_lt, List, [], ◌∷◌, ◌++◌, map, length, take, drop, filter, sum_by, Option, Some, None}
use Rattle.model.specs.state.Log.{TopicPart, is_at, Row}

-- an assigned partition and its position
pub record Place : Type 0 where
  pub at : TopicPart
  pub position : ℕ

-- the rows that are at hand of an assigned partition
pub record Lot : Type 0 where
  pub place : Place
  pub rows : List Row

-- a row of a partition
pub record Item : Type 0 where
  pub at : TopicPart
  pub row : Row

-- how many bytes there are; null has none
abbrev pub length_of : Option (List ℕ) → ℕ
length_of None = 0
length_of (Some bytes) = length bytes

-- key and value bytes of a row
abbrev pub size_of : Row → ℕ
size_of row = length_of row.key + length_of row.value

-- those of several
abbrev pub bytes_of : List Item → ℕ
bytes_of items = sum_by (λ item. size_of item.row) items

-- what bounds a reply, and which rows read in the format
pub record Rule : Type 0 where
  pub bound : ℕ
  pub reads : Row → Bool

-- what was taken; whether a stop was met; the first row that doesn't read
pub record Walked : Type 0 where
  pub taken : List Item
  pub stopped : Bool
  pub unread : Option Item

-- before the walk
abbrev pub unwalked : Walked
unwalked = record { taken = []; stopped = false; unread = None }

-- The row can't be taken any more. The first row of a reply always is.
abbrev pub is_full : Rule → List Item → Row → Bool
is_full rule taken row = nat_lt 0 (length taken) && (nat_le 10000 (length taken) || nat_lt rule.bound (bytes_of taken + size_of row))

-- the first that was met
abbrev pub or_first : Option Item → Item → Option Item
or_first None item = Some item
or_first (Some first) item = Some first

-- one row more; a reply that has 10,000 rows ends the walk
abbrev pub with_row : TopicPart → Row → Walked → Walked
with_row at row walked = record { taken = walked.taken ++ record { at = at; row = row } ∷ []; stopped = nat_le 10000 (length walked.taken + 1); unread = walked.unread }

-- the walk through one partition
abbrev pub walk_part : Rule → TopicPart → Walked → List Row → Walked
walk_part rule at walked [] = walked
walk_part rule at walked (row ∷ rows) =
    if is_full rule walked.taken row then record { taken = walked.taken; stopped = true; unread = walked.unread }
    else if rule.reads row then walk_part rule at (with_row at row walked) rows
    else record { taken = walked.taken; stopped = walked.stopped; unread = or_first walked.unread (record { at = at; row = row }) }

-- the walk through the partitions in turn; a stop ends it
abbrev pub walk : Rule → Walked → List Lot → Walked
walk rule walked [] = walked
walk rule walked (lot ∷ lots) = if walked.stopped then walked else walk rule (walk_part rule lot.place.at walked lot.rows) lots

-- the list as it stands once round from a place
abbrev pub turned : {A : Type 0} → ℕ → List A → List A
turned place xs = drop place xs ++ take place xs

-- the rows of one partition among those of several
abbrev pub rows_at : TopicPart → List Item → List Row
rows_at at items = map (λ item. item.row) (filter (λ item. is_at at item.at) items)
