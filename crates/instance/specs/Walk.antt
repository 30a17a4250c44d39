-- What a fetch brought, as the lots of the model's walk (Apache Kafka protocol guide, Fetch; Confluent REST Proxy API v2, consumer records).
use Rattle.std.specs.Prelude.{ℕ, ◌+◌, ◌++◌, ◌<◌, ◌≡◌, ◌^◌, ◌||◌, ⊤, nat_le, nat_lt, pos, Bool, true, false, cond, codes, List, [], ◌∷◌, map, length, slice_index_or, string_bytes, All, IfSome, None, Some, Result, Ok, Err, option_map}
use Rattle.std.specs.declared.alloc.AllocError.{AllocError}
use Rattle.model.specs.step.Walk.{Lot, Item, Rule, Walked, bytes_of, walk_part}
use Rattle.model.specs.state.Log.{Row}
use Rattle.model.specs.state.World.{Format as Shown}
use Rattle.model.specs.texts.Bodies.{item_text, joined}
use Rattle.model.specs.state.Forms.{reason_of}
use Rattle.model.specs.step.Hand.{reads_in}
use Rattle.broker_link.specs.Fetching.{row_of}
use Rattle.broker_link.specs.declared.link.Stored.{Stored}
use Rattle.broker_link.specs.declared.fetch.Fetched.{Fetched}
use Rattle.broker_link.specs.declared.place.Place.{Place as CodePlace}
use Rattle.instance.specs.declared.walk.Pick.{Pick}
use Rattle.instance.specs.declared.walk.Walk.{Walk}
use Rattle.rest_replies.specs.Forms.{forms}
use Rattle.rest_replies.specs.Row.{comma_unless}
use Rattle.broker_link.specs.Places.{place_of}

-- the rows that came for a place
abbrev pub lot_of : CodePlace → Fetched → Lot
lot_of place f = record { place = place_of place; rows = map row_of f.rows }

-- the lots, in the order of the places
abbrev pub lots_of : List CodePlace → List Fetched → List Lot
lots_of [] fetched = []
lots_of (place ∷ places) [] = []
lots_of (place ∷ places) (f ∷ fetched) = lot_of place f ∷ lots_of places fetched

-- a lot of the list
abbrev pub lot_at : List Lot → ℕ → Lot
lot_at lots i = slice_index_or lots i (record { place = record { at = record { topic = []; partition = 0 }; position = 0 }; rows = [] })

-- the row that a pick names
abbrev pub item_in : List Lot → Pick → Item
item_in lots p = record { at = (lot_at lots p.lot).place.at; row = slice_index_or (lot_at lots p.lot).rows p.row (record { offset = 0; key = None; value = None }) }

-- what a walk has met
abbrev pub seen : List Lot → Walk → Walked
seen lots w = record { taken = map (item_in lots) w.picks.items; stopped = w.stopped; unread = option_map (item_in lots) w.unread }

-- the pick names a row
abbrev pub IsPick : List Lot → Pick → Type 0
IsPick lots p = (p.lot < length lots) × (p.row < length (lot_at lots p.lot).rows)

-- the offset is that of an INT64, and so is the one behind it
abbrev pub IsOffset : Stored → Type 0
IsOffset s = (n : ℕ) × (s.offset ≡ pos n) × (n + 1 < 2 ^ 63)

-- those of all rows that came
abbrev pub HasOffsets : Fetched → Type 0
HasOffsets f = All IsOffset f.rows

-- a reply of so many bytes, in a format
abbrev pub rule_of : ℕ → Shown → Rule
rule_of bound format = record { bound = bound; reads = reads_in (reason_of forms) format }

-- the row of a pick isn't a text of the format
abbrev pub IsLost : List Lot → Shown → Pick → Type 0
IsLost lots format p = IsPick lots p × (reason_of forms format (item_in lots p).row ≡ Some 2)

-- the text of the rows that were taken, but for the bracket behind them
abbrev pub text_so_far : Shown → List Item → List ℕ
text_so_far format taken = codes "[" ++ joined (map (item_text forms format) taken)

-- what a walk keeps of what it has met
pub record IsSoFar (lots : List Lot) (format : Shown) (w : Walk) : Type 0 where
  pub bytes : w.bytes ≡ bytes_of (seen lots w).taken
  pub picks : All (IsPick lots) w.picks.items
  pub text : string_bytes w.text ≡ text_so_far format (seen lots w).taken
  pub unread : IfSome w.unread (IsLost lots format)

-- the text of a row was put, behind a comma unless it is the first, or the row doesn't read
abbrev pub PutsSo : (first : Bool) → Shown → Item → (before now : List ℕ) → Result Bool AllocError → Type 0
PutsSo first format item before now (Ok true) = (reason_of forms format item.row ≡ None) × (now ≡ before ++ (comma_unless first ++ item_text forms format item))
PutsSo first format item before now (Ok false) = (reason_of forms format item.row ≡ Some 2) × (now ≡ before)
PutsSo first format item before now (Err e) = ⊤

-- the walk through a partition goes on behind the row, or is over
abbrev pub WalksSo : Rule → Item → (w w2 : Walked) → Result Bool AllocError → Type 0
WalksSo rule item w w2 (Ok true) = (rest : List Row) → walk_part rule item.at w (item.row ∷ rest) ≡ walk_part rule item.at w2 rest
WalksSo rule item w w2 (Ok false) = (rest : List Row) → walk_part rule item.at w (item.row ∷ rest) ≡ w2
WalksSo rule item w w2 (Err e) = ⊤

-- the walk is enough for a reply: with no row at the last look alone
abbrev pub is_enough : (count bytes : ℕ) → (stopped unread : Bool) → (min_bytes : ℕ) → (last : Bool) → Bool
is_enough count bytes stopped unread min_bytes last = cond (nat_lt 0 count) (nat_le min_bytes bytes || (stopped || (unread || last))) last

-- the record that a pick names
abbrev pub stored_in : List Fetched → Pick → Stored
stored_in fetched p = slice_index_or (slice_index_or fetched p.lot (record { rows = []; end = pos 0; out_of_range = false })).rows p.row (record { offset = pos 0; key = None; value = None })

-- the pick names one
abbrev pub HasRow : List Fetched → Pick → Type 0
HasRow fetched p = (p.lot < length fetched) × (p.row < length (slice_index_or fetched p.lot (record { rows = []; end = pos 0; out_of_range = false })).rows)
