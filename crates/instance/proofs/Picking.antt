-- What picks name, and the text of what they name.
use Rattle.std.proofs.Common.{◌≡◌, ℕ, zero, suc, ◌<◌, false, List, [], ◌∷◌, length, slice_index_or, refl, ap, sym, ◌∙◌, arith, None}
use Rattle.std.specs.Prelude.{nat_abs, pos, ℤ}
use Rattle.std.proofs.lemmas.List.{get_or-map, length-map}
use Rattle.model.specs.state.Log.{Row}
use Rattle.model.specs.step.Walk.{Lot, Item}
use Rattle.broker_link.specs.Fetching.{row_of}
use Rattle.broker_link.specs.declared.link.Stored.{Stored}
use Rattle.broker_link.specs.declared.fetch.Fetched.{Fetched}
use Rattle.broker_link.specs.declared.place.Place.{Place as CodePlace}
use Rattle.instance.specs.declared.walk.Pick.{Pick}
use Rattle.broker_link.specs.Places.{at_in}
use Rattle.instance.specs.Walk.{lot_of, lots_of, lot_at, item_in, IsPick, HasRow, HasOffsets, IsOffset, stored_in}
use Rattle.std.specs.List.{All}

abbrev no_fetched : Fetched
no_fetched = record { rows = []; end = pos 0; out_of_range = false }

abbrev no_stored : Stored
no_stored = record { offset = pos 0; key = None; value = None }

abbrev none : Row
none = record { offset = 0; key = None; value = None }

lot_is : (places : List CodePlace) (fetched : List Fetched) (i : ℕ) (d : CodePlace) → length fetched ≡ length places → i < length places
    → lot_at (lots_of places fetched) i ≡ lot_of (slice_index_or places i d) (slice_index_or fetched i no_fetched)
lot_is [] fetched i d same lt = absurd (omega arith)
lot_is (p ∷ places) [] i d same lt = absurd (omega arith)
lot_is (p ∷ places) (f ∷ fetched) zero d same lt = refl
lot_is (p ∷ places) (f ∷ fetched) (suc i) d same lt = lot_is places fetched i d (omega arith) (omega arith)

lots_length : (places : List CodePlace) (fetched : List Fetched) → length fetched ≡ length places → length (lots_of places fetched) ≡ length places
lots_length [] fetched same = refl
lots_length (place ∷ places) [] same = absurd (omega arith)
lots_length (place ∷ places) (f ∷ fetched) same = ap suc (lots_length places fetched (omega arith))

-- a pick of the lots names a lot
pub pick_within : (places : List CodePlace) (fetched : List Fetched) (p : Pick) → length fetched ≡ length places → IsPick (lots_of places fetched) p → p.lot < length places
pick_within places fetched p same pick = omega (arith, pick.0, lots_length places fetched same)

-- and a record that came
pub has_row : (places : List CodePlace) (fetched : List Fetched) (p : Pick) → length fetched ≡ length places → IsPick (lots_of places fetched) p → HasRow fetched p
has_row places fetched p same pick = go places refl
  where
    go : (ps : List CodePlace) → places ≡ ps → HasRow fetched p
    go [] e = absurd (let lt = pick_within places fetched p same pick in let n : length places ≡ 0 = ap length e in omega arith)
    go (d ∷ ps) e =
        let lt = pick_within places fetched p same pick in
        let lot = lot_is places fetched p.lot d same lt in
        let rows : length (lot_at (lots_of places fetched) p.lot).rows ≡ length (slice_index_or fetched p.lot no_fetched).rows =
        ap (λ (l : Lot). length l.rows) lot ∙ length-map (slice_index_or fetched p.lot no_fetched).rows row_of in
        (omega (arith, lt, same), omega (arith, pick.1, rows))

-- the item is the record, at its place
pub item_is : (places : List CodePlace) (fetched : List Fetched) (p : Pick) (d : CodePlace) → length fetched ≡ length places → IsPick (lots_of places fetched) p
    → item_in (lots_of places fetched) p ≡ record { at = at_in (slice_index_or places p.lot d); row = row_of (stored_in fetched p) }
item_is places fetched p d same pick =
    let lt = pick_within places fetched p same pick in
    let lot = lot_is places fetched p.lot d same lt in
    let f : Fetched = slice_index_or fetched p.lot no_fetched in
    let rows : length (lot_at (lots_of places fetched) p.lot).rows ≡ length f.rows = ap (λ (l : Lot). length l.rows) lot ∙ length-map f.rows row_of in
    let within : p.row < length f.rows = omega (arith, pick.1, rows) in
    ap (λ (l : Lot). record { at = l.place.at; row = slice_index_or l.rows p.row none }) lot
    ∙ ap (λ (r : Row). record { at = at_in (slice_index_or places p.lot d); row = r }) (get_or-map row_of f.rows p.row no_stored none within)

-- what a pick names, by what was read for it
pub item_read : (places : List CodePlace) (fetched : List Fetched) (p : Pick) (place : CodePlace) (partition : ℤ) (s : Stored)
    → length fetched ≡ length places → IsPick (lots_of places fetched) p → place ≡ slice_index_or places p.lot place → partition ≡ place.partition → s ≡ stored_in fetched p
    → record { at = record { topic = place.topic; partition = nat_abs partition }; row = row_of s } ≡ item_in (lots_of places fetched) p
item_read places fetched p place partition s same pick is part_is row_is =
    let item : item_in (lots_of places fetched) p ≡ record { at = at_in place; row = row_of s } =
    item_is places fetched p place same pick ∙ (ap (λ (x : CodePlace). record { at = at_in x; row = row_of (stored_in fetched p) }) (sym is) ∙ ap (λ (x : Stored). record { at = at_in place; row = row_of x }) (sym row_is)) in
    ap (λ (n : ℤ). record { at = record { topic = place.topic; partition = nat_abs n }; row = row_of s }) part_is ∙ sym item

-- the same by the pick's own topic
pub item_at : (places : List CodePlace) (fetched : List Fetched) (p : Pick) (place : CodePlace) (partition : ℤ) (s : Stored)
    → length fetched ≡ length places → IsPick (lots_of places fetched) p → place ≡ slice_index_or places p.lot place → partition ≡ place.partition → s ≡ stored_in fetched p
    → record { at = record { topic = (item_in (lots_of places fetched) p).at.topic; partition = nat_abs partition }; row = row_of s } ≡ item_in (lots_of places fetched) p
item_at places fetched p place partition s same pick is part_is row_is =
    let read = item_read places fetched p place partition s same pick is part_is row_is in
    ap (λ (t : List ℕ). record { at = record { topic = t; partition = nat_abs partition }; row = row_of s }) (sym (ap (λ (x : Item). x.at.topic) read)) ∙ read

-- the row of a pick is the record that came
pub row_is : (places : List CodePlace) (fetched : List Fetched) (p : Pick) → length fetched ≡ length places → IsPick (lots_of places fetched) p
    → row_of (stored_in fetched p) ≡ (item_in (lots_of places fetched) p).row
row_is places fetched p same pick = go places refl
  where
    go : (ps : List CodePlace) → places ≡ ps → row_of (stored_in fetched p) ≡ (item_in (lots_of places fetched) p).row
    go [] e = absurd (let lt = pick_within places fetched p same pick in let n : length places ≡ 0 = ap length e in omega arith)
    go (d ∷ ps) e = sym (ap (λ (x : Item). x.row) (item_is places fetched p d same pick))

-- what a pick names, by its place and the offset of the record
pub unread_item : (places : List CodePlace) (fetched : List Fetched) (p : Pick) (place : CodePlace) → length fetched ≡ length places → IsPick (lots_of places fetched) p → place ≡ slice_index_or places p.lot place
    → record { at = at_in place; row = (item_in (lots_of places fetched) p).row } ≡ item_in (lots_of places fetched) p
unread_item places fetched p place same pick is =
    let item = item_is places fetched p place same pick in
    ap (λ (x : CodePlace). record { at = at_in x; row = (item_in (lots_of places fetched) p).row }) is
    ∙ (ap (λ (r : Row). record { at = at_in (slice_index_or places p.lot place); row = r }) (ap (λ (x : Item). x.row) item) ∙ sym item)

-- a row of a lot that is among the places is a pick
pub is_pick : (places : List CodePlace) (fetched : List Fetched) (lot row : ℕ) (f : Fetched) → length fetched ≡ length places → lot < length places → f ≡ slice_index_or fetched lot f → row < length f.rows
    → IsPick (lots_of places fetched) (record { lot = lot; row = row })
is_pick [] fetched lot row f same lt is within = absurd (omega arith)
is_pick (p ∷ places) [] lot row f same lt is within = absurd (omega arith)
is_pick (p ∷ places) (g ∷ fetched) zero row f same lt is within =
    (omega arith, omega (arith, within, length-map g.rows row_of, ap (λ (x : Fetched). length x.rows) is))
is_pick (p ∷ places) (g ∷ fetched) (suc lot) row f same lt is within =
    let rest = is_pick places fetched lot row f (omega arith) (omega arith) is within in (omega (arith, rest.0), rest.1)

-- the topic of a pick is that of its place
pub topic_is : (places : List CodePlace) (fetched : List Fetched) (p : Pick) (place : CodePlace) → length fetched ≡ length places → IsPick (lots_of places fetched) p → place ≡ slice_index_or places p.lot place
    → place.topic ≡ (item_in (lots_of places fetched) p).at.topic
topic_is places fetched p place same pick is =
    ap (λ (x : CodePlace). x.topic) is ∙ sym (ap (λ (x : Item). x.at.topic) (item_is places fetched p place same pick))

-- the offset of a record that came is that of an INT64
pub stored_offset : (fetched : List Fetched) (p : Pick) → All HasOffsets fetched → HasRow fetched p → IsOffset (stored_in fetched p)
stored_offset fetched p all row = all p.lot no_fetched row.0 p.row no_stored row.1
