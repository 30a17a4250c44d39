-- Positions behind one more row, and the consumer behind all rows that were taken.
use Rattle.std.proofs.Common.{◌≡◌, ℕ, zero, suc, ◌+◌, ◌-◌, ◌%◌, ◌<◌, ◌≤◌, Bool, true, false, List, [], ◌∷◌, ◌++◌, map, length, take, set, slice_index_or, refl, ap, sym, ◌∙◌, arith, Some}
use Rattle.std.specs.Prelude.{nat_abs}
use Rattle.std.specs.List.{filter}
use Rattle.std.proofs.lemmas.List.{get_or-map, map_more, length-map}
use Rattle.model.specs.state.Log.{TopicPart, is_at, Row, after}
use Rattle.model.specs.step.Walk.{Place, Lot, Item, rows_at}
use Rattle.model.specs.state.World.{IsApart, IsInOrder, Consumer, moved_places, place_behind, last_at}
use Rattle.model.specs.step.Events.{moved, or_taken, rotation_behind}
use Rattle.model.proofs.Walks.{is_at_itself, rows_at-push_same, rows_at-push_other}
use Rattle.model.proofs.Moves.{apart_from_order}
use Rattle.broker_link.specs.Fetching.{row_of}
use Rattle.broker_link.specs.declared.link.Stored.{Stored}
use Rattle.broker_link.specs.declared.fetch.Fetched.{Fetched}
use Rattle.broker_link.specs.declared.place.Place.{Place as CodePlace}
use Rattle.instance.specs.declared.walk.Pick.{Pick}
use Rattle.broker_link.specs.Places.{at_in, place_of}
use Rattle.consumer_state.specs.Views.{mode_of}
use Rattle.instance.specs.Walk.{lots_of, item_in, IsPick, stored_in}
use Rattle.consumer_state.specs.Positions.{set_at}
use Rattle.consumer_state.proofs.PositionLemmas.{order_kept, other_way, set_at_is}
use Rattle.instance.proofs.Picking.{item_is, pick_within}

abbrev many : TopicPart → List Place → ℕ
many at places = length (filter (λ (place : Place). is_at at place.at) places)

pub moved_none : (places : List Place) → moved_places [] places ≡ places
moved_none [] = refl
moved_none (place ∷ places) = ap (λ ps. place ∷ ps) (moved_none places)

after_push : (rows : List Row) (row : Row) (p : ℕ) → after (rows ++ row ∷ []) p ≡ row.offset + 1
after_push [] row p = refl
after_push (r ∷ rows) row p = after_push rows row (r.offset + 1)

moved_elsewhere : (items : List Item) (item : Item) (places : List Place) → many item.at places ≡ 0 → moved_places (items ++ item ∷ []) places ≡ moved_places items places
moved_elsewhere items item [] none = refl
moved_elsewhere items item (place ∷ places) none = go (is_at item.at place.at) refl (moved_elsewhere items item places)
  where
    go : (b : Bool) → is_at item.at place.at ≡ b → (many item.at places ≡ 0 → moved_places (items ++ item ∷ []) places ≡ moved_places items places)
        → moved_places (items ++ item ∷ []) (place ∷ places) ≡ moved_places items (place ∷ places)
    go true e rest = absurd (omega (arith, rw e at none))
    go false e rest =
        let same : rows_at place.at (items ++ item ∷ []) ≡ rows_at place.at items = rows_at-push_other place.at items item (other_way item.at place.at e) in
        ap (λ rs. record { at = place.at; position = after rs place.position } ∷ moved_places (items ++ item ∷ []) places) same
        ∙ ap (λ ps. record { at = place.at; position = after (rows_at place.at items) place.position } ∷ ps) (rest (rw e at none))

many_there : (at : TopicPart) (places : List Place) (k : ℕ) (d : Place) → k < length places → (slice_index_or places k d).at ≡ at → 0 < many at places
many_there at [] k d lt is = absurd (omega arith)
many_there at (place ∷ places) zero d lt is =
    let e : is_at at place.at ≡ true = ap (is_at at) is ∙ is_at_itself at in
    rw e (omega arith)
many_there at (place ∷ places) (suc k) d lt is = go (is_at at place.at) refl (many_there at places k d (omega arith) is)
  where
    go : (b : Bool) → is_at at place.at ≡ b → 0 < many at places → 0 < many at (place ∷ places)
    go true e rest = rw e (omega arith)
    go false e rest = rw e rest

moved_push : (items : List Item) (item : Item) (places : List Place) (k : ℕ) (d : Place) → k < length places → (slice_index_or places k d).at ≡ item.at → many item.at places ≤ 1
    → moved_places (items ++ item ∷ []) places ≡ set (moved_places items places) k (record { at = item.at; position = item.row.offset + 1 })
moved_push items item [] k d lt is one = absurd (omega arith)
moved_push items item (place ∷ places) zero d lt is one =
    let here : is_at item.at place.at ≡ true = ap (is_at item.at) is ∙ is_at_itself item.at in
    let le : suc (many item.at places) ≤ 1 = rw here at one in
    let none : many item.at places ≡ 0 = omega arith in
    let itself : is_at place.at item.at ≡ true = ap (λ x. is_at x item.at) is ∙ is_at_itself item.at in
    let next : after (rows_at place.at (items ++ item ∷ [])) place.position ≡ item.row.offset + 1 = ap (λ rs. after rs place.position) (rows_at-push_same place.at items item itself) ∙ after_push (rows_at place.at items) item.row place.position in
    ap (λ n. record { at = place.at; position = n } ∷ moved_places (items ++ item ∷ []) places) next
    ∙ (ap (λ x. record { at = x; position = item.row.offset + 1 } ∷ moved_places (items ++ item ∷ []) places) is
    ∙ ap (λ ps. record { at = item.at; position = item.row.offset + 1 } ∷ ps) (moved_elsewhere items item places none))
moved_push items item (place ∷ places) (suc k) d lt is one = go (is_at item.at place.at) refl (moved_push items item places k d (omega arith) is)
  where
    there : 0 < many item.at places
    there = many_there item.at places k d (omega arith) is

    go : (b : Bool) → is_at item.at place.at ≡ b
        → (many item.at places ≤ 1 → moved_places (items ++ item ∷ []) places ≡ set (moved_places items places) k (record { at = item.at; position = item.row.offset + 1 }))
        → moved_places (items ++ item ∷ []) (place ∷ places) ≡ set (moved_places items (place ∷ places)) (suc k) (record { at = item.at; position = item.row.offset + 1 })
    go true e rest = absurd (let le : suc (many item.at places) ≤ 1 = rw e at one in omega (arith, there))
    go false e rest =
        let same : rows_at place.at (items ++ item ∷ []) ≡ rows_at place.at items = rows_at-push_other place.at items item (other_way item.at place.at e) in
        ap (λ rs. record { at = place.at; position = after rs place.position } ∷ moved_places (items ++ item ∷ []) places) same
        ∙ ap (λ ps. record { at = place.at; position = after (rows_at place.at items) place.position } ∷ ps) (rest (rw e at one))

moved_at : (items : List Item) (places : List Place) (k : ℕ) (d : Place) → k < length places → (slice_index_or (moved_places items places) k d).at ≡ (slice_index_or places k d).at
moved_at items [] k d lt = absurd (omega arith)
moved_at items (place ∷ places) zero d lt = refl
moved_at items (place ∷ places) (suc k) d lt = moved_at items places k d (omega arith)

pub length-moved : (items : List Item) (places : List Place) → length (moved_places items places) ≡ length places
length-moved items [] = refl
length-moved items (place ∷ places) = ap suc (length-moved items places)

-- one pick more, written back where it was picked; `s` is the record that it names
pub advance_more : (old now new : List CodePlace) (fetched : List Fetched) (picks : List Pick) (i : ℕ) (p d : Pick) (s : Stored) (next : ℕ)
    → length fetched ≡ length old → IsApart (map place_of old) → i < length picks → p ≡ slice_index_or picks i d → IsPick (lots_of old fetched) p
    → s ≡ stored_in fetched p → next ≡ nat_abs s.offset + 1
    → map place_of now ≡ moved_places (map (item_in (lots_of old fetched)) (take i picks)) (map place_of old)
    → map place_of new ≡ set_at (map place_of now) p.lot next
    → map place_of new ≡ moved_places (map (item_in (lots_of old fetched)) (take (i + 1) picks)) (map place_of old)
advance_more old now new fetched picks i p d s next same apart lt is pick stored next_is inv put = go old refl
  where
    go : (xs : List CodePlace) → old ≡ xs → map place_of new ≡ moved_places (map (item_in (lots_of old fetched)) (take (i + 1) picks)) (map place_of old)
    go [] e = absurd (let within = pick_within old fetched p same pick in let none : length old ≡ 0 = ap length e in omega arith)
    go (x ∷ xs) e =
        let lots : List Lot = lots_of old fetched in
        let k : ℕ = p.lot in
        let item : Item = item_in lots p in
        let ps : List Place = map place_of old in
        let items : List Item = map (item_in lots) (take i picks) in
        let within : k < length old = pick_within old fetched p same pick in
        let fits : k < length ps = omega (arith, length-map old place_of) in
        let item_here : item ≡ record { at = at_in (slice_index_or old k x); row = row_of (stored_in fetched p) } = item_is old fetched p x same pick in
        let at_old : (slice_index_or ps k (place_of x)).at ≡ item.at = ap (λ (y : Place). y.at) (get_or-map place_of old k x (place_of x) within) ∙ ap (λ (y : Item). y.at) (sym item_here) in
        let at_now : (slice_index_or (moved_places items ps) k (place_of x)).at ≡ item.at = moved_at items ps k (place_of x) fits ∙ at_old in
        let offset : next ≡ item.row.offset + 1 = next_is ∙ (ap (λ (y : Stored). nat_abs y.offset + 1) stored ∙ ap (λ (y : Item). y.row.offset + 1) (sym item_here)) in
        let more : map (item_in lots) (take (i + 1) picks) ≡ items ++ item ∷ [] = map_more (item_in lots) picks i d lt ∙ ap (λ (q : Pick). items ++ item_in lots q ∷ []) (sym is) in
        let written : set_at (moved_places items ps) k next ≡ set (moved_places items ps) k (record { at = item.at; position = item.row.offset + 1 }) =
        set_at_is (moved_places items ps) k next (place_of x) ∙ (ap (λ y. set (moved_places items ps) k (record { at = y; position = next })) at_now ∙ ap (λ n. set (moved_places items ps) k (record { at = item.at; position = n })) offset) in
        put ∙ (ap (λ ys. set_at ys k next) inv ∙ (written ∙ (sym (moved_push items item ps k (place_of x) fits at_old (apart item.at)) ∙ ap (λ ys. moved_places ys ps) (sym more))))

last_is : (lots : List Lot) (picks : List Pick) (d : Pick) → 0 < length picks → last_at (map (item_in lots) picks) ≡ Some (item_in lots (slice_index_or picks (length picks - 1) d)).at
last_is lots [] d lt = absurd (omega arith)
last_is lots (p ∷ []) d lt = refl
last_is lots (p ∷ q ∷ picks) d lt =
    let n : length (p ∷ q ∷ picks) - 1 ≡ suc (length (q ∷ picks) - 1) = omega arith in
    last_is lots (q ∷ picks) d (omega arith) ∙ ap (λ k. Some (item_in lots (slice_index_or (p ∷ q ∷ picks) k d)).at) (sym n)

place_behind_is : (at : TopicPart) (places : List Place) (k : ℕ) (d : Place) → k < length places → many at places ≤ 1 → (slice_index_or places k d).at ≡ at → place_behind at places ≡ k + 1
place_behind_is at [] k d lt one is = absurd (omega arith)
place_behind_is at (place ∷ places) zero d lt one is =
    let e : is_at at place.at ≡ true = ap (is_at at) is ∙ is_at_itself at in
    rw e (omega arith)
place_behind_is at (place ∷ places) (suc k) d lt one is = go (is_at at place.at) refl (λ (le : many at places ≤ 1). place_behind_is at places k d (omega arith) le is)
  where
    there : 0 < many at places
    there = many_there at places k d (omega arith) is

    go : (b : Bool) → is_at at place.at ≡ b → (many at places ≤ 1 → place_behind at places ≡ k + 1) → place_behind at (place ∷ places) ≡ suc k + 1
    go true e rest = absurd (let le : suc (many at places) ≤ 1 = rw e at one in omega (arith, there))
    go false e rest = rw e (omega (arith, rest (rw e at one)))

or_taken_is : (items : List Item) (unsaved : Bool) → 0 < length items → or_taken items unsaved ≡ true
or_taken_is [] unsaved lt = absurd (omega arith)
or_taken_is (item ∷ items) unsaved lt = refl

-- partitions stay assigned while positions move
pub mode_moved : (items : List Item) (places : List Place) → mode_of (moved_places items places) ≡ mode_of places
mode_moved items [] = refl
mode_moved items (place ∷ places) = refl

pub ats_moved : (items : List Item) (places : List Place) → map (λ (p : Place). p.at) (moved_places items places) ≡ map (λ (p : Place). p.at) places
ats_moved items [] = refl
ats_moved items (place ∷ places) = ap (λ ats. place.at ∷ ats) (ats_moved items places)

pub order_moved : (items : List Item) (places : List Place) → IsInOrder places → IsInOrder (moved_places items places)
order_moved items places order = order_kept places (moved_places items places) (ats_moved items places) order

-- the consumer behind the rows taken
pub moved_is : (c : Consumer) (places : List CodePlace) (fetched : List Fetched) (picks : List Pick) (now : List Place) (n : ℕ) (p d : Pick) → 0 < length picks
    → p ≡ slice_index_or picks (length picks - 1) d → IsPick (lots_of places fetched) p → length fetched ≡ length places
    → c.assignment ≡ map place_of places → c.mode ≡ mode_of c.assignment → IsInOrder c.assignment
    → now ≡ moved_places (map (item_in (lots_of places fetched)) picks) c.assignment → n ≡ length c.assignment
    → record { settings = c.settings; mode = mode_of now; topics = c.topics; assignment = now; rotation = (p.lot + 1) % n; unsaved = true; last_use = c.last_use }
    ≡ moved (map (item_in (lots_of places fetched)) picks) c
moved_is c places fetched picks now n p d some p_is pick same assigned mode order is len = go places refl
  where
    go : (ps : List CodePlace) → places ≡ ps
        → record { settings = c.settings; mode = mode_of now; topics = c.topics; assignment = now; rotation = (p.lot + 1) % n; unsaved = true; last_use = c.last_use }
        ≡ moved (map (item_in (lots_of places fetched)) picks) c
    go [] e = absurd (let within = pick_within places fetched p same pick in let none : length places ≡ 0 = ap length e in omega arith)
    go (x ∷ ps) e =
        let lots : List Lot = lots_of places fetched in
        let items : List Item = map (item_in lots) picks in
        let at : TopicPart = (item_in lots p).at in
        let within : p.lot < length places = pick_within places fetched p same pick in
        let fits : p.lot < length c.assignment = omega (arith, ap length assigned, length-map places place_of) in
        let there : (slice_index_or c.assignment p.lot (place_of x)).at ≡ at =
        ap (λ xs. (slice_index_or xs p.lot (place_of x)).at) assigned ∙ (ap (λ (y : Place). y.at) (get_or-map place_of places p.lot x (place_of x) within) ∙ ap (λ (y : Item). y.at) (sym (item_is places fetched p x same pick))) in
        let behind : place_behind at c.assignment ≡ p.lot + 1 = place_behind_is at c.assignment p.lot (place_of x) fits (apart_from_order c.assignment order at) there in
        let last : last_at items ≡ Some at = last_is lots picks d some ∙ ap (λ (q : Pick). Some (item_in lots q).at) (sym p_is) in
        let rotation : rotation_behind (last_at items) c ≡ (p.lot + 1) % n =
        ap (λ o. rotation_behind o c) last ∙ (ap (λ k. k % length c.assignment) behind ∙ ap (λ k. (p.lot + 1) % k) (sym len)) in
        let mark : or_taken items c.unsaved ≡ true = or_taken_is items c.unsaved (omega (arith, length-map picks (item_in lots))) in
        let mode_is : mode_of now ≡ c.mode = ap mode_of is ∙ (mode_moved items c.assignment ∙ sym mode) in
        λ i. record { settings = c.settings; mode = mode_is i; topics = c.topics; assignment = is i; rotation = sym rotation i; unsaved = sym mark i; last_use = c.last_use }

-- nothing was taken
pub moved_by_none : (c : Consumer) → moved [] c ≡ c
moved_by_none c = λ i. record { settings = c.settings; mode = c.mode; topics = c.topics; assignment = moved_none c.assignment i; rotation = c.rotation; unsaved = c.unsaved; last_use = c.last_use }
