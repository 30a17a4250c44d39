-- From one row or lot of a walk to the next, and from two ranges to once round.
use Rattle.std.proofs.Common.{◌≡◌, ℕ, zero, suc, ◌+◌, ◌-◌, ◌++◌, take, ◌<◌, ◌≤◌, ◌&&◌, ◌||◌, Bool, true, false, nat_le, nat_lt, List, [], ◌∷◌, map, length, drop, slice_index_or, refl, ap, sym, ◌∙◌, arith, append_assoc, cond, subst, Option, Some, None}
use Rattle.std.specs.Prelude.{codes, option_map, string_bytes, is_some, IfSome, ◌==◌, Ok}
use Rattle.std.proofs.lemmas.List.{drop_more, take_rest, length-map, map_push}
use Rattle.std.proofs.lemmas.List.Sums.{sum_by_push}
use Rattle.model.specs.state.Log.{Row}
use Rattle.model.specs.state.World.{Format as Shown}
use Rattle.model.specs.state.Forms.{reason_of}
use Rattle.model.specs.texts.Bodies.{array, item_text, joined}
use Rattle.model.specs.step.Walk.{Lot, Item, Rule, Walked, with_row, is_full, or_first, turned, walk, walk_part, bytes_of, size_of}
use Rattle.model.proofs.Walks.{is_then, is_else, walk-on, walk-stopped}
use Rattle.broker_link.specs.Fetching.{row_of}
use Rattle.broker_link.specs.declared.link.Stored.{Stored}
use Rattle.broker_link.specs.declared.fetch.Fetched.{Fetched}
use Rattle.broker_link.specs.declared.place.Place.{Place as CodePlace}
use Rattle.instance.specs.declared.walk.Pick.{Pick}
use Rattle.instance.specs.declared.walk.Walk.{Walk}
use Rattle.rest_replies.specs.Forms.{forms}
use Rattle.rest_replies.specs.Row.{comma_unless}
use Rattle.rest_replies.proofs.JoinedLemmas.{joined_push}
use Rattle.instance.specs.Walk.{lot_of, lots_of, lot_at, item_in, seen, rule_of, text_so_far, is_enough, IsLost, IsSoFar, PutsSo, WalksSo}

pub length-lots_of : (places : List CodePlace) (fetched : List Fetched) → length fetched ≡ length places → length (lots_of places fetched) ≡ length places
length-lots_of [] fetched same = refl
length-lots_of (place ∷ places) [] same = absurd (omega arith)
length-lots_of (place ∷ places) (f ∷ fetched) same = ap suc (length-lots_of places fetched (omega arith))

-- a lot is the place and what came for it
pub lot_read : (places : List CodePlace) (fetched : List Fetched) (i : ℕ) (place : CodePlace) (f : Fetched) → i < length places → i < length fetched
    → lot_at (lots_of places fetched) i ≡ lot_of (slice_index_or places i place) (slice_index_or fetched i f)
lot_read [] fetched i place f lt lt' = absurd (omega arith)
lot_read (p ∷ places) [] i place f lt lt' = absurd (omega arith)
lot_read (p ∷ places) (g ∷ fetched) zero place f lt lt' = refl
lot_read (p ∷ places) (g ∷ fetched) (suc i) place f lt lt' = lot_read places fetched i place f (omega arith) (omega arith)

-- the rows of a lot are those that came
pub rows_read : (places : List CodePlace) (fetched : List Fetched) (i : ℕ) (f : Fetched) → length fetched ≡ length places → i < length places → f ≡ slice_index_or fetched i f
    → (lot_at (lots_of places fetched) i).rows ≡ map row_of f.rows
rows_read [] fetched i f same lt is = absurd (omega arith)
rows_read (p ∷ places) [] i f same lt is = absurd (omega arith)
rows_read (p ∷ places) (g ∷ fetched) zero f same lt is = ap (λ (x : Fetched). map row_of x.rows) (sym is)
rows_read (p ∷ places) (g ∷ fetched) (suc i) f same lt is = rows_read places fetched i f (omega arith) (omega arith) is

-- one row and those behind it
pub next_row : (places : List CodePlace) (fetched : List Fetched) (lot row : ℕ) (f : Fetched) → length fetched ≡ length places → lot < length places → f ≡ slice_index_or fetched lot f → row < length f.rows
    → drop row (lot_at (lots_of places fetched) lot).rows ≡ (item_in (lots_of places fetched) (record { lot = lot; row = row })).row ∷ drop (row + 1) (lot_at (lots_of places fetched) lot).rows
next_row places fetched lot row f same lt is within =
    let rows : (lot_at (lots_of places fetched) lot).rows ≡ map row_of f.rows = rows_read places fetched lot f same lt is in
    drop_more (lot_at (lots_of places fetched) lot).rows row (record { offset = 0; key = None; value = None }) (omega (arith, within, ap length rows, length-map f.rows row_of))

pub no_rows : (rows : List Stored) → length rows ≡ 0 → rows ≡ []
no_rows [] e = refl
no_rows (s ∷ rows) e = absurd (omega (arith, e))

pub is_full_read : (bound : ℕ) (format : Shown) (lots : List Lot) (w : Walk) (row : Row) (size : ℕ) (full : Bool) → size ≡ size_of row → w.bytes ≡ bytes_of (seen lots w).taken
    → full ≡ (nat_lt 0 (length w.picks.items) && (nat_le 10000 (length w.picks.items) || nat_lt bound (w.bytes + size)))
    → is_full (rule_of bound format) (seen lots w).taken row ≡ full
is_full_read bound format lots w row size full is counted e =
    let n : length (seen lots w).taken ≡ length w.picks.items = length-map w.picks.items _ in
    rw (n, ← counted, ← is) (sym e)

-- a row that can't be taken ends the walk
pub full_ends : (rule : Rule) (item : Item) (w : Walked) (rest : List Row) → is_full rule w.taken item.row ≡ true
    → walk_part rule item.at w (item.row ∷ rest) ≡ record { taken = w.taken; stopped = true; unread = w.unread }
full_ends rule item w rest full = is_then (is_full rule w.taken item.row) _ _ full

-- one that doesn't read ends the walk through its partition
pub lost_ends : (rule : Rule) (item : Item) (w : Walked) (rest : List Row) → is_full rule w.taken item.row ≡ false → rule.reads item.row ≡ false
    → walk_part rule item.at w (item.row ∷ rest) ≡ record { taken = w.taken; stopped = w.stopped; unread = or_first w.unread (record { at = item.at; row = item.row }) }
lost_ends rule item w rest full reads = is_else (is_full rule w.taken item.row) _ _ full ∙ is_else (rule.reads item.row) _ _ reads

-- one that reads is taken
pub takes : (rule : Rule) (item : Item) (w : Walked) (rest : List Row) → is_full rule w.taken item.row ≡ false → rule.reads item.row ≡ true
    → walk_part rule item.at w (item.row ∷ rest) ≡ walk_part rule item.at (with_row item.at item.row w) rest
takes rule item w rest full reads = is_else (is_full rule w.taken item.row) _ _ full ∙ is_then (rule.reads item.row) _ _ reads

pub range_more : (rule : Rule) (lots : List Lot) (lot to : ℕ) (w w' x : Walked) → lot < to → to ≤ length lots → w.stopped ≡ false
    → w' ≡ walk_part rule (lot_at lots lot).place.at w (lot_at lots lot).rows
    → walk rule w (take (to - lot) (drop lot lots)) ≡ x → walk rule w' (take (to - (lot + 1)) (drop (lot + 1) lots)) ≡ x
range_more rule lots lot to w w' x lt le on is e =
    let lt' : lot < length lots = omega arith in
    let n : to - lot ≡ suc (to - (lot + 1)) = omega arith in
    let front : take (to - lot) (drop lot lots) ≡ take (suc (to - (lot + 1))) (lot_at lots lot ∷ drop (lot + 1) lots) =
    ap (λ k. take k (drop lot lots)) n ∙ ap (take (suc (to - (lot + 1)))) (drop_more lots lot (record { place = record { at = record { topic = []; partition = 0 }; position = 0 }; rows = [] }) lt') in
    ap (λ v. walk rule v (take (to - (lot + 1)) (drop (lot + 1) lots))) is
    ∙ (sym (walk-on rule w (lot_at lots lot) (take (to - (lot + 1)) (drop (lot + 1) lots)) on) ∙ (sym (ap (walk rule w) front) ∙ e))

halted : (rule : Rule) (w : Walked) (lots : List Lot) → w.stopped ≡ true → walk rule w lots ≡ w
halted rule w [] e = refl
halted rule w (lot ∷ lots) e = walk-stopped rule w lot lots e

pub range_ends : (rule : Rule) (w x : Walked) (lots : List Lot) → w.stopped ≡ true → walk rule w lots ≡ x → w ≡ x
range_ends rule w x lots e is = sym (halted rule w lots e) ∙ is

walk-append : (rule : Rule) (w : Walked) (xs ys : List Lot) → walk rule w (xs ++ ys) ≡ walk rule (walk rule w xs) ys
walk-append rule w [] ys = refl
walk-append rule w (x ∷ xs) ys = go w.stopped refl (walk-append rule (walk_part rule x.place.at w x.rows) xs ys)
  where
    go : (b : Bool) → w.stopped ≡ b → walk rule (walk_part rule x.place.at w x.rows) (xs ++ ys) ≡ walk rule (walk rule (walk_part rule x.place.at w x.rows) xs) ys
        → walk rule w ((x ∷ xs) ++ ys) ≡ walk rule (walk rule w (x ∷ xs)) ys
    go true e rest = walk-stopped rule w x (xs ++ ys) e ∙ sym (ap (λ v. walk rule v ys) (walk-stopped rule w x xs e) ∙ halted rule w ys e)
    go false e rest = walk-on rule w x (xs ++ ys) e ∙ (rest ∙ sym (ap (λ v. walk rule v ys) (walk-on rule w x xs e)))

-- from a place to the end, and from the start to the place, is once round
pub round : (rule : Rule) (lots : List Lot) (place n : ℕ) (w u v x : Walked) → n ≡ length lots → u ≡ w → v ≡ walk rule u (take (n - place) (drop place lots))
    → x ≡ walk rule v (take (place - 0) (drop 0 lots)) → x ≡ walk rule w (turned place lots)
round rule lots place n w u v x len start first second =
    let whole : take (n - place) (drop place lots) ≡ drop place lots = ap (λ m. take (m - place) (drop place lots)) len ∙ take_rest lots place in
    let zero' : place - 0 ≡ place = omega arith in
    second ∙ (ap (λ m. walk rule v (take m lots)) zero' ∙ (ap (λ y. walk rule y (take place lots)) (first ∙ (ap (λ y. walk rule y (take (n - place) (drop place lots))) start ∙ ap (walk rule w) whole)) ∙ sym (walk-append rule w (drop place lots) (take place lots))))

-- what came of a row, by whether the walk goes on
pub goes_on : (rule : Rule) (item : Item) (w w2 : Walked) (b : Bool) → b ≡ true → WalksSo rule item w w2 (Ok b) → (rest : List Row) → walk_part rule item.at w (item.row ∷ rest) ≡ walk_part rule item.at w2 rest
goes_on rule item w w2 true e walks = walks
goes_on rule item w w2 false e walks = absurd (cc e)

pub is_over : (rule : Rule) (item : Item) (w w2 : Walked) (b : Bool) → b ≡ false → WalksSo rule item w w2 (Ok b) → (rest : List Row) → walk_part rule item.at w (item.row ∷ rest) ≡ w2
is_over rule item w w2 true e walks = absurd (cc e)
is_over rule item w w2 false e walks = walks

-- what came of putting a row's text, by whether it was put
pub is_put : (first : Bool) (format : Shown) (item : Item) (before now : List ℕ) (b : Bool) → b ≡ true → PutsSo first format item before now (Ok b)
    → (reason_of forms format item.row ≡ None) × (now ≡ before ++ (comma_unless first ++ item_text forms format item))
is_put first format item before now true e puts = puts
is_put first format item before now false e puts = absurd (cc e)

pub not_put : (first : Bool) (format : Shown) (item : Item) (before now : List ℕ) (b : Bool) → b ≡ false → PutsSo first format item before now (Ok b)
    → (reason_of forms format item.row ≡ Some 2) × (now ≡ before)
not_put first format item before now true e puts = absurd (cc e)
not_put first format item before now false e puts = puts

-- one pick more is one row more
pub seen_more : (lots : List Lot) (w w2 : Walk) (p : Pick) (n : ℕ) → w2.picks.items ≡ w.picks.items ++ p ∷ [] → w2.stopped ≡ nat_le 10000 n → n ≡ length w.picks.items + 1
    → w2.unread ≡ w.unread → seen lots w2 ≡ with_row (item_in lots p).at (item_in lots p).row (seen lots w)
seen_more lots w w2 p n picks stopped len unread =
    let taken : map (item_in lots) w2.picks.items ≡ map (item_in lots) w.picks.items ++ item_in lots p ∷ [] = ap (map (item_in lots)) picks ∙ map_push (item_in lots) w.picks.items p in
    let count : n ≡ length (map (item_in lots) w.picks.items) + 1 = omega (arith, len, length-map w.picks.items (item_in lots)) in
    let halt : w2.stopped ≡ nat_le 10000 (length (map (item_in lots) w.picks.items) + 1) = stopped ∙ ap (nat_le 10000) count in
    λ i. record { taken = taken i; stopped = halt i; unread = option_map (item_in lots) (unread i) }

-- the text of one row more
pub text_more : (format : Shown) (items more : List Item) (item : Item) (n : ℕ) (first : Bool) (text now : List ℕ) → more ≡ items ++ item ∷ [] → first ≡ (n == 0) → n ≡ length items
    → text ≡ text_so_far format items → now ≡ text ++ (comma_unless first ++ item_text forms format item) → now ≡ text_so_far format more
text_more format items more item n first text now is first_is len text_is added =
    let texts : map (item_text forms format) (items ++ item ∷ []) ≡ map (item_text forms format) items ++ item_text forms format item ∷ [] = map_push (item_text forms format) items item in
    let long : length (map (item_text forms format) items) ≡ n = length-map items (item_text forms format) ∙ sym len in
    let joined_is : joined (map (item_text forms format) more) ≡ joined (map (item_text forms format) items) ++ (cond (n == 0) [] (codes ",") ++ item_text forms format item) =
    ap (λ (xs : List Item). joined (map (item_text forms format) xs)) is ∙ (ap joined texts ∙ joined_push (map (item_text forms format) items) (item_text forms format item) n long) in
    added ∙ (ap (λ (b : Bool). text ++ (cond b [] (codes ",") ++ item_text forms format item)) first_is
    ∙ (ap (λ l. l ++ (cond (n == 0) [] (codes ",") ++ item_text forms format item)) text_is
    ∙ (append_assoc (codes "[") (joined (map (item_text forms format) items)) (cond (n == 0) [] (codes ",") ++ item_text forms format item) ∙ ap (λ l. codes "[" ++ l) (sym joined_is))))

pub bytes_more : (taken items : List Item) (item : Item) (bytes size : ℕ) → items ≡ taken ++ item ∷ [] → bytes ≡ bytes_of taken → size ≡ size_of item.row → bytes + size ≡ bytes_of items
bytes_more taken items item bytes size is counted same =
    let more : bytes_of (taken ++ item ∷ []) ≡ bytes_of taken + size_of item.row = sum_by_push (λ (x : Item). size_of x.row) taken item in
    let e : bytes_of items ≡ bytes_of (taken ++ item ∷ []) = ap bytes_of is in
    omega (arith, more, e, counted, same)

-- whether a row was met that doesn't read
same_some : (lots : List Lot) (o : Option Pick) → is_some (option_map (item_in lots) o) ≡ is_some o
same_some lots None = refl
same_some lots (Some p) = refl

-- whether the rows are enough, by what the walk has met
pub enough_is : (lots : List Lot) (w : Walk) (min_bytes : ℕ) (last : Bool) → is_enough (length w.picks.items) w.bytes w.stopped (is_some (seen lots w).unread) min_bytes last ≡ is_enough (length w.picks.items) w.bytes w.stopped (is_some w.unread) min_bytes last
enough_is lots w min_bytes last = ap (λ b. is_enough (length w.picks.items) w.bytes w.stopped b min_bytes last) (same_some lots w.unread)

pub is_none : (o : Option Pick) → ((p : Pick) → o ≡ Some p → ⊥) → o ≡ None
is_none None never = refl
is_none (Some p) never = absurd (never p refl)

-- where none was taken and none is lost, none was met
pub none_met : (lots : List Lot) (w : Walk) → (w.picks.items ≡ [] → w.unread ≡ None) → length w.picks.items ≡ 0 → (seen lots w).unread ≡ None
none_met lots w none e = ap (option_map (item_in lots)) (none (no_picks w.picks.items e))
  where
    no_picks : (picks : List Pick) → length picks ≡ 0 → picks ≡ []
    no_picks [] e = refl
    no_picks (p ∷ picks) e = absurd (omega (arith, e))

-- the row that was met is what the walk keeps of it
pub lost_is : (lots : List Lot) (format : Shown) (w : Walk) (p : Pick) → IsSoFar lots format w → w.unread ≡ Some p → IsLost lots format p
lost_is lots format w p so_far met = subst (λ (o : Option Pick). IfSome o (IsLost lots format)) met so_far.unread

-- the text between its brackets
pub closed : (lots : List Lot) (format : Shown) (w : Walk) → IsSoFar lots format w → string_bytes w.text ++ codes "]" ≡ array (map (item_text forms format) (seen lots w).taken)
closed lots format w so_far = ap (λ l. l ++ codes "]") so_far.text ∙ append_assoc (codes "[") (joined (map (item_text forms format) (seen lots w).taken)) (codes "]")
