-- A row that was answered as stored is the one that is shown there.
use Rattle.std.proofs.Common.{◌≡◌, ℕ, zero, suc, ◌+◌, ◌≤◌, ◌==◌, Bool, true, false, nat_le, nat_lt, List, [], ◌∷◌, ◌++◌, map, slice_get, refl, ap, sym, subst, ◌∙◌, inl, inr, arith, Option, Some, None}
use Rattle.std.specs.Prelude.{ℤ, ◌⊎◌, Contains}
use Rattle.std.specs.List.{filter, count_by}
use Rattle.std.proofs.lemmas.List.Elements.{All-contains, Contains-append_left}
use Rattle.model.specs.state.Log.{TopicPart, is_at, Row, Rises, Log, Keeps, part_at, from, rows_between}
use Rattle.model.specs.step.Walk.{Item, rows_at}
use Rattle.model.specs.state.World.{Key, World, position_of}
use Rattle.model.specs.state.Entry.{Given, Entry, Payload, IsLinks, is_zero, shown_to}
use Rattle.model.specs.state.Entry.Call.{Produce}
use Rattle.model.specs.state.Entry.Placed.{Stored, Failed}
use Rattle.model.specs.state.Entry.Reply.{Answers}
use Rattle.model.specs.step.Produced.{numbered, answer_of, chosen, or_named, partition_of}
use Rattle.model.specs.step.Step.{Does, parts_of, Whole, Starved, Step, IsProduced, ProduceEnds, left}
use Rattle.model.specs.history.Legal.{Tally, Run}
use Rattle.model.specs.history.Stretch.{is_accepted, after_all, HasStored}
use Rattle.model.proofs.Walks.{is_at_itself}
use Rattle.model.proofs.Moves.{Moves, step_moves}
use Rattle.model.proofs.Stretches.{run_keeps, run_cut, accepted_shows_none}

contains_cases : {A : Type 0} (x : A) (xs : List A) (y : A) → Contains (x ∷ xs) y → (x ≡ y) ⊎ Contains xs y
contains_cases x xs y (zero, lt, e) = inl e
contains_cases x xs y (suc k, lt, e) = inr (k, omega arith, e)

contains_here : {A : Type 0} (x : A) (xs : List A) (y : A) → x ≡ y → Contains (x ∷ xs) y
contains_here x xs y e = (zero, omega arith, e)

contains_there : {A : Type 0} (x : A) (xs : List A) (y : A) → Contains xs y → Contains (x ∷ xs) y
contains_there x xs y h = (suc h.0, omega (arith, h.1), h.2)

none_in_nil : {A : Type 0} {B : Type 0} (y : A) → Contains [] y → B
none_in_nil y h = absurd (omega (arith, h.1))

contains_filter : {A : Type 0} (p : A → Bool) (xs : List A) (y : A) → Contains (filter p xs) y → Contains xs y
contains_filter p [] y h = h
contains_filter p (x ∷ xs) y h = go (p x) refl (contains_filter p xs y)
  where
    go : (b : Bool) → p x ≡ b → (Contains (filter p xs) y → Contains xs y) → Contains (x ∷ xs) y
    go true e rest = either (contains_cases x (filter p xs) y (rw e at h))
      where
        either : (x ≡ y) ⊎ Contains (filter p xs) y → Contains (x ∷ xs) y
        either (inl same) = contains_here x xs y same
        either (inr there) = contains_there x xs y (rest there)
    go false e rest = contains_there x xs y (rest (rw e at h))

-- an item among those shown is a row among those of its partition
contains_rows_at : (items : List Item) (item : Item) → Contains items item → Contains (rows_at item.at items) item.row
contains_rows_at [] item h = none_in_nil item h
contains_rows_at (x ∷ items) item h = either (contains_rows_at items item) (contains_cases x items item h)
  where
    more : Contains (rows_at item.at items) item.row → (b : Bool) → is_at item.at x.at ≡ b → Contains (rows_at item.at (x ∷ items)) item.row
    more rest true e = rw e (contains_there x.row (rows_at item.at items) item.row rest)
    more rest false e = rw e rest

    either : (Contains items item → Contains (rows_at item.at items) item.row) → (x ≡ item) ⊎ Contains items item → Contains (rows_at item.at (x ∷ items)) item.row
    either rest (inl same) =
        let e : is_at item.at x.at ≡ true = ap (λ y. is_at item.at y.at) same ∙ is_at_itself item.at in
        rw e (contains_here x.row (rows_at item.at items) item.row (ap (λ y. y.row) same))
    either rest (inr there) = more (rest there) (is_at item.at x.at) refl

above_low : (low : ℕ) (rows : List Row) (r : Row) → Rises low rows → Contains rows r → low ≤ r.offset
above_low low [] r rises h = none_in_nil r h
above_low low (x ∷ rows) r rises h = either (above_low (x.offset + 1) rows r rises.1) (contains_cases x rows r h)
  where
    either : (Contains rows r → x.offset + 1 ≤ r.offset) → (x ≡ r) ⊎ Contains rows r → low ≤ r.offset
    either rest (inl same) = omega (arith, rises.0, ap (λ y. y.offset) same)
    either rest (inr there) = omega (arith, rises.0, rest there)

-- offsets that rise name one row each
one_row : (low : ℕ) (rows : List Row) (r s : Row) → Rises low rows → Contains rows r → Contains rows s → r.offset ≡ s.offset → r ≡ s
one_row low [] r s rises h k e = none_in_nil r h
one_row low (x ∷ rows) r s rises h k e = both (λ a b. one_row (x.offset + 1) rows r s rises.1 a b e) (contains_cases x rows r h) (contains_cases x rows s k)
  where
    both : (Contains rows r → Contains rows s → r ≡ s) → (x ≡ r) ⊎ Contains rows r → (x ≡ s) ⊎ Contains rows s → r ≡ s
    both rest (inl a) (inl b) = sym a ∙ b
    both rest (inl a) (inr b) = absurd (omega (arith, ap (λ y. y.offset) a, above_low (x.offset + 1) rows s rises.1 b))
    both rest (inr a) (inl b) = absurd (omega (arith, ap (λ y. y.offset) b, above_low (x.offset + 1) rows r rises.1 a))
    both rest (inr a) (inr b) = rest a b

pub kept_row : (a b : Log) (at : TopicPart) (row : Row) → Keeps a b → Contains (part_at a at).rows row → Contains (part_at b at).rows row
kept_row a b at row keeps h =
    let k = keeps.part at in
    subst (λ rs. Contains rs row) (sym k.rows) (Contains-append_left (part_at a at).rows k.added row h)

-- what is shown stands in the log
shown_stands : (idle : ℕ) (key : Key) (w : World) (a : Log) (e : Entry) (b : Log) (w2 : World) (item : Item)
    → Step idle w a e b w2 → Contains (shown_to key e) item → Contains (part_at b item.at).rows item.row
shown_stands idle key w a e b w2 item step h = go (is_accepted key (left e.expired w key) e.call e.reply) refl
  where
    at : TopicPart
    at = item.at

    there : Contains (rows_at at (shown_to key e)) item.row
    there = contains_rows_at (shown_to key e) item h

    by_moves : (o end : Option ℕ) → Moves b at o end (rows_at at (shown_to key e)) → Contains (part_at b at).rows item.row
    by_moves None end m = none_in_nil item.row (subst (λ rs. Contains rs item.row) m.1 there)
    by_moves (Some p) end m =
        let t = m.ticks in
        let inside : Contains (rows_between b at p m.q) item.row = subst (λ rs. Contains rs item.row) t.rows_are there in
        contains_filter (λ (row : Row). nat_le p row.offset) (part_at b at).rows item.row (contains_filter (λ (row : Row). nat_lt row.offset m.q) (from b at p) item.row inside)

    go : (own : Bool) → is_accepted key (left e.expired w key) e.call e.reply ≡ own → Contains (part_at b at).rows item.row
    go true is = none_in_nil item (subst (λ items. Contains items item) (accepted_shows_none key (left e.expired w key) e.call e.reply is) h)
    go false is = by_moves (position_of (after_all key w e) at) (position_of (w2.at key) at) (step_moves idle key at (position_of (after_all key w e) at) w a e b w2 step is refl)

-- the record of an answer among those that were to be placed
stored_item : (topic : List ℕ) (base : ℕ → ℕ) (code : ℕ → ℤ) (before payloads : List Payload) (index : ℕ) (p : Payload) (partition offset : ℕ)
    → slice_get payloads index ≡ Some p → slice_get (map (answer_of code) (numbered topic base before payloads)) index ≡ Some (Stored partition offset)
    → Contains (numbered topic base before payloads) (record { at = record { topic = topic; partition = partition }; row = record { offset = offset; key = p.key; value = p.value } }) × (is_zero (code partition) ≡ true)
stored_item topic base code before [] index p partition offset e f = absurd cc
stored_item topic base code before (x ∷ payloads) (suc index) p partition offset e f =
    let rest = stored_item topic base code (before ++ x ∷ []) payloads index p partition offset e f in
    (contains_there (record { at = record { topic = topic; partition = x.partition }; row = record { offset = base x.partition + count_by (λ q. q.partition == x.partition) before; key = x.key; value = x.value } }) (numbered topic base (before ++ x ∷ []) payloads) (record { at = record { topic = topic; partition = partition }; row = record { offset = offset; key = p.key; value = p.value } }) rest.0, rest.1)
stored_item topic base code before (x ∷ payloads) zero p partition offset e f = go (is_zero (code x.partition)) refl
  where
    item : Item
    item = record { at = record { topic = topic; partition = x.partition }; row = record { offset = base x.partition + count_by (λ q. q.partition == x.partition) before; key = x.key; value = x.value } }

    wanted : Payload → ℕ → ℕ → Item
    wanted q at o = record { at = record { topic = topic; partition = at }; row = record { offset = o; key = q.key; value = q.value } }

    same : x ≡ p
    same = cc e

    go : (b : Bool) → is_zero (code x.partition) ≡ b → Contains (numbered topic base before (x ∷ payloads)) (wanted p partition offset) × (is_zero (code partition) ≡ true)
    go true g =
        let answer : Some (Stored x.partition item.row.offset) ≡ Some (Stored partition offset) = rw g at f in
        let o : item.row.offset ≡ offset = cc answer in
        let at : x.partition ≡ partition = cc answer in (
          contains_here item (numbered topic base (before ++ x ∷ []) payloads) (wanted p partition offset) (ap (λ q. wanted q x.partition item.row.offset) same ∙ (ap (λ n. wanted p n item.row.offset) at ∙ ap (wanted p partition) o)),
          sym (ap (λ n. is_zero (code n)) at) ∙ g,
        )
    go false g =
        let answer : Some (Failed x.partition (code x.partition)) ≡ Some (Stored partition offset) = rw g at f in
        absurd (cc answer)

-- the record at a place, with its partition
pub record IsChosen (payloads : List Payload) (index : ℕ) (g : Given) : Type 0 where
  pub payload : Payload
  pub there : slice_get payloads index ≡ Some payload
  pub key : payload.key ≡ g.key
  pub value : payload.value ≡ g.value

chosen_there : (n k : ℕ) (records : List Given) (index : ℕ) (g : Given) → slice_get records index ≡ Some g → IsChosen (chosen n k records) index g
chosen_there n k [] index g e = absurd cc
chosen_there n k (x ∷ records) (suc index) g e =
    let rest = chosen_there n (k + 1) records index g e in
    record { payload = rest.payload; there = rest.there; key = rest.key; value = rest.value }
chosen_there n k (x ∷ records) zero g e =
    let same : x ≡ g = cc e in
    record { payload = record { partition = or_named x.partition (partition_of x.key k n); key = x.key; value = x.value }; there = refl; key = ap (λ y. y.key) same; value = ap (λ y. y.value) same }

-- the row stands in `b`, at or above the end that its partition had in `a`
abbrev pub IsNew : Log → Log → TopicPart → Row → Type 0
IsNew a b at row = Contains (part_at b at).rows row × ((part_at a at).end ≤ row.offset)

pub stored_anew : (idle : ℕ) (w : World) (a : Log) (e : Entry) (b : Log) (w2 : World) (at : TopicPart) (row : Row)
    → Step idle w a e b w2 → HasStored e at row → IsNew a b at row
stored_anew idle w a e b w2 at row step stored = go step.does
  where
    produced : IsProduced a b at.topic stored.batch e.reply → IsNew a b at row
    produced r =
        let same : stored.answers ≡ r.answers = cc (stored.reply, r.says) in
        let d = r.answered in
        let batch = stored.batch in
        let payloads : List Payload = chosen (parts_of a at.topic) 0 batch.records in
        let c = chosen_there (parts_of a at.topic) 0 batch.records stored.index stored.given stored.there in
        let answer : slice_get (map (answer_of d.code) (numbered at.topic d.base [] payloads)) stored.index ≡ Some (Stored at.partition row.offset) =
        subst (λ as'. slice_get as' stored.index ≡ Some (Stored at.partition row.offset)) (same ∙ d.told) stored.answer in
        let found = stored_item at.topic d.base d.code [] payloads stored.index c.payload at.partition row.offset c.there answer in
        let p = c.payload in
        let rows : record { offset = row.offset; key = p.key; value = p.value } ≡ row = λ i. record { offset = row.offset; key = (c.key ∙ stored.key) i; value = (c.value ∙ stored.value) i } in
        let there : Contains (numbered at.topic d.base [] payloads) (record { at = at; row = row }) =
        subst (λ (r : Row). Contains (numbered at.topic d.base [] payloads) (record { at = at; row = r })) rows found.0 in
        let places = d.places in (
          All-contains (λ (item : Item). is_zero (d.code item.at.partition) ≡ true → Contains (part_at b item.at).rows item.row) (numbered at.topic d.base [] payloads) (record { at = at; row = row }) places.stand there found.1,
          All-contains (λ (item : Item). is_zero (d.code item.at.partition) ≡ true → (part_at a item.at).end ≤ item.row.offset) (numbered at.topic d.base [] payloads) (record { at = at; row = row }) places.behind there found.1,
        )

    ends : ProduceEnds a b at.topic stored.batch e.reply → IsNew a b at row
    ends (inl r) = produced r
    ends (inr (inl r)) = absurd (cc (stored.reply, r.2))
    ends (inr (inr (inl r))) = absurd (cc (stored.reply, r.3))
    ends (inr (inr (inr r))) =
        let same : r.why ≡ Answers stored.answers = cc (stored.reply, r.says) in
        absurd (subst IsLinks same r.links)

    go : Whole idle w a e b w2 ⊎ Starved w a e b w2 → IsNew a b at row
    go (inl whole) =
        let does : Does e.moment e.turn (Some (Produce at.topic stored.batch)) a e.events e.reply b (left e.expired w) w2.at = subst (λ call. Does e.moment e.turn call a e.events e.reply b (left e.expired w) w2.at) stored.call whole.does in
        ends does.1
    go (inr starved) = absurd (cc (stored.reply, starved.reply))

pub stored_is_shown : (idle : ℕ) (begin : World) (first : Log) (before : List Entry) (e : Entry) (between : List Entry) (f : Entry) (after : List Entry) (l : Log) (w : World) (n : Tally)
    → Run idle begin first (before ++ (e ∷ (between ++ (f ∷ after)))) l w n
    → (at : TopicPart) (row : Row) → HasStored e at row → (key : Key) (item : Item) → Contains (shown_to key f) item → item.at ≡ at → item.row.offset ≡ row.offset → item.row ≡ row
stored_is_shown idle begin first before e between f after l w n run at row stored key item shown there same =
    let one = run_cut idle begin first before (e ∷ (between ++ (f ∷ after))) l w n run in
    let rest = one.rest in
    let m : Log = rest.0 in
    let v : World = rest.1 in
    let two = run_cut idle v m between (f ∷ after) l w rest.3.0 rest.3.2 in
    let last = two.rest in
    let b : Log = last.0 in
    let opens : Step idle one.world one.log e m v = rest.2 in
    let closes : Step idle two.world two.log f b last.1 = last.2 in
    let r : Contains (part_at b at).rows row = kept_row two.log b at row closes.keeps (kept_row m two.log at row (run_keeps idle v m between two.log two.world two.tally two.run) (let new = stored_anew idle one.world one.log e m v at row opens stored in new.0)) in
    let s : Contains (part_at b at).rows item.row = subst (λ x. Contains (part_at b x).rows item.row) there (shown_stands idle key two.world two.log f b last.1 item closes shown) in
    let log = closes.log in
    let part = log.part at in
    one_row (part_at b at).start (part_at b at).rows item.row row part.rises s r same
