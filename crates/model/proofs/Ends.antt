-- A look that its walk ended has one answer.
use Rattle.std.proofs.Common.{◌≡◌, ℕ, ◌<◌, ◌≤◌, ◌*◌, Bool, true, false, List, [], ◌∷◌, length, refl, ap, sym, subst, ◌∙◌, inl, inr, arith, Option, Some, None}
use Rattle.std.specs.Prelude.{◌⊎◌, IsSome, nat_le}
use Rattle.std.proofs.lemmas.Bool.Decides.{nat_tests}
use Rattle.model.specs.state.Log.{TopicPart, Row}
use Rattle.model.specs.step.Walk.{Item, Lot, Rule, Walked, unwalked, walk, walk_part, is_full, with_row, or_first, bytes_of}
use Rattle.model.specs.state.World.{Format, Consumer, touched}
use Rattle.model.specs.state.Entry.{Event, Reply, Turn}
use Rattle.model.specs.state.Entry.Event.{Looked}
use Rattle.model.specs.state.Entry.Reply.{Shown, Unread}
use Rattle.model.specs.state.Forms.{reason_of}
use Rattle.model.proofs.Walks.{walk-stopped, walk-on}
use Rattle.model.specs.step.Look.{reads_in, moved, IsReady, IsUnread, IsShown, IsPut_off, LookEnds}

-- the same marks, reply and consumer
abbrev pub Same : List Event → Option Reply → Option Consumer → List Event → Option Reply → Option Consumer → Type 0
Same looked reply c2 looked2 reply2 d2 = (looked ≡ looked2) × (reply ≡ reply2) × (c2 ≡ d2)

unread_alike : (moment : ℕ) (reason : Format → Row → Option ℕ) (c : Consumer) (walked : Walked) (looked : List Event) (reply : Option Reply) (c2 : Option Consumer) (looked2 : List Event) (reply2 : Option Reply) (d2 : Option Consumer)
    → IsUnread moment reason c walked looked reply c2 → IsUnread moment reason c walked looked2 reply2 d2 → Same looked reply c2 looked2 reply2 d2
unread_alike moment reason c walked looked reply c2 looked2 reply2 d2 x y = (x.marks ∙ sym y.marks, x.says ∙ (same ∙ sym y.says), x.left ∙ sym y.left)
  where
    item : x.item ≡ y.item
    item = let e : Some x.item ≡ Some y.item = sym x.met ∙ y.met in cc e

    number : x.number ≡ y.number
    number =
        let e : Some x.number ≡ Some y.number = sym x.why ∙ (ap (λ (i : Item). reason c.settings.format i.row) item ∙ y.why) in
        cc e

    same : Some (Unread x.item x.number) ≡ Some (Unread y.item y.number)
    same = ap (λ i. Some (Unread i x.number)) item ∙ ap (λ n. Some (Unread y.item n)) number

-- what was taken is nothing, or it isn't
none_taken : (walked : Walked) → walked.taken ≡ [] → 0 < length walked.taken → ⊥
none_taken walked none some = absurd (omega (arith, some, ap length none))

unread_or_shown : (moment round wait : ℕ) (reason : Format → Row → Option ℕ) (c : Consumer) (walked : Walked) (looked : List Event) (reply : Option Reply) (c2 : Option Consumer) (looked2 : List Event) (reply2 : Option Reply) (d2 : Option Consumer)
    → IsUnread moment reason c walked looked reply c2 → IsShown moment round wait c walked looked2 reply2 d2 → ⊥
unread_or_shown moment round wait reason c walked looked reply c2 looked2 reply2 d2 x y = go y.ready
  where
    go : IsReady c.settings.min_bytes y.last walked → ⊥
    go (inl r) = none_taken walked x.taken r.0
    go (inr r) = absurd (cc (x.met, r.1))

unread_or_off : (moment round wait : ℕ) (reason : Format → Row → Option ℕ) (c : Consumer) (walked : Walked) (looked : List Event) (reply : Option Reply) (c2 : Option Consumer) (looked2 : List Event) (reply2 : Option Reply) (d2 : Option Consumer)
    → IsUnread moment reason c walked looked reply c2 → IsPut_off moment round wait c walked looked2 reply2 d2 → ⊥
unread_or_off moment round wait reason c walked looked reply c2 looked2 reply2 d2 x y = absurd (cc (x.met, y.read))

shown_or_off : (moment round wait : ℕ) (c : Consumer) (walked : Walked) (looked : List Event) (reply : Option Reply) (c2 : Option Consumer) (looked2 : List Event) (reply2 : Option Reply) (d2 : Option Consumer)
    → IsShown moment round wait c walked looked reply c2 → IsPut_off moment round wait c walked looked2 reply2 d2 → ⊥
shown_or_off moment round wait c walked looked reply c2 looked2 reply2 d2 x y = go x.ready y.few
  where
    ended : x.last ≡ true → ⊥
    ended is = omega (arith, (x.lasts).0 is, y.soon)

    go : IsReady c.settings.min_bytes x.last walked → (walked.taken ≡ []) ⊎ ((bytes_of walked.taken < c.settings.min_bytes) × (walked.stopped ≡ false)) → ⊥
    go (inr r) few = absurd (ended r.2)
    go (inl r) (inl none) = none_taken walked none r.0
    go (inl r) (inr few) = why r.1
      where
        why : (c.settings.min_bytes ≤ bytes_of walked.taken) ⊎ ((walked.stopped ≡ true) ⊎ (IsSome walked.unread ⊎ (x.last ≡ true))) → ⊥
        why (inl enough) = absurd (omega (arith, enough, few.0))
        why (inr (inl stopped)) = absurd (cc (stopped, few.1))
        why (inr (inr (inl some))) = absurd (cc (some, y.read))
        why (inr (inr (inr last))) = absurd (ended last)

pub ends_alike : (moment : ℕ) (turn : Turn) (wait : ℕ) (c : Consumer) (walked : Walked) (looked : List Event) (reply : Option Reply) (c2 : Option Consumer) (looked2 : List Event) (reply2 : Option Reply) (d2 : Option Consumer)
    → LookEnds moment turn wait c walked looked reply c2 → LookEnds moment turn wait c walked looked2 reply2 d2 → Same looked reply c2 looked2 reply2 d2
ends_alike moment turn wait c walked looked reply c2 looked2 reply2 d2 (inl x) (inl y) = unread_alike moment (reason_of turn.forms) c walked looked reply c2 looked2 reply2 d2 x y
ends_alike moment turn wait c walked looked reply c2 looked2 reply2 d2 (inl x) (inr (inl y)) = absurd (unread_or_shown moment turn.round wait (reason_of turn.forms) c walked looked reply c2 looked2 reply2 d2 x y)
ends_alike moment turn wait c walked looked reply c2 looked2 reply2 d2 (inl x) (inr (inr y)) = absurd (unread_or_off moment turn.round wait (reason_of turn.forms) c walked looked reply c2 looked2 reply2 d2 x y)
ends_alike moment turn wait c walked looked reply c2 looked2 reply2 d2 (inr (inl x)) (inl y) = absurd (unread_or_shown moment turn.round wait (reason_of turn.forms) c walked looked2 reply2 d2 looked reply c2 y x)
ends_alike moment turn wait c walked looked reply c2 looked2 reply2 d2 (inr (inl x)) (inr (inl y)) = (x.marks ∙ sym y.marks, x.says ∙ sym y.says, x.left ∙ sym y.left)
ends_alike moment turn wait c walked looked reply c2 looked2 reply2 d2 (inr (inl x)) (inr (inr y)) = absurd (shown_or_off moment turn.round wait c walked looked reply c2 looked2 reply2 d2 x y)
ends_alike moment turn wait c walked looked reply c2 looked2 reply2 d2 (inr (inr x)) (inl y) = absurd (unread_or_off moment turn.round wait (reason_of turn.forms) c walked looked2 reply2 d2 looked reply c2 y x)
ends_alike moment turn wait c walked looked reply c2 looked2 reply2 d2 (inr (inr x)) (inr (inl y)) = absurd (shown_or_off moment turn.round wait c walked looked2 reply2 d2 looked reply c2 y x)
ends_alike moment turn wait c walked looked reply c2 looked2 reply2 d2 (inr (inr x)) (inr (inr y)) = (x.marks ∙ sym y.marks, x.says ∙ sym y.says, x.left ∙ sym y.left)

-- the first row of a walk that doesn't read doesn't
abbrev Unreads : Rule → Walked → Type 0
Unreads rule walked = (item : Item) → walked.unread ≡ Some item → rule.reads item.row ≡ false

unread_part : (rule : Rule) (at : TopicPart) (walked : Walked) (rows : List Row) → Unreads rule walked → Unreads rule (walk_part rule at walked rows)
unread_part rule at walked [] h = h
unread_part rule at walked (row ∷ rows) h = go (is_full rule walked.taken row) refl (rule.reads row) refl (unread_part rule at (with_row at row walked) rows h)
  where
    first : (o : Option Item) → ((item : Item) → o ≡ Some item → rule.reads item.row ≡ false) → rule.reads row ≡ false → (item : Item) → or_first o (record { at = at; row = row }) ≡ Some item → rule.reads item.row ≡ false
    first None h g item is = let same : record { at = at; row = row } ≡ item = cc is in ap (λ (i : Item). rule.reads i.row) (sym same) ∙ g
    first (Some x) h g item is = h item is

    go : (b : Bool) → is_full rule walked.taken row ≡ b → (d : Bool) → rule.reads row ≡ d → Unreads rule (walk_part rule at (with_row at row walked) rows) → Unreads rule (walk_part rule at walked (row ∷ rows))
    go true f d g rest = rw f h
    go false f true g rest = rw (f, g) rest
    go false f false g rest = rw (f, g) (first walked.unread h g)

unread_walk : (rule : Rule) (walked : Walked) (lots : List Lot) → Unreads rule walked → Unreads rule (walk rule walked lots)
unread_walk rule walked [] h = h
unread_walk rule walked (lot ∷ lots) h = go walked.stopped refl (unread_walk rule (walk_part rule lot.place.at walked lot.rows) lots (unread_part rule lot.place.at walked lot.rows h))
  where
    go : (b : Bool) → walked.stopped ≡ b → Unreads rule (walk rule (walk_part rule lot.place.at walked lot.rows) lots) → Unreads rule (walk rule walked (lot ∷ lots))
    go true f rest = subst (Unreads rule) (sym (walk-stopped rule walked lot lots f)) h
    go false f rest = subst (Unreads rule) (sym (walk-on rule walked lot lots f)) rest

-- some marks, reply and consumer are an end of the look
abbrev pub HasEnd : ℕ → Turn → ℕ → Consumer → Walked → Type 0
HasEnd moment turn wait c walked = (looked : List Event) × (reply : Option Reply) × (c2 : Option Consumer) × LookEnds moment turn wait c walked looked reply c2

shows_rows : (moment : ℕ) (turn : Turn) (wait : ℕ) (c : Consumer) (walked : Walked) (last : Bool) → (last ≡ true → wait ≤ 10 * turn.round) × (wait ≤ 10 * turn.round → last ≡ true) → IsReady c.settings.min_bytes last walked → HasEnd moment turn wait c walked
shows_rows moment turn wait c walked last lasts ready = (
  Looked turn.round ∷ [],
  Some (Shown c.settings.format walked.taken),
  Some (touched moment (moved walked.taken c)),
  inr (inl (record { last = last; lasts = lasts; ready = ready; marks = refl; says = refl; left = refl })),
)

waits_on : (moment : ℕ) (turn : Turn) (wait : ℕ) (c : Consumer) (walked : Walked) → 10 * turn.round < wait → walked.unread ≡ None → (walked.taken ≡ []) ⊎ ((bytes_of walked.taken < c.settings.min_bytes) × (walked.stopped ≡ false)) → HasEnd moment turn wait c walked
waits_on moment turn wait c walked soon read few = (Looked turn.round ∷ [], None, Some (touched moment c), inr (inr (record { soon = soon; read = read; few = few; marks = refl; says = refl; left = refl })))

pub has_end : (moment : ℕ) (turn : Turn) (wait bound : ℕ) (c : Consumer) (lots : List Lot) → HasEnd moment turn wait c (walk (record { bound = bound; reads = reads_in (reason_of turn.forms) c.settings.format }) unwalked lots)
has_end moment turn wait bound c lots = go (walk rule unwalked lots) (unread_walk rule unwalked lots (λ item is. absurd (cc is)))
  where
    rule : Rule
    rule = record { bound = bound; reads = reads_in (reason_of turn.forms) c.settings.format }

    -- whether it is the last
    early : (nat_le wait (10 * turn.round) ≡ false) → 10 * turn.round < wait
    early is = grind (arith, nat_tests)

    late : (nat_le wait (10 * turn.round) ≡ true) → wait ≤ 10 * turn.round
    late is = grind (arith, nat_tests)

    is_last : (last : Bool) → nat_le wait (10 * turn.round) ≡ last → (last ≡ true → wait ≤ 10 * turn.round) × (wait ≤ 10 * turn.round → last ≡ true)
    is_last true is = (λ e. late is, λ h. refl)
    is_last false is = (λ e. absurd (cc e), λ h. let lt : 10 * turn.round < wait = early is in absurd (omega (arith, h, lt)))

    some : (walked : Walked) (item : Item) (items : List Item) → walked.taken ≡ item ∷ items → 0 < length walked.taken
    some walked item items is = omega (arith, ap length is)

    -- with rows
    taken : (walked : Walked) → 0 < length walked.taken → (enough : Bool) → nat_le c.settings.min_bytes (bytes_of walked.taken) ≡ enough → (stopped : Bool) → walked.stopped ≡ stopped → (unread : Option Item) → walked.unread ≡ unread
        → (last : Bool) → nat_le wait (10 * turn.round) ≡ last → HasEnd moment turn wait c walked
    taken walked some true e stopped s unread u last l = shows_rows moment turn wait c walked last (is_last last l) (inl (some, inl (grind (arith, nat_tests))))
    taken walked some false e true s unread u last l = shows_rows moment turn wait c walked last (is_last last l) (inl (some, inr (inl s)))
    taken walked some false e false s (Some item) u last l = shows_rows moment turn wait c walked last (is_last last l) (inl (some, inr (inr (inl (rw u refl)))))
    taken walked some false e false s None u true l = shows_rows moment turn wait c walked true (is_last true l) (inl (some, inr (inr (inr refl))))
    taken walked some false e false s None u false l = waits_on moment turn wait c walked (early l) u (inr (grind (arith, nat_tests), s))

    -- without
    untaken : (walked : Walked) → walked.taken ≡ [] → (last : Bool) → nat_le wait (10 * turn.round) ≡ last → walked.unread ≡ None → HasEnd moment turn wait c walked
    untaken walked none true l u = shows_rows moment turn wait c walked true (is_last true l) (inr (none, u, refl))
    untaken walked none false l u = waits_on moment turn wait c walked (early l) u (inl none)

    unread : (walked : Walked) (item : Item) → walked.taken ≡ [] → walked.unread ≡ Some item → (reason : Option ℕ) → reason_of turn.forms c.settings.format item.row ≡ reason → rule.reads item.row ≡ false → HasEnd moment turn wait c walked
    unread walked item none u None r reads = absurd (cc (rw r at reads))
    unread walked item none u (Some n) r reads = ([], Some (Unread item n), Some (touched moment c), inl (record { item = item; taken = none; met = u; marks = refl; number = n; why = r; says = refl; left = refl }))

    go : (walked : Walked) → Unreads rule walked → HasEnd moment turn wait c walked
    go walked h = by_taken walked.taken refl walked.unread refl
      where
        by_taken : (items : List Item) → walked.taken ≡ items → (o : Option Item) → walked.unread ≡ o → HasEnd moment turn wait c walked
        by_taken [] t None u = untaken walked t (nat_le wait (10 * turn.round)) refl u
        by_taken [] t (Some item) u = unread walked item t u (reason_of turn.forms c.settings.format item.row) refl (h item u)
        by_taken (item ∷ items) t o u = taken walked (some walked item items t) (nat_le c.settings.min_bytes (bytes_of walked.taken)) refl walked.stopped refl o u (nat_le wait (10 * turn.round)) refl
