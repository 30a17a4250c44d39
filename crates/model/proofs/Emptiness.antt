-- A reply without rows is given only where nothing is at hand.
use Rattle.std.proofs.Common.{◌≡◌, ℕ, ◌+◌, ◌<◌, ◌≤◌, Bool, true, false, List, [], ◌∷◌, ◌++◌, length, drop, take, refl, sym, ap, subst, ◌∙◌, inl, inr, arith, Option, Some, None}
use Rattle.std.specs.Prelude.{◌⊎◌, IsSome}
use Rattle.std.specs.List.{All}
use Rattle.std.proofs.lemmas.List.{take-append-drop, length-append}
use Rattle.std.proofs.lemmas.List.Elements.{All-nil, All-cons, All-append, All-take, All-drop}
use Rattle.std.proofs.Math.Seq.{drop-append_seam, take-append_seam}
use Rattle.model.specs.state.Log.{TopicPart, Row, Log}
use Rattle.model.specs.state.Forms.{reason_of}
use Rattle.model.specs.step.Walk.{Lot, Item, Rule, Walked, unwalked, walk, walk_part, is_full, with_row, or_first, turned}
use Rattle.model.specs.state.World.{Key, Format, Consumer, touched}
use Rattle.model.specs.state.Entry.{Event, Reply, Turn, IsLinks}
use Rattle.model.specs.state.Entry.Reply.{Broker, Shown, Unread}
use Rattle.model.specs.step.Look.{IsLook, IsCut_off, IsWalked, LookEnds, HasNone, at_most, after_events, reads_in, Sends, IsReady}
use Rattle.model.proofs.Walks.{walk-stopped, walk-on}

-- a row was taken, or one was met that doesn't read
abbrev Begun : Walked → Type 0
Begun walked = (0 < length walked.taken) ⊎ IsSome walked.unread

begun_first : (o : Option Item) (item : Item) → IsSome (or_first o item)
begun_first None item = refl
begun_first (Some x) item = refl

begun_row : (at : TopicPart) (row : Row) (walked : Walked) → Begun (with_row at row walked)
begun_row at row walked = inl (omega (arith, length-append walked.taken (record { at = at; row = row } ∷ [])))

begun_part : (rule : Rule) (at : TopicPart) (walked : Walked) (rows : List Row) → Begun walked → Begun (walk_part rule at walked rows)
begun_part rule at walked [] h = h
begun_part rule at walked (row ∷ rows) h = go (is_full rule walked.taken row) refl (rule.reads row) refl (begun_part rule at (with_row at row walked) rows (begun_row at row walked))
  where
    go : (b : Bool) → is_full rule walked.taken row ≡ b → (d : Bool) → rule.reads row ≡ d → Begun (walk_part rule at (with_row at row walked) rows) → Begun (walk_part rule at walked (row ∷ rows))
    go true f d g rest = rw f h
    go false f true g rest = rw (f, g) rest
    go false f false g rest = rw (f, g) (inr (begun_first walked.unread (record { at = at; row = row })))

begun_walk : (rule : Rule) (walked : Walked) (lots : List Lot) → Begun walked → Begun (walk rule walked lots)
begun_walk rule walked [] h = h
begun_walk rule walked (lot ∷ lots) h = go walked.stopped refl (begun_walk rule (walk_part rule lot.place.at walked lot.rows) lots (begun_part rule lot.place.at walked lot.rows h))
  where
    go : (b : Bool) → walked.stopped ≡ b → Begun (walk rule (walk_part rule lot.place.at walked lot.rows) lots) → Begun (walk rule walked (lot ∷ lots))
    go true f rest = subst Begun (sym (walk-stopped rule walked lot lots f)) h
    go false f rest = subst Begun (sym (walk-on rule walked lot lots f)) rest

-- the first row that is met is taken, or doesn't read
begun_by : (rule : Rule) (at : TopicPart) (row : Row) (rows : List Row) → Begun (walk_part rule at unwalked (row ∷ rows))
begun_by rule at row rows = go (rule.reads row) refl
  where
    go : (d : Bool) → rule.reads row ≡ d → Begun (walk_part rule at unwalked (row ∷ rows))
    go true g = rw g (begun_part rule at (with_row at row unwalked) rows (begun_row at row unwalked))
    go false g = rw g (inr refl)

nothing_met : (rule : Rule) (lots : List Lot) → (Begun (walk rule unwalked lots) → ⊥) → All (λ (lot : Lot). lot.rows ≡ []) lots
nothing_met rule [] h = All-nil (λ (lot : Lot). lot.rows ≡ [])
nothing_met rule (lot ∷ lots) h = go lot.rows refl (λ k. nothing_met rule lots k)
  where
    go : (rows : List Row) → lot.rows ≡ rows → ((Begun (walk rule unwalked lots) → ⊥) → All (λ (x : Lot). x.rows ≡ []) lots) → All (λ (x : Lot). x.rows ≡ []) (lot ∷ lots)
    go [] e rest = All-cons (λ (x : Lot). x.rows ≡ []) lot lots e (rest (λ begun. h (subst (λ (rows : List Row). Begun (walk rule (walk_part rule lot.place.at unwalked rows) lots)) (sym e) begun)))
    go (row ∷ rows) e rest = absurd (h (subst (λ (xs : List Row). Begun (walk rule (walk_part rule lot.place.at unwalked xs) lots)) (sym e) (begun_walk rule (walk_part rule lot.place.at unwalked (row ∷ rows)) lots (begun_by rule lot.place.at row rows))))

turned_back : {A : Type 0} (P : A → Type 0) (place : ℕ) (xs : List A) → All P (turned place xs) → All P xs
turned_back P place xs h =
    let behind : All P (drop place xs) = subst (λ ys. All P ys) (take-append_seam (drop place xs) (take place xs)) (All-take P (length (drop place xs)) (turned place xs) h) in
    let before : All P (take place xs) = subst (λ ys. All P ys) (drop-append_seam (drop place xs) (take place xs)) (All-drop P (length (drop place xs)) (turned place xs) h) in
    subst (λ ys. All P ys) (take-append-drop place xs) (All-append P (take place xs) (drop place xs) before behind)

pub empty_replies : (key : Key) (moment : ℕ) (turn : Turn) (timeout bound : Option ℕ) (c : Consumer) (a : Log) (events : List Event) (format : Format) (b : Log) (c2 : Option Consumer)
    → (look : IsLook key moment turn timeout bound c a events (Some (Shown format [])) b c2) → HasNone a b (after_events events c).assignment (0 < length look.looked)
empty_replies key moment turn timeout bound c a events format b c2 look = go look.ends
  where
    links : (why : Reply) → IsLinks why → Some (Shown format []) ≡ Some why → ⊥
    links (Broker k) l e = absurd (cc e)
    links (Shown f items) l e = l
    links _ l e = absurd (cc e)

    not_begun : (w : Walked) → w.taken ≡ [] → w.unread ≡ None → Begun w → ⊥
    not_begun w none unread (inl some) = absurd (omega (arith, some, ap (λ (xs : List Item). length xs) none))
    not_begun w none unread (inr some) = absurd (cc (subst IsSome unread some))

    walked : (w : IsWalked moment turn (at_most c.settings.timeout_ms timeout) (at_most 4194304 bound) a b (after_events events c) look.looked (Some (Shown format [])) c2)
        → LookEnds moment turn (at_most c.settings.timeout_ms timeout) (after_events events c) w.walked look.looked (Some (Shown format [])) c2 → HasNone a b (after_events events c).assignment (0 < length look.looked)
    walked w (inl x) = absurd (cc x.says)
    walked w (inr (inr x)) = absurd (cc x.says)
    walked w (inr (inl x)) = ready x.ready
      where
        none : w.walked.taken ≡ []
        none = cc x.says

        ready : IsReady (after_events events c).settings.min_bytes x.last w.walked → HasNone a b (after_events events c).assignment (0 < length look.looked)
        ready (inl some) = absurd (omega (arith, some.0, ap (λ (xs : List Item). length xs) none))
        ready (inr y) =
            let h = w.hand in
            let rule : Rule = record { bound = at_most 4194304 bound; reads = reads_in (reason_of turn.forms) (after_events events c).settings.format } in
            h.none (turned_back (λ (lot : Lot). lot.rows ≡ []) (after_events events c).rotation w.lots (nothing_met rule (turned (after_events events c).rotation w.lots) (λ begun. not_begun w.walked none y.1 (subst Begun (sym w.walk) begun))))

    go : IsCut_off moment (Sends c) (after_events events c) look.looked (Some (Shown format [])) c2
        ⊎ IsWalked moment turn (at_most c.settings.timeout_ms timeout) (at_most 4194304 bound) a b (after_events events c) look.looked (Some (Shown format [])) c2 → HasNone a b (after_events events c).assignment (0 < length look.looked)
    go (inl cut) = absurd (links cut.why cut.links cut.says)
    go (inr w) = walked w w.ends
