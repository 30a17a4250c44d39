-- Single answers tell what was done.
use Rattle.std.proofs.Common.{◌≡◌, ℕ, zero, suc, ◌<◌, ◌≤◌, ◌&&◌, not, Bool, true, false, cond, List, [], ◌∷◌, ◌++◌, map, length, refl, sym, ap, subst, ◌∙◌, inl, inr, arith, Option, Some, None}
use Rattle.std.specs.Prelude.{ℤ, pos, filter, is_none, ◌⊎◌, ◌↔◌, ◌≢◌, Contains, AllPairs, ◌==◌, IsSome}
use Rattle.std.specs.Ordering.{is_lt, nat_cmp}
use Rattle.std.specs.Cmp.Lexicographic.{slice_cmp}
use Rattle.model.specs.state.Log.{TopicPart, Log}
use Rattle.model.specs.step.Walk.{Place}
use Rattle.model.specs.state.World.{Key, key_bytes, Consumer, World, names_rise, touched}
use Rattle.model.specs.state.World.Mode.{Unset, ByTopics, Assigned}
use Rattle.model.specs.state.Entry.{Event, Reply, Turn, Entry, is_zero, IsLinks}
use Rattle.model.specs.state.Entry.Act.{Commit, Subscribe, Assign, Delete}
use Rattle.model.specs.state.Entry.Event.{Committed, Reset}
use Rattle.model.specs.state.Entry.Reply.{Done, Broker, Refused, Want}
use Rattle.model.specs.step.Fixed.{Commits, SameCommits}
use Rattle.model.specs.step.Look.{IsLook, is_due, is_passed, is_passed_reply, Saves, Places, IsUnsaved, saved_event, placed_event}
use Rattle.model.specs.step.Acts.{Live}
use Rattle.model.specs.history.Single.{ThreeCodesArePassedOver}
use Rattle.model.specs.step.Step.{Step, Whole, Starved, sent_of, same_names, is_in_force, first_code, IsCommitted, IsDone, IsWanting, IsCut, EndsIf, saved_if, as_assigned}

-- all rows were taken where no code is answered
all_taken : (code : Place → ℤ) (rows : List Place) → first_code code rows ≡ Done → filter (λ row. is_zero (code row)) rows ≡ rows
all_taken code [] e = refl
all_taken code (row ∷ rows) e = go (is_zero (code row)) refl e (λ f. all_taken code rows f)
  where
    go : (b : Bool) → is_zero (code row) ≡ b → first_code code (row ∷ rows) ≡ Done → (first_code code rows ≡ Done → filter (λ row. is_zero (code row)) rows ≡ rows) → filter (λ row. is_zero (code row)) (row ∷ rows) ≡ row ∷ rows
    go true is e rest = rw is (ap (λ xs. row ∷ xs) (rest (subst (λ (b : Bool). cond b (first_code code rows) (Broker (code row)) ≡ Done) is e)))
    go false is e rest = absurd (cc (subst (λ (b : Bool). cond b (first_code code rows) (Broker (code row)) ≡ Done) is e))

pub done_commits : (key : Key) (moment : ℕ) (turn : Turn) (rows : Option (List Place)) (c : Consumer) (a : Log) (events : List Event) (b : Log) (c2 : Option Consumer)
    → Live key moment turn (Commit rows) c a events (Some Done) b c2 → (events ≡ Committed (sent_of rows c) ∷ []) × Commits key.group (sent_of rows c) a b
done_commits key moment turn rows c a events b c2 (inl r) = go r.ends
  where
    taken_is : first_code r.code (sent_of rows c) ≡ Done → r.taken ≡ sent_of rows c
    taken_is e = r.took ∙ all_taken r.code (sent_of rows c) e

    go : IsDone (first_code r.code (sent_of rows c)) (Some Done) (Some (touched moment (saved_if (is_none rows && (length r.taken == length c.assignment)) c))) c2 ⊎ IsWanting (Some Done) (Some (touched moment c)) c2
        → (events ≡ Committed (sent_of rows c) ∷ []) × Commits key.group (sent_of rows c) a b
    go (inl d) =
        let e : first_code r.code (sent_of rows c) ≡ Done = cc d.says in
        (r.order ∙ ap (λ xs. Committed xs ∷ []) (taken_is e), subst (λ (xs : List Place). Commits key.group xs a b) (taken_is e) r.commits)
    go (inr w) = absurd (cc w.says)
done_commits key moment turn rows c a events b c2 (inr r) = go r.2
  where
    cut : IsCut (Some Done) (Some (touched moment c)) c2 → ⊥
    cut x = links x.why x.links x.says
      where
        links : (why : Reply) → IsLinks why → Some Done ≡ Some why → ⊥
        links (Broker k) l e = absurd (cc e)
        links Done l e = l
        links _ l e = absurd (cc e)

    go : EndsIf (sent_of rows c) moment c (Some Done) c2 ⊥ → (events ≡ Committed (sent_of rows c) ∷ []) × Commits key.group (sent_of rows c) a b
    go (inl no_way) = absurd no_way
    go (inr (inl w)) = absurd (cc w.says)
    go (inr (inr x)) = absurd (cut x.1)

filter_small : (p : Place → Bool) (rows : List Place) → length (filter p rows) ≤ length rows
filter_small p [] = omega arith
filter_small p (row ∷ rows) = go (p row) refl (filter_small p rows)
  where
    go : (b : Bool) → p row ≡ b → length (filter p rows) ≤ length rows → length (filter p (row ∷ rows)) ≤ length (row ∷ rows)
    go true is more = rw is (omega (arith, more))
    go false is more = rw is (omega (arith, more))

-- a code that is answered is of a row that wasn't taken
pub short_by : (code : Place → ℤ) (rows : List Place) (k : ℤ) → first_code code rows ≡ Broker k → length (filter (λ row. is_zero (code row)) rows) < length rows
short_by code [] k e = absurd (cc e)
short_by code (row ∷ rows) k e = go (is_zero (code row)) refl e (λ f. short_by code rows k f) (filter_small (λ row. is_zero (code row)) rows)
  where
    go : (b : Bool) → is_zero (code row) ≡ b → first_code code (row ∷ rows) ≡ Broker k
        → (first_code code rows ≡ Broker k → length (filter (λ row. is_zero (code row)) rows) < length rows) → length (filter (λ row. is_zero (code row)) rows) ≤ length rows
        → length (filter (λ row. is_zero (code row)) (row ∷ rows)) < length (row ∷ rows)
    go true is e more small = rw is (omega (arith, more (subst (λ (b : Bool). cond b (first_code code rows) (Broker (code row)) ≡ Broker k) is e)))
    go false is e more small = rw is (omega (arith, small))

pub short_commits : (key : Key) (moment : ℕ) (turn : Turn) (rows : Option (List Place)) (c : Consumer) (a : Log) (events : List Event) (k : ℤ) (b : Log) (c2 : Option Consumer)
    → Live key moment turn (Commit rows) c a events (Some (Broker k)) b c2 → (events ≡ []) ⊎ ((taken : List Place) × (events ≡ Committed taken ∷ []) × (length taken < length (sent_of rows c)))
short_commits key moment turn rows c a events k b c2 (inl r) = go r.ends
  where
    go : IsDone (first_code r.code (sent_of rows c)) (Some (Broker k)) (Some (touched moment (saved_if (is_none rows && (length r.taken == length c.assignment)) c))) c2 ⊎ IsWanting (Some (Broker k)) (Some (touched moment c)) c2
        → (events ≡ []) ⊎ ((taken : List Place) × (events ≡ Committed taken ∷ []) × (length taken < length (sent_of rows c)))
    go (inl d) =
        let e : first_code r.code (sent_of rows c) ≡ Broker k = cc d.says in
        inr (r.taken, r.order, subst (λ (xs : List Place). length xs < length (sent_of rows c)) (sym r.took) (short_by r.code (sent_of rows c) k e))
    go (inr w) = absurd (cc w.says)
short_commits key moment turn rows c a events k b c2 (inr r) = inl r.0

pub same_mark : (b : Bool) → (b && true) ≡ b
same_mark true = refl
same_mark false = refl

pub listed_commits : (key : Key) (moment : ℕ) (turn : Turn) (rows : List Place) (c d : Consumer) (a : Log) (events : List Event) (reply : Option Reply) (b : Log)
    → Live key moment turn (Commit (Some rows)) c a events reply b (Some d) → d.unsaved ≡ c.unsaved
listed_commits key moment turn rows c d a events reply b (inl r) = go r.ends
  where
    go : IsDone (first_code r.code (sent_of (Some rows) c)) reply (Some (touched moment (saved_if (is_none (Some rows) && (length r.taken == length c.assignment)) c))) (Some d) ⊎ IsWanting reply (Some (touched moment c)) (Some d)
        → d.unsaved ≡ c.unsaved
    go (inl x) = let e : d ≡ touched moment (saved_if (is_none (Some rows) && (length r.taken == length c.assignment)) c) = cc x.left in ap (λ (y : Consumer). y.unsaved) e ∙ same_mark c.unsaved
    go (inr x) = let e : d ≡ touched moment c = cc x.left in ap (λ (y : Consumer). y.unsaved) e
listed_commits key moment turn rows c d a events reply b (inr r) = go r.2
  where
    go : EndsIf (sent_of (Some rows) c) moment c reply (Some d) ⊥ → d.unsaved ≡ c.unsaved
    go (inl no_way) = absurd no_way
    go (inr (inl x)) = let e : d ≡ touched moment c = cc x.left in ap (λ (y : Consumer). y.unsaved) e
    go (inr (inr x)) = let y = x.1 in let e : d ≡ touched moment c = cc y.left in ap (λ (z : Consumer). z.unsaved) e

pub excluded : (key : Key) (moment : ℕ) (turn : Turn) (names : List (List ℕ)) (c : Consumer) (a : Log) (events : List Event) (code : ℕ) (b : Log) (c2 : Option Consumer)
    → Live key moment turn (Subscribe names) c a events (Some (Refused code)) b c2 → c.mode ≡ Assigned
excluded key moment turn names c a events code b c2 (e, s, inl (inl r)) = r.0
excluded key moment turn names c a events code b c2 (e, s, inl (inr (inl (inl r)))) = let d = r.1 in absurd (cc d.says)
excluded key moment turn names c a events code b c2 (e, s, inl (inr (inl (inr r)))) = let d = r.3 in absurd (cc d.says)
excluded key moment turn names c a events code b c2 (e, s, inl (inr (inr r))) = absurd (cc r.says)
excluded key moment turn names c a events code b c2 (e, s, inr w) = absurd (cc w.says)

pub subscribed : (key : Key) (moment : ℕ) (turn : Turn) (names : List (List ℕ)) (c d : Consumer) (a : Log) (events : List Event) (b : Log)
    → names ≢ [] → is_in_force c names ≡ false → Live key moment turn (Subscribe names) c a events (Some Done) b (Some d)
    → (same_names names d.topics ≡ true) × names_rise d.topics × (d.mode ≡ ByTopics) × (d.assignment ≡ []) × (d.rotation ≡ 0) × (c.mode ≢ Assigned)
subscribed key moment turn names c d a events b some other (e, s, inl (inl r)) = let x = r.1 in absurd (cc x.says)
subscribed key moment turn names c d a events b some other (e, s, inl (inr (inl (inl r)))) = absurd (cc (r.0, other))
subscribed key moment turn names c d a events b some other (e, s, inl (inr (inl (inr r)))) = absurd (some r.1)
subscribed key moment turn names c d a events b some other (e, s, inl (inr (inr r))) =
    let is : d ≡ record { settings = c.settings; mode = ByTopics; topics = r.topics; assignment = []; rotation = 0; unsaved = c.unsaved; last_use = moment } = cc r.left in
    (ap (λ (x : Consumer). same_names names x.topics) is ∙ r.same, subst (λ (x : Consumer). names_rise x.topics) (sym is) r.rise, ap (λ (x : Consumer). x.mode) is, ap (λ (x : Consumer). x.assignment) is, ap (λ (x : Consumer). x.rotation) is, r.mode)
subscribed key moment turn names c d a events b some other (e, s, inr w) = absurd (cc w.says)

pub deleted : (key : Key) (moment : ℕ) (turn : Turn) (c : Consumer) (a : Log) (events : List Event) (reply : Option Reply) (b : Log) (c2 : Option Consumer)
    → is_due c 0 ≡ false → Live key moment turn Delete c a events reply b c2 → SameCommits a b
deleted key moment turn c a events reply b c2 due (e, inl r, x) = r.1
deleted key moment turn c a events reply b c2 due (e, inr r, x) = absurd (cc (r.0, due))

pub in_order : (idle : ℕ) (w : World) (a : Log) (e : Entry) (b : Log) (w2 : World)
    → Step idle w a e b w2 → e.reply ≢ Some Want → AllPairs (λ j k. is_lt (slice_cmp nat_cmp (key_bytes j) (key_bytes k)) ≡ true) e.expired
in_order idle w a e b w2 step some = go step.does
  where
    go : Whole idle w a e b w2 ⊎ Starved w a e b w2 → AllPairs (λ j k. is_lt (slice_cmp nat_cmp (key_bytes j) (key_bytes k)) ≡ true) e.expired
    go (inl whole) = let x = whole.expired in x.rise
    go (inr starved) = absurd (some starved.reply)

pub told : (key : Key) (moment : ℕ) (turn : Turn) (timeout bound : Option ℕ) (c : Consumer) (a : Log) (events : List Event) (reply : Option Reply) (b : Log) (c2 : Option Consumer) (rows : List Place)
    → (look : IsLook key moment turn timeout bound c a events reply b c2) → look.saved ≡ Some rows → (rows ≡ []) ⊎ Commits key.group rows a b
told key moment turn timeout bound c a events reply b c2 rows look is = go (subst (λ o. Saves key c (is_due c turn.round) look.code o a b) is look.saves)
  where
    go : Saves key c (is_due c turn.round) look.code (Some rows) a b → (rows ≡ []) ⊎ Commits key.group rows a b
    go (due, inl r) = inr r.0
    go (due, inr r) = inl r.0

pub by_topics : (key : Key) (moment : ℕ) (turn : Turn) (timeout bound : Option ℕ) (c : Consumer) (a : Log) (events : List Event) (reply : Option Reply) (b : Log) (c2 : Option Consumer) (places : List Place)
    → (look : IsLook key moment turn timeout bound c a events reply b c2) → look.placed ≡ Some places → c.mode ≡ ByTopics
by_topics key moment turn timeout bound c a events reply b c2 places look is =
    let given : Places (b.committed key.group) c (Some places) a look.middle = subst (λ o. Places (b.committed key.group) c o a look.middle) is look.places in
    given.0

pub assigned_places : (places : List Place) (moment : ℕ) (c : Consumer) → (as_assigned places moment c).assignment ≡ places
assigned_places [] moment c = refl
assigned_places (place ∷ places) moment c = refl

pub no_cut : (c1 c2 : Option Consumer) → IsCut (Some Done) c1 c2 → ⊥
no_cut c1 c2 x = links x.why x.links x.says
  where
    links : (why : Reply) → IsLinks why → Some Done ≡ Some why → ⊥
    links (Broker k) l e = absurd (cc e)
    links Done l e = l
    links _ l e = absurd (cc e)

pub assigns : (key : Key) (moment : ℕ) (turn : Turn) (ats : List TopicPart) (c d : Consumer) (a : Log) (events : List Event) (b : Log)
    → Live key moment turn (Assign ats) c a events (Some Done) b (Some d) → (at : TopicPart) → Contains ats at ↔ Contains (map (λ (place : Place). place.at) d.assignment) at
assigns key moment turn ats c d a events b (e, s, inl (m, inl r)) at = absurd (cc r.says)
assigns key moment turn ats c d a events b (e, s, inl (m, inr w)) at = absurd (cc w.says)
assigns key moment turn ats c d a events b (e, s, inr (m, inl (inl r))) at = let x = r.2 in absurd (cc x.says)
assigns key moment turn ats c d a events b (e, s, inr (m, inl (inr r))) at =
    let is : d ≡ as_assigned r.places moment c = cc r.left in
    let there : d.assignment ≡ r.places = ap (λ (x : Consumer). x.assignment) is ∙ assigned_places r.places moment c in
    let set = r.set in
    subst (λ (places : List Place). Contains ats at ↔ Contains (map (λ (place : Place). place.at) places) at) (sym there) (set.same at)
assigns key moment turn ats c d a events b (e, s, inr (m, inr (inl w))) at = absurd (cc w.says)
assigns key moment turn ats c d a events b (e, s, inr (m, inr (inr r))) at = absurd (no_cut (Some (touched moment c)) (Some d) r.1)

pub codes_passed : ThreeCodesArePassedOver
codes_passed = (refl, refl, refl, refl, refl, refl, refl)

pub passed : (key : Key) (moment : ℕ) (turn : Turn) (timeout bound : Option ℕ) (c : Consumer) (a : Log) (b : Log) (c2 : Option Consumer)
    → is_due c turn.round ≡ true → IsLook key moment turn timeout bound c a [] (Some (Broker (pos 27))) b c2 → ⊥
passed key moment turn timeout bound c a b c2 due look = go look.saved refl
  where
    go : (o : Option (List Place)) → look.saved ≡ o → ⊥
    go None is = let u = look.due due is in answer u.why u.other u.says
      where
        answer : (why : Reply) → is_passed_reply why ≡ false → Some (Broker (pos 27)) ≡ Some why → ⊥
        answer why other e = let is : why ≡ Broker (pos 27) = cc e in absurd (cc (subst (λ (r : Reply). is_passed_reply r ≡ false) is other))
    go (Some rows) is = absurd (cc (look.order ∙ ap (λ o. saved_event o ++ (placed_event look.placed ++ (map Reset look.resets ++ look.looked))) is))
