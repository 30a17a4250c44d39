-- Commits of one group leave those of others, and a look commits positions alone.
use Rattle.std.proofs.Common.{◌≡◌, ℕ, suc, ◌≤◌, ◌&&◌, Bool, true, false, cond, List, [], ◌∷◌, length, refl, ap, sym, subst, ◌∙◌, inl, inr, arith, Option, Some, None}
use Rattle.std.specs.Prelude.{ℤ, ◌⊎◌, bytes_eq}
use Rattle.std.specs.List.{filter}
use Rattle.std.proofs.lemmas.Slice.Eq.{bytes_eq-Decides}
use Rattle.model.specs.state.Log.{TopicPart, is_at, Log}
use Rattle.model.specs.step.Walk.{Place}
use Rattle.model.specs.state.World.{Key, Format, Consumer, World, IsApart, IsInOrder, position_in}
use Rattle.model.specs.state.Entry.{Call, Act, Event, Reply, Turn, Entry, is_zero}
use Rattle.model.specs.state.Entry.Call.{Produce, Ask, Of}
use Rattle.model.specs.state.Entry.Act.{Create, Delete, Subscribe, Subscription, Unsubscribe, Assign, Assignments, Seek, SeekEdge, Commit, Fixed, Records}
use Rattle.model.specs.step.Fixed.{with_commits, Commits, SameCommits, CommitsSome}
use Rattle.model.specs.step.Look.{is_due, Saves, Looks}
use Rattle.model.specs.step.Step.{Live, Gone, Acts, Does, Whole, Starved, Step, left}
use Rattle.model.specs.step.Committing.{is_in_group}
use Rattle.model.proofs.Walks.{same_from_is_at, is_at_itself}
use Rattle.model.proofs.Moves.{apart_from_order}

-- the commits of another group
kept : (group : List ℕ) (rows : List Place) (committed : List ℕ → TopicPart → Option ℕ) (other : List ℕ) (at : TopicPart) → bytes_eq group other ≡ false → with_commits group rows committed other at ≡ committed other at
kept group [] committed other at e = refl
kept group (row ∷ rows) committed other at e =
    kept group rows (λ o t. cond (bytes_eq group o && is_at row.at t) (Some row.position) (committed o t)) other at e ∙ here (bytes_eq group other) e
  where
    here : (b : Bool) → b ≡ false → cond (b && is_at row.at at) (Some row.position) (committed other at) ≡ committed other at
    here true is = absurd (cc is)
    here false is = refl

-- what stands for "the group's commits are as they were"
abbrev Same : Log → Log → List ℕ → TopicPart → Type 0
Same a b other at = b.committed other at ≡ a.committed other at

kept_by : (group : List ℕ) (rows : List Place) (a b : Log) (other : List ℕ) (at : TopicPart) → bytes_eq group other ≡ false → Commits group rows a b → Same a b other at
kept_by group rows a b other at e commits = commits other at ∙ kept group rows a.committed other at e

same_kept : (a b : Log) (other : List ℕ) (at : TopicPart) → SameCommits a b → Same a b other at
same_kept a b other at same = same other at

some_kept : (group : List ℕ) (sent : List Place) (a b : Log) (other : List ℕ) (at : TopicPart) → bytes_eq group other ≡ false → CommitsSome group sent a b → Same a b other at
some_kept group sent a b other at e some = kept_by group (filter some.taken sent) a b other at e some.commits

saves_kept : (key : Key) (c : Consumer) (due : Bool) (code : Place → ℤ) (saved : Option (List Place)) (a b : Log) (other : List ℕ) (at : TopicPart) → bytes_eq key.group other ≡ false → Saves key c due code saved a b → Same a b other at
saves_kept key c due code None a b other at e (inl s) = same_kept a b other at s.1
saves_kept key c due code None a b other at e (inr s) = some_kept key.group c.assignment a b other at e s.1
saves_kept key c due code (Some rows) a b other at e (d, inl s) = kept_by key.group rows a b other at e s.0
saves_kept key c due code (Some rows) a b other at e (d, inr s) = some_kept key.group c.assignment a b other at e s.1

live_kept : (key : Key) (moment : ℕ) (turn : Turn) (act : Act) (c : Consumer) (a : Log) (events : List Event) (reply : Option Reply) (b : Log) (c2 : Option Consumer) (other : List ℕ) (at : TopicPart)
    → bytes_eq key.group other ≡ false → Live key moment turn act c a events reply b c2 → Same a b other at
live_kept key moment turn (Create settings) c a events reply b c2 other at e l = same_kept a b other at l.1
live_kept key moment turn Delete c a events reply b c2 other at e (none, inl s, ends) = same_kept a b other at s.1
live_kept key moment turn Delete c a events reply b c2 other at e (none, inr s, ends) = some_kept key.group c.assignment a b other at e s.1
live_kept key moment turn (Subscribe names) c a events reply b c2 other at e l = same_kept a b other at l.1
live_kept key moment turn Subscription c a events reply b c2 other at e l = same_kept a b other at l.1
live_kept key moment turn Unsubscribe c a events reply b c2 other at e l = same_kept a b other at l.1
live_kept key moment turn (Assign ats) c a events reply b c2 other at e l = same_kept a b other at l.1
live_kept key moment turn Assignments c a events reply b c2 other at e l = same_kept a b other at l.1
live_kept key moment turn (Seek news) c a events reply b c2 other at e l = same_kept a b other at l.1
live_kept key moment turn (SeekEdge edge ats) c a events reply b c2 other at e l = same_kept a b other at l.1
live_kept key moment turn (Commit rows) c a events reply b c2 other at e (inl r) = kept_by key.group r.taken a b other at e r.commits
live_kept key moment turn (Commit rows) c a events reply b c2 other at e (inr l) = some_kept key.group _ a b other at e l.1
live_kept key moment turn (Fixed ats) c a events reply b c2 other at e l = same_kept a b other at l.1
live_kept key moment turn (Records formats timeout bound) c a events reply b c2 other at e (inl r) = same_kept a b other at r.2
live_kept key moment turn (Records formats timeout bound) c a events reply b c2 other at e (inr r) =
    let look = r.1 in
    saves_kept key c (is_due c turn.round) look.code look.saved a b other at e look.saves

gone_kept : (moment : ℕ) (act : Act) (a : Log) (events : List Event) (reply : Option Reply) (b : Log) (c2 : Option Consumer) (other : List ℕ) (at : TopicPart) → Gone moment act a events reply b c2 → Same a b other at
gone_kept moment (Create settings) a events reply b c2 other at g = same_kept a b other at g.1
gone_kept moment _ a events reply b c2 other at g = same_kept a b other at g.1

acts_kept : (key : Key) (moment : ℕ) (turn : Turn) (act : Act) (o : Option Consumer) (a : Log) (events : List Event) (reply : Option Reply) (b : Log) (c2 : Option Consumer) (other : List ℕ) (at : TopicPart)
    → bytes_eq key.group other ≡ false → Acts key moment turn act o a events reply b c2 → Same a b other at
acts_kept key moment turn act None a events reply b c2 other at e acts = gone_kept moment act a events reply b c2 other at acts
acts_kept key moment turn act (Some c) a events reply b c2 other at e acts = live_kept key moment turn act c a events reply b c2 other at e acts

does_kept : (moment : ℕ) (turn : Turn) (call : Option Call) (a : Log) (events : List Event) (reply : Option Reply) (b : Log) (v w : Key → Option Consumer) (other : List ℕ) (at : TopicPart)
    → is_in_group other call ≡ false → Does moment turn call a events reply b v w → Same a b other at
does_kept moment turn None a events reply b v w other at e does = same_kept a b other at does.3
does_kept moment turn (Some (Produce topic batch)) a events reply b v w other at e does = same_kept a b other at does.2
does_kept moment turn (Some (Ask question)) a events reply b v w other at e does = same_kept a b other at does.3
does_kept moment turn (Some (Of key act)) a events reply b v w other at e does = acts_kept key moment turn act (v key) a events reply b (w key) other at e does.0

pub other_groups_stay : (idle : ℕ) (w : World) (a : Log) (e : Entry) (b : Log) (w2 : World) (group : List ℕ) (at : TopicPart) → Step idle w a e b w2 → is_in_group group e.call ≡ false → b.committed group at ≡ a.committed group at
other_groups_stay idle w a e b w2 group at step apart = go step.does
  where
    go : Whole idle w a e b w2 ⊎ Starved w a e b w2 → b.committed group at ≡ a.committed group at
    go (inl whole) = does_kept e.moment e.turn e.call a e.events e.reply b (left e.expired w) w2.at group at apart whole.does
    go (inr starved) = same_kept a b group at starved.committed

-- as it was, or a position
abbrev OrPosition : List Place → TopicPart → Option ℕ → Option ℕ → Type 0
OrPosition places at old new = (new ≡ old) ⊎ ((position : ℕ) × (position_in places at ≡ Some position) × (new ≡ Some position))

unplaced : (at : TopicPart) (places : List Place) → length (filter (λ (place : Place). is_at at place.at) places) ≡ 0 → position_in places at ≡ None
unplaced at [] h = refl
unplaced at (place ∷ places) h = go (is_at at place.at) refl (unplaced at places)
  where
    go : (b : Bool) → is_at at place.at ≡ b → (length (filter (λ (x : Place). is_at at x.at) places) ≡ 0 → position_in places at ≡ None) → position_in (place ∷ places) at ≡ None
    go true e rest = absurd (omega (arith, rw e at h))
    go false e rest = rw e (rest (rw e at h))

-- once the places are apart, the commits of some of them are positions
commits_places : (group : List ℕ) (taken : Place → Bool) (places : List Place) (committed : List ℕ → TopicPart → Option ℕ) (at : TopicPart)
    → length (filter (λ (place : Place). is_at at place.at) places) ≤ 1 → OrPosition places at (committed group at) (with_commits group (filter taken places) committed group at)
commits_places group taken [] committed at apart = inl refl
commits_places group taken (place ∷ places) committed at apart = go (taken place) refl (is_at at place.at) refl (commits_places group taken places)
  where
    more : Type 0
    more = (committed : List ℕ → TopicPart → Option ℕ) (at : TopicPart) → length (filter (λ (x : Place). is_at at x.at) places) ≤ 1 → OrPosition places at (committed group at) (with_commits group (filter taken places) committed group at)

    with_place : List ℕ → TopicPart → Option ℕ
    with_place = λ o t. cond (bytes_eq group o && is_at place.at t) (Some place.position) (committed o t)

    itself : bytes_eq group group ≡ true
    itself = (bytes_eq-Decides group group).1 refl

    back : (b : Bool) → is_at place.at at ≡ b → is_at at place.at ≡ false → is_at place.at at ≡ false
    back true e f = let same : place.at ≡ at = same_from_is_at place.at at e in absurd (cc (f, ap (λ x. is_at at x) same ∙ is_at_itself at))
    back false e f = e

    go : (b : Bool) → taken place ≡ b → (d : Bool) → is_at at place.at ≡ d → more → OrPosition (place ∷ places) at (committed group at) (with_commits group (filter taken (place ∷ places)) committed group at)
    go true t true e rest =
        let none : length (filter (λ (x : Place). is_at at x.at) places) ≡ 0 = let le : suc (length (filter (λ (x : Place). is_at at x.at) places)) ≤ 1 = rw e at apart in omega (arith, le) in
        let here : with_place group at ≡ Some place.position = let same : at ≡ place.at = same_from_is_at at place.at e in let at_it : is_at place.at at ≡ true = ap (λ x. is_at place.at x) same ∙ is_at_itself place.at in rw (itself, at_it) refl in
        rw (t, e) (inr (place.position, refl, settled none here (rest with_place at (omega (arith, none)))))
      where
        settled : length (filter (λ (x : Place). is_at at x.at) places) ≡ 0 → with_place group at ≡ Some place.position → OrPosition places at (with_place group at) (with_commits group (filter taken places) with_place group at)
            → with_commits group (filter taken places) with_place group at ≡ Some place.position
        settled none here (inl same) = same ∙ here
        settled none here (inr p) = absurd (cc (unplaced at places none, p.1))
    go true t false e rest =
        let le : length (filter (λ (x : Place). is_at at x.at) places) ≤ 1 = rw e at apart in
        let there : is_at place.at at ≡ false = back (is_at place.at at) refl e in
        let here : with_place group at ≡ committed group at = rw (itself, there) refl in
        rw (t, e) (passed here (rest with_place at le))
      where
        passed : with_place group at ≡ committed group at → OrPosition places at (with_place group at) (with_commits group (filter taken places) with_place group at) → OrPosition places at (committed group at) (with_commits group (filter taken places) with_place group at)
        passed here (inl same) = inl (same ∙ here)
        passed here (inr p) = inr p
    go false t true e rest =
        let none : length (filter (λ (x : Place). is_at at x.at) places) ≡ 0 = let le : suc (length (filter (λ (x : Place). is_at at x.at) places)) ≤ 1 = rw e at apart in omega (arith, le) in
        rw (t, e) (left_out none (rest committed at (omega (arith, none))))
      where
        left_out : length (filter (λ (x : Place). is_at at x.at) places) ≡ 0 → OrPosition places at (committed group at) (with_commits group (filter taken places) committed group at)
            → (with_commits group (filter taken places) committed group at ≡ committed group at) ⊎ ((position : ℕ) × (Some place.position ≡ Some position) × (with_commits group (filter taken places) committed group at ≡ Some position))
        left_out none (inl same) = inl same
        left_out none (inr p) = absurd (cc (unplaced at places none, p.1))
    go false t false e rest = rw (t, e) (rest committed at (rw e at apart))

looks_commit : (key : Key) (c : Consumer) (due : Bool) (code : Place → ℤ) (saved : Option (List Place)) (a b : Log) (at : TopicPart) → IsApart c.assignment → Saves key c due code saved a b
    → OrPosition c.assignment at (a.committed key.group at) (b.committed key.group at)
looks_commit key c due code None a b at apart (inl s) = inl (s.1 key.group at)
looks_commit key c due code None a b at apart (inr s) = let some = s.1 in subst (OrPosition c.assignment at (a.committed key.group at)) (sym (some.commits key.group at)) (commits_places key.group some.taken c.assignment a.committed at (apart at))
looks_commit key c due code (Some rows) a b at apart (d, inl s) =
    let is : b.committed key.group at ≡ with_commits key.group (filter (λ (row : Place). is_zero (code row)) c.assignment) a.committed key.group at = s.0 key.group at ∙ ap (λ rs. with_commits key.group rs a.committed key.group at) s.1 in
    subst (OrPosition c.assignment at (a.committed key.group at)) (sym is) (commits_places key.group (λ (row : Place). is_zero (code row)) c.assignment a.committed at (apart at))
looks_commit key c due code (Some rows) a b at apart (d, inr s) = let some = s.1 in subst (OrPosition c.assignment at (a.committed key.group at)) (sym (some.commits key.group at)) (commits_places key.group some.taken c.assignment a.committed at (apart at))

pub looks_commit_positions : (key : Key) (moment : ℕ) (turn : Turn) (formats : List Format) (timeout bound : Option ℕ) (c : Consumer) (a : Log) (events : List Event) (reply : Option Reply) (b : Log) (c2 : Option Consumer) (at : TopicPart)
    → IsInOrder c.assignment → Looks key moment turn formats timeout bound c a events reply b c2
    → (b.committed key.group at ≡ a.committed key.group at) ⊎ ((position : ℕ) × (position_in c.assignment at ≡ Some position) × (b.committed key.group at ≡ Some position))
looks_commit_positions key moment turn formats timeout bound c a events reply b c2 at order (inl r) = inl (r.2 key.group at)
looks_commit_positions key moment turn formats timeout bound c a events reply b c2 at order (inr r) =
    let look = r.1 in
    looks_commit key c (is_due c turn.round) look.code look.saved a b at (apart_from_order c.assignment order) look.saves
