-- What an entry's events and its reply have as their causes in the step's link calls (Apache Kafka protocol guide, JoinGroup to Heartbeat).
use Rattle.std.specs.Prelude.{ℕ, ℤ, ◌+◌, ◌<◌, ◌≤◌, ◌≡◌, ◌≢◌, ◌⊎◌, ◌↔◌, Bool, true, false, cond, List, [], ◌∷◌, map, Contains, IsTrue, Option, Some, None, ◌||◌, All, ◌++◌}
use Rattle.model.specs.state.Log.{TopicPart, Log}
use Rattle.model.specs.step.Walk.{Place}
use Rattle.model.specs.state.World.{Consumer, World, IsInOrder}
use Rattle.model.specs.state.World.Mode.{ByTopics}
use Rattle.model.specs.state.Entry.{Call, Entry, Event, Reply, is_zero}
use Rattle.model.specs.state.Entry.Act.{Records, Commit}
use Rattle.model.specs.state.Entry.Call.{Of}
use Rattle.model.specs.state.Entry.Event.{Rebalanced, Looked}
use Rattle.model.specs.state.Entry.Reply.{Done, Broker, Want}
use Rattle.model.specs.step.Look.{is_listed, is_passed}
use Rattle.model.specs.history.Legal.{Counts, entry_tally, is_fault, is_refusal, Legal}
use Rattle.model.specs.step.Step.{Step}

-- what came of the pump of a look; `Unpumped` where none was made
pub data Pumped : Type 0 where
  Unpumped Steady NotYet Lost : Pumped
  Shared : List TopicPart → Pumped

-- The member is out of its generation.
abbrev pub is_out : Pumped → Bool
is_out NotYet = true
is_out Lost = true
is_out _ = false

-- the partitions that are to be fixed: those given now, or those given before and not fixed yet
abbrev pub to_fix : Pumped → Option (List TopicPart) → Option (List TopicPart)
to_fix (Shared ats) unfixed = Some ats
to_fix Steady unfixed = unfixed
to_fix _ unfixed = None

-- the places are those of the given partitions whose topic is in the list, sorted and without repeats
pub record IsShare (topics : List (List ℕ)) (given : List TopicPart) (places : List Place) : Type 0 where
  pub same : (at : TopicPart) → Contains (map (λ place. place.at) places) at ↔ (Contains given at × IsTrue (is_listed topics at.topic))
  pub order : IsInOrder places

-- When a look has a Rebalanced event, and with which places. `old` are the places before it; `looked` says that Looked comes.
abbrev pub Rebalances : Consumer → Pumped → Option (List TopicPart) → (looked : Type 0) → Option (List Place) → Type 0
Rebalances c pumped unfixed looked None = looked → (to_fix pumped unfixed ≡ None) × (is_out pumped ≡ true → c.assignment ≡ [])
Rebalances c pumped unfixed looked (Some places) =
    ((given : List TopicPart) × (to_fix pumped unfixed ≡ Some given) × IsShare c.topics given places)
    ⊎ ((is_out pumped ≡ true) × (places ≡ []) × (c.assignment ≢ []))

-- A look pumps exactly where the mode is topics and no commit ended it before. What an answer raised is counted.
pub record IsPumped (before after : Counts) (c : Consumer) (reached : Type 0) (pumped : Pumped) : Type 0 where
  pub pumps : c.mode ≡ ByTopics → reached → pumped ≢ Unpumped
  pub quiet : c.mode ≢ ByTopics → pumped ≡ Unpumped
  pub steady : pumped ≡ Steady → before.beats < after.beats
  pub not_yet : pumped ≡ NotYet → before.polls < after.polls
  pub lost : pumped ≡ Lost → before.refusals < after.refusals
  pub shared : (ats : List TopicPart) → pumped ≡ Shared ats → before.polls < after.polls

-- no count of the link falls
pub record Rises (before after : Counts) : Type 0 where
  pub faults : before.faults ≤ after.faults
  pub refusals : before.refusals ≤ after.refusals
  pub polls : before.polls ≤ after.polls
  pub beats : before.beats ≤ after.beats

-- a Records call
abbrev pub is_records : Option Call → Bool
is_records (Some (Of key (Records formats timeout bound))) = true
is_records _ = false

-- a Commit call
abbrev pub is_commit : Option Call → Bool
is_commit (Some (Of key (Commit rows))) = true
is_commit _ = false

-- the first code that isn't 0
abbrev pub first_of : List ℤ → Option ℤ
first_of [] = None
first_of (code ∷ codes) = cond (is_zero code) (first_of codes) (Some code)

-- the first that an auto commit doesn't pass over
abbrev pub first_unpassed : List ℤ → Option ℤ
first_unpassed [] = None
first_unpassed (code ∷ codes) = cond (is_zero code || is_passed code) (first_unpassed codes) (Some code)

-- the answer by that code
abbrev pub by_code : Option ℤ → Reply
by_code None = Done
by_code (Some code) = Broker code

-- Each part of an entry that a legal history counts has its cause in the step: a count that rose in it.
-- `last` is the link's last code. `codes` are those by which a commit of the step was answered: one a row, or the one of the whole call.
pub record IsCaused (before after : Counts) (last : ℤ) (codes : List ℤ) (w : World) (e : Entry) : Type 0 where
  pub rises : Rises before after
  pub fault : is_fault e.reply ≡ true → before.faults < after.faults
  pub refusal : is_refusal e.reply ≡ true → before.refusals < after.refusals
  pub code : (code : ℤ) → e.reply ≡ Some (Broker code) → (code ≡ last) ⊎ Contains codes code
  pub told : is_commit e.call ≡ true → e.reply ≢ Some Want → codes ≢ [] → e.reply ≡ Some (by_code (first_of codes))
  pub passed : is_records e.call ≡ true → e.reply ≢ Some Want → (code : ℤ) → first_unpassed codes ≡ Some code → e.reply ≡ Some (Broker code)
  pub short : (let t = entry_tally w e in 0 < t.short) → before.refusals < after.refusals
  pub looked : (let t = entry_tally w e in 0 < t.looks) → before.beats + before.polls + before.refusals < after.beats + after.polls + after.refusals

-- What a step's Rebalanced owes is paid by an answer of this step, or by one of an earlier step whose partitions weren't fixed then.
-- `held` and `held2` are how many consumers have such partitions before the step and after it.
pub record IsGranted (before after : Counts) (held held2 : ℕ) (w : World) (e : Entry) : Type 0 where
  pub placed : (let t = entry_tally w e in t.placed + held2 + (before.polls + before.refusals) ≤ held + (after.polls + after.refusals))

-- the history is legal, and of the answers that pay for its Rebalanced events so many are left
pub record LegalWith (idle : ℕ) (counts : Counts) (held : ℕ) (history : List Entry) (w : World) (l : Log) : Type 0 where
  pub legal : Legal idle counts history w l
  pub spare : (let t = legal.tally in t.placed + held ≤ counts.polls + counts.refusals)

-- the places of the Rebalanced event, if one stands there
abbrev pub placed_in : List Event → Option (List Place)
placed_in [] = None
placed_in (Rebalanced places ∷ events) = Some places
placed_in (_ ∷ events) = placed_in events

-- a Looked stands among the events
abbrev pub has_looked : List Event → Bool
has_looked [] = false
has_looked (Looked round ∷ events) = true
has_looked (_ ∷ events) = has_looked events

-- What is said of a look's Rebalanced. `given` is the last answer of the member's lane to a sync, `unfixed` are partitions that were given and
-- not fixed before. What is fixed is that last answer, whether it came now or before.
pub record IsRebalanced (before after : Counts) (given unfixed : Option (List TopicPart)) (c : Consumer) (events : List Event) : Type 0 where
  pub pumped : Pumped
  pub pump : IsPumped before after c (IsTrue (has_looked events)) pumped
  pub ties : (ats : List TopicPart) → to_fix pumped unfixed ≡ Some ats → given ≡ Some ats
  pub places : Rebalances c pumped unfixed (IsTrue (has_looked events)) (placed_in events)

-- a legal history goes on by a step whose events and reply have their causes in what the counts rose by
abbrev pub CausesPay : Type 0
CausesPay =
    (idle : ℕ) (counts : Counts) (held : ℕ) (history : List Entry) (w : World) (l : Log) (e : Entry) (l2 : Log) (w2 : World) (counts2 : Counts) (held2 : ℕ) (last : ℤ) (codes : List ℤ)
    → LegalWith idle counts held history w l → Step idle w l e l2 w2
    → IsCaused counts counts2 last codes w e → IsGranted counts counts2 held held2 w e → LegalWith idle counts2 held2 (history ++ e ∷ []) w2 l2
