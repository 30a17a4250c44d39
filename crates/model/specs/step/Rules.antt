-- The rules of Subscribe, Assign, Seek, Commit and Committed: Confluent REST Proxy API v2, consumers.
use Rattle.std.specs.Prelude.{nat_lt, ℕ, ℤ, ◌&&◌, ◌==◌, not, filter, IsSome, is_none, ◌≡◌, ◌⊎◌, ◌↔◌, ◌≢◌, true, false, cond, List, [], ◌∷◌, map, length, All, Contains, bytes_eq, Option, Some, None}
use Rattle.std.specs.List.{list_any}
use Rattle.model.specs.state.Log.{TopicPart, Log, parts_in}
use Rattle.model.specs.step.Walk.{Place}
use Rattle.model.specs.state.World.{Key, Consumer, IsInOrder, names_rise, touched, position_in, once_each}
use Rattle.model.specs.state.World.Mode.{ByTopics, Assigned}
use Rattle.model.specs.state.Entry.{Event, Reply, is_zero}
use Rattle.model.specs.state.Entry.Event.{Committed}
use Rattle.model.specs.state.Entry.Reply.{Done, Broker}
use Rattle.model.specs.step.Fixed.{Fixes, Commits}
use Rattle.model.specs.step.Ends.{IsRefused, IsDone, in_mode, as_assigned, saved_if, same_names, is_in_force, IsWanting}

-- each of these is among those, each once
pub record IsSet (ats : List TopicPart) (places : List Place) : Type 0 where
  pub same : (at : TopicPart) → Contains ats at ↔ Contains (map (λ place. place.at) places) at
  pub order : IsInOrder places

-- What the metadata lacks first, if it is got for each topic in the order of first places: a topic, or a listed partition of it.
abbrev pub lacking : Log → List TopicPart → List TopicPart → Option ℕ
lacking log ats [] = None
lacking log ats (at ∷ rest) =
    cond (list_any (λ t. bytes_eq t.name at.topic) log.topics)
    (cond (list_any (λ other. bytes_eq other.topic at.topic && not (nat_lt other.partition (length (parts_in log.topics other.topic)))) ats) (Some 40402) (lacking log ats rest))
    (Some 40401)

-- the topics lack what is listed, and nothing else is done
abbrev pub IsLacking : ℕ → List TopicPart → Consumer → Log → Option Reply → Option Consumer → Type 0
IsLacking moment ats c a reply c2 = (code : ℕ) × (lacking a ats ats ≡ Some code) × IsRefused code reply (Some (touched moment c)) c2

-- The listed partitions are assigned: one that was assigned keeps its position, each other is fixed, in order.
pub record IsAssigned (key : Key) (moment : ℕ) (ats : List TopicPart) (c : Consumer) (a : Log) (reply : Option Reply) (b : Log) (c2 : Option Consumer) : Type 0 where
  pub mode : c.mode ≢ ByTopics
  pub have : lacking a ats ats ≡ None
  pub places : List Place
  pub set : IsSet ats places
  pub fixes : Fixes (a.committed key.group) c.settings.reset c.assignment a (map (λ place. place.at) places) places b
  pub says : reply ≡ Some Done
  pub left : c2 ≡ Some (as_assigned places moment c)

-- another list comes into force; the next look joins with it
pub record IsSubscribed (moment : ℕ) (names : List (List ℕ)) (c : Consumer) (reply : Option Reply) (c2 : Option Consumer) : Type 0 where
  pub mode : c.mode ≢ Assigned
  pub other : is_in_force c names ≡ false
  pub some : names ≢ []
  pub topics : List (List ℕ)
  pub same : same_names names topics ≡ true
  pub rise : names_rise topics
  pub says : reply ≡ Some Done
  pub left : c2 ≡ Some (in_mode ByTopics topics [] moment c)

-- each of these is assigned
abbrev pub AllAssigned : List TopicPart → Consumer → Type 0
AllAssigned ats c = All (λ at. IsSome (position_in c.assignment at)) ats

-- what a Commit sends: all positions, or a list in which the last offset of a partition counts, at its first place
abbrev pub sent_of : Option (List Place) → Consumer → List Place
sent_of None c = c.assignment
sent_of (Some rows) c = once_each rows

-- the answer of a commit: the first code that isn't 0
abbrev pub first_code : (Place → ℤ) → List Place → Reply
first_code code [] = Done
first_code code (row ∷ rows) = cond (is_zero (code row)) (first_code code rows) (Broker (code row))

-- the rows were answered by these codes
pub record IsCommitted (key : Key) (moment : ℕ) (rows : Option (List Place)) (c : Consumer) (a : Log) (events : List Event) (reply : Option Reply) (b : Log) (c2 : Option Consumer) : Type 0 where
  pub code : Place → ℤ
  pub taken : List Place
  pub took : taken ≡ filter (λ row. is_zero (code row)) (sent_of rows c)
  pub commits : Commits key.group taken a b
  pub order : events ≡ Committed taken ∷ []
  pub ends : IsDone (first_code code (sent_of rows c)) reply (Some (touched moment (saved_if (is_none rows && (length taken == length c.assignment)) c))) c2
      ⊎ IsWanting reply (Some (touched moment c)) c2

-- the committed offsets of a group at these partitions, in order; those without one are left out
abbrev pub offsets_of : (TopicPart → Option ℕ) → List TopicPart → List Place
offsets_of committed [] = []
offsets_of committed (at ∷ ats) = elim (committed at) [ None ↦ offsets_of committed ats | Some offset ↦ record { at = at; position = offset } ∷ offsets_of committed ats ]
