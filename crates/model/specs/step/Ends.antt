-- How a call of a consumer ends, and the consumer in its modes: subscription and assignment exclude each other, as in Apache Kafka's consumer.
use Rattle.std.specs.Prelude.{ℕ, ◌&&◌, not, ◌≡◌, ◌⊎◌, ◌≢◌, Bool, true, false, List, [], ◌∷◌, bytes_eq, Option, Some}
use Rattle.std.specs.List.{list_any, list_all}
use Rattle.model.specs.step.Walk.{Place}
use Rattle.model.specs.state.World.{Mode, Consumer, touched, with_positions}
use Rattle.model.specs.state.World.Mode.{Unset, ByTopics, Assigned}
use Rattle.model.specs.state.Entry.{Reply, IsLinks}
use Rattle.model.specs.state.Entry.Reply.{Refused, Want}
use Rattle.model.specs.step.Look.{with_assignment}

-- the reply is one of the link's, and the consumer is only touched
pub record IsCut (reply : Option Reply) (c1 : Option Consumer) (c2 : Option Consumer) : Type 0 where
  pub why : Reply
  pub links : IsLinks why
  pub says : reply ≡ Some why
  pub left : c2 ≡ c1

-- the call was refused by this code, and the consumer is as said
pub record IsRefused (code : ℕ) (reply : Option Reply) (c1 : Option Consumer) (c2 : Option Consumer) : Type 0 where
  pub says : reply ≡ Some (Refused code)
  pub left : c2 ≡ c1

-- the call was answered so, and the consumer is as said
pub record IsDone (answer : Reply) (reply : Option Reply) (c1 : Option Consumer) (c2 : Option Consumer) : Type 0 where
  pub says : reply ≡ Some answer
  pub left : c2 ≡ c1

-- the consumer in a mode, with a topic list and places
abbrev pub in_mode : Mode → List (List ℕ) → List Place → ℕ → Consumer → Consumer
in_mode mode topics places moment c = record { settings = c.settings; mode = mode; topics = topics; assignment = places; rotation = 0; unsaved = c.unsaved; last_use = moment }

-- the consumer with these places assigned; an empty list assigns none
abbrev pub as_assigned : List Place → ℕ → Consumer → Consumer
as_assigned [] moment c = in_mode Unset [] [] moment c
as_assigned (place ∷ places) moment c = in_mode Assigned [] (place ∷ places) moment c

-- the consumer with new positions, and used
abbrev pub at_positions : List Place → ℕ → Consumer → Consumer
at_positions news moment c = touched moment (with_assignment (with_positions news c.assignment) c.rotation c.unsaved c)

-- the consumer with nothing unsaved, where all of it was committed
abbrev pub saved_if : Bool → Consumer → Consumer
saved_if all c = with_assignment c.assignment c.rotation (c.unsaved && not all) c

-- two lists have the same names
abbrev pub has_name : List (List ℕ) → List ℕ → Bool
has_name names name = list_any (λ other. bytes_eq other name) names

-- each name of either list is in the other
abbrev pub same_names : List (List ℕ) → List (List ℕ) → Bool
same_names xs ys = list_all (has_name ys) xs && list_all (has_name xs) ys

-- the mode is that of a subscription
abbrev pub is_by_topics : Mode → Bool
is_by_topics ByTopics = true
is_by_topics _ = false

-- the subscription that is in force
abbrev pub is_in_force : Consumer → List (List ℕ) → Bool
is_in_force c names = is_by_topics c.mode && same_names names c.topics

-- memory was wanting, and the consumer is only touched
pub record IsWanting (reply : Option Reply) (c1 : Option Consumer) (c2 : Option Consumer) : Type 0 where
  pub says : reply ≡ Some Want
  pub left : c2 ≡ c1

-- the reply and the consumer behind a call that asks the link: as said, or used alone where the link or memory failed
abbrev pub Ends : ℕ → Consumer → Option Reply → Option Consumer → Type 0 → Type 0
Ends moment c reply c2 well = well ⊎ IsCut reply (Some (touched moment c)) c2

-- the same of a call that asks the link nothing, or doesn't look at what it answers
abbrev pub EndsAlone : ℕ → Consumer → Option Reply → Option Consumer → Type 0 → Type 0
EndsAlone moment c reply c2 well = well ⊎ IsWanting reply (Some (touched moment c)) c2

-- the same of a call that asks the link only where a list isn't empty
abbrev pub EndsIf : {A : Type 0} → List A → ℕ → Consumer → Option Reply → Option Consumer → Type 0 → Type 0
EndsIf asked moment c reply c2 well = well ⊎ (IsWanting reply (Some (touched moment c)) c2 ⊎ ((asked ≢ []) × IsCut reply (Some (touched moment c)) c2))
