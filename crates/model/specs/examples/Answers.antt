-- Small logs and consumers on which single answers are shown: Apache Kafka protocol guide, error code 27 (REBALANCE_IN_PROGRESS).
use Rattle.std.specs.Prelude.{true, [], ◌∷◌, None, ℕ, ◌≡◌, List, Option, Some, All, false, pos, IsTrue, ◌⊎◌}
use Rattle.model.specs.state.Log.{Log, TopicPart}
use Rattle.model.specs.step.Walk.{Place}
use Rattle.model.specs.state.World.{Consumer, Key, once_parts, Json, touched, Format, Unset}
use Rattle.model.specs.state.World.Format.{Binary}
use Rattle.model.specs.state.World.Edge.{Start}
use Rattle.model.specs.state.World.Mode.{Assigned}
use Rattle.model.specs.step.Fixed.{with_commits, SameCommits}
use Rattle.model.specs.examples.Example.{orders, one_row, reader, turn, shown_item}
use Rattle.model.specs.step.Asked.{Tells}
use Rattle.model.specs.step.Look.{Looks, allows, IsLook, moved, is_due, is_listed}
use Rattle.model.specs.state.Entry.{Turn, Names, Looked, Event, Reply, Shown, Seek, Delete, LinkFault, Broker, Records, IsLinks}
use Rattle.model.specs.state.Entry.Question.{Topics}
use Rattle.model.specs.state.Entry.Event.{Committed}
use Rattle.model.specs.step.Acts.{Live}

-- two topics without partitions, the later by name first
abbrev pub two_topics : Log
two_topics = record { topics = record { name = 1 ∷ []; parts = [] } ∷ record { name = 0 ∷ []; parts = [] } ∷ []; committed = λ group at. None; others = 0 }

-- the start of the one partition
abbrev pub at_start : Place
at_start = record { at = orders; position = 0 }

-- a consumer at the start, of which an auto commit is due
abbrev pub saver : Consumer
saver = record { settings = record { format = Binary; reset = Start; auto_commit = true; min_bytes = 1; timeout_ms = 0 }; mode = Assigned; topics = []; assignment = at_start ∷ []; rotation = 0; unsaved = true; last_use = 0 }

-- the log once that commit was taken
abbrev pub saved_log : Log
saved_log = record { topics = one_row.topics; committed = with_commits reader.group (at_start ∷ []) one_row.committed; others = 0 }

-- a Records call in another format than the instance's commits nothing
abbrev pub RefusedLooksCommitNothing : Type 0
RefusedLooksCommitNothing =
    (key : Key) (turn : Turn) (c : Consumer) (a : Log) (events : List Event) (reply : Option Reply) (b : Log) (c2 : Option Consumer)
    → allows (Json ∷ []) c.settings.format ≡ false → Live key 0 turn (Records (Json ∷ []) None None) c a events reply b c2 → SameCommits a b

-- a seek isn't answered by a fault of the link
abbrev pub SeeksHaveNoFault : Type 0
SeeksHaveNoFault =
    (key : Key) (turn : Turn) (c : Consumer) (a : Log) (news : List Place) (events : List Event) (b : Log) (c2 : Option Consumer)
    → Live key 0 turn (Seek news) c a events (Some LinkFault) b c2 → ⊥

-- a Delete isn't answered by a broker's code
abbrev pub DeletesHaveNoCode : Type 0
DeletesHaveNoCode =
    (key : Key) (turn : Turn) (c : Consumer) (a : Log) (events : List Event) (b : Log) (c2 : Option Consumer)
    → Live key 0 turn Delete c a events (Some (Broker (pos 16))) b c2 → ⊥

-- a place of a rebalance begins at the offset that the group has committed
abbrev pub RebalancesReadCommits : Type 0
RebalancesReadCommits =
    (key : Key) (moment : ℕ) (turn : Turn) (timeout bound : Option ℕ) (c : Consumer) (a : Log) (events : List Event) (reply : Option Reply) (b : Log) (c2 : Option Consumer) (places : List Place)
    → (look : IsLook key moment turn timeout bound c a events reply b c2) → look.placed ≡ Some places
    → All (λ (place : Place). (offset : ℕ) → b.committed key.group place.at ≡ Some offset → place.position ≡ offset) places

-- an auto commit that is due comes first, or the look is ended by it
abbrev pub DueCommitsCome : Type 0
DueCommitsCome =
    (key : Key) (moment : ℕ) (turn : Turn) (timeout bound : Option ℕ) (c : Consumer) (a : Log) (events : List Event) (reply : Option Reply) (b : Log) (c2 : Option Consumer)
    → IsLook key moment turn timeout bound c a events reply b c2 → is_due c turn.round ≡ true
    → ((rows : List Place) × (rest : List Event) × (events ≡ Committed rows ∷ rest)) ⊎ ((events ≡ []) × ((why : Reply) × IsLinks why × (reply ≡ Some why)))

-- the places of a rebalance are of topics in the subscription
abbrev pub RebalancesAreListed : Type 0
RebalancesAreListed =
    (key : Key) (moment : ℕ) (turn : Turn) (timeout bound : Option ℕ) (c : Consumer) (a : Log) (events : List Event) (reply : Option Reply) (b : Log) (c2 : Option Consumer) (places : List Place)
    → (look : IsLook key moment turn timeout bound c a events reply b c2) → look.placed ≡ Some places
    → All (λ (place : Place). IsTrue (is_listed c.topics place.at.topic)) places

-- where nothing is subscribed or assigned a look sends nothing, so the link can't have failed
abbrev pub QuietLooksHaveNoFault : Type 0
QuietLooksHaveNoFault =
    (key : Key) (moment : ℕ) (turn : Turn) (formats : List Format) (timeout bound : Option ℕ) (c : Consumer) (a : Log) (events : List Event) (b : Log) (c2 : Option Consumer)
    → c.mode ≡ Unset → c.assignment ≡ [] → Looks key moment turn formats timeout bound c a events (Some LinkFault) b c2 → ⊥

-- a partition that is asked for twice is told once
abbrev pub RepeatsAreToldOnce : Type 0
RepeatsAreToldOnce =
    (at : TopicPart) → once_parts [] (at ∷ at ∷ []) ≡ at ∷ []

-- topics are told by the bytes of their names
abbrev pub TopicsAreSorted : Type 0
TopicsAreSorted =
    Tells Topics two_topics two_topics (Names ((0 ∷ []) ∷ (1 ∷ []) ∷ []))

-- an auto commit that was taken and then refused by 27 as a whole is passed over, and the look shows its row
abbrev pub RefusalsArePassedOver : Type 0
RefusalsArePassedOver =
    Looks reader 0 turn [] None None saver one_row (Committed [] ∷ Looked 0 ∷ []) (Some (Shown Binary (shown_item ∷ []))) saved_log
    (Some (touched 0 (moved (shown_item ∷ []) saver)))
