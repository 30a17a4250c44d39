-- An example history of a subscription over the Confluent REST Proxy API v2: two partitions with a record each are given, read and committed.
use Rattle.std.specs.Prelude.{ℕ, Bool, false, codes, List, [], ◌∷◌, Option, Some, None}
use Rattle.model.specs.state.Log.{TopicPart, Log}
use Rattle.model.specs.step.Walk.{Place, Item}
use Rattle.model.specs.state.World.{Consumer}
use Rattle.model.specs.state.World.Edge.{Start}
use Rattle.model.specs.state.World.Format.{Binary}
use Rattle.model.specs.state.World.Mode.{ByTopics, Unset}
use Rattle.model.specs.state.Entry.{Given, Entry}
use Rattle.model.specs.state.Entry.Act.{Create, Delete, Subscribe, Subscription, Unsubscribe, Assign, Assignments, Commit, Fixed, Records}
use Rattle.model.specs.state.Entry.Call.{Produce}
use Rattle.model.specs.state.Entry.Event.{Committed, Rebalanced, Looked}
use Rattle.model.specs.state.Entry.Placed.{Stored}
use Rattle.model.specs.state.Entry.Reply.{Done, Made, Names, Offsets, Listed, Answers, Shown, Refused}
use Rattle.model.specs.step.Fixed.{with_commits}
use Rattle.model.specs.history.Legal.{Tally}
use Rattle.model.specs.examples.Readings.{orders, other_orders, kafka_at, reader, settings_of, entry, entry_of}

-- what groups have committed
abbrev pub Commitments : Type 0
Commitments = List ℕ → TopicPart → Option ℕ

-- the log with a record in each partition, or in none, and these commits
abbrev pub both : Commitments → Log
both committed = record {
  topics = record { name = codes "orders"; parts = record { start = 0; end = 1; rows = kafka_at 0 ∷ [] } ∷ record { start = 0; end = 1; rows = kafka_at 0 ∷ [] } ∷ [] } ∷ [];
  committed = committed;
  others = 0;
}

-- nothing at all
abbrev pub none_committed : Commitments
none_committed = λ group at. None

-- both partitions at one position
abbrev pub both_at : ℕ → List Place
both_at position = record { at = orders; position = position } ∷ record { at = other_orders; position = position } ∷ []

-- the first partition at 7
abbrev pub at_seven : List Place
at_seven = record { at = orders; position = 7 } ∷ []

-- the group's commits once both were committed at 1
abbrev pub once_committed : Commitments
once_committed = with_commits reader.group (both_at 1) none_committed

-- and then the first at 7
abbrev pub twice_committed : Commitments
twice_committed = with_commits reader.group at_seven once_committed

-- the consumer with the topic subscribed and these places
abbrev pub member : List Place → Bool → Consumer
member places unsaved = record { settings = settings_of Start; mode = ByTopics; topics = codes "orders" ∷ []; assignment = places; rotation = 0; unsaved = unsaved; last_use = 0 }

-- the consumer without a subscription
abbrev pub unsubscribed : Consumer
unsubscribed = record { settings = settings_of Start; mode = Unset; topics = []; assignment = []; rotation = 0; unsaved = false; last_use = 0 }

-- a record that names a partition
abbrev pub given_to : ℕ → Given
given_to partition = record { partition = Some partition; key = None; value = Some (codes "Kafka") }

-- the first record of each partition
abbrev pub first_items : List Item
first_items = record { at = orders; row = kafka_at 0 } ∷ record { at = other_orders; row = kafka_at 0 } ∷ []

-- a record is stored in each partition
abbrev pub both_produced : Entry
both_produced = entry_of (Produce (codes "orders") (record { key_id = None; value_id = None; records = given_to 0 ∷ given_to 1 ∷ [] })) [] (Answers (Stored 0 0 ∷ Stored 1 0 ∷ []))

-- The consumer is given both partitions and shown both records; the next look commits its positions. A commit of an own list, in which
-- the last offset of a repeat counts, and what is asked of a consumer by topics.
abbrev pub read_by_subscription : List Entry
read_by_subscription =
    both_produced
    ∷ entry (Create (settings_of Start)) [] Made
    ∷ entry (Subscribe (codes "orders" ∷ codes "orders" ∷ [])) [] Done
    ∷ entry (Records [] (Some 0) None) (Rebalanced (both_at 0) ∷ Looked 0 ∷ []) (Shown Binary first_items)
    ∷ entry (Records [] (Some 0) None) (Committed (both_at 1) ∷ Looked 0 ∷ []) (Shown Binary [])
    ∷ entry (Fixed (orders ∷ other_orders ∷ orders ∷ [])) [] (Offsets (both_at 1))
    ∷ entry (Commit (Some (record { at = orders; position = 5 } ∷ at_seven))) (Committed at_seven ∷ []) Done
    ∷ entry Subscription [] (Names (codes "orders" ∷ []))
    ∷ entry (Assign (orders ∷ [])) [] (Refused 40903)
    ∷ entry Unsubscribe [] Done
    ∷ entry Assignments [] (Listed [])
    ∷ entry Delete [] Done
    ∷ []

-- it owes a poll for the rebalance, and two looks of a consumer by topics
abbrev pub two_looks : Tally
two_looks = record { faults = 0; refusals = 0; short = 0; placed = 1; looks = 2 }

-- what it owes behind the first of these
abbrev pub one_look : Tally
one_look = record { faults = 0; refusals = 0; short = 0; placed = 0; looks = 1 }
