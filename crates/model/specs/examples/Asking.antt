-- An example history of questions on topics: Confluent REST Proxy API v2, brokers, topics and partitions.
use Rattle.std.specs.Prelude.{ℕ, pos, codes, List, [], ◌∷◌}
use Rattle.model.specs.state.Log.{TopicPart}
use Rattle.model.specs.state.Entry.{PartTold, Question, Reply, Entry}
use Rattle.model.specs.state.Entry.Call.{Ask}
use Rattle.model.specs.state.Entry.Question.{Brokers, Topics, OneTopic, Parts, OnePart, EndOffsets}
use Rattle.model.specs.state.Entry.Reply.{Names, Nodes, Told, Edged, Refused}
use Rattle.model.specs.examples.Readings.{orders, entry_of}

-- a partition that node 1 leads and has alone
abbrev pub on_node_one : ℕ → PartTold
on_node_one number = record { number = number; leader = pos 1; replicas = pos 1 ∷ []; in_sync = pos 1 ∷ [] }

-- both partitions of the topic
abbrev pub both_parts : List PartTold
both_parts = on_node_one 0 ∷ on_node_one 1 ∷ []

-- a third one, which isn't there
abbrev pub third_orders : TopicPart
third_orders = record { topic = codes "orders"; partition = 2 }

-- a question and its answer
abbrev pub asked : Question → Reply → Entry
asked question reply = entry_of (Ask question) [] reply

-- What is answered of a topic with three records in the first of its two partitions, of another topic and of a partition that isn't there.
abbrev pub questions : List Entry
questions =
    asked Brokers (Nodes (pos 1 ∷ []))
    ∷ asked Topics (Names (codes "orders" ∷ []))
    ∷ asked (OneTopic (codes "orders")) (Told both_parts)
    ∷ asked (Parts (codes "orders")) (Told both_parts)
    ∷ asked (OnePart orders) (Told (on_node_one 0 ∷ []))
    ∷ asked (EndOffsets orders) (Edged 0 3)
    ∷ asked (OneTopic (codes "nope")) (Refused 40401)
    ∷ asked (Parts (codes "nope")) (Refused 40401)
    ∷ asked (OnePart third_orders) (Refused 40402)
    ∷ asked (EndOffsets third_orders) (Refused 40402)
    ∷ []
