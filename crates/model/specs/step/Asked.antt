-- What is answered to a produce and of the topics: Confluent REST Proxy API v2, topics and partitions.
use Rattle.std.specs.Prelude.{ℕ, ℤ, zero, suc, ◌<ℤ◌, IsPermutation, AllPairs, ◌+◌, ◌≡◌, ◌⊎◌, List, [], ◌∷◌, map, length, All, bytes_eq, IsTrue, Option, Some}
use Rattle.std.specs.List.{list_any}
use Rattle.model.specs.state.Log.{Log, Between, parts_in}
use Rattle.model.specs.state.World.{names_rise}
use Rattle.model.specs.state.World.Edge.{Start, End}
use Rattle.model.specs.state.Entry.{Question, Reply, Batch, PartTold, Placed, IsLinks}
use Rattle.model.specs.state.Entry.Question.{Brokers, Topics, OneTopic, Parts, OnePart, EndOffsets}
use Rattle.model.specs.state.Entry.Reply.{Names, Nodes, Edged, Told, Answers, Refused}
use Rattle.model.specs.step.Fixed.{HasPart, edge_of}
use Rattle.model.specs.step.Produced.{Answered, Unknown, NoneAdded, chosen, has_room}

-- the log has a topic of that name
abbrev pub HasTopic : Log → List ℕ → Type 0
HasTopic log name = IsTrue (list_any (λ t. bytes_eq t.name name) log.topics)

-- how many partitions the topic has
abbrev pub parts_of : Log → List ℕ → ℕ
parts_of log topic = length (parts_in log.topics topic)

-- each record of the batch was answered: the topics have its partition, and it is stored or its partition was refused
pub record IsProduced (a b : Log) (topic : List ℕ) (batch : Batch) (reply : Option Reply) : Type 0 where
  pub have : HasTopic a topic
  pub room : All (has_room (parts_of a topic)) batch.records
  pub answers : List Placed
  pub answered : Answered a b topic (chosen (parts_of a topic) 0 batch.records) answers
  pub says : reply ≡ Some (Answers answers)

-- The link failed, refused or found no memory: nothing was sent, or each partition has all of its records or none.
pub record IsUnproduced (a b : Log) (topic : List ℕ) (batch : Batch) (reply : Option Reply) : Type 0 where
  pub unknown : ((HasTopic a topic × All (has_room (parts_of a topic)) batch.records) × Unknown a b topic (chosen (parts_of a topic) 0 batch.records)) ⊎ NoneAdded a b
  pub why : Reply
  pub links : IsLinks why
  pub says : reply ≡ Some why

-- how a produce ends
abbrev pub ProduceEnds : Log → Log → List ℕ → Batch → Option Reply → Type 0
ProduceEnds a b topic batch reply =
    IsProduced a b topic batch reply
    ⊎ (((HasTopic a topic → ⊥) × NoneAdded a b × (reply ≡ Some (Refused 40401)))
    ⊎ ((HasTopic a topic × (All (has_room (parts_of a topic)) batch.records → ⊥) × NoneAdded a b × (reply ≡ Some (Refused 40402)))
    ⊎ IsUnproduced a b topic batch reply))

-- the partitions are told by their numbers from a first one on
abbrev pub numbers : ℕ → ℕ → List ℕ
numbers first zero = []
numbers first (suc n) = first ∷ numbers (first + 1) n

-- these are the partitions of the topic; who leads and has them is the link's
abbrev pub TellsParts : Log → List ℕ → List PartTold → Type 0
TellsParts a name parts = map (λ p. p.number) parts ≡ numbers 0 (parts_of a name)

-- what is told of the topics; node numbers are the link's
abbrev pub Tells : Question → Log → Log → Reply → Type 0
Tells Brokers a b reply = (nodes : List ℤ) × AllPairs (λ x y. x <ℤ y) nodes × (reply ≡ Nodes nodes)
Tells Topics a b reply = (names : List (List ℕ)) × names_rise names × IsPermutation (map (λ t. t.name) a.topics) names × (reply ≡ Names names)
Tells (OneTopic name) a b reply = ((HasTopic a name → ⊥) × (reply ≡ Refused 40401)) ⊎ (HasTopic a name × ((parts : List PartTold) × TellsParts a name parts × (reply ≡ Told parts)))
Tells (Parts name) a b reply = ((HasTopic a name → ⊥) × (reply ≡ Refused 40401)) ⊎ (HasTopic a name × ((parts : List PartTold) × TellsParts a name parts × (reply ≡ Told parts)))
Tells (OnePart at) a b reply =
    ((HasTopic a at.topic → ⊥) × (reply ≡ Refused 40401))
    ⊎ ((HasTopic a at.topic × (HasPart a at → ⊥) × (reply ≡ Refused 40402)) ⊎ (HasPart a at × ((part : PartTold) × (part.number ≡ at.partition) × (reply ≡ Told (part ∷ [])))))
Tells (EndOffsets at) a b reply =
    ((HasTopic a at.topic → ⊥) × (reply ≡ Refused 40401))
    ⊎ ((HasTopic a at.topic × (HasPart a at → ⊥) × (reply ≡ Refused 40402)) ⊎ (HasPart a at × ((m : Log) × Between a m b × (reply ≡ Edged (edge_of Start m at) (edge_of End m at)))))

-- the question was answered, or the link failed or refused
abbrev pub IsAnswered : Question → Log → Log → Option Reply → Type 0
IsAnswered question a b reply = (said : Reply) × (reply ≡ Some said) × (Tells question a b said ⊎ IsLinks said)
