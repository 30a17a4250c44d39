-- What a step may commit: Apache Kafka's committed offsets of a group, and `enable.auto.commit`.
use Rattle.std.specs.Prelude.{ℕ, ◌≡◌, ◌⊎◌, Bool, false, bytes_eq, List, Option, Some, None}
use Rattle.model.specs.state.Log.{TopicPart, Log}
use Rattle.model.specs.state.World.{Key, Format, Consumer, World, IsInOrder, position_in}
use Rattle.model.specs.state.Entry.{Call, Event, Reply, Turn, Entry}
use Rattle.model.specs.state.Entry.Call.{Produce, Ask, Of}
use Rattle.model.specs.step.Look.{Looks}
use Rattle.model.specs.step.Step.{Step}

-- the call is of a consumer of this group
abbrev pub is_in_group : List ℕ → Option Call → Bool
is_in_group group None = false
is_in_group group (Some (Produce topic batch)) = false
is_in_group group (Some (Ask question)) = false
is_in_group group (Some (Of key act)) = bytes_eq key.group group

-- what a group has committed stays over the calls of others
abbrev pub OtherGroupsStay : Type 0
OtherGroupsStay =
    (idle : ℕ) (w : World) (a : Log) (e : Entry) (b : Log) (w2 : World) (group : List ℕ) (at : TopicPart)
    → Step idle w a e b w2 → is_in_group group e.call ≡ false → b.committed group at ≡ a.committed group at

-- a look commits no offset but the position that the consumer had before it
abbrev pub LooksCommitPositions : Type 0
LooksCommitPositions =
    (key : Key) (moment : ℕ) (turn : Turn) (formats : List Format) (timeout bound : Option ℕ) (c : Consumer) (a : Log) (events : List Event) (reply : Option Reply) (b : Log) (c2 : Option Consumer) (at : TopicPart)
    → IsInOrder c.assignment → Looks key moment turn formats timeout bound c a events reply b c2
    → (b.committed key.group at ≡ a.committed key.group at) ⊎ ((position : ℕ) × (position_in c.assignment at ≡ Some position) × (b.committed key.group at ≡ Some position))
