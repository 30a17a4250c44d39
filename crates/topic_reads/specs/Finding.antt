-- What is found of a topic or a partition by what the link tells (Apache Kafka protocol guide, Metadata and ListOffsets).
use Rattle.std.specs.Prelude.{ℕ, ℤ, ⊤, ◌≡◌, Bool, cond, List, [], ◌∷◌, length, Option, Some, None, Result, Ok, Err}
use Rattle.std.specs.Ordering.{int_eq}
use Rattle.model.specs.state.Log.{Log, TopicPart, Between}
use Rattle.model.specs.state.World.Edge.{Start, End}
use Rattle.model.specs.step.Fixed.{HasPart, edge_of}
use Rattle.model.specs.step.Step.{HasTopic, parts_of}
use Rattle.broker_link.specs.Causes as causes
use Rattle.broker_link.specs.Causes.{Counts}
use Rattle.broker_link.specs.Metadata.{NumberedFrom}
use Rattle.broker_link.specs.declared.link.LinkNo.TheVariants.{Want}
use Rattle.broker_link.specs.declared.link.PartInfo.{PartInfo}
use Rattle.broker_link.specs.declared.link.TopicInfo.{TopicInfo}
use Rattle.rest_replies.specs.Found.{told_in}
use Rattle.rest_replies.specs.declared.found.AskNo.{AskNo}
use Rattle.rest_replies.specs.declared.found.AskNo.TheVariants.{NoTopic, NoPartition, Link}

-- the partition has that number
abbrev pub is_numbered : ℤ → PartInfo → Bool
is_numbered number part = int_eq part.number number

-- the first partition of that number
abbrev pub part_of : ℤ → List PartInfo → Option PartInfo
part_of number [] = None
part_of number (part ∷ parts) = cond (is_numbered number part) (Some part) (part_of number parts)

-- a failure of the link has its cause in the counts
abbrev pub ComesOf : Counts → Counts → AskNo → Type 0
ComesOf c d NoTopic = ⊤
ComesOf c d NoPartition = ⊤
ComesOf c d (Link e) = causes.ComesOf c d e

-- nothing but memory was wanting of the link
abbrev pub IsWantIfLinks : AskNo → Type 0
IsWantIfLinks NoTopic = ⊤
IsWantIfLinks NoPartition = ⊤
IsWantIfLinks (Link e) = e ≡ Want

-- the topic is there with these partitions, or the log lacks it
abbrev pub FindsTopic : Log → List ℕ → Result TopicInfo AskNo → Type 0
FindsTopic log name (Ok info) = HasTopic log name × NumberedFrom 0 info.parts × (length info.parts ≡ parts_of log name)
FindsTopic log name (Err NoTopic) = HasTopic log name → ⊥
FindsTopic log name (Err NoPartition) = ⊥
FindsTopic log name (Err (Link e)) = ⊤

-- the topic or the partition is lacking, if that is the cause
abbrev pub Lacks : Log → TopicPart → AskNo → Type 0
Lacks log at NoTopic = HasTopic log at.topic → ⊥
Lacks log at NoPartition = HasTopic log at.topic × (HasPart log at → ⊥)
Lacks log at (Link e) = ⊤

-- the partition is there, or it is lacking
abbrev pub FindsPart : Log → TopicPart → Result PartInfo AskNo → Type 0
FindsPart log at (Ok part) = HasPart log at × (let told = told_in part in told.number ≡ at.partition)
FindsPart log at (Err cause) = Lacks log at cause

-- the partition has these edges at a log between the two, or it is lacking
abbrev pub FindsEdges : Log → Log → TopicPart → Result (ℕ × ℕ) AskNo → Type 0
FindsEdges a b at (Ok edges) = HasPart a at × ((m : Log) × Between a m b × (edges.0 ≡ edge_of Start m at) × (edges.1 ≡ edge_of End m at))
FindsEdges a b at (Err cause) = Lacks a at cause
