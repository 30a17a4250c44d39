-- What metadata tells of a log.
use Rattle.std.specs.Prelude.{◌≡◌, ℕ, ◌+◌, pos, List, [], ◌∷◌, length, filter, All, AllPairs, Option, Some, None, bytes_eq}
use Rattle.std.specs.Ordering.{is_lt, nat_cmp}
use Rattle.std.specs.Cmp.Lexicographic.{slice_cmp}
use Rattle.std.specs.Prelude.{true, Contains}
use Rattle.model.specs.state.Log.{Topic, Log}
use Rattle.broker_link.specs.declared.link.PartInfo.{PartInfo}
use Rattle.broker_link.specs.declared.link.TopicInfo.{TopicInfo}

-- the partitions are numbered from a first number on, without a gap
abbrev pub NumberedFrom : ℕ → List PartInfo → Type 0
NumberedFrom n [] = Unit {0}
NumberedFrom n (part ∷ parts) = (part.number ≡ pos n) × NumberedFrom (n + 1) parts

-- what is told of one topic: its name, and its partitions by number
pub record IsInfo (topic : Topic) (info : TopicInfo) : Type 0 where
  pub name : info.name ≡ topic.name
  pub count : length info.parts ≡ length topic.parts
  pub numbers : NumberedFrom 0 info.parts

-- the topics of that name, or all topics
abbrev pub asked : Option (List ℕ) → List Topic → List Topic
asked None topics = topics
asked (Some name) topics = filter (λ t. bytes_eq t.name name) topics

-- the names rise by their bytes
abbrev pub AreSorted : List TopicInfo → Type 0
AreSorted infos = AllPairs (λ x y. is_lt (slice_cmp nat_cmp x.name y.name) ≡ true) infos

-- the answer has each topic asked for once, sorted, as the log has it, and no other
pub record IsMetadata (name : Option (List ℕ)) (log : Log) (infos : List TopicInfo) : Type 0 where
  pub sorted : AreSorted infos
  pub each : All (λ info. (topic : Topic) × Contains (asked name log.topics) topic × IsInfo topic info) infos
  pub all : All (λ topic. (info : TopicInfo) × Contains infos info × IsInfo topic info) (asked name log.topics)
