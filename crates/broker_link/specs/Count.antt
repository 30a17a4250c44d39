-- How many partitions a topic has, by its metadata (Apache Kafka protocol guide, Metadata).
use Rattle.std.specs.Prelude.{◌≡◌, ℕ, List, [], ◌∷◌, length, Option, Some, None}
use Rattle.model.specs.state.Log.{Log}
use Rattle.model.specs.step.Step.{HasTopic, parts_of}
use Rattle.broker_link.specs.declared.link.TopicInfo.{TopicInfo}

-- the number of partitions of the first topic told
abbrev pub count_in : List TopicInfo → Option ℕ
count_in [] = None
count_in (info ∷ infos) = Some (length info.parts)

-- the log has the topic with so many partitions, or lacks the topic
abbrev pub IsCount : Log → List ℕ → Option ℕ → Type 0
IsCount log topic None = HasTopic log topic → ⊥
IsCount log topic (Some n) = HasTopic log topic × (parts_of log topic ≡ n)
