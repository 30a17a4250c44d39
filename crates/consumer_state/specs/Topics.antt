-- Which topics and partitions of a list are lacking, by the metadata of one topic after another (Confluent REST Proxy API v2, assignments).
use Rattle.std.specs.Prelude.{ℕ, ⊤, ◌+◌, ◌≡◌, ◌&&◌, not, nat_lt, Bool, cond, List, length, All, bytes_eq, Option, Some, None, Result, Ok, Err, take}
use Rattle.std.specs.List.{list_any}
use Rattle.model.specs.state.Log.{TopicPart, Log, parts_in}
use Rattle.model.specs.step.Rules.{lacking}
use Rattle.consumer_state.specs.declared.topics.AssignNo.{AssignNo}
use Rattle.consumer_state.specs.declared.topics.AssignNo.TheVariants.{NoTopic, NoPartition, Failed}

-- a partition of the topic, behind its last one
abbrev pub is_beyond : List ℕ → ℕ → TopicPart → Bool
is_beyond topic count at = bytes_eq at.topic topic && not (nat_lt at.partition count)

-- the log has a topic of that name
abbrev pub has_topic : Log → List ℕ → Bool
has_topic log topic = list_any (λ t. bytes_eq t.name topic) log.topics

-- what a topic lacks of those listed
abbrev pub topic_code : Log → List TopicPart → List ℕ → Option ℕ
topic_code log ats topic =
    cond (has_topic log topic)
    (cond (list_any (λ other. bytes_eq other.topic topic && not (nat_lt other.partition (length (parts_in log.topics other.topic)))) ats) (Some 40402) None)
    (Some 40401)

-- the topics of these lack nothing of what is listed
abbrev pub Pass : Log → List TopicPart → List TopicPart → Type 0
Pass log ats passed = All (λ at. topic_code log ats at.topic ≡ None) passed

-- one place more passes, or what is lacking first is answered
abbrev pub FitsNext : {T : Type 0} → Log → List TopicPart → ℕ → Result T AssignNo → Type 0
FitsNext log ats place (Ok x) = Pass log ats (take (place + 1) ats)
FitsNext log ats place (Err NoTopic) = lacking log ats ats ≡ Some 40401
FitsNext log ats place (Err NoPartition) = lacking log ats ats ≡ Some 40402
FitsNext log ats place (Err (Failed e)) = ⊤
