-- The texts of these replies, as they are put together (Confluent REST Proxy API v2, brokers, topics and partitions).
use Rattle.std.specs.Prelude.{ℕ, ℤ, ◌++◌, ◌≡◌, ◌⊎◌, codes, decimal, List, [], map, Result, Ok, Err}
use Rattle.std.specs.Fmt.{signed_decimal}
use Rattle.json.specs.Print.{quoted}
use Rattle.model.specs.texts.Bodies.{array, replica_text, told_text}
use Rattle.model.specs.state.Entry.Call.{Ask}
use Rattle.model.specs.state.Forms.{Forms}
use Rattle.model.specs.texts.Texts.{response_of}
use Rattle.broker_link.specs.declared.link.PartInfo.{PartInfo}
use Rattle.broker_link.specs.declared.link.TopicInfo.{TopicInfo}
use Rattle.rest_calls.specs.Questions.{question_of}
use Rattle.rest_calls.specs.Responses.{response_in}
use Rattle.rest_calls.specs.declared.question.Question.{Question}
use Rattle.rest_calls.specs.declared.question.Question.TheVariants as question
use Rattle.rest_codes.specs.declared.response.Reply.{Reply}
use Rattle.rest_codes.specs.declared.response.Reply.TheVariants.{Want}
use Rattle.rest_replies.specs.Failure.{SaysOrWant}
use Rattle.rest_replies.specs.Found.{name_in, refusal_of, reply_in, told_in}
use Rattle.rest_replies.specs.declared.found.AskNo.{AskNo}
use Rattle.rest_replies.specs.declared.found.Found.{Found}
use Rattle.rest_replies.specs.declared.found.Found.TheVariants.{Brokers, Topics, Topic, Partitions, Partition, Edges}

-- a node that has a partition
unfoldable pub replica_line : ℤ → (leader in_sync : List ℕ) → List ℕ
replica_line node leader in_sync =
    codes "{\"broker\":" ++ (signed_decimal node ++ (codes ",\"leader\":" ++ (leader ++ (codes ",\"in_sync\":" ++ (in_sync ++ codes "}")))))

-- a partition
unfoldable pub part_line : (number : ℕ) (leader : ℤ) (replicas : List ℕ) → List ℕ
part_line number leader replicas =
    codes "{\"partition\":" ++ (decimal number ++ (codes ",\"leader\":" ++ (signed_decimal leader ++ (codes ",\"replicas\":" ++ (replicas ++ codes "}")))))

-- a topic, by its quoted name
unfoldable pub topic_line : (name parts : List ℕ) → List ℕ
topic_line name parts = codes "{\"name\":" ++ (name ++ (codes ",\"configs\":{},\"partitions\":" ++ (parts ++ codes "}")))

-- the nodes
unfoldable pub nodes_line : List ℕ → List ℕ
nodes_line nodes = codes "{\"brokers\":" ++ (nodes ++ codes "}")

-- where a partition begins and ends
unfoldable pub edges_line : (start end : ℕ) → List ℕ
edges_line start end = codes "{\"beginning_offset\":" ++ (decimal start ++ (codes ",\"end_offset\":" ++ (decimal end ++ codes "}")))

-- a node that has the partition, as it is told
unfoldable pub node_in : PartInfo → ℤ → List ℕ
node_in part node = replica_text (told_in part) node

-- a topic's name as a JSON string, and a partition as it is told
abbrev pub quoted_name : TopicInfo → List ℕ
quoted_name info = quoted info.name

abbrev pub text_of : PartInfo → List ℕ
text_of part = told_text (told_in part)

-- the name of the topic that a question is about, or an empty one
abbrev pub topic_in : Question → List ℕ
topic_in (question.Topic name) = name
topic_in (question.Partitions name) = name
topic_in _ = []

-- the body for an answer, to a question about a topic of that name
abbrev pub body_of : List ℕ → Found → List ℕ
body_of name (Brokers ids) = nodes_line (array (map signed_decimal ids))
body_of name (Topics infos) = array (map quoted (map name_in infos))
body_of name (Topic info) = topic_line (quoted name) (array (map told_text (map told_in info.parts)))
body_of name (Partitions info) = array (map told_text (map told_in info.parts))
body_of name (Partition part) = told_text (told_in part)
body_of name (Edges start end) = edges_line start end

-- what was found is what the question asks for
abbrev pub Fits : Question → Found → Type 0
Fits question.Brokers x = (ids : List ℤ) × (x ≡ Brokers ids)
Fits question.Topics x = (infos : List TopicInfo) × (x ≡ Topics infos)
Fits (question.Topic name) x = (info : TopicInfo) × (x ≡ Topic info)
Fits (question.Partitions name) x = (info : TopicInfo) × (x ≡ Partitions info)
Fits (question.Partition at) x = (part : PartInfo) × (x ≡ Partition part)
Fits (question.EndOffsets at) x = (start : ℕ) × ((end : ℕ) × (x ≡ Edges start end))

-- the reply says what was found for the question, or why nothing was, or memory was wanting
abbrev pub SaysFound : Question → Result Found AskNo → Reply → Type 0
SaysFound q (Ok x) said = Fits q x → ((advertise : List ℕ) (forms : Forms) → response_in said ≡ response_of advertise forms (Ask (question_of q)) (reply_in x)) ⊎ (said ≡ Want)
SaysFound q (Err cause) said = SaysOrWant (refusal_of cause) said
