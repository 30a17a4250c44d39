-- The reply that stands for what a call is told: the bodies and error codes of the Confluent REST Proxy API v2.
use Rattle.std.specs.Prelude.{ℕ, ℤ, ◌==◌, cond, codes, decimal, List, ◌++◌, map, Option, Some, None}
use Rattle.std.specs.Fmt.{signed_decimal}
use Rattle.json.specs.Print.{quoted}
use Rattle.model.specs.step.Walk.{Item}
use Rattle.model.specs.state.World.{Format}
use Rattle.model.specs.state.Forms.{Forms}
use Rattle.model.specs.state.Entry.{Call, Placed, PartTold, Reply}
use Rattle.model.specs.state.Entry.Question.{OneTopic, OnePart}
use Rattle.model.specs.state.Entry.Call.{Produce, Ask, Of}
use Rattle.model.specs.state.Entry.Reply.{Done, Made, Names, Nodes, Offsets, Told, Edged, Listed, Answers, Shown, Unread, Refused, Broker, LinkFault, Want}
pub use Rattle.model.specs.texts.Bodies.{joined, array, bool_text, part_text, offset_text, same_node, replica_text, told_text, is_retriable, placed_text, id_text, showing_text, item_text, is_plain, path_byte, made_text, answers_text}

-- a reply of the code; where it is the success of a Records call its media type is that of the format
pub data Response : Type 0 where
  Empty : Response
  Body : (format : Option Format) (text : List ℕ) → Response
  Error : (code : ℕ) (text : List ℕ) → Response
  Wanting : Response

-- an error's code and message
abbrev pub error_text : ℕ → List ℕ → Response
error_text code message = Error code (codes "{\"error_code\":" ++ (decimal code ++ (codes ",\"message\":" ++ (quoted message ++ codes "}"))))

-- the message of a code of the gateway
abbrev pub message_of : ℕ → List ℕ
message_of code =
    cond (code == 40401) (codes "Topic not found.")
    (cond (code == 40402) (codes "Partition not found.")
    (cond (code == 40403) (codes "Consumer instance not found.")
    (cond (code == 40601) (codes "Consumer format does not match the Accept header.")
    (cond (code == 40902) (codes "Consumer instance with the specified name already exists.")
    (cond (code == 40903) (codes "Subscription to topics, partitions and pattern are mutually exclusive.") (codes "Partition is not assigned to this instance."))))))

-- a broker's code: 50003 where it is retriable, else 50002
abbrev pub broker_text : ℤ → Response
broker_text code =
    cond (is_retriable code) (error_text 50003 (codes "Kafka retriable error: broker code " ++ (signed_decimal code ++ codes "."))) (error_text 50002 (codes "Kafka error: broker code " ++ (signed_decimal code ++ codes ".")))

-- a row that doesn't read, by its place and the reason
abbrev pub unread_text : Item → ℕ → Response
unread_text item reason =
    let at = item.at in
    let row = item.row in
    error_text 50002 (codes "Record does not read: topic " ++ (at.topic ++ (codes ", partition " ++ (decimal at.partition ++ (codes ", offset " ++ (decimal row.offset ++ (codes ", reason " ++ (decimal reason ++ codes "."))))))))

-- a body that isn't of records
abbrev pub plain : List ℕ → Response
plain text = Body None text

-- a topic, its partitions, or one partition
abbrev pub told_of : Call → List PartTold → Response
told_of (Ask (OneTopic name)) parts = plain (codes "{\"name\":" ++ (quoted name ++ (codes ",\"configs\":{},\"partitions\":" ++ (array (map told_text parts) ++ codes "}"))))
told_of (Ask (OnePart at)) parts = plain (joined (map told_text parts))
told_of _ parts = plain (array (map told_text parts))

-- a subscription, or the topics
abbrev pub names_of : Call → List (List ℕ) → Response
names_of (Of key act) names = plain (codes "{\"topics\":" ++ (array (map quoted names) ++ codes "}"))
names_of _ names = plain (array (map quoted names))

-- a new instance
abbrev pub made_of : List ℕ → Call → Response
made_of advertise (Of key act) = plain (made_text advertise key)
made_of advertise _ = Wanting

-- the answer to a produce
abbrev pub answered_of : Call → List Placed → Response
answered_of (Produce topic batch) answers = plain (answers_text batch answers)
answered_of _ answers = Wanting

-- what a call is answered, with the advertised name and the forms of the turn
abbrev pub response_of : (advertise : List ℕ) → Forms → Call → Reply → Response
response_of advertise forms call Done = Empty
response_of advertise forms call Made = made_of advertise call
response_of advertise forms call (Names names) = names_of call names
response_of advertise forms call (Nodes nodes) = plain (codes "{\"brokers\":" ++ (array (map signed_decimal nodes) ++ codes "}"))
response_of advertise forms call (Offsets places) = plain (codes "{\"offsets\":" ++ (array (map offset_text places) ++ codes "}"))
response_of advertise forms call (Told parts) = told_of call parts
response_of advertise forms call (Edged start end) = plain (codes "{\"beginning_offset\":" ++ (decimal start ++ (codes ",\"end_offset\":" ++ (decimal end ++ codes "}"))))
response_of advertise forms call (Listed ats) = plain (codes "{\"partitions\":" ++ (array (map part_text ats) ++ codes "}"))
response_of advertise forms call (Answers answers) = answered_of call answers
response_of advertise forms call (Shown format items) = Body (Some format) (array (map (item_text forms format) items))
response_of advertise forms call (Unread item reason) = unread_text item reason
response_of advertise forms call (Refused code) = error_text code (message_of code)
response_of advertise forms call (Broker code) = broker_text code
response_of advertise forms call LinkFault = error_text 50003 (codes "Kafka retriable error: link.")
response_of advertise forms call Want = Wanting
