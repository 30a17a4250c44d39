-- What is found for a question, in the model's terms (Confluent REST Proxy API v2, brokers, topics and partitions).
use Rattle.std.specs.Prelude.{ℕ, nat_abs, List, [], ◌∷◌, map, Result, Ok, Err}
use Rattle.model.specs.state.Entry.{PartTold, Reply}
use Rattle.model.specs.state.Entry.Reply.{Nodes, Names, Told, Edged, Refused}
use Rattle.broker_link.specs.Replies.{link_reply}
use Rattle.broker_link.specs.declared.link.PartInfo.{PartInfo}
use Rattle.broker_link.specs.declared.link.TopicInfo.{TopicInfo}
use Rattle.rest_replies.specs.declared.found.Found.{Found}
use Rattle.rest_replies.specs.declared.found.Found.TheVariants as found
use Rattle.rest_replies.specs.declared.found.AskNo.{AskNo}
use Rattle.rest_replies.specs.declared.found.AskNo.TheVariants as no

-- a partition as it is told
abbrev pub told_in : PartInfo → PartTold
told_in part = record { number = nat_abs part.number; leader = part.leader; replicas = part.replicas; in_sync = part.in_sync }

abbrev pub name_in : TopicInfo → List ℕ
name_in info = info.name

abbrev pub reply_in : Found → Reply
reply_in (found.Brokers ids) = Nodes ids
reply_in (found.Topics infos) = Names (map name_in infos)
reply_in (found.Topic info) = Told (map told_in info.parts)
reply_in (found.Partitions info) = Told (map told_in info.parts)
reply_in (found.Partition part) = Told (told_in part ∷ [])
reply_in (found.Edges start end) = Edged start end

-- the refusal that a cause stands for
abbrev pub refusal_of : AskNo → Reply
refusal_of no.NoTopic = Refused 40401
refusal_of no.NoPartition = Refused 40402
refusal_of (no.Link e) = link_reply e

abbrev pub reply_of : Result Found AskNo → Reply
reply_of (Ok x) = reply_in x
reply_of (Err cause) = refusal_of cause
