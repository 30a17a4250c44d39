-- The reply of the model that the answer to a produce stands for.
use Rattle.std.specs.Prelude.{List, cond, map, Result, Ok, Err}
use Rattle.model.specs.state.Entry.{Placed, Reply, is_zero}
use Rattle.model.specs.state.Entry.Placed.{Stored, Failed}
use Rattle.model.specs.state.Entry.Reply.{Answers, Refused as RefusedBy, Want as NoMemory}
use Rattle.broker_link.specs.Replies.{link_reply}
use Rattle.rest_replies.specs.declared.answer.Told.{Told}
use Rattle.rest_replies.specs.declared.answer.ProduceNo.{ProduceNo}
use Rattle.rest_replies.specs.declared.answer.ProduceNo.TheVariants.{NoTopic, NoPartition, Link, Want}

-- the answer to one record
abbrev pub placed_of : Told → Placed
placed_of t = cond (is_zero t.code) (Stored t.partition t.offset) (Failed t.partition t.code)

-- a produce that is refused or fails
abbrev pub refusal_reply : ProduceNo → Reply
refusal_reply NoTopic = RefusedBy 40401
refusal_reply NoPartition = RefusedBy 40402
refusal_reply (Link e) = link_reply e
refusal_reply Want = NoMemory

-- the reply of a produce
abbrev pub reply_of : Result (List Told) ProduceNo → Reply
reply_of (Ok told) = Answers (map placed_of told)
reply_of (Err e) = refusal_reply e
