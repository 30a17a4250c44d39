-- What calls of a link leave as it was, whatever they answer, and why an Assign isn't done (Confluent REST Proxy API v2, consumers).
use Rattle.std.specs.Prelude.{ℕ, ◌≡◌, ⊤, Option, Some, None, Result, Ok, Err, IfErr}
use Rattle.model.specs.state.Log.{Keeps, IsLog}
use Rattle.model.specs.step.Fixed.{SameCommits}
use Rattle.model.specs.step.Produced.{NoneAdded}
use Rattle.model.specs.state.Entry.{Reply}
use Rattle.model.specs.state.Entry.Reply.{Refused}
use Rattle.broker_link.specs.Causes as causes
use Rattle.broker_link.specs.Causes.{Counts}
use Rattle.broker_link.specs.Replies.{CountsKept, link_reply}
use Rattle.broker_link.specs.Stands.{Stand}
use Rattle.consumer_state.specs.declared.topics.AssignNo.{AssignNo}
use Rattle.consumer_state.specs.declared.topics.AssignNo.TheVariants.{NoTopic, NoPartition, Failed}

-- The link goes on telling and being plain as it did, and was asked no produce; its log is kept, with nothing committed and no row but those of others.
pub record GoesOn (a b : Stand) : Type 0 where
  pub telling : a.tells → b.tells
  pub keeps : a.tells → Keeps a.log b.log × NoneAdded a.log b.log × SameCommits a.log b.log
  pub is_log : a.tells → IsLog a.log → IsLog b.log
  pub plainly : a.plain → b.plain
  pub turning : a.in_turn → b.in_turn
  pub alone : a.plain → (let l = b.log in l.others) ≡ (let l = a.log in l.others)
  pub asked : b.produces ≡ a.produces

-- the reply to an Assign that isn't done
abbrev pub refusal_of : AssignNo → Reply
refusal_of NoTopic = Refused 40401
refusal_of NoPartition = Refused 40402
refusal_of (Failed e) = link_reply e

-- a failure of the link has its cause in the counts
abbrev pub ComesOf : Counts → Counts → AssignNo → Type 0
ComesOf c d (Failed e) = causes.ComesOf c d e
ComesOf c d _ = ⊤

-- it is the link that failed, or memory was wanting
abbrev pub IsFailed : AssignNo → Type 0
IsFailed NoTopic = ⊥
IsFailed NoPartition = ⊥
IsFailed (Failed e) = ⊤

-- no count fell, and a failure of the link has its cause
pub record IsCaused {T : Type 0} (c d : Counts) (result : Result T AssignNo) : Type 0 where
  pub kept : CountsKept c d
  pub cause : IfErr result (ComesOf c d)

-- what the topics lack is answered by this code, where the link doesn't fail
abbrev pub FitsCode : {T : Type 0} → Option ℕ → Result T AssignNo → Type 0
FitsCode code (Ok x) = code ≡ None
FitsCode code (Err NoTopic) = code ≡ Some 40401
FitsCode code (Err NoPartition) = code ≡ Some 40402
FitsCode code (Err (Failed e)) = ⊤
