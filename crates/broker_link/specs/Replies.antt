-- The reply that a link's failure stands for, and what a reply says of the link's counts.
use Rattle.std.specs.Prelude.{◌≡◌, ◌≤◌, ⊤, ℤ, true, All, Option, Some, None}
use Rattle.gate_io.specs.Counts.{Rose}
use Rattle.model.specs.state.Entry.{Placed, Reply}
use Rattle.model.specs.state.Entry.Placed.{Stored, Failed}
use Rattle.model.specs.state.Entry.Reply.{Answers, Broker, LinkFault, Want as NoMemory}
use Rattle.model.specs.history.Legal.{is_fault, is_refusal}
use Rattle.broker_link.specs.Causes.{Counts}
use Rattle.broker_link.specs.declared.link.LinkNo.{LinkNo}
use Rattle.broker_link.specs.declared.link.LinkNo.TheVariants.{Fault, Refused, Want as LinkWant}

-- a failure of the link
abbrev pub link_reply : LinkNo → Reply
link_reply Fault = LinkFault
link_reply (Refused code) = Broker code
link_reply LinkWant = NoMemory

-- no count fell
pub record CountsKept (c d : Counts) : Type 0 where
  pub faults_kept : c.faults ≤ d.faults
  pub refusals_kept : c.refusals ≤ d.refusals
  pub sent_kept : c.sent ≤ d.sent
  pub polls_kept : c.polls ≤ d.polls
  pub beats_kept : c.beats ≤ d.beats

-- no count fell; a fault and a refusal come only where their counts rose, and a broker's code is the link's last
pub record IsCounted (c d : Counts) (reply : Reply) : Type 0 where
  pub faults_kept : c.faults ≤ d.faults
  pub refusals_kept : c.refusals ≤ d.refusals
  pub sent_kept : c.sent ≤ d.sent
  pub polls_kept : c.polls ≤ d.polls
  pub beats_kept : c.beats ≤ d.beats
  pub fault : is_fault (Some reply) ≡ true → Rose c.faults d.faults
  pub refusal : is_refusal (Some reply) ≡ true → Rose c.refusals d.refusals
  pub code : (code : ℤ) → reply ≡ Broker code → d.last_code ≡ code

-- the same of an entry that may have no reply
abbrev pub IsCountedIf : Counts → Counts → Option Reply → Type 0
IsCountedIf c d None = CountsKept c d
IsCountedIf c d (Some reply) = IsCounted c d reply

-- the record was stored
abbrev pub IsStored : Placed → Type 0
IsStored (Stored partition offset) = ⊤
IsStored (Failed partition code) = ⊥

-- no link failed, and no record was refused
abbrev pub IsGood : Reply → Type 0
IsGood (Answers placed) = All IsStored placed
IsGood (Broker code) = ⊥
IsGood LinkFault = ⊥
IsGood _ = ⊤

-- the same of an entry that may have no reply
abbrev pub IsGoodIf : Option Reply → Type 0
IsGoodIf None = ⊤
IsGoodIf (Some reply) = IsGood reply
