-- How a link stands, and what a call of it leaves.
use Rattle.std.specs.Prelude.{ℕ, ℤ, List, ◌≡◌, ◌⊎◌, ◌+◌, ◌-◌, ◌^◌, min, Result, OnOk, IfErr}
use Rattle.gate_io.specs.Counts.{Rose}
use Rattle.model.specs.state.Log.{Log, Keeps, IsLog}
use Rattle.model.specs.step.Fixed.{SameCommits}
use Rattle.model.specs.step.Produced.{NoneAdded}
use Rattle.broker_link.specs.Causes.{Counts, ComesOf}
use Rattle.broker_link.specs.Replies.{CountsKept}
use Rattle.broker_link.specs.declared.link.LinkNo.{LinkNo}
use Rattle.broker_link.specs.declared.link.PartInfo.{PartInfo}

-- The produce calls that a link was asked: how many, up to 2^64 - 1, and the moment that the last of them was given.
pub record Produces : Type 0 where
  pub calls : ℕ
  pub moment : ℕ

-- one call more, which was given this moment
pub record IsOneMore (now : ℕ) (p q : Produces) : Type 0 where
  pub calls : q.calls ≡ min (p.calls + 1) (2 ^ 64 - 1)
  pub moment : q.moment ≡ now

-- no call more, or that one
abbrev pub IsOnceAtMost : ℕ → Produces → Produces → Type 0
IsOnceAtMost now p q = (q ≡ p) ⊎ IsOneMore now p q

-- How a link stands: its log with the commits beside it, where it tells them; whether nothing but want of memory
-- and what the log lacks makes a call of it fail, and nobody else adds rows: any call, or the next one; whether a fetch
-- gives the rows of its asks in turn; which brokers it names, and what its metadata tells of a partition besides its
-- number; what it counts, and which produce calls it was asked.
pub record Stand : Type 1 where
  pub tells : Type 0
  pub plain : Type 0
  pub quiet : Type 0
  pub in_turn : Type 0
  pub brokers : List ℤ → Type 0
  pub nodes : PartInfo → Type 0
  pub log : Log
  pub counts : Counts
  pub produces : Produces

-- A link went on from `a` to `b`.
pub record Goes (a b : Stand) : Type 0 where
  pub telling : a.tells → b.tells
  pub keeps : a.tells → Keeps a.log b.log
  pub is_log : a.tells → IsLog a.log → IsLog b.log
  pub plainly : a.plain → b.plain
  pub turning : a.in_turn → b.in_turn
  pub alone : a.plain → (let l = b.log in l.others) ≡ (let l = a.log in l.others)
  pub counts : CountsKept a.counts b.counts

-- the answer of a call, other than Ok, has its cause in the counts
pub record Answers {T : Type 0} (a b : Stand) (result : Result T LinkNo) : Type 0 where
  pub went : OnOk result (Rose a.counts.sent b.counts.sent)
  pub cause : IfErr result (ComesOf a.counts b.counts)

-- nobody else adds a row at a quiet call
abbrev pub IsAlone : Stand → Stand → Type 0
IsAlone a b = a.quiet → (let l = b.log in l.others) ≡ (let l = a.log in l.others)

-- a call went so
pub record Calls {T : Type 0} (a b : Stand) (result : Result T LinkNo) : Type 0 where
  pub goes : Goes a b
  pub alone : IsAlone a b
  pub commits : a.tells → SameCommits a.log b.log
  pub answers : Answers a b result

-- a call that only reads went so
pub record Reads {T : Type 0} (a b : Stand) (result : Result T LinkNo) : Type 0 where
  pub goes : Goes a b
  pub alone : IsAlone a b
  pub none : a.tells → NoneAdded a.log b.log
  pub asked : b.produces ≡ a.produces
  pub commits : a.tells → SameCommits a.log b.log
  pub answers : Answers a b result

-- Calls that only read went so, one after another, whatever they answered.
pub record Consults (a b : Stand) : Type 0 where
  pub goes : Goes a b
  pub none : a.tells → NoneAdded a.log b.log
  pub asked : b.produces ≡ a.produces
  pub commits : a.tells → SameCommits a.log b.log
