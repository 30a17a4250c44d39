-- What a link's refusals say by its counts.
use Rattle.std.specs.Prelude.{◌≡◌, ℕ, ◌≤◌, ℤ, Result, OnOk, IfErr, ⊤, Option, Some, None, false}
use Rattle.model.specs.state.Entry.{is_zero}
use Rattle.gate_io.specs.Counts.{Rose}
use Rattle.broker_link.specs.declared.link.LinkNo.{LinkNo}
use Rattle.broker_link.specs.declared.link.LinkNo.TheVariants.{Fault, Refused, Want}

-- what a link counts, and the last code that it was refused with
pub record Counts : Type 0 where
  pub faults : ℕ
  pub refusals : ℕ
  pub sent : ℕ
  pub polls : ℕ
  pub beats : ℕ
  pub last_code : ℤ

-- a refusal with this code was counted
abbrev pub Refuses : Counts → Counts → ℤ → Type 0
Refuses c d code = Rose c.refusals d.refusals × (d.last_code ≡ code)

-- a fault only where the faults rose, a refusal by a code that isn't 0 only where the refusals rose, with the last code
abbrev pub ComesOf : Counts → Counts → LinkNo → Type 0
ComesOf c d Fault = Rose c.faults d.faults
ComesOf c d (Refused code) = (is_zero code ≡ false) × Refuses c d code
ComesOf c d Want = ⊤

-- no count fell, and each answer other than Ok has its cause
pub record HasCause {T : Type 0} (c d : Counts) (result : Result T LinkNo) : Type 0 where
  pub faults_kept : c.faults ≤ d.faults
  pub refusals_kept : c.refusals ≤ d.refusals
  pub sent_kept : c.sent ≤ d.sent
  pub polls_kept : c.polls ≤ d.polls
  pub beats_kept : c.beats ≤ d.beats
  pub went : OnOk result (Rose c.sent d.sent)
  pub cause : IfErr result (ComesOf c d)

-- where a code was answered for a part of the call, it is counted
abbrev pub CodeComes : Counts → Counts → Option ℤ → Type 0
CodeComes c d None = ⊤
CodeComes c d (Some code) = Refuses c d code
