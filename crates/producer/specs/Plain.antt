-- What a plain link's refusals say of each record.
use Rattle.std.specs.Prelude.{ℕ, ℤ, pos, ◌≡◌, ◌≢◌, List}
use Rattle.model.specs.state.Log.{Log}
use Rattle.model.specs.step.Fixed.{HasPart}
use Rattle.rest_replies.specs.declared.answer.Told.{Told}

-- with another code than 0 it is 3, and the log lacks the partition
abbrev pub IsLacking : Log → List ℕ → ℕ → ℤ → Type 0
IsLacking log topic n code = code ≢ pos 0 → (code ≡ pos 3) × (HasPart log (record { topic = topic; partition = n }) → ⊥)

abbrev pub TellsPlainly : Log → List ℕ → Told → Type 0
TellsPlainly log topic t = IsLacking log topic t.partition t.code
