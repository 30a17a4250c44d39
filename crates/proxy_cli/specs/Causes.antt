-- Why a write to a sink failed.
use Rattle.std.specs.Prelude.{◌⊎◌, ◌≤◌, ℕ}
use Rattle.gate_io.specs.Counts.{Rose}

-- the sink failed, or took nothing
abbrev pub SinkFailed : {K : Type 0} → (faults stalls : K → ℕ) → K → K → Type 0
SinkFailed faults stalls old new = Rose (faults old) (faults new) ⊎ Rose (stalls old) (stalls new)

-- its counts didn't fall
abbrev pub SinkGoes : {K : Type 0} → (faults stalls : K → ℕ) → K → K → Type 0
SinkGoes faults stalls old new = (faults old ≤ faults new) × (stalls old ≤ stalls new)
