-- Rows in memory, and calls that a script lets fail.
use Rattle.std.specs.Prelude.{◌≡◌, ◌⊎◌, ℕ, List, ◌+◌, ◌-◌, ◌^◌, min, Bool, true, false, ◌&&◌, ◌||◌, nat_eq, Result, Ok, Err}
use Rattle.std.specs.List.{list_any}
use Rattle.std.proofs.Math.Bool.{beq}
use Rattle.schema_keeper.specs.declared.row.SchemaRow.{SchemaRow}
use Rattle.schema_keeper.specs.declared.row.KeepNo.{KeepNo}
use Rattle.schema_keeper.specs.declared.row.KeepNo.TheVariants.{Fault, Want}
use Rattle.schema_keeper.specs.declared.memory.KeepFail.{KeepFail}
use Rattle.schema_keeper.specs.Keeper.{with_row}

-- what contracts see of a keeper in memory: its rows, the failures that its script names, and its counts
pub record Kept : Type 0 where
  pub rows : List SchemaRow
  pub fails : List KeepFail
  pub calls : ℕ
  pub faults : ℕ

-- the script lets the call of that number fail, after its effect or before it
abbrev pub fails_at : List KeepFail → ℕ → Bool → Bool
fails_at fails call after = list_any (λ f. nat_eq f.call call && beq f.after after) fails

-- the script lets the next call fail
abbrev pub fails_next : Kept → Bool → Bool
fails_next k after = fails_at k.fails k.calls after

-- a load fails where the script says so, and else for want of memory alone
abbrev pub LoadEnds : {T : Type 0} → Kept → Result T KeepNo → Type 0
LoadEnds k (Err Fault) = (fails_next k false || fails_next k true) ≡ true
LoadEnds k r = (fails_next k false || fails_next k true) ≡ false

-- an add has its effect unless it fails before that or for want of memory
abbrev pub AddEnds : {T : Type 0} → Kept → Kept → ℕ → List ℕ → Result T KeepNo → Type 0
AddEnds old new id canonical (Ok _) =
    (fails_next old false ≡ false) × (fails_next old true ≡ false) × (new.rows ≡ with_row old.rows id canonical)
AddEnds old new id canonical (Err Want) = (fails_next old false ≡ false) × (new.rows ≡ old.rows)
AddEnds old new id canonical (Err Fault) =
    ((fails_next old false ≡ true) × (new.rows ≡ old.rows))
    ⊎ ((fails_next old false ≡ false) × (fails_next old true ≡ true) × (new.rows ≡ with_row old.rows id canonical))

-- a call counts itself and leaves the script
pub record IsOneCall (old new : Kept) : Type 0 where
  pub script : new.fails ≡ old.fails
  pub calls : new.calls ≡ min (old.calls + 1) (2 ^ 64 - 1)
