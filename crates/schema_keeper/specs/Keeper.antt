-- What a keeper of schema rows holds, what a call of it leaves, and what a crash may leave.
use Rattle.std.specs.Prelude.{◌≡◌, ◌⊎◌, ℕ, ◌<◌, ◌≤◌, List, [], ◌∷◌, ◌++◌, All, Result, IfErr, OnOk}
use Rattle.gate_io.specs.Counts.{Rose}
use Rattle.schema_keeper.specs.declared.row.SchemaRow.{SchemaRow}
use Rattle.schema_keeper.specs.declared.row.KeepNo.{KeepNo}
use Rattle.schema_keeper.specs.declared.row.KeepNo.TheVariants.{Fault, Want}

-- ---- rows

abbrev pub row_of : ℕ → List ℕ → SchemaRow
row_of id canonical = record { id = id; canonical = canonical }

-- the rows, and one behind them
abbrev pub with_row : List SchemaRow → ℕ → List ℕ → List SchemaRow
with_row rows id canonical = rows ++ (row_of id canonical ∷ [])

-- the id is above those of the rows
abbrev pub IsAbove : ℕ → List SchemaRow → Type 0
IsAbove id rows = All (λ r. r.id < id) rows

-- the second list begins with the first
abbrev pub Begins : List SchemaRow → List SchemaRow → Type 0
Begins rows all = (more : List SchemaRow) × (all ≡ rows ++ more)

-- ---- what is told of an add

-- the last row is this one, and the others were told before
pub record HadBefore (Told : List SchemaRow → Type 0) (rows : List SchemaRow) (id : ℕ) (canonical : List ℕ) : Type 0 where
  pub before : List SchemaRow
  pub told : Told before
  pub is : rows ≡ with_row before id canonical

-- the rows were told before, with this one behind them or without it
abbrev pub HadOrGot : (List SchemaRow → Type 0) → List SchemaRow → ℕ → List ℕ → Type 0
HadOrGot Told rows id canonical = Told rows ⊎ HadBefore Told rows id canonical

-- ---- what a crash may leave

-- a crash leaves nothing that it couldn't leave before
abbrev pub LeavesNoMore : (List SchemaRow → Type 0) → (List SchemaRow → Type 0) → Type 0
LeavesNoMore Before Now = (kept : List SchemaRow) → Now kept → Before kept

-- a crash leaves what it could leave before, or the rows that were told then with this one behind them
abbrev pub LeavesOneMore : (List SchemaRow → Type 0) → (List SchemaRow → Type 0) → (List SchemaRow → Type 0) → ℕ → List ℕ → Type 0
LeavesOneMore Told Before Now id canonical =
    (rows kept : List SchemaRow) → Told rows → Now kept → Before kept ⊎ (kept ≡ with_row rows id canonical)

-- all that a crash may leave begins with the rows that are told
abbrev pub IsSafe : (List SchemaRow → Type 0) → (List SchemaRow → Type 0) → Type 0
IsSafe Told Left = (rows kept : List SchemaRow) → Told rows → Left kept → Begins rows kept

-- ---- counts

-- the count never falls, rises with each fault, and stands with any other answer
pub record CountsFaults {T : Type 0} (before now : ℕ) (result : Result T KeepNo) : Type 0 where
  pub later : before ≤ now
  pub fault : IfErr result (λ e. e ≡ Fault → Rose before now)
  pub want : IfErr result (λ e. e ≡ Want → now ≡ before)
  pub stood : OnOk result (now ≡ before)
