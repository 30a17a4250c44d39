-- All that is still to come: what a connection holds, and what its source has left, where it tells that.
use Rattle.std.specs.Prelude.{◌≡◌, ◌≢◌, ◌⊎◌, ◌≤◌, List, ℕ, Option, Some, Bool, Result, Err}
use Rattle.std.specs.Io.KnownBytes.{prepend_known}
use Rattle.gate_io.specs.Counts.{Rose}
use Rattle.http_conn.specs.declared.request.ConnNo.{ConnNo}
use Rattle.http_conn.specs.declared.request.ConnNo.TheVariants.{ReadFault, WriteFault}

-- all of it
abbrev pub Comes : List ℕ → Option (List ℕ) → List ℕ → Type 0
Comes held left all = prepend_known held left ≡ Some all

-- what was still to come is still to come
abbrev pub StillComes : List ℕ → Option (List ℕ) → List ℕ → Option (List ℕ) → Type 0
StillComes held left held2 left2 = (all : List ℕ) → Comes held left all → Comes held2 left2 all

-- the source wasn't read, or that is true of what was held when the last read began
unfoldable pub LastRead : {S : Type 0} → (S → Option (List ℕ)) → (S → Option (List ℕ)) → List ℕ → S → S → (List ℕ → Type 0) → Type 0
LastRead left asked held old new Is =
    (all : List ℕ) → Comes held (left old) all → (new ≡ old) ⊎ ((then_held : List ℕ) × Comes then_held (asked new) all × Is then_held)

-- What a call that reads does to its source: the count of faults didn't fall, and has risen if the call says that a read failed;
-- all but what a source tells is as it was. No such call writes.
pub record Reads {S T : Type 0} (faults : S → ℕ) (beside : S → S → Type 0) (old new : S) (result : Result T ConnNo) : Type 0 where
  pub later : faults old ≤ faults new
  pub failed : result ≡ Err ReadFault → Rose (faults old) (faults new)
  pub unwritten : (n : ℕ) → result ≢ Err (WriteFault n)
  pub others : beside old new

-- a connection: the bytes that it holds, whether it is over, and whether `Continue` was given for the request at the front
pub record Conn : Type 0 where
  pub held : List ℕ
  pub over : Bool
  pub continued : Bool
