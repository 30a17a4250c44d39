-- A whole message, read and written.
use Rattle.std.specs.Prelude.{ℕ, ◌≡◌, ◌+◌, ◌-◌, ◌<◌, ◌^◌, ◌⊎◌, List, [], ◌++◌, length, drop, Result, Ok, Err, IfOk, IsOkAnd}
use Rattle.wire_prim.specs.declared.error.PrimNo.{PrimNo}
use Rattle.wire_prim.specs.declared.error.PrimNo.TheVariants as No
use Rattle.wire_prim.specs.Behind.{Behind}
use Rattle.wire_layout.specs.declared.error.WireNo.{WireNo}
use Rattle.wire_layout.specs.declared.error.Refusal.{Refusal}
use Rattle.wire_layout.specs.declared.error.WireNo.TheVariants.{Prim, Rest, Want}
use Rattle.wire_prim.specs.Item.{bytes_item}
use Rattle.wire_layout.specs.Layout.{Layout, Reach, left_of, without_place}

-- the answer is the one that the bytes give: nothing is left, an item doesn't read, or so many bytes are left
abbrev pub Ends : {M : Type 0} → Result M WireNo → Behind → Type 0
Ends (Ok m) behind = behind ≡ Ok []
Ends (Err (Prim cause)) behind = behind ≡ Err cause
Ends (Err (Rest n)) behind = IsOkAnd behind (λ rest. (length rest ≡ n) × (0 < n))
Ends (Err Want) behind = Unit {0}

-- the refusal of a message at an item that doesn't read: a cause, or want of memory
abbrev pub refusal_of : PrimNo → WireNo
refusal_of No.Want = Want
refusal_of cause = Prim cause

-- the answer is this value, or want of memory
abbrev pub IsOrWants : {M : Type 0} → Result M WireNo → M → Type 0
IsOrWants (Ok m) wanted = m ≡ wanted
IsOrWants (Err (Prim cause)) wanted = ⊥
IsOrWants (Err (Rest n)) wanted = ⊥
IsOrWants (Err Want) wanted = Unit {0}

-- the bytes are the spelling of what is read, and what has this spelling is read
pub record IsRead {M : Type 0} (layout : Layout M) (whole : List ℕ) (result : Result M WireNo) : Type 0 where
  pub value : IfOk result (λ m. whole ≡ layout.spelling m)
  pub fits : IfOk result layout.fits
  pub answer : Ends result (without_place (layout.behind whole))
  pub exact : (m : M) → layout.fits m → whole ≡ layout.spelling m → IsOrWants result m

-- the answer is the one that the bytes give where more may follow
abbrev pub EndsInFront : {M : Type 0} → Result (M × ℕ) WireNo → Behind → List ℕ → Type 0
EndsInFront (Ok found) behind whole = behind ≡ Ok (drop found.1 whole)
EndsInFront (Err (Prim cause)) behind whole = behind ≡ Err cause
EndsInFront (Err (Rest n)) behind whole = ⊥
EndsInFront (Err Want) behind whole = Unit {0}

-- the value and the length of its spelling, or want of memory
abbrev pub IsFrontOrWants : {M : Type 0} → Result (M × ℕ) WireNo → M → ℕ → Type 0
IsFrontOrWants (Ok found) wanted size = (found.0 ≡ wanted) × (found.1 ≡ size)
IsFrontOrWants (Err (Prim cause)) wanted size = ⊥
IsFrontOrWants (Err (Rest n)) wanted size = ⊥
IsFrontOrWants (Err Want) wanted size = Unit {0}

-- the bytes begin with the spelling of what is read, and what has this spelling is read
pub record IsReadInFront {M : Type 0} (layout : Layout M) (whole : List ℕ) (result : Result (M × ℕ) WireNo) : Type 0 where
  pub value : IfOk result (λ found. (whole ≡ layout.spelling found.0 ++ drop found.1 whole) × (found.1 ≡ length (layout.spelling found.0)))
  pub fits : IfOk result (λ found. layout.fits found.0)
  pub answer : EndsInFront result (without_place (layout.behind whole)) whole
  pub exact : (m : M) (rest : List ℕ) → layout.fits m → whole ≡ layout.spelling m ++ rest → IsFrontOrWants result m (length (layout.spelling m))

-- an answer without the place of its refusal
abbrev pub cause_alone : {M : Type 0} → Result M Refusal → Result M WireNo
cause_alone (Ok m) = Ok m
cause_alone (Err refusal) = Err refusal.cause

-- a refusal stands at the first byte of the item that doesn't read, or at the first that is left over; want of memory has no place
abbrev pub IsPlaced : Refusal → Reach → List ℕ → Type 0
IsPlaced refusal reach whole = (refusal.cause ≡ Want) ⊎ (refusal.place ≡ length whole - length (left_of reach))

-- the bytes are the spelling of the value, which has one, and leave room for that many more in a frame
pub record IsWritten {M : Type 0} (layout : Layout M) (head : ℕ) (m : M) (out : List ℕ) : Type 0 where
  pub bytes : out ≡ layout.spelling m
  pub fits : layout.fits m
  pub frame : length out + head < 2 ^ 31

-- a frame: the size of what it holds as an INT32, and what it holds
pub record IsFrame (content out : List ℕ) : Type 0 where
  pub bytes : out ≡ bytes_item content
  pub small : length content < 2 ^ 31
