-- Items read in turn, up to the first that doesn't read or is out of its bounds.
use Rattle.std.specs.Prelude.{ℕ, ◌≡◌, ◌+◌, ◌-◌, List, [], ◌∷◌, length, drop, Result, Ok, Err}
use Rattle.wire_prim.specs.Reading.{Reading}
use Rattle.wire_prim.specs.Behind.{Behind}

-- a value and how far the reading has come, or the place of the item at fault
abbrev pub Read : Type 0 → Type 0
Read A = Result (A × Reading) ℕ

-- so many bytes further
abbrev pub after : ℕ → Reading → Reading
after n at = record { place = at.place + n; left = drop n at.left }

-- one item and then what depends on it
abbrev pub onward : {A B : Type 0} → Read A → (A → Reading → Read B) → Read B
onward (Ok got) more = more got.0 got.1
onward (Err place) more = Err place

-- an item of which the bytes say what it is, and what follows
abbrev pub item : {A : Type 0} → (List ℕ → A) → Reading → Behind → Read A
item seen at (Ok rest) = Ok (seen at.left, record { place = at.place + (length at.left - length rest); left = rest })
item seen at (Err cause) = Err at.place

-- nothing follows
abbrev pub ended : {A : Type 0} → A → Reading → List ℕ → Read A
ended value at [] = Ok (value, at)
ended value at (byte ∷ bytes) = Err at.place

-- the answer is what the bytes give
abbrev pub Gives : {T A : Type 0} → (T → A) → Result T ℕ → Read A → Reading → Type 0
Gives view (Ok value) read new = read ≡ Ok (view value, new)
Gives view (Err place) read new = read ≡ Err place
