-- What holds of an item as bytes: it reads back before anything, and no two values share a spelling.
use Rattle.std.specs.Prelude.{ℕ, ◌≡◌, List, ◌++◌, Ok}
use Rattle.wire_prim.specs.Behind.{Behind}

-- before any bytes the item reads, and they follow
abbrev pub ReadsBack : List ℕ → (List ℕ → Behind) → Type 0
ReadsBack item behind = (rest : List ℕ) → behind (item ++ rest) ≡ Ok rest

-- bytes that begin with the spelling of a value begin with that of no other
abbrev pub HasOneReading : {V : Type 0} → (V → Type 0) → (V → List ℕ) → Type 0
HasOneReading {V} valid spelling = (a b : V) (r s : List ℕ) → valid a → valid b → spelling a ++ r ≡ spelling b ++ s → (a ≡ b) × (r ≡ s)
