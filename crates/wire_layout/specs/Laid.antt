-- What makes a layout a good one.
use Rattle.std.specs.Prelude.{ℕ, ◌≡◌, List, ◌++◌, Ok}
use Rattle.wire_layout.specs.Layout.{Layout}

-- a value's bytes read before anything, and bytes that begin with its spelling begin with that of no other, as far as its fields are looked at
pub record Tells {M V : Type 0} (look : M → V) (layout : Layout M) : Type 0 where
  pub back : (m : M) → layout.fits m → (rest : List ℕ) → layout.behind (layout.spelling m ++ rest) ≡ Ok rest
  pub once : (a b : M) (r s : List ℕ) → layout.fits a → layout.fits b → layout.spelling a ++ r ≡ layout.spelling b ++ s → (look a ≡ look b) × (r ≡ s)

-- the whole value is told
abbrev pub IsLaid : {M : Type 0} → Layout M → Type 0
IsLaid layout = Tells (λ m. m) layout
