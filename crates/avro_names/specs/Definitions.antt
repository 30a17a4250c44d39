-- The types that a schema defines, by number. Only private clauses cite it.
use Rattle.std.specs.Prelude.{◌≡◌, ℕ, zero, suc, List, [], ◌∷◌, true, false, Option, Some, None}
use Rattle.std.specs.Str.{bytes_eq}
use Rattle.avro_names.specs.NameList.{is_among}
use Rattle.avro_names.specs.declared.definitions.Definition.{Definition}

-- the fullnames of definitions
abbrev pub names_in : List Definition → List (List ℕ)
names_in [] = []
names_in (x ∷ xs) = x.name ∷ names_in xs

-- number d is the first definition of the name
abbrev pub FirstNamed : List Definition → List ℕ → ℕ → Type 0
FirstNamed [] name d = ⊥
FirstNamed (x ∷ xs) name zero = bytes_eq x.name name ≡ true
FirstNamed (x ∷ xs) name (suc d) = (bytes_eq x.name name ≡ false) × FirstNamed xs name d

-- the first definition of the name, or none
abbrev pub FindsName : List Definition → List ℕ → Option ℕ → Type 0
FindsName xs name None = is_among name (names_in xs) ≡ false
FindsName xs name (Some d) = FirstNamed xs name d

-- definition d has this node
abbrev pub defined_at : List Definition → ℕ → ℕ → List Definition
defined_at [] d node = []
defined_at (x ∷ xs) zero node = record { name = x.name; node = node } ∷ xs
defined_at (x ∷ xs) (suc d) node = x ∷ defined_at xs d node
