-- Names (Apache Avro 1.11 specification, "Names"): parts with dots between them, and how a name becomes a fullname.
use Rattle.std.specs.Prelude.{ℕ, List, [], ◌∷◌, ◌++◌, Bool, true, false, cond, not, ◌==◌, ◌&&◌, ◌||◌, nat_le, codes, bytes_eq}

-- a letter or `_`
abbrev pub is_letter : ℕ → Bool
is_letter b = (nat_le 65 b && nat_le b 90) || ((nat_le 97 b && nat_le b 122) || (b == 95))

-- a letter, `_` or a digit
abbrev pub is_letter_or_digit : ℕ → Bool
is_letter_or_digit b = is_letter b || (nat_le 48 b && nat_le b 57)

abbrev pub has_dot : List ℕ → Bool
has_dot [] = false
has_dot (b ∷ bs) = (b == 46) || has_dot bs

abbrev pub is_tail : List ℕ → Bool
is_tail [] = true
is_tail (b ∷ bs) = is_letter_or_digit b && is_tail bs

-- a letter or `_`, and then letters, `_` and digits
abbrev pub is_part : List ℕ → Bool
is_part [] = false
is_part (b ∷ bs) = is_letter b && is_tail bs

abbrev mutual
  -- one part or more, with a dot between them
  pub are_parts : List ℕ → Bool
  are_parts [] = false
  are_parts (b ∷ bs) = is_letter b && are_more_parts bs

  -- the rest of a part, and perhaps more parts
  pub are_more_parts : List ℕ → Bool
  are_more_parts [] = true
  are_more_parts (b ∷ bs) = cond (b == 46) (are_parts bs) (is_letter_or_digit b && are_more_parts bs)

-- what stands before the last dot: nothing, where there is none
abbrev pub namespace_of : List ℕ → List ℕ
namespace_of [] = []
namespace_of (b ∷ bs) = cond (has_dot bs) (b ∷ namespace_of bs) []

-- what stands behind the last dot
abbrev pub last_part : List ℕ → List ℕ
last_part [] = []
last_part (b ∷ bs) = cond (has_dot bs) (last_part bs) (cond (b == 46) bs (b ∷ bs))

-- a name without dots in a namespace
abbrev pub in_namespace : List ℕ → List ℕ → List ℕ
in_namespace [] name = name
in_namespace (b ∷ bs) name = (b ∷ bs) ++ (46 ∷ name)

abbrev pub is_float : List ℕ → Bool
is_float name = bytes_eq name (codes "float") || bytes_eq name (codes "double")

-- the name of a primitive type
abbrev pub is_primitive : List ℕ → Bool
is_primitive name =
    bytes_eq name (codes "null") || (bytes_eq name (codes "boolean") || (bytes_eq name (codes "int") || (bytes_eq name (codes "long")
    || (bytes_eq name (codes "bytes") || (bytes_eq name (codes "string") || is_float name)))))

-- a fullname that a schema may define
unfoldable pub is_definable : List ℕ → Bool
is_definable name = are_parts name && (not (is_primitive (last_part name)) && not (bytes_eq name (codes "array") || bytes_eq name (codes "map")))
