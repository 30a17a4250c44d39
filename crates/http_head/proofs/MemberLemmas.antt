-- The first of the members of a value, and those behind its comma.
use Rattle.std.proofs.Common.{◌≡◌, ℕ, ◌+◌, ◌<◌, false, List, [], ◌∷◌, length, take, drop, get_or, sym, ap, ◌∙◌, arith}
use Rattle.std.specs.List.{slice_split, position_or_len}
use Rattle.std.proofs.lemmas.List.Elements.{All-from_get_or}
use Rattle.std.proofs.lemmas.List.Splits.{slice_split_none, slice_split_first}
use Rattle.http_head.specs.Member.{is_comma}

-- no comma stands in the value
pub one_member : (value : List ℕ) (place : ℕ) → place ≡ length value → ((k : ℕ) → k < place → is_comma (get_or value k 0) ≡ false) → slice_split is_comma value ≡ value ∷ []
one_member value place whole none = slice_split_none is_comma value (All-from_get_or (λ x. is_comma x ≡ false) value 0 (λ k below. none k (omega (arith, whole, below))))

-- the first comma stands there
pub first_and_others : (value : List ℕ) (place : ℕ) → place ≡ position_or_len is_comma value → place < length value
    → slice_split is_comma value ≡ take place value ∷ slice_split is_comma (drop (place + 1) value)
first_and_others value place is within =
    slice_split_first is_comma value 0 (omega (arith, is, within))
    ∙ ap (λ (n : ℕ). take n value ∷ slice_split is_comma (drop (n + 1) value)) (sym is)
