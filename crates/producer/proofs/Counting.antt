-- From the partitions that records name to whether the topic has room for them.
use Rattle.std.proofs.Common.{◌≡◌, ℕ, ◌<◌, Bool, true, false, nat_lt, List, [], ◌∷◌, map, refl, sym, ◌∙◌, arith}
use Rattle.std.specs.Prelude.{All}
use Rattle.std.proofs.lemmas.List.Elements.{All-cons, All-nil, All-head, All-tail}
use Rattle.std.proofs.lemmas.Bool.Decides.{nat_tests}
use Rattle.model.specs.step.Produced.{has_room}
use Rattle.rest_calls.specs.Views.{given_of}
use Rattle.rest_calls.specs.declared.call.Row.{Row}
use Rattle.producer.specs.Payloads.{number_in}
use Rattle.producer.specs.Parts.{are_within}

-- each record's partition is one of so many, or one's isn't
pub within : (n : ℕ) (rows : List Row) → are_within n rows ≡ true → All (has_room n) (map given_of rows)
within n [] is = All-nil (has_room n)
within n (r ∷ rs) is = go (nat_lt (number_in r) n) refl is (within n rs)
  where
    go : (b : Bool) → nat_lt (number_in r) n ≡ b → are_within n (r ∷ rs) ≡ true → (are_within n rs ≡ true → All (has_room n) (map given_of rs)) → All (has_room n) (map given_of (r ∷ rs))
    go true e is ih =
        let rest : are_within n (r ∷ rs) ≡ are_within n rs = rw e refl in
        let here : number_in r < n = below (number_in r) n e in
        All-cons (has_room n) (given_of r) (map given_of rs) here (ih (sym rest ∙ is))
      where
        below : (x y : ℕ) → nat_lt x y ≡ true → x < y
        below x y e = grind (arith, nat_tests)
    go false e is ih = absurd (cc (is, the_rest))
      where
        the_rest : are_within n (r ∷ rs) ≡ false
        the_rest = rw e refl

pub outside : (n : ℕ) (rows : List Row) → are_within n rows ≡ false → All (has_room n) (map given_of rows) → ⊥
outside n [] is all = absurd (cc is)
outside n (r ∷ rs) is all = go (nat_lt (number_in r) n) refl is (outside n rs)
  where
    go : (b : Bool) → nat_lt (number_in r) n ≡ b → are_within n (r ∷ rs) ≡ false → (are_within n rs ≡ false → All (has_room n) (map given_of rs) → ⊥) → ⊥
    go true e is ih =
        let rest : are_within n (r ∷ rs) ≡ are_within n rs = rw e refl in
        ih (sym rest ∙ is) (All-tail (has_room n) (given_of r) (map given_of rs) all)
    go false e is ih = above (number_in r) n e (All-head (has_room n) (given_of r) (map given_of rs) all)
      where
        above : (x y : ℕ) → nat_lt x y ≡ false → x < y → ⊥
        above x y e lt = absurd (grind (arith, nat_tests))
