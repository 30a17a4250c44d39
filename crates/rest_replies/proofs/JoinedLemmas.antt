-- From texts joined by commas to the same with one more at the end.
use Rattle.std.proofs.Common.{◌≡◌, ℕ, List, [], ◌∷◌, ◌++◌, length, refl, ap, sym, ◌∙◌, append_assoc, arith, Bool, true, false, cond}
use Rattle.std.specs.Prelude.{codes, ◌==◌}
use Rattle.std.proofs.lemmas.Bool.Decides.{nat_tests}
use Rattle.model.specs.texts.Bodies.{joined}

-- the comma before a text that isn't the first
abbrev pub mark : Bool → List ℕ
mark first = cond first [] (codes ",")

joined_more : (xs : List (List ℕ)) (y z : List ℕ) → joined (y ∷ (xs ++ z ∷ [])) ≡ joined (y ∷ xs) ++ (codes "," ++ z)
joined_more [] y z = refl
joined_more (x ∷ xs) y z =
    let ih : joined (x ∷ (xs ++ z ∷ [])) ≡ joined (x ∷ xs) ++ (codes "," ++ z) = joined_more xs x z in
    let assoc : (y ++ (codes "," ++ joined (x ∷ xs))) ++ (codes "," ++ z) ≡ y ++ (codes "," ++ (joined (x ∷ xs) ++ (codes "," ++ z))) =
    append_assoc y (codes "," ++ joined (x ∷ xs)) (codes "," ++ z) in
    ap (λ l. y ++ (codes "," ++ l)) ih ∙ sym assoc

pub joined_push : (xs : List (List ℕ)) (z : List ℕ) (i : ℕ) → length xs ≡ i → joined (xs ++ z ∷ []) ≡ joined xs ++ (mark (i == 0) ++ z)
joined_push [] z i e = let zero_is : (i == 0) ≡ true = grind (arith, nat_tests) in rw zero_is refl
joined_push (x ∷ xs) z i e = let above : (i == 0) ≡ false = grind (arith, nat_tests) in rw above (joined_more xs x z)
