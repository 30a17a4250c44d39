-- Lists that are taken from the end, and stand reversed.
use Rattle.std.proofs.Common.{◌≡◌, ◌∙◌, ◌++◌, ◌∷◌, ◌<◌, [], ap, sym, List, length, append_assoc, length-append, arith}
use Rattle.std.specs.Prelude.{reverse}
use Rattle.std.proofs.lemmas.List.{reverse-append}

-- the last of the first list goes to the reversed one
pub reversed_more : {A : Type 0} (all list rest reversed : List A) (x : A) → all ≡ list ++ reverse reversed → list ≡ rest ++ x ∷ [] → all ≡ rest ++ reverse (reversed ++ x ∷ [])
reversed_more all list rest reversed x is last =
    is ∙ (ap (λ xs. xs ++ reverse reversed) last ∙ (append_assoc rest (x ∷ []) (reverse reversed) ∙ ap (λ xs. rest ++ xs) (sym (reverse-append reversed (x ∷ [])))))

-- the last of a list comes first in the reversed one
pub reversed_last : {A : Type 0} (list rest : List A) (x : A) → list ≡ rest ++ x ∷ [] → reverse list ≡ x ∷ reverse rest
reversed_last list rest x last = ap reverse last ∙ reverse-append rest (x ∷ [])

-- without its last a list is shorter
pub shorter : {A : Type 0} (list rest : List A) (x : A) → list ≡ rest ++ x ∷ [] → length rest < length list
shorter list rest x last = omega (arith, ap length last ∙ length-append rest (x ∷ []))
