-- From one item more to the map of the items so far.
use Rattle.std.proofs.Common.{◌≡◌, ◌∙◌, ◌+◌, ◌<◌, ◌≤◌, ◌++◌, ◌∷◌, [], ℕ, List, map, take, get_or, length, ap, sym, subst}
use Rattle.std.proofs.lemmas.List.{map_more, take_all}

-- the loop goes over `given`, which is the list
pub mapped_more : {A B : Type 0} (f : A → B) (xs given : List A) (made more : List B) (i : ℕ) (x : A) (y : B) → given ≡ xs → i < length given → made ≡ map f (take i xs)
    → y ≡ f (get_or given i x) → more ≡ made ++ y ∷ [] → more ≡ map f (take (i + 1) xs)
mapped_more f xs given made more i x y same lt so_far is pushed =
    pushed ∙ (ap (λ ys. ys ++ y ∷ []) so_far ∙ (ap (λ z. map f (take i xs) ++ z ∷ []) (is ∙ ap (λ ys. f (get_or ys i x)) same) ∙ sym (map_more f xs i x (subst (λ ys. i < length ys) same lt))))

-- at the end of the list these are all
pub mapped_all : {A B : Type 0} (f : A → B) (xs given : List A) (made : List B) (i : ℕ) → given ≡ xs → length given ≤ i → made ≡ map f (take i xs) → made ≡ map f xs
mapped_all f xs given made i same le so_far = so_far ∙ ap (map f) (take_all i xs (subst (λ ys. length ys ≤ i) same le))
