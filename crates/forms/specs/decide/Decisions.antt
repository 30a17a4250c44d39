-- What can be decided of bytes and their parts.
use Rattle.std.proofs.Common.{◌≡◌, ◌∙◌, ℕ, List, [], ◌∷◌, ◌++◌, Bool, true, false, refl, ap, sym, subst, inl, inr}
use Rattle.std.specs.Prelude.{◌⊎◌, ◌==◌}
use Rattle.std.proofs.lemmas.Bool.Decides.{Decides-eqb}

-- it is so, or it isn't
abbrev pub Decided : Type 0 → Type 0
Decided P = P ⊎ (P → ⊥)

pub decided_if : (P Q : Type 0) → (P → Q) → (Q → P) → Decided P → Decided Q
decided_if P Q there back (inl p) = inl (there p)
decided_if P Q there back (inr never) = inr (λ q. never (back q))

pub decided_both : (P Q : Type 0) → Decided P → Decided Q → Decided (P × Q)
decided_both P Q (inl p) (inl q) = inl (p, q)
decided_both P Q (inr never) d = inr (λ both. never both.0)
decided_both P Q (inl p) (inr never) = inr (λ both. never both.1)

-- the second where the first is so
pub decided_then : (P Q : Type 0) → Decided P → (P → Decided Q) → Decided (P × Q)
decided_then P Q (inl p) next = decided_both P Q (inl p) (next p)
decided_then P Q (inr never) next = inr (λ both. never both.0)

pub decided_either : (P Q : Type 0) → Decided P → Decided Q → Decided (P ⊎ Q)
decided_either P Q (inl p) d = inl (inl p)
decided_either P Q (inr never) (inl q) = inl (inr q)
decided_either P Q (inr never) (inr ever) = inr go
  where
    go : P ⊎ Q → ⊥
    go (inl p) = never p
    go (inr q) = ever q

pub decided_test : (b : Bool) → Decided (b ≡ true)
decided_test true = inl refl
decided_test false = inr (λ e. absurd (cc e))

pub decided_equal : (x y : ℕ) → Decided (x ≡ y)
decided_equal x y = decided_if ((x == y) ≡ true) (x ≡ y) (Decides-eqb x y).0 (Decides-eqb x y).1 (decided_test (x == y))

pub decided_same : (xs ys : List ℕ) → Decided (xs ≡ ys)
decided_same [] [] = inl refl
decided_same [] (y ∷ ys) = inr (λ e. absurd (cc e))
decided_same (x ∷ xs) [] = inr (λ e. absurd (cc e))
decided_same (x ∷ xs) (y ∷ ys) =
    decided_if ((x ≡ y) × (xs ≡ ys)) (x ∷ xs ≡ y ∷ ys) (λ both. cc (both.0, both.1)) (λ e. (let one : x ≡ y = cc e in one, let rest : xs ≡ ys = cc e in rest))
    (decided_both (x ≡ y) (xs ≡ ys) (decided_equal x y) (decided_same xs ys))

-- the bytes are two parts of which this is so
abbrev pub Split : List ℕ → (List ℕ → List ℕ → Type 0) → Type 0
Split xs P = (a : List ℕ) × (b : List ℕ) × (xs ≡ a ++ b) × P a b

pub decided_split : (xs : List ℕ) (P : List ℕ → List ℕ → Type 0) → ((a b : List ℕ) → xs ≡ a ++ b → Decided (P a b)) → Decided (Split xs P)
decided_split [] P each = go (each [] [] refl)
  where
    none : (a b : List ℕ) → [] ≡ a ++ b → P a b → P [] []
    none [] [] e p = p
    none [] (y ∷ b) e p = absurd (cc e)
    none (x ∷ a) b e p = absurd (cc e)

    go : Decided (P [] []) → Decided (Split [] P)
    go (inl p) = inl ([], [], refl, p)
    go (inr never) = inr (λ s. never (none s.0 s.1 s.2 s.3))
decided_split (x ∷ xs) P each = go (each [] (x ∷ xs) refl) (decided_split xs (λ a b. P (x ∷ a) b) (λ a b e. each (x ∷ a) b (ap (λ l. x ∷ l) e)))
  where
    later : (a b : List ℕ) → x ∷ xs ≡ a ++ b → P a b → P [] (x ∷ xs) ⊎ Split xs (λ a b. P (x ∷ a) b)
    later [] b e p = inl (subst (λ (l : List ℕ). P [] l) (sym e) p)
    later (y ∷ a) b e p =
        let first : y ≡ x = cc e in
        let rest : xs ≡ a ++ b = cc e in
        inr (a, b, rest, subst (λ (z : ℕ). P (z ∷ a) b) first p)

    go : Decided (P [] (x ∷ xs)) → Decided (Split xs (λ a b. P (x ∷ a) b)) → Decided (Split (x ∷ xs) P)
    go (inl p) d = inl ([], x ∷ xs, refl, p)
    go (inr never) (inl s) = inl (x ∷ s.0, s.1, ap (λ l. x ∷ l) s.2, s.3)
    go (inr never) (inr ever) = inr (λ s. elim (later s.0 s.1 s.2 s.3) [
      | inl p ↦ never p
      | inr t ↦ ever t
    ])
