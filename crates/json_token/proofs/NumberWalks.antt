-- From the bytes of a number to the part that they lead to.
use Rattle.std.proofs.Common.{◌≡◌, ℕ, ◌+◌, ◌<◌, List, [], ◌∷◌, ◌++◌, length, take, get_or, Some, sym, ap, ◌∙◌, subst, refl, arith}
use Rattle.std.proofs.lemmas.List.{take_more, take_all}
use Rattle.json_token.specs.Number.{Leads, next_part}
use Rattle.json_token.specs.declared.number.Part.{Part}

pub Leads-push : (p q r : Part) (s : List ℕ) (b : ℕ) → Leads p s q → next_part q b ≡ Some r → Leads p (s ++ (b ∷ [])) r
Leads-push p q r [] b h e = (r, ap (λ x. next_part x b) h ∙ e, refl)
Leads-push p q r (a ∷ s) b (m, n, h) e = (m, n, Leads-push m q r s b h e)

pub Leads-more : (p q r : Part) (bytes : List ℕ) (i : ℕ) → i < length bytes → Leads p (take i bytes) q → next_part q (get_or bytes i 0) ≡ Some r → Leads p (take (i + 1) bytes) r
Leads-more p q r bytes i l h e = let P : List ℕ → Type 0 = λ s. Leads p s r in subst P (sym (take_more bytes i 0 l)) (Leads-push p q r (take i bytes) (get_or bytes i 0) h e)

pub Leads-whole : (p q : Part) (bytes : List ℕ) (i : ℕ) → length bytes ≡ i → Leads p (take i bytes) q → Leads p bytes q
Leads-whole p q bytes i e h = let P : List ℕ → Type 0 = λ s. Leads p s q in subst P (ap (λ n. take n bytes) (sym e) ∙ take_all (length bytes) bytes (omega arith)) h
