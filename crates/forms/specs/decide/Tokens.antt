-- Which bytes are white space, a number, or a string, can be decided.
use Rattle.std.proofs.Common.{◌≡◌, ◌∙◌, ℕ, List, [], ◌∷◌, ◌++◌, Bool, true, false, Option, Some, None, refl, ap, sym, subst, inl, inr}
use Rattle.std.specs.Prelude.{◌⊎◌, ◌==◌}
use Rattle.json_token.specs.Tokens.{AreBlank, is_blank}
use Rattle.json_token.specs.Number as number
use Rattle.json_token.specs.Number.{IsNumber, may_end, next_part}
use Rattle.json_token.specs.declared.number.Part.{Part}
use Rattle.json_token.specs.declared.number.Part.TheVariants.{Start}
use Rattle.json_token.specs.Chars as chars
use Rattle.json_token.specs.Chars.{IsChars, next_inside}
use Rattle.json_token.specs.declared.chars.Inside.{Inside}
use Rattle.json_token.specs.declared.chars.Inside.TheVariants.{Plain, Tail1, Tail2, Tail3, AfterE0, AfterEd, AfterF0, AfterF4, Escape, Unit4, Unit3, Unit2, Unit1, UnitD, High2, High1, LowSlash, LowU, LowD, LowC}
use Rattle.forms.specs.decide.Decisions.{Decided, Split, decided_both, decided_equal, decided_if, decided_same, decided_split, decided_test}

pub decided_blank : (bytes : List ℕ) → Decided (AreBlank bytes)
decided_blank [] = inl tt
decided_blank (b ∷ bytes) = decided_both (is_blank b ≡ true) (AreBlank bytes) (decided_test (is_blank b)) (decided_blank bytes)

-- ---- numbers

-- the bytes end a number that stands there
abbrev pub Ends : Part → List ℕ → Type 0
Ends p s = (q : Part) × number.Leads p s q × (may_end q ≡ true)

decided_ends : (p : Part) (s : List ℕ) → Decided (Ends p s)
decided_ends p [] = decided_if (may_end p ≡ true) (Ends p []) (λ e. (p, refl, e)) (λ x. subst (λ (q : Part). may_end q ≡ true) (sym x.1) x.2) (decided_test (may_end p))
decided_ends p (b ∷ s) = go (next_part p b) refl (λ r. decided_ends r s)
  where
    go : (o : Option Part) → next_part p b ≡ o → ((r : Part) → Decided (Ends r s)) → Decided (Ends p (b ∷ s))
    go None is later = inr (λ x. let r = x.1 in absurd (let e : None ≡ Some r.0 = sym is ∙ r.1 in cc e))
    go (Some r) is later =
        decided_if (Ends r s) (Ends p (b ∷ s)) (λ x. (x.0, (r, is, x.1), x.2))
        (λ x. let y = x.1 in let same : y.0 ≡ r = (let e : Some y.0 ≡ Some r = sym y.1 ∙ is in cc e) in (x.0, subst (λ (k : Part). number.Leads k s x.0) same y.2, x.2))
        (later r)

pub decided_number : (s : List ℕ) → Decided (IsNumber s)
decided_number s = decided_ends Start s

-- ---- strings

decided_plain : (p : Inside) → Decided (p ≡ Plain)
decided_plain Plain = inl refl
decided_plain Tail1 = inr (λ e. absurd (cc e))
decided_plain Tail2 = inr (λ e. absurd (cc e))
decided_plain Tail3 = inr (λ e. absurd (cc e))
decided_plain AfterE0 = inr (λ e. absurd (cc e))
decided_plain AfterEd = inr (λ e. absurd (cc e))
decided_plain AfterF0 = inr (λ e. absurd (cc e))
decided_plain AfterF4 = inr (λ e. absurd (cc e))
decided_plain Escape = inr (λ e. absurd (cc e))
decided_plain Unit4 = inr (λ e. absurd (cc e))
decided_plain Unit3 = inr (λ e. absurd (cc e))
decided_plain Unit2 = inr (λ e. absurd (cc e))
decided_plain Unit1 = inr (λ e. absurd (cc e))
decided_plain UnitD = inr (λ e. absurd (cc e))
decided_plain High2 = inr (λ e. absurd (cc e))
decided_plain High1 = inr (λ e. absurd (cc e))
decided_plain LowSlash = inr (λ e. absurd (cc e))
decided_plain LowU = inr (λ e. absurd (cc e))
decided_plain LowD = inr (λ e. absurd (cc e))
decided_plain LowC = inr (λ e. absurd (cc e))

decided_leads : (p : Inside) (s : List ℕ) → Decided (chars.Leads p s Plain)
decided_leads p [] = decided_plain p
decided_leads p (b ∷ s) = go (next_inside p b) refl (λ r. decided_leads r s)
  where
    go : (o : Option Inside) → next_inside p b ≡ o → ((r : Inside) → Decided (chars.Leads r s Plain)) → Decided (chars.Leads p (b ∷ s) Plain)
    go None is later = inr (λ x. absurd (let e : None ≡ Some x.0 = sym is ∙ x.1 in cc e))
    go (Some r) is later =
        decided_if (chars.Leads r s Plain) (chars.Leads p (b ∷ s) Plain) (λ x. (r, is, x))
        (λ x. let same : x.0 ≡ r = (let e : Some x.0 ≡ Some r = sym x.1 ∙ is in cc e) in subst (λ (k : Inside). chars.Leads k s Plain) same x.2)
        (later r)

pub decided_chars : (s : List ℕ) → Decided (IsChars s)
decided_chars s = decided_leads Plain s

-- a string with its quotes
abbrev pub IsQuoted : List ℕ → Type 0
IsQuoted q = (s : List ℕ) × (q ≡ 34 ∷ (s ++ (34 ∷ []))) × IsChars s

pub decided_quoted : (q : List ℕ) → Decided (IsQuoted q)
decided_quoted [] = inr (λ x. absurd (let e = x.1 in cc e))
decided_quoted (b ∷ q) =
    decided_if ((b ≡ 34) × Split q (λ s last. IsChars s × (last ≡ 34 ∷ []))) (IsQuoted (b ∷ q)) there back
    (decided_both (b ≡ 34) (Split q (λ s last. IsChars s × (last ≡ 34 ∷ []))) (decided_equal b 34)
    (decided_split q (λ s last. IsChars s × (last ≡ 34 ∷ [])) (λ s last e. decided_both (IsChars s) (last ≡ 34 ∷ []) (decided_chars s) (decided_same last (34 ∷ [])))))
  where
    there : (b ≡ 34) × Split q (λ s last. IsChars s × (last ≡ 34 ∷ [])) → IsQuoted (b ∷ q)
    there x =
        let y = x.1 in
        (y.0, ap (λ k. k ∷ q) x.0 ∙ ap (λ l. 34 ∷ l) (y.2 ∙ ap (λ l. y.0 ++ l) y.3.1), y.3.0)

    back : IsQuoted (b ∷ q) → (b ≡ 34) × Split q (λ s last. IsChars s × (last ≡ 34 ∷ []))
    back x =
        let e = x.1 in
        (let one : b ≡ 34 = cc e in one, (x.0, 34 ∷ [], (let rest : q ≡ x.0 ++ (34 ∷ []) = cc e in rest), (x.2, refl)))
