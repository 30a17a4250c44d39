-- From the bytes of a string to the part that they lead to.
use Rattle.std.proofs.Common.{◌≡◌, ℕ, ◌+◌, ◌<◌, List, [], ◌∷◌, ◌++◌, length, take, drop, get_or, Bool, true, false, ◌==◌, ◌&&◌, ◌||◌, Some, sym, ap, ◌∙◌, subst, refl, arith}
use Rattle.std.proofs.lemmas.List.{take_more, take_all}
use Rattle.std.specs.List.{list_all}
use Rattle.std.proofs.lemmas.List.Folds.{list_any-append, list_any_more, list_all-append, list_all_more}
use Rattle.std.proofs.lemmas.Bool.Decides.{nat_tests}
use Rattle.std.proofs.Math.Seq.{take-add}
use Rattle.json_token.specs.Chars.{Leads, next_inside, after_plain, is_plain, has_backslash}
use Rattle.json_token.specs.declared.chars.Inside.{Inside}
use Rattle.json_token.specs.declared.chars.Inside.TheVariants.{Plain}

pub Leads-push : (p q r : Inside) (s : List ℕ) (b : ℕ) → Leads p s q → next_inside q b ≡ Some r → Leads p (s ++ (b ∷ [])) r
Leads-push p q r [] b h e = (r, ap (λ x. next_inside x b) h ∙ e, refl)
Leads-push p q r (a ∷ s) b (m, n, h) e = (m, n, Leads-push m q r s b h e)

pub Leads-more : (p q r : Inside) (bytes : List ℕ) (i : ℕ) → i < length bytes → Leads p (take i bytes) q → next_inside q (get_or bytes i 0) ≡ Some r → Leads p (take (i + 1) bytes) r
Leads-more p q r bytes i l h e = let P : List ℕ → Type 0 = λ s. Leads p s r in subst P (sym (take_more bytes i 0 l)) (Leads-push p q r (take i bytes) (get_or bytes i 0) h e)

pub Leads-whole : (p q : Inside) (bytes : List ℕ) (i : ℕ) → length bytes ≡ i → Leads p (take i bytes) q → Leads p bytes q
Leads-whole p q bytes i e h = let P : List ℕ → Type 0 = λ s. Leads p s q in subst P (ap (λ n. take n bytes) (sym e) ∙ take_all (length bytes) bytes (omega arith)) h

Leads-append : (p q r : Inside) (s t : List ℕ) → Leads p s q → Leads q t r → Leads p (s ++ t) r
Leads-append p q r [] t h k = let P : Inside → Type 0 = λ x. Leads x t r in subst P (sym h) k
Leads-append p q r (b ∷ s) t (m, n, h) k = (m, n, Leads-append m q r s t h k)

both : (a b : Bool) → (a && b) ≡ true → (a ≡ true) × (b ≡ true)
both true true e = (refl, refl)
both true false e = absurd cc
both false b e = absurd cc

pub neither : (a b : Bool) → (a || b) ≡ false → (a ≡ false) × (b ≡ false)
neither false false e = (refl, refl)
neither false true e = absurd cc
neither true b e = absurd cc

plain_step : (b : ℕ) → is_plain b ≡ true → after_plain b ≡ Some Plain
plain_step b e = grind (arith, nat_tests)

plain_own : (b : ℕ) → is_plain b ≡ true → (b == 92) ≡ false
plain_own b e = grind (arith, nat_tests)

-- plain bytes lead from a character to a character
pub plain_leads : (s : List ℕ) → list_all is_plain s ≡ true → Leads Plain s Plain
unfolding next_inside
plain_leads [] e = refl
plain_leads (b ∷ s) e = let h = both (is_plain b) (list_all is_plain s) e in (Plain, plain_step b h.0, plain_leads s h.1)

pub plain_no_backslash : (s : List ℕ) → list_all is_plain s ≡ true → has_backslash s ≡ false
plain_no_backslash [] e = refl
plain_no_backslash (b ∷ s) e = let h = both (is_plain b) (list_all is_plain s) e in (λ i. plain_own b h.0 i || plain_no_backslash s h.1 i)

-- the bytes up to the place, and so many plain ones behind them
front : (bytes : List ℕ) (place n : ℕ) → take (place + n) bytes ≡ take place bytes ++ take n (drop place bytes)
front bytes place n = take-add place n bytes

-- a block of plain bytes behind plain bytes
pub plain_more : (bytes : List ℕ) (at m : ℕ) → m ≡ 16 → list_all is_plain (take at bytes) ≡ true → list_all is_plain (take m (drop at bytes)) ≡ true → list_all is_plain (take (at + 16) bytes) ≡ true
plain_more bytes at m e h k =
    ap (λ n. list_all is_plain (take (at + n) bytes)) (sym e) ∙ (ap (list_all is_plain) (front bytes at m) ∙ (list_all-append is_plain (take at bytes) (take m (drop at bytes)) ∙ (λ i. h i && k i)))

pub plain_one : (bytes : List ℕ) (at : ℕ) → at < length bytes → list_all is_plain (take at bytes) ≡ true → is_plain (get_or bytes at 0) ≡ true → list_all is_plain (take (at + 1) bytes) ≡ true
plain_one bytes at l h k = list_all_more is_plain bytes at 0 l ∙ (λ i. h i && k i)

pub plain_passed : (p q : Inside) (bytes : List ℕ) (place n : ℕ) → q ≡ Plain → list_all is_plain (take n (drop place bytes)) ≡ true → Leads p (take place bytes) q → Leads p (take (place + n) bytes) q
plain_passed p q bytes place n e h l =
    let P : List ℕ → Type 0 = λ s. Leads p s q in
    let Q : Inside → Type 0 = λ x. Leads x (take n (drop place bytes)) x in
    subst P (sym (front bytes place n)) (Leads-append p q q _ _ l (subst Q (sym e) (plain_leads (take n (drop place bytes)) h)))

pub own_passed : (bytes : List ℕ) (place n : ℕ) → list_all is_plain (take n (drop place bytes)) ≡ true → has_backslash (take place bytes) ≡ false → has_backslash (take (place + n) bytes) ≡ false
own_passed bytes place n h e =
    ap has_backslash (front bytes place n) ∙ (list_any-append (λ b. b == 92) (take place bytes) (take n (drop place bytes)) ∙ (λ i. e i || plain_no_backslash (take n (drop place bytes)) h i))

-- one byte more is no backslash either
pub own_more : (bytes : List ℕ) (i : ℕ) (marked : Bool) → i < length bytes → (marked ≡ false → has_backslash (take i bytes) ≡ false) → (marked || (get_or bytes i 0 == 92)) ≡ false → has_backslash (take (i + 1) bytes) ≡ false
own_more bytes i marked l h e =
    let n = neither marked (get_or bytes i 0 == 92) e in
    list_any_more (λ b. b == 92) bytes i 0 l ∙ (λ j. h n.0 j || n.1 j)
