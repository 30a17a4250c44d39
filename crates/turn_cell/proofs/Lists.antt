-- Lists of views, records and entries.
use Rattle.std.proofs.Common.{◌≡◌, ◌≢◌, ◌⊎◌, inl, inr, ⊎_elim, ℕ, zero, suc, ◌+◌, ◌<◌, ◌≤◌, ◌==◌, List, [], ◌∷◌, ◌++◌, map, length, set, Bool, true, false, nat_lt, cond, refl, sym, ap, ◌∙◌, subst, arith, length-append, append_assoc, append-nil, ne_eqb, eq-eqb}
use Rattle.std.proofs.lemmas.List.Elements.{filter-append}
use Rattle.std.proofs.lemmas.Bool.Decides.{nat_tests}
use mathlib.Core.Option.{some, some-injective, some-ne-none}
use lib.ListN.{get_elem?}
use Rattle.turn_cell.specs.Rules.{In, IsPrefixOf, AreDistinct, entries_by, total, longer}

module _ {V : Type 0} (f : V → ℕ) where
  pub total-set : (l : List V) (i : ℕ) (v w : V) → get_elem? l i ≡ some v → total f (set l i w) + f v ≡ total f l + f w
  total-set [] i v w e = absurd (some-ne-none v (sym e))
  total-set (x ∷ xs) zero v w e = let is : f x ≡ f v = ap f (some-injective x v e) in omega arith
  total-set (x ∷ xs) (suc i) v w e = let r = total-set xs i v w e in omega arith

  pub total-snoc : (l : List V) (v : V) → total f (l ++ v ∷ []) ≡ total f l + f v
  total-snoc [] v = omega arith
  total-snoc (x ∷ xs) v = let r = total-snoc xs v in omega arith

  pub total-at : (l : List V) (i : ℕ) (v : V) → get_elem? l i ≡ some v → f v ≤ total f l
  total-at [] i v e = absurd (some-ne-none v (sym e))
  total-at (x ∷ xs) zero v e = let is : f x ≡ f v = ap f (some-injective x v e) in omega arith
  total-at (x ∷ xs) (suc i) v e = let r = total-at xs i v e in omega arith

  -- two different places weigh together no more than all
  pub total-two : (l : List V) (i j : ℕ) (v w : V) → get_elem? l i ≡ some v → get_elem? l j ≡ some w → i ≢ j → f v + f w ≤ total f l
  total-two [] i j v w e d n = absurd (some-ne-none v (sym e))
  total-two (x ∷ xs) zero zero v w e d n = absurd (n refl)
  total-two (x ∷ xs) zero (suc j) v w e d n = let is : f x ≡ f v = ap f (some-injective x v e) in let r = total-at xs j w d in omega arith
  total-two (x ∷ xs) (suc i) zero v w e d n = let is : f x ≡ f w = ap f (some-injective x w d) in let r = total-at xs i v e in omega arith
  total-two (x ∷ xs) (suc i) (suc j) v w e d n = let r = total-two xs i j v w e d (λ h. n (ap suc h)) in omega arith

module _ {A : Type 0} where
  pub In-left : (xs ys : List A) (x : A) → In xs x → In (xs ++ ys) x
  In-left [] ys x i = absurd i
  In-left (y ∷ xs) ys x i = ⊎_elim (λ (e : y ≡ x). inl e) (λ (h : In xs x). inr (In-left xs ys x h)) i

  pub In-right : (xs ys : List A) (x : A) → In ys x → In (xs ++ ys) x
  In-right [] ys x i = i
  In-right (y ∷ xs) ys x i = inr (In-right xs ys x i)

  pub In-cases : (xs ys : List A) (x : A) → In (xs ++ ys) x → In xs x ⊎ In ys x
  In-cases [] ys x i = inr i
  In-cases (y ∷ xs) ys x i = ⊎_elim (λ (e : y ≡ x). inl (inl e)) (λ (h : In (xs ++ ys) x). ⊎_elim (λ (a : In xs x). inl (inr a)) (λ (b : In ys x). inr b) (In-cases xs ys x h)) i

  pub In-one : (y x : A) → In (y ∷ []) x → y ≡ x
  In-one y x i = ⊎_elim (λ (e : y ≡ x). e) (λ (h : ⊥). absurd h) i

  pub In-map : {B : Type 0} (f : A → B) (xs : List A) (x : A) → In xs x → In (map f xs) (f x)
  In-map f [] x i = absurd i
  In-map f (y ∷ xs) x i = ⊎_elim (λ (e : y ≡ x). inl (ap f e)) (λ (h : In xs x). inr (In-map f xs x h)) i

  pub In-map_from : {B : Type 0} (f : A → B) (xs : List A) (b : B) → In (map f xs) b → (x : A) × In xs x × (f x ≡ b)
  In-map_from f [] b i = absurd i
  In-map_from f (y ∷ xs) b i = ⊎_elim (λ (e : f y ≡ b). (y, inl refl, e)) (λ (h : In (map f xs) b). let r = In-map_from f xs b h in (r.0, inr r.1, r.2)) i

  pub prefix-refl : (xs : List A) → IsPrefixOf xs xs
  prefix-refl xs = ([], sym (append-nil xs))

  pub prefix-trans : (xs ys zs : List A) → IsPrefixOf xs ys → IsPrefixOf ys zs → IsPrefixOf xs zs
  prefix-trans xs ys zs p q = (p.0 ++ q.0, q.1 ∙ ap (λ l. l ++ q.0) p.1 ∙ append_assoc xs p.0 q.0)

  pub prefix-more : (xs ys zs : List A) → IsPrefixOf xs ys → IsPrefixOf xs (ys ++ zs)
  prefix-more xs ys zs p = (p.0 ++ zs, ap (λ l. l ++ zs) p.1 ∙ append_assoc xs p.0 zs)

  pub uncons : (x y : A) (xs ys : List A) → x ∷ xs ≡ y ∷ ys → (x ≡ y) × (xs ≡ ys)
  uncons x y xs ys e = (cc, cc)

  -- of two beginnings of one list the shorter begins the longer
  pub prefix-of : (xs ys zs : List A) → IsPrefixOf xs zs → IsPrefixOf ys zs → length xs ≤ length ys → IsPrefixOf xs ys
  prefix-of [] ys zs p q le = (ys, refl)
  prefix-of (x ∷ xs) [] zs p q le = absurd (omega arith)
  prefix-of (x ∷ xs) (y ∷ ys) [] p q le = absurd (let h = ap length p.1 in omega (arith, h))
  prefix-of (x ∷ xs) (y ∷ ys) (z ∷ zs) p q le =
      let a = uncons z x zs (xs ++ p.0) p.1 in
      let b = uncons z y zs (ys ++ q.0) q.1 in
      let r = prefix-of xs ys zs (p.0, a.1) (q.0, b.1) (omega (arith, le)) in
      let same : x ≡ y = sym a.0 ∙ b.0 in (r.0, ap (λ l. y ∷ l) r.1 ∙ ap (λ h. h ∷ xs ++ r.0) (sym same))

  picks : (P : List A → Type 0) (xs ys : List A) (b : Bool) → nat_lt (length xs) (length ys) ≡ b → (length xs ≤ length ys → P ys) → (length ys ≤ length xs → P xs) → P (cond b ys xs)
  picks P xs ys true is less more = less (let h : length xs < length ys = grind (arith, nat_tests) in omega (arith, h))
  picks P xs ys false is less more = more (let h : length ys ≤ length xs = grind (arith, nat_tests) in h)

  pub prefix-left : (xs ys : List A) → (zs : List A) → IsPrefixOf xs zs → IsPrefixOf ys zs → IsPrefixOf xs (longer xs ys)
  prefix-left xs ys zs p q = picks (IsPrefixOf xs) xs ys (nat_lt (length xs) (length ys)) refl (λ le. prefix-of xs ys zs p q le) (λ le. prefix-refl xs)

  pub prefix-right : (xs ys : List A) → (zs : List A) → IsPrefixOf xs zs → IsPrefixOf ys zs → IsPrefixOf ys (longer xs ys)
  prefix-right xs ys zs p q = picks (IsPrefixOf ys) xs ys (nat_lt (length xs) (length ys)) refl (λ le. prefix-refl ys) (λ le. prefix-of ys xs zs q p le)

  pub prefix-longer : (xs ys : List A) → (zs : List A) → IsPrefixOf xs zs → IsPrefixOf ys zs → IsPrefixOf (longer xs ys) zs
  prefix-longer xs ys zs p q = picks (λ l. IsPrefixOf l zs) xs ys (nat_lt (length xs) (length ys)) refl (λ le. q) (λ le. p)

pub distinct-left : (xs ys : List ℕ) → AreDistinct (xs ++ ys) → AreDistinct xs
distinct-left [] ys d = tt
distinct-left (x ∷ xs) ys d = ((λ i. d.0 (In-left xs ys x i)), distinct-left xs ys d.1)

-- two lists of different numbers that share none make one
pub distinct-append : (xs ys : List ℕ) → AreDistinct xs → AreDistinct ys → ((n : ℕ) → In xs n → In ys n → ⊥) → AreDistinct (xs ++ ys)
distinct-append [] ys a b apart = b
distinct-append (x ∷ xs) ys a b apart =
    ((λ i. ⊎_elim (λ (h : In xs x). a.0 h) (λ (h : In ys x). apart x (inl refl) h) (In-cases xs ys x i)), distinct-append xs ys a.1 b (λ n i. apart n (inr i)))

module _ {E : Type 0} (caller : E → ℕ) where
  pub by-append : (n : ℕ) (xs ys : List E) → entries_by caller n (xs ++ ys) ≡ entries_by caller n xs ++ entries_by caller n ys
  by-append n xs ys = filter-append (λ e. caller e == n) xs ys

  pub by-one : (n : ℕ) (e : E) → caller e ≡ n → entries_by caller n (e ∷ []) ≡ e ∷ []
  by-one n e is = rw (eq-eqb (caller e) n is) refl

  pub by-other : (n : ℕ) (e : E) → caller e ≢ n → entries_by caller n (e ∷ []) ≡ []
  by-other n e not = rw (ne_eqb (caller e) n not) refl

  pub by-none : (n : ℕ) (es : List E) → ((e : E) → In es e → caller e ≢ n) → entries_by caller n es ≡ []
  by-none n [] never = refl
  by-none n (e ∷ es) never = rw (ne_eqb (caller e) n (never e (inl refl))) (by-none n es (λ x i. never x (inr i)))

  pub by-snoc : (n : ℕ) (xs : List E) (e : E) → caller e ≡ n → entries_by caller n (xs ++ e ∷ []) ≡ entries_by caller n xs ++ e ∷ []
  by-snoc n xs e is = by-append n xs (e ∷ []) ∙ ap (λ l. entries_by caller n xs ++ l) (by-one n e is)

  pub by-snoc_other : (n : ℕ) (xs : List E) (e : E) → caller e ≢ n → entries_by caller n (xs ++ e ∷ []) ≡ entries_by caller n xs
  by-snoc_other n xs e not = by-append n xs (e ∷ []) ∙ ap (λ l. entries_by caller n xs ++ l) (by-other n e not) ∙ append-nil (entries_by caller n xs)

  nothing : (xs ys : List E) → xs ++ ys ≡ [] → xs ≡ []
  nothing [] ys e = refl
  nothing (x ∷ xs) ys e = absurd (let h = ap length e in omega (arith, h))

  rest_nothing : (xs ys : List E) → xs ++ ys ≡ xs → ys ≡ []
  rest_nothing xs [] e = refl
  rest_nothing xs (y ∷ ys) e = absurd (let h = ap length e in omega (arith, h, length-append xs (y ∷ ys)))

  pub by-prefix_none : (n : ℕ) (xs ys : List E) → IsPrefixOf xs ys → entries_by caller n ys ≡ [] → entries_by caller n xs ≡ []
  by-prefix_none n xs ys p empty = nothing (entries_by caller n xs) (entries_by caller n p.0) (sym (by-append n xs p.0) ∙ sym (ap (entries_by caller n) p.1) ∙ empty)

  nothing_between : (xs ys zs : List E) → (xs ++ ys) ++ zs ≡ xs → ys ≡ []
  nothing_between xs ys zs e = nothing ys zs (rest_nothing xs (ys ++ zs) (sym (append_assoc xs ys zs) ∙ e))

  -- what stands between a beginning and a whole that have the same entries of a caller has them too
  pub by-between : (n : ℕ) (xs ys zs : List E) → IsPrefixOf xs ys → IsPrefixOf ys zs → entries_by caller n zs ≡ entries_by caller n xs → entries_by caller n zs ≡ entries_by caller n ys
  by-between n xs ys zs p q is =
      let a : entries_by caller n ys ≡ entries_by caller n xs ++ entries_by caller n p.0 = ap (entries_by caller n) p.1 ∙ by-append n xs p.0 in
      let b : entries_by caller n zs ≡ entries_by caller n ys ++ entries_by caller n q.0 = ap (entries_by caller n) q.1 ∙ by-append n ys q.0 in
      let c : (entries_by caller n xs ++ entries_by caller n p.0) ++ entries_by caller n q.0 ≡ entries_by caller n xs = sym (b ∙ ap (λ l. l ++ entries_by caller n q.0) a) ∙ is in
      let d : entries_by caller n p.0 ≡ [] = nothing_between (entries_by caller n xs) (entries_by caller n p.0) (entries_by caller n q.0) c in
      is ∙ sym (append-nil (entries_by caller n xs)) ∙ ap (λ l. entries_by caller n xs ++ l) (sym d) ∙ sym a

  cons_not_nil : (e : E) (es : List E) → e ∷ es ≡ [] → ⊥
  cons_not_nil e es h = let l = ap length h in omega (arith, l)

  -- a beginning that has all entries of each caller is the whole
  pub by-whole : (xs ys : List E) → IsPrefixOf xs ys → ((e : E) → In ys e → entries_by caller (caller e) ys ≡ entries_by caller (caller e) xs) → ys ≡ xs
  by-whole xs ys ([], is) all = is ∙ append-nil xs
  by-whole xs ys (e ∷ es, is) all =
      let n = caller e in
      let here = all e (subst (λ l. In l e) (sym is) (In-right xs (e ∷ es) e (inl refl))) in
      let gone : entries_by caller n (e ∷ es) ≡ [] = rest_nothing (entries_by caller n xs) (entries_by caller n (e ∷ es)) (sym (by-append n xs (e ∷ es)) ∙ sym (ap (entries_by caller n) is) ∙ here) in
      absurd (cons_not_nil e (entries_by caller n es) (sym (ap (λ b. cond b (e ∷ entries_by caller n es) (entries_by caller n es)) (eq-eqb (caller e) n refl)) ∙ gone))
