-- From schemas with a map of their places, to one schema more or one fewer.
use Rattle.std.proofs.Common.{◌≡◌, ◌⊎◌, inl, inr, Bool, true, false, cond, Option, ℕ, zero, suc, ◌+◌, ◌<◌, List, [], ◌∷◌, ◌++◌, length, slice_get, Some, None, refl, sym, ap, subst, ◌∙◌, bytes_eq, arith}
use Rattle.std.specs.Prelude.{String}
use Rattle.std.specs.List.{AllByRecursion}
use Rattle.std.specs.BTreeMap.{BTreeMap, get_by_text}
use Rattle.std.proofs.lemmas.Slice.Eq.{bytes_eq-Decides}
use Rattle.avro_schema.specs.Nodes.{tree_of}
use Rattle.schema_table.specs.declared.known.Known.{Known}
use Rattle.schema_table.specs.Table.{IsForm, Lacks}
use Rattle.schema_table.specs.Index.{Changes, IsIndex, texts_of}

-- ---- lists with one more

pub texts_more : (ks : List Known) (k : Known) → texts_of (ks ++ k ∷ []) ≡ texts_of ks ++ k.text ∷ []
texts_more [] k = refl
texts_more (x ∷ ks) k = ap (λ l. x.text ∷ l) (texts_more ks k)

pub length-texts : (ks : List Known) → length (texts_of ks) ≡ length ks
length-texts [] = refl
length-texts (k ∷ ks) = ap suc (length-texts ks)

pub length-more : {X : Type 0} (xs : List X) (x : X) → length (xs ++ x ∷ []) ≡ length xs + 1
length-more [] x = refl
length-more (y ∷ xs) x = omega (arith, length-more xs x)

pub same_front : {X : Type 0} (xs ys : List X) (x y : X) → xs ++ x ∷ [] ≡ ys ++ y ∷ [] → xs ≡ ys
same_front [] [] x y h = refl
same_front [] (b ∷ ys) x y h = absurd (omega (arith, ap length h, length-more ys y))
same_front (a ∷ xs) [] x y h = absurd (omega (arith, ap length h, length-more xs x))
same_front (a ∷ xs) (b ∷ ys) x y h =
    let head : a ≡ b = cc in
    let tail : xs ++ x ∷ [] ≡ ys ++ y ∷ [] = cc in
    rw (head) (ap (λ l. b ∷ l) (same_front xs ys x y tail))

pub in_more : (ts : List (List ℕ)) (t u : List ℕ) (i : ℕ) → slice_get (ts ++ t ∷ []) i ≡ Some u → (slice_get ts i ≡ Some u) ⊎ ((i ≡ length ts) × (t ≡ u))
in_more [] t u zero h = inr (refl, let e : t ≡ u = cc in e)
in_more [] t u (suc i) h = absurd (let e = h in cc)
in_more (x ∷ ts) t u zero h = inl h
in_more (x ∷ ts) t u (suc i) h = elim (in_more ts t u i h) [ inl there ↦ inl there | inr last ↦ inr (ap suc last.0, last.1) ]

pub still_in : (ts : List (List ℕ)) (t u : List ℕ) (i : ℕ) → slice_get ts i ≡ Some u → slice_get (ts ++ t ∷ []) i ≡ Some u
still_in [] t u i h = absurd (let e = h in cc)
still_in (x ∷ ts) t u zero h = h
still_in (x ∷ ts) t u (suc i) h = still_in ts t u i h

pub last_in : (ts : List (List ℕ)) (t : List ℕ) → slice_get (ts ++ t ∷ []) (length ts) ≡ Some t
last_in [] t = refl
last_in (x ∷ ts) t = last_in ts t

pub within : (ts : List (List ℕ)) (u : List ℕ) (i : ℕ) → slice_get ts i ≡ Some u → i < length ts
within [] u i h = absurd (let e = h in cc)
within (x ∷ ts) u zero h = omega arith
within (x ∷ ts) u (suc i) h = omega (arith, within ts u i h)

all_more : (P : Known → Type 0) (ks : List Known) (k : Known) → AllByRecursion P ks → P k → AllByRecursion P (ks ++ k ∷ [])
all_more P [] k all one = (one, tt)
all_more P (x ∷ ks) k all one = (all.0, all_more P ks k all.1 one)

all_front : (P : Known → Type 0) (ks : List Known) (k : Known) → AllByRecursion P (ks ++ k ∷ []) → AllByRecursion P ks
all_front P [] k all = tt
all_front P (x ∷ ks) k all = (all.0, all_front P ks k all.1)

-- ---- a map with one name changed

decided : (a q : List ℕ) → (a ≡ q) ⊎ (a ≡ q → ⊥)
decided a q = go (bytes_eq a q) refl
  where
    go : (b : Bool) → bytes_eq a q ≡ b → (a ≡ q) ⊎ (a ≡ q → ⊥)
    go true e = inl ((bytes_eq-Decides a q).0 e)
    go false e = inr (λ is. let yes = (bytes_eq-Decides a q).1 is in let no : true ≡ false = sym yes ∙ e in cc)

differ : (a q : List ℕ) → (a ≡ q → ⊥) → bytes_eq a q ≡ false
differ a q other = go (bytes_eq a q) refl
  where
    go : (b : Bool) → bytes_eq a q ≡ b → bytes_eq a q ≡ false
    go true e = absurd (other ((bytes_eq-Decides a q).0 e))
    go false e = e

at_name : {X : Type 0} (a q : List ℕ) (r w o : Option X) → r ≡ cond (bytes_eq a q) w o → a ≡ q → r ≡ w
at_name a q r w o h same = h ∙ ap (λ b. cond b w o) ((bytes_eq-Decides a q).1 same)

at_other : {X : Type 0} (a q : List ℕ) (r w o : Option X) → r ≡ cond (bytes_eq a q) w o → (a ≡ q → ⊥) → r ≡ o
at_other a q r w o h other = h ∙ ap (λ b. cond b w o) (differ a q other)

-- ---- the index

placed_push : {Y : Type 0} (m n : BTreeMap (String Y) ℕ) (ks : List Known) (k : Known) → IsIndex ks m → Lacks (texts_of ks) k.text → Changes k.text m n (Some (length ks))
    → (place : ℕ) (text : List ℕ) → slice_get (texts_of (ks ++ k ∷ [])) place ≡ Some text → get_by_text n text ≡ Some place
placed_push m n ks k is new changes place text h =
    let there = in_more (texts_of ks) k.text text place (subst (λ l. slice_get l place ≡ Some text) (texts_more ks k) h) in
    elim (decided k.text text) [
      | inl same ↦ elim there [
        | inl old ↦ absurd (new place (subst (λ t. slice_get (texts_of ks) place ≡ Some t) (sym same) old))
        | inr last ↦ at_name k.text text _ _ _ (changes text) same ∙ ap Some (sym (last.0 ∙ length-texts ks))
      ]
      | inr other ↦ elim there [
        | inl old ↦ at_other k.text text _ _ _ (changes text) other ∙ is.placed place text old
        | inr last ↦ absurd (other last.1)
      ]
    ]

found_push : {Y : Type 0} (m n : BTreeMap (String Y) ℕ) (ks : List Known) (k : Known) → IsIndex ks m → Changes k.text m n (Some (length ks))
    → (place : ℕ) (text : List ℕ) → get_by_text n text ≡ Some place → slice_get (texts_of (ks ++ k ∷ [])) place ≡ Some text
found_push m n ks k is changes place text h =
    subst (λ l. slice_get l place ≡ Some text) (sym (texts_more ks k))
    (elim (decided k.text text) [
      | inl same ↦
          let e : Some (length ks) ≡ Some place = sym (at_name k.text text _ _ _ (changes text) same) ∙ h in
          let at : length ks ≡ place = cc in
          subst (λ p. slice_get (texts_of ks ++ k.text ∷ []) p ≡ Some text) (length-texts ks ∙ at) (last_in (texts_of ks) k.text ∙ ap Some same)
      | inr other ↦ still_in (texts_of ks) k.text text place (is.found place text (sym (at_other k.text text _ _ _ (changes text) other) ∙ h))
    ])

pub index_push : {Y : Type 0} (m n : BTreeMap (String Y) ℕ) (ks : List Known) (k : Known) → IsIndex ks m → length ks < 4294967295
    → Lacks (texts_of ks) k.text → IsForm k.text (tree_of k.schema)
    → Changes k.text m n (Some (length ks)) → IsIndex (ks ++ k ∷ []) n
index_push m n ks k is few new form changes =
    record {
      few = omega (arith, length-more ks k, few);
      forms = all_more (λ x. IsForm x.text (tree_of x.schema)) ks k is.forms form;
      placed = placed_push m n ks k is new changes;
      found = found_push m n ks k is changes;
    }

placed_pop : {Y : Type 0} (m n : BTreeMap (String Y) ℕ) (ks : List Known) (k : Known) → IsIndex (ks ++ k ∷ []) m → Changes k.text m n None
    → (place : ℕ) (text : List ℕ) → slice_get (texts_of ks) place ≡ Some text → get_by_text n text ≡ Some place
placed_pop m n ks k is changes place text h =
    let there = is.placed place text (subst (λ l. slice_get l place ≡ Some text) (sym (texts_more ks k)) (still_in (texts_of ks) k.text text place h)) in
    elim (decided k.text text) [
      | inl same ↦
          let last = is.placed (length (texts_of ks)) k.text (subst (λ l. slice_get l (length (texts_of ks)) ≡ Some k.text) (sym (texts_more ks k)) (last_in (texts_of ks) k.text)) in
          let e : Some place ≡ Some (length (texts_of ks)) = sym there ∙ ap (get_by_text m) (sym same) ∙ last in
          let at : place ≡ length (texts_of ks) = cc in
          absurd (omega (arith, at, within (texts_of ks) text place h))
      | inr other ↦ at_other k.text text _ _ _ (changes text) other ∙ there
    ]

found_pop : {Y : Type 0} (m n : BTreeMap (String Y) ℕ) (ks : List Known) (k : Known) → IsIndex (ks ++ k ∷ []) m → Changes k.text m n None
    → (place : ℕ) (text : List ℕ) → get_by_text n text ≡ Some place → slice_get (texts_of ks) place ≡ Some text
found_pop m n ks k is changes place text h =
    elim (decided k.text text) [
      | inl same ↦ absurd (let e : None ≡ Some place = sym (at_name k.text text _ _ _ (changes text) same) ∙ h in cc)
      | inr other ↦
          let there = is.found place text (sym (at_other k.text text _ _ _ (changes text) other) ∙ h) in
          elim (in_more (texts_of ks) k.text text place (subst (λ l. slice_get l place ≡ Some text) (texts_more ks k) there)) [
            | inl old ↦ old
            | inr last ↦ absurd (other last.1)
          ]
    ]

pub index_pop : {Y : Type 0} (m n : BTreeMap (String Y) ℕ) (ks : List Known) (k : Known) → IsIndex (ks ++ k ∷ []) m
    → Changes k.text m n None → IsIndex ks n
index_pop m n ks k is changes =
    record {
      few = omega (arith, length-more ks k, is.few);
      forms = all_front (λ x. IsForm x.text (tree_of x.schema)) ks k is.forms;
      placed = placed_pop m n ks k is changes;
      found = found_pop m n ks k is changes;
    }

-- a map with the entries of another has its index
pub index_same : {Y : Type 0} (m n : BTreeMap (String Y) ℕ) (ks : List Known) → IsIndex ks m → ((q : List ℕ) → get_by_text n q ≡ get_by_text m q) → IsIndex ks n
index_same m n ks is same = record {
  few = is.few;
  forms = is.forms;
  placed = λ place text h. same text ∙ is.placed place text h;
  found = λ place text h. is.found place text (sym (same text) ∙ h);
}

-- ---- what an index says of the texts

pub index_apart : {Y : Type 0} (m : BTreeMap (String Y) ℕ) (ks : List Known) → IsIndex ks m
    → (i j : ℕ) (text : List ℕ) → slice_get (texts_of ks) i ≡ Some text → slice_get (texts_of ks) j ≡ Some text → i ≡ j
index_apart m ks is i j text hi hj =
    let e : Some i ≡ Some j = sym (is.placed i text hi) ∙ is.placed j text hj in
    cc

pub index_lacks : {Y : Type 0} (m : BTreeMap (String Y) ℕ) (ks : List Known) (text : List ℕ) → IsIndex ks m → get_by_text m text ≡ None → Lacks (texts_of ks) text
index_lacks m ks text is none place h = absurd (let e : None ≡ Some place = sym none ∙ is.placed place text h in cc)

-- the text at a place is that of the schema there
pub text_at : (ks : List Known) (place : ℕ) (k : Known) → slice_get ks place ≡ Some k → slice_get (texts_of ks) place ≡ Some k.text
text_at [] place k h = absurd (let e = h in cc)
text_at (x ∷ ks) zero k h = let e : x ≡ k = cc in ap (λ (y : Known). Some y.text) e
text_at (x ∷ ks) (suc place) k h = text_at ks place k h

pub form_at : (ks : List Known) (place : ℕ) (k : Known) → AllByRecursion (λ x. IsForm x.text (tree_of x.schema)) ks → slice_get ks place ≡ Some k → IsForm k.text (tree_of k.schema)
form_at [] place k all h = absurd (let e = h in cc)
form_at (x ∷ ks) zero k all h = let e : x ≡ k = cc in subst (λ (y : Known). IsForm y.text (tree_of y.schema)) e all.0
form_at (x ∷ ks) (suc place) k all h = form_at ks place k all.1 h
