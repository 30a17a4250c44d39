-- From a list of names with their places, to one with a name more.
use Rattle.std.proofs.Common.{◌≡◌, ℕ, suc, List, [], ◌∷◌, ◌++◌, length, Bool, true, false, cond, not, ◌||◌, Option, Some, None, refl, sym, ap, ◌∙◌}
use Rattle.std.specs.Prelude.{String, option_map, is_some}
use Rattle.std.specs.Str.{bytes_eq}
use Rattle.std.specs.String.{string_bytes, string_cmp}
use Rattle.std.specs.BTreeMap.{BTreeMap, UpdatesBy, get_by_text}
use Rattle.std.specs.Cmp.Lexicographic.{slice_cmp}
use Rattle.std.specs.Ordering.{nat_cmp}
use Rattle.std.proofs.lemmas.Map.Text.{btree_map_updates_text}
use Rattle.std.proofs.lemmas.Slice.Eq.{bytes_eq-Decides}
use Rattle.avro_names.specs.NameList.{place_of}
use Rattle.avro_names.specs.NameList.{is_among}

-- a name is among others where it has a place
pub among_is : (name : List ℕ) (ns : List (List ℕ)) → is_among name ns ≡ is_some (place_of name ns)
among_is name [] = refl
among_is name (n ∷ ns) = step (bytes_eq n name) (place_of name ns) (is_among name ns) (among_is name ns)
  where
    step : (b : Bool) (o : Option ℕ) (a : Bool) → a ≡ is_some o → (b || a) ≡ is_some (cond b (Some 0) (option_map suc o))
    step true o a h = refl
    step false None a h = h
    step false (Some d) a h = h

-- the first place, or else this one
abbrev or_else : Option ℕ → Option ℕ → Option ℕ
or_else (Some d) o = Some d
or_else None o = o

nothing_else : (o : Option ℕ) → or_else o None ≡ o
nothing_else (Some d) = refl
nothing_else None = refl

place_push : (q name : List ℕ) (ns : List (List ℕ)) → place_of q (ns ++ name ∷ []) ≡ or_else (place_of q ns) (cond (bytes_eq name q) (Some (length ns)) None)
place_push q name [] = refl
place_push q name (n ∷ ns) =
    ap (λ o. cond (bytes_eq n q) (Some 0) (option_map suc o)) (place_push q name ns) ∙ step (bytes_eq n q) (bytes_eq name q) (place_of q ns) (length ns)
  where
    step : (b c : Bool) (o : Option ℕ) (k : ℕ) → cond b (Some 0) (option_map suc (or_else o (cond c (Some k) None))) ≡ or_else (cond b (Some 0) (option_map suc o)) (cond c (Some (suc k)) None)
    step true c o k = refl
    step false true None k = refl
    step false false None k = refl
    step false c (Some d) k = refl

-- a name that is there changes no first place
again : (q name : List ℕ) (ns : List (List ℕ)) (d : ℕ) → place_of name ns ≡ Some d → place_of q ns ≡ place_of q (ns ++ name ∷ [])
again q name ns d there = go (bytes_eq name q) refl ∙ sym (place_push q name ns)
  where
    go : (b : Bool) → bytes_eq name q ≡ b → place_of q ns ≡ or_else (place_of q ns) (cond b (Some (length ns)) None)
    go false other = sym (nothing_else (place_of q ns))
    go true same =
        let is : place_of q ns ≡ Some d = ap (λ n. place_of n ns) (sym ((bytes_eq-Decides name q).0 same)) ∙ there in
        is ∙ ap (λ o. or_else o (Some (length ns))) (sym is)

-- a map of places
abbrev pub IsMapOf : {Y : Type 0} → BTreeMap (String Y) ℕ → List (List ℕ) → Type 0
IsMapOf m ns = (q : List ℕ) → get_by_text m q ≡ place_of q ns

pub map_again : {Y : Type 0} (m : BTreeMap (String Y) ℕ) (ns : List (List ℕ)) (name : List ℕ) (d : ℕ) → IsMapOf m ns → place_of name ns ≡ Some d → IsMapOf m (ns ++ name ∷ [])
map_again m ns name d is there q = is q ∙ again q name ns d there

pub map_push : {Y : Type 0} (m n : BTreeMap (String Y) ℕ) (ns : List (List ℕ)) (name : List ℕ) → IsMapOf m ns → place_of name ns ≡ None
    → UpdatesBy string_cmp (λ k. slice_cmp nat_cmp name (string_bytes k)) m n (Some (length ns)) → IsMapOf n (ns ++ name ∷ [])
map_push m n ns name is new updates q = btree_map_updates_text name m n (Some (length ns)) updates q ∙ ap (λ o. cond (bytes_eq name q) (Some (length ns)) o) (is q) ∙ go (bytes_eq name q) refl ∙ sym (place_push q name ns)
  where
    go : (b : Bool) → bytes_eq name q ≡ b → cond b (Some (length ns)) (place_of q ns) ≡ or_else (place_of q ns) (cond b (Some (length ns)) None)
    go false other = sym (nothing_else (place_of q ns))
    go true same = ap (λ o. or_else o (Some (length ns))) (sym (ap (λ n. place_of n ns) (sym ((bytes_eq-Decides name q).0 same)) ∙ new))

pub no_place : (name : List ℕ) (ns : List (List ℕ)) → is_among name ns ≡ false → place_of name ns ≡ None
no_place name ns h = go (place_of name ns) (sym (among_is name ns) ∙ h)
  where
    go : (o : Option ℕ) → is_some o ≡ false → o ≡ None
    go None e = refl
    go (Some d) e = absurd cc

pub not_true : (a b : Bool) → a ≡ not b → a ≡ true → b ≡ false
not_true a true is true_is = absurd cc
not_true a false is true_is = refl

pub not_false : (a b : Bool) → a ≡ not b → a ≡ false → b ≡ true
not_false a true is false_is = refl
not_false a false is false_is = absurd cc
