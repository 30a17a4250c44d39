-- From the names of definitions to the first of a name, and what stays as definitions are added and closed.
use Rattle.std.proofs.Common.{◌≡◌, ℕ, zero, suc, ◌<◌, List, [], ◌∷◌, ◌++◌, ◌-◌, length, take, get_or, Bool, true, false, cond, ◌||◌, Option, Some, None, refl, sym, ap, ◌∙◌, arith, length-append}
use Rattle.std.proofs.Math.Seq.{take-append_seam}
use Rattle.std.specs.Str.{bytes_eq}
use Rattle.std.specs.Prelude.{slice_set, option_map, is_some}
use Rattle.avro_names.specs.NameList.{place_of, is_among}
use Rattle.avro_names.specs.Definitions.{FirstNamed, FindsName, names_in, defined_at}
use Rattle.avro_names.specs.declared.definitions.Definition.{Definition}
use Rattle.avro_names.proofs.NameLists.{among_is}

first_from_place : (xs : List Definition) (name : List ℕ) (d : ℕ) → place_of name (names_in xs) ≡ Some d → FirstNamed xs name d
first_from_place [] name d h = absurd cc
first_from_place (x ∷ xs) name d h = go (bytes_eq x.name name) refl (place_of name (names_in xs)) (first_from_place xs name) d h
  where
    go : (b : Bool) → bytes_eq x.name name ≡ b → (o : Option ℕ) → ((e : ℕ) → o ≡ Some e → FirstNamed xs name e) → (e : ℕ) → cond b (Some 0) (option_map suc o) ≡ Some e → FirstNamed (x ∷ xs) name e
    go true same o rest zero is = same
    go true same o rest (suc e) is = absurd cc
    go false other None rest e is = absurd cc
    go false other (Some k) rest zero is = absurd cc
    go false other (Some k) rest (suc e) is = let one : k ≡ e = cc in (other, rest e (ap (λ n. Some n) one))

-- the place of a name among the names is the first definition of the name
pub finds_name : (xs : List Definition) (ns : List (List ℕ)) (name : List ℕ) (o : Option ℕ) → ns ≡ names_in xs → o ≡ place_of name ns → FindsName xs name o
finds_name xs ns name None names is = among_is name (names_in xs) ∙ ap is_some (ap (place_of name) (sym names) ∙ sym is)
finds_name xs ns name (Some d) names is = first_from_place xs name d (ap (place_of name) (sym names) ∙ sym is)

-- a list without its last is what it was before
pub popped : (xs all ys : List Definition) (x : Definition) (n : ℕ) → all ≡ xs ++ x ∷ [] → n ≡ length all → ys ≡ take (n - 1) all → ys ≡ xs
popped xs all ys x n is size rest =
    let count = ap length is in
    let longer = length-append xs (x ∷ []) in
    let less : n - 1 ≡ length xs = omega arith in
    rest ∙ ap (λ m. take m all) less ∙ ap (take (length xs)) is ∙ take-append_seam xs (x ∷ [])

pub set_defined : (xs : List Definition) (d node : ℕ) (x : Definition) → d < length xs → x ≡ get_or xs d x → slice_set xs d (record { name = x.name; node = node }) ≡ defined_at xs d node
set_defined [] d node x lt e = refl
set_defined (y ∷ xs) zero node x lt e = let same : x ≡ y = e in ap (λ (z : Definition). (record { name = z.name; node = node }) ∷ xs) same
set_defined (y ∷ xs) (suc d) node x lt e = ap (λ ys. y ∷ ys) (set_defined xs d node x (omega arith) e)

pub names_in-append : (xs ys : List Definition) → names_in (xs ++ ys) ≡ names_in xs ++ names_in ys
names_in-append [] ys = refl
names_in-append (x ∷ xs) ys = ap (λ ns. x.name ∷ ns) (names_in-append xs ys)

pub names_in-defined_at : (xs : List Definition) (d node : ℕ) → names_in (defined_at xs d node) ≡ names_in xs
names_in-defined_at [] d node = refl
names_in-defined_at (x ∷ xs) zero node = refl
names_in-defined_at (x ∷ xs) (suc d) node = ap (λ ns. x.name ∷ ns) (names_in-defined_at xs d node)

pub first_stays : (xs ys : List Definition) (name : List ℕ) (d : ℕ) → FirstNamed xs name d → FirstNamed (xs ++ ys) name d
first_stays [] ys name d h = absurd h
first_stays (x ∷ xs) ys name zero h = h
first_stays (x ∷ xs) ys name (suc d) h = (h.0, first_stays xs ys name d h.1)

pub first_defined_at : (xs : List Definition) (i node : ℕ) (name : List ℕ) (d : ℕ) → FirstNamed xs name d → FirstNamed (defined_at xs i node) name d
first_defined_at [] i node name d h = absurd h
first_defined_at (x ∷ xs) zero node name zero h = h
first_defined_at (x ∷ xs) zero node name (suc d) h = h
first_defined_at (x ∷ xs) (suc i) node name zero h = h
first_defined_at (x ∷ xs) (suc i) node name (suc d) h = (h.0, first_defined_at xs i node name d h.1)

pub first_among : (xs : List Definition) (name : List ℕ) (d : ℕ) → FirstNamed xs name d → is_among name (names_in xs) ≡ true
first_among [] name d h = absurd h
first_among (x ∷ xs) name zero h = ap (λ t. t || is_among name (names_in xs)) h
first_among (x ∷ xs) name (suc d) h = ap (λ t. t || is_among name (names_in xs)) h.0 ∙ first_among xs name d h.1

pub defined_at-behind : (xs ys : List Definition) (name : List ℕ) (old node : ℕ) → defined_at ((xs ++ ((record { name = name; node = old }) ∷ [])) ++ ys) (length xs) node ≡ xs ++ ((record { name = name; node = node }) ∷ ys)
defined_at-behind [] ys name old node = refl
defined_at-behind (x ∷ xs) ys name old node = ap (λ zs. x ∷ zs) (defined_at-behind xs ys name old node)
