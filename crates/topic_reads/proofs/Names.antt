-- The names that metadata of all topics tells are those of the log, each once.
use Rattle.std.proofs.Common.{◌≡◌, ℕ, zero, suc, ◌<◌, true, false, List, [], ◌∷◌, length, map, get_or, refl, ap, sym, subst, ◌∙◌, inl, inr, arith, Ordering, Less, Equal, Greater, None}
use Rattle.std.specs.Prelude.{◌⊎◌, All, AllPairs, Contains, IsPermutation, bytes_eq}
use Rattle.std.specs.Ordering.{is_eq, is_lt, nat_cmp}
use Rattle.std.specs.Cmp.Lexicographic.{slice_cmp}
use Rattle.std.proofs.lemmas.Map.Text.{is_eq-slice_cmp}
use Rattle.std.proofs.lemmas.Slice.Eq.{bytes_eq-Decides}
use Rattle.std.proofs.lemmas.List.{get_or-map, length-map}
use Rattle.std.proofs.lemmas.List.Sorted.{IsPermutation-cons, IsPermutation-insert, IsPermutation-refl, IsPermutation-sym, IsPermutation-trans}
use Rattle.model.specs.state.Log.{Topic, Log, IsLog, Keeps}
use Rattle.model.specs.state.World.{names_rise}
use Rattle.broker_link.specs.Metadata.{AreSorted, IsInfo, IsMetadata}
use Rattle.broker_link.specs.declared.link.TopicInfo.{TopicInfo}
use Rattle.rest_replies.specs.Found.{name_in}

abbrev Name : Type 0
Name = List ℕ

-- ---- lists of different names with the same elements

abbrev In : Name → List Name → Type 0
In z [] = ⊥
In z (x ∷ xs) = (x ≡ z) ⊎ In z xs

abbrev Apart : List Name → Type 0
Apart [] = Unit {0}
Apart (x ∷ xs) = (In x xs → ⊥) × Apart xs

swapped : (x y : Name) (rest : List Name) → IsPermutation (y ∷ x ∷ rest) (x ∷ y ∷ rest)
swapped x y rest = IsPermutation-sym (x ∷ y ∷ rest) (y ∷ x ∷ rest) (IsPermutation-insert (y ∷ rest) 1 x)

-- the others, with that name before them
record Without (x : Name) (ys : List Name) : Type 0 where
  rest : List Name
  same : IsPermutation ys (x ∷ rest)
  apart : Apart rest
  fewer : (z : Name) → In z rest → In z ys × (x ≡ z → ⊥)
  all : (z : Name) → In z ys → (x ≡ z) ⊎ In z rest

without : (x : Name) (ys : List Name) → In x ys → Apart ys → Without x ys
without x [] there apart = absurd there
without x (y ∷ ys) (inl e) apart = record {
  rest = ys;
  same = subst (λ (n : Name). IsPermutation (y ∷ ys) (n ∷ ys)) e (IsPermutation-refl (y ∷ ys));
  apart = apart.1;
  fewer = λ z there. (inr there, λ same. apart.0 (subst (λ (n : Name). In n ys) (sym (e ∙ same)) there));
  all = λ z there. elim there [ inl here ↦ inl (sym e ∙ here) | inr later ↦ inr later ];
}
without x (y ∷ ys) (inr there) apart =
    let w = without x ys there apart.1 in
    record {
      rest = y ∷ w.rest;
      same = IsPermutation-trans (y ∷ ys) (y ∷ x ∷ w.rest) (x ∷ y ∷ w.rest) (IsPermutation-cons y ys (x ∷ w.rest) w.same) (swapped x y w.rest);
      apart = (λ here. apart.0 (w.fewer y here).0, w.apart);
      fewer = λ z there2. elim there2 [
        | inl e ↦ (inl e, λ same. apart.0 (subst (λ (n : Name). In n ys) (same ∙ sym e) there))
        | inr later ↦ (inr (w.fewer z later).0, (w.fewer z later).1)
      ];
      all = λ z there2. elim there2 [
        | inl e ↦ inr (inl e)
        | inr later ↦ elim (w.all z later) [ inl e ↦ inl e | inr more ↦ inr (inr more) ]
      ];
    }

same_elements : (xs ys : List Name) → Apart xs → Apart ys → ((z : Name) → In z xs → In z ys) → ((z : Name) → In z ys → In z xs) → IsPermutation xs ys
same_elements [] [] xs_apart ys_apart there back = IsPermutation-refl []
same_elements [] (y ∷ ys) xs_apart ys_apart there back = absurd (back y (inl refl))
same_elements (x ∷ xs) ys xs_apart ys_apart there back =
    let w = without x ys (there x (inl refl)) ys_apart in
    let ih : IsPermutation xs w.rest = same_elements xs w.rest xs_apart.1 w.apart (onward w) (backward w) in
    IsPermutation-trans (x ∷ xs) (x ∷ w.rest) ys (IsPermutation-cons x xs w.rest ih) (IsPermutation-sym ys (x ∷ w.rest) w.same)
  where
    onward : (w : Without x ys) (z : Name) → In z xs → In z w.rest
    onward w z here = elim (w.all z (there z (inr here))) [
      | inl e ↦ absurd (xs_apart.0 (subst (λ (n : Name). In n xs) (sym e) here))
      | inr later ↦ later
    ]

    backward : (w : Without x ys) (z : Name) → In z w.rest → In z xs
    backward w z here = elim (back z (w.fewer z here).0) [ inl e ↦ absurd ((w.fewer z here).1 e) | inr later ↦ later ]

-- ---- elements by their indices

in_at : (z : Name) (xs : List Name) (k : ℕ) (d : Name) → k < length xs → get_or xs k d ≡ z → In z xs
in_at z [] k d lt is = absurd (omega (arith, lt))
in_at z (x ∷ xs) zero d lt is = inl is
in_at z (x ∷ xs) (suc k) d lt is = inr (in_at z xs k d (omega (arith, lt)) is)

at_in : (z : Name) (xs : List Name) → In z xs → (k : ℕ) × (k < length xs) × ((d : Name) → get_or xs k d ≡ z)
at_in z [] there = absurd there
at_in z (x ∷ xs) (inl e) = (0, omega arith, λ d. e)
at_in z (x ∷ xs) (inr later) = let found = at_in z xs later in (suc found.0, omega (arith, found.1), found.2)

-- a relation that no name has to itself keeps them apart
apart_by : (R : Name → Name → Type 0) → ((x : Name) → R x x → ⊥) → (xs : List Name) → AllPairs R xs → Apart xs
apart_by R not_itself [] pairs = tt
apart_by R not_itself (x ∷ xs) pairs = (
  λ there. (let found = at_in x xs there in not_itself x (subst (λ (n : Name). R x n) (found.2 x) (pairs 0 (suc found.0) x (omega arith) (omega (arith, found.1))))),
  apart_by R not_itself xs (λ i j d lt le. pairs (suc i) (suc j) d (omega (arith, lt)) (omega (arith, le))),
)

not_below_itself : (x : Name) → is_lt (slice_cmp nat_cmp x x) ≡ true → ⊥
not_below_itself x lt = go (slice_cmp nat_cmp x x) refl
  where
    equal : is_eq (slice_cmp nat_cmp x x) ≡ true
    equal = is_eq-slice_cmp x x ∙ (bytes_eq-Decides x x).1 refl

    go : (o : Ordering) → slice_cmp nat_cmp x x ≡ o → ⊥
    go Less e = (let other : is_eq (slice_cmp nat_cmp x x) ≡ false = ap is_eq e in cc (equal, other))
    go Equal e = (let other : is_lt (slice_cmp nat_cmp x x) ≡ false = ap is_lt e in cc (lt, other))
    go Greater e = (let other : is_lt (slice_cmp nat_cmp x x) ≡ false = ap is_lt e in cc (lt, other))

-- ---- the topics of a log, and what is told of all

abbrev called : Topic → Name
called t = t.name

log_apart : (topics : List Topic) → AllPairs (λ x y. bytes_eq x.name y.name ≡ false) topics → Apart (map called topics)
log_apart [] pairs = tt
log_apart (t ∷ ts) pairs = (
  λ there. (let found = at_in t.name (map called ts) there in
      let short : found.0 < length ts = omega (arith, found.1, length-map ts called) in
      let same : (get_or ts found.0 t).name ≡ t.name = sym (get_or-map called ts found.0 t (called t) short) ∙ found.2 (called t) in
      let differ : bytes_eq t.name (get_or ts found.0 t).name ≡ false = pairs 0 (suc found.0) t (omega arith) (omega (arith, short)) in
      cc (differ, ap (λ (n : Name). bytes_eq t.name n) same, (bytes_eq-Decides t.name t.name).1 refl)),
  log_apart ts (λ i j d lt le. pairs (suc i) (suc j) d (omega (arith, lt)) (omega (arith, le))),
)

name_at : (xs : List TopicInfo) (k : ℕ) (d : Name) (y : TopicInfo) → k < length xs → get_or (map name_in xs) k d ≡ (get_or xs k y).name
name_at [] k d y lt = absurd (omega (arith, lt))
name_at (x ∷ xs) zero d y lt = refl
name_at (x ∷ xs) (suc k) d y lt = name_at xs k d y (omega (arith, lt))

rise_at : (infos : List TopicInfo) (i j : ℕ) (d : Name) → i < j → j < length infos → AreSorted infos → is_lt (slice_cmp nat_cmp (get_or (map name_in infos) i d) (get_or (map name_in infos) j d)) ≡ true
rise_at [] i j d lt short sorted = absurd (omega (arith, short))
rise_at (x ∷ xs) i j d lt short sorted = rw (name_at (x ∷ xs) i d x (omega (arith, lt, short)), name_at (x ∷ xs) j d x short) (sorted i j x lt short)

rising_pairs : (infos : List TopicInfo) → AreSorted infos → names_rise (map name_in infos)
rising_pairs infos sorted = λ i j d lt le. rise_at infos i j d lt (omega (arith, le, length-map infos name_in)) sorted

-- an element's name is among the names
topic_in : (ts : List Topic) (t : Topic) (z : Name) → Contains ts t → t.name ≡ z → In z (map called ts)
topic_in [] t z c is = absurd (omega (arith, c.1))
topic_in (u ∷ us) t z (zero, lt, here) is = inl (ap called here ∙ is)
topic_in (u ∷ us) t z (suc k, lt, here) is = inr (topic_in us t z (k, omega (arith, lt), here) is)

info_in : (infos : List TopicInfo) (info : TopicInfo) (z : Name) → Contains infos info → info.name ≡ z → In z (map name_in infos)
info_in [] info z c is = absurd (omega (arith, c.1))
info_in (u ∷ us) info z (zero, lt, here) is = inl (ap name_in here ∙ is)
info_in (u ∷ us) info z (suc k, lt, here) is = inr (info_in us info z (k, omega (arith, lt), here) is)

in_topics : (ts : List Topic) (z : Name) → In z (map called ts) → (t : Topic) × Contains ts t × (t.name ≡ z)
in_topics [] z there = absurd there
in_topics (u ∷ us) z (inl e) = (u, (0, omega arith, refl), e)
in_topics (u ∷ us) z (inr later) = let found = in_topics us z later in (found.0, (suc found.1.0, omega (arith, found.1.1), found.1.2), found.2)

in_infos : (infos : List TopicInfo) (z : Name) → In z (map name_in infos) → (info : TopicInfo) × Contains infos info × (info.name ≡ z)
in_infos [] z there = absurd there
in_infos (u ∷ us) z (inl e) = (u, (0, omega arith, refl), e)
in_infos (u ∷ us) z (inr later) = let found = in_infos us z later in (found.0, (suc found.1.0, omega (arith, found.1.1), found.1.2), found.2)

all_at : {X : Type 0} (P : X → Type 0) (xs : List X) (x : X) → All P xs → Contains xs x → P x
all_at P xs x all (k, lt, here) = subst P here (all k x lt)

abbrev shape : Topic → Name × ℕ
shape t = (t.name, length t.parts)

kept_names : (a m : List Topic) → map shape m ≡ map shape a → map called m ≡ map called a
kept_names [] [] e = refl
kept_names [] (y ∷ ys) e = absurd (cc e)
kept_names (x ∷ xs) [] e = absurd (cc e)
kept_names (x ∷ xs) (y ∷ ys) e =
    let pair : shape y ≡ shape x = cc e in
    let rest : map shape ys ≡ map shape xs = cc e in
    let here : y.name ≡ x.name = ap (λ (p : Name × ℕ). p.0) pair in
    rw (here, kept_names xs ys rest) refl

-- the names told are those of the earlier log too
pub names_told : (a m : Log) (infos : List TopicInfo) → IsLog m → Keeps a m → IsMetadata None m infos → names_rise (map name_in infos) × IsPermutation (map (λ t. t.name) a.topics) (map name_in infos)
names_told a m infos is keeps tells =
    let rise : names_rise (map name_in infos) = rising_pairs infos tells.sorted in
    let apart : Apart (map name_in infos) = apart_by (λ x y. is_lt (slice_cmp nat_cmp x y) ≡ true) not_below_itself (map name_in infos) rise in
    let same : IsPermutation (map called m.topics) (map name_in infos) = same_elements (map called m.topics) (map name_in infos) (log_apart m.topics is.names) apart onward backward in
    (rise, subst (λ (ns : List Name). IsPermutation ns (map name_in infos)) (kept_names a.topics m.topics keeps.shape) same)
  where
    onward : (z : Name) → In z (map called m.topics) → In z (map name_in infos)
    onward z there =
        let found = in_topics m.topics z there in
        let told = all_at (λ (t : Topic). (info : TopicInfo) × Contains infos info × IsInfo t info) m.topics found.0 tells.all found.1 in
        info_in infos told.0 z told.1 (told.2.name ∙ found.2)

    backward : (z : Name) → In z (map name_in infos) → In z (map called m.topics)
    backward z there =
        let found = in_infos infos z there in
        let told = all_at (λ (info : TopicInfo). (t : Topic) × Contains m.topics t × IsInfo t info) infos found.0 tells.each found.1 in
        topic_in m.topics told.0 z told.1 (sym told.2.name ∙ found.2)
