-- From partitions put in one after another to all of them in order, each once.
use Rattle.std.proofs.Common.{◌≡◌, ℕ, zero, suc, ◌+◌, ◌<◌, ◌≤◌, Bool, true, false, nat_lt, List, [], ◌∷◌, ◌++◌, length, map, take, drop, get_or, refl, ap, sym, subst, ◌∙◌, inl, inr, arith, Ordering, Less, Equal, Greater}
use Rattle.std.specs.Prelude.{◌⊎◌, ◌==◌, not, All, AllPairs, Contains, bytes_eq, filter}
use Rattle.std.specs.List.{position, position_or_len, insert}
use Rattle.std.specs.Option.{unwrap_or}
use Rattle.std.specs.Ordering.{is_lt, nat_cmp, ordering_reverse}
use Rattle.std.specs.Cmp.Lexicographic.{slice_cmp}
use Rattle.std.proofs.lemmas.Cmp.{nat_list_cmp_total}
use Rattle.std.proofs.lemmas.Map.Lookups.{exact_bytes}
use Rattle.std.proofs.lemmas.Slice.Eq.{bytes_eq-Decides}
use Rattle.std.proofs.lemmas.List.{get_or-map, length-map, take_more}
use Rattle.std.proofs.lemmas.List.Sums.{prefix_len-le-length}
use Rattle.std.proofs.lemmas.List.Kept.{AllPairs-cons, AllPairs-filter}
use Rattle.std.proofs.lemmas.List.Elements.{All-cons, All-nil, All-head, All-tail, All-weaker, Contains-append_left, Contains-push, Contains-push_cases}
use Rattle.std.proofs.lemmas.Bool.Decides.{nat_tests}
use Rattle.model.specs.state.Log.{TopicPart, is_at}
use Rattle.model.specs.state.World.{is_before}
use Rattle.model.proofs.Walks.{same_from_is_at}
use Rattle.broker_link.specs.Fetching.{at_of}
use Rattle.broker_link.specs.declared.fetch.TopicPart.{TopicPart as Part}
use Rattle.consumer_state.specs.Order.{AreRising, AreSorted, begins_with, put_at}

-- ---- the order

less : (o : Ordering) → is_lt o ≡ true → o ≡ Less
less Less e = refl
less Equal e = absurd (cc e)
less Greater e = absurd (cc e)

below_trans : (x y z : List ℕ) → is_lt (slice_cmp nat_cmp x y) ≡ true → is_lt (slice_cmp nat_cmp y z) ≡ true → is_lt (slice_cmp nat_cmp x z) ≡ true
below_trans x y z e f = ap is_lt (nat_list_cmp_total.trans x y z (less (slice_cmp nat_cmp x y) e) (less (slice_cmp nat_cmp y z) f))

below_other : (x y : List ℕ) → is_lt (slice_cmp nat_cmp x y) ≡ false → (y ≡ x → ⊥) → is_lt (slice_cmp nat_cmp y x) ≡ true
below_other x y e other = go (slice_cmp nat_cmp x y) refl e
  where
    go : (o : Ordering) → slice_cmp nat_cmp x y ≡ o → is_lt (slice_cmp nat_cmp x y) ≡ false → is_lt (slice_cmp nat_cmp y x) ≡ true
    go Less f e = absurd (cc (f, e))
    go Equal f e = absurd (other (sym (exact_bytes x y f)))
    go Greater f e = ap is_lt (nat_list_cmp_total.antisymm y x ∙ ap ordering_reverse f)

not_below_itself : (x : List ℕ) → is_lt (slice_cmp nat_cmp x x) ≡ true → ⊥
not_below_itself x e =
    let one : slice_cmp nat_cmp x x ≡ Less = less (slice_cmp nat_cmp x x) e in
    let two : slice_cmp nat_cmp x x ≡ Greater = nat_list_cmp_total.antisymm x x ∙ ap ordering_reverse one in
    cc (one, two)

same_topic : (x y : TopicPart) → bytes_eq x.topic y.topic ≡ true → x.topic ≡ y.topic
same_topic x y e = (bytes_eq-Decides x.topic y.topic).0 e

-- in one topic the order is that of the numbers, else that of the names
within : (x y : TopicPart) → x.topic ≡ y.topic → is_before x y ≡ nat_lt x.partition y.partition
within x y e = let f : bytes_eq x.topic y.topic ≡ true = (bytes_eq-Decides x.topic y.topic).1 e in rw f refl

between : (x y : TopicPart) → bytes_eq x.topic y.topic ≡ false → is_before x y ≡ is_lt (slice_cmp nat_cmp x.topic y.topic)
between x y e = rw e refl

below_differs : (x y : TopicPart) → is_lt (slice_cmp nat_cmp x.topic y.topic) ≡ true → is_before x y ≡ true
below_differs x y lt = go (bytes_eq x.topic y.topic) refl
  where
    go : (b : Bool) → bytes_eq x.topic y.topic ≡ b → is_before x y ≡ true
    go true e = absurd (not_below_itself x.topic (ap (λ (t : List ℕ). is_lt (slice_cmp nat_cmp x.topic t)) (same_topic x y e) ∙ lt))
    go false e = between x y e ∙ lt

lt_trans : (a b c : ℕ) → nat_lt a b ≡ true → nat_lt b c ≡ true → nat_lt a c ≡ true
lt_trans a b c e f = grind (arith, nat_tests)

before_trans : (x y z : TopicPart) → is_before x y ≡ true → is_before y z ≡ true → is_before x z ≡ true
before_trans x y z e f = go (bytes_eq x.topic y.topic) refl (bytes_eq y.topic z.topic) refl
  where
    go : (b : Bool) → bytes_eq x.topic y.topic ≡ b → (c : Bool) → bytes_eq y.topic z.topic ≡ c → is_before x z ≡ true
    go true p true q =
        let one : x.topic ≡ y.topic = same_topic x y p in
        let two : y.topic ≡ z.topic = same_topic y z q in
        within x z (one ∙ two) ∙ lt_trans x.partition y.partition z.partition (sym (within x y one) ∙ e) (sym (within y z two) ∙ f)
    go true p false q = below_differs x z (ap (λ (t : List ℕ). is_lt (slice_cmp nat_cmp t z.topic)) (same_topic x y p) ∙ (sym (between y z q) ∙ f))
    go false p true q = below_differs x z (ap (λ (t : List ℕ). is_lt (slice_cmp nat_cmp x.topic t)) (sym (same_topic y z q)) ∙ (sym (between x y p) ∙ e))
    go false p false q = below_differs x z (below_trans x.topic y.topic z.topic (sym (between x y p) ∙ e) (sym (between y z q) ∙ f))

gt_else : (a b : ℕ) → nat_lt a b ≡ false → (a == b) ≡ false → nat_lt b a ≡ true
gt_else a b e f = grind (arith, nat_tests)

-- of two different partitions one is before the other
before_other : (x y : TopicPart) → is_before x y ≡ false → is_at x y ≡ false → is_before y x ≡ true
before_other x y e f = go (bytes_eq x.topic y.topic) refl
  where
    go : (b : Bool) → bytes_eq x.topic y.topic ≡ b → is_before y x ≡ true
    go true p =
        let one : x.topic ≡ y.topic = same_topic x y p in
        let numbers : is_at x y ≡ (x.partition == y.partition) = rw p refl in
        within y x (sym one) ∙ gt_else x.partition y.partition (sym (within x y one) ∙ e) (sym numbers ∙ f)
    go false p =
        below_differs y x (below_other x.topic y.topic (sym (between x y p) ∙ e) (λ same. differ same))
      where
        differ : y.topic ≡ x.topic → ⊥
        differ same = let q : bytes_eq x.topic y.topic ≡ true = (bytes_eq-Decides x.topic y.topic).1 (sym same) in cc (p, q)

not_before_itself : (x : TopicPart) → is_before x x ≡ true → ⊥
not_before_itself x e = irreflexive x.partition (sym (within x x refl) ∙ e)
  where
    irreflexive : (n : ℕ) → nat_lt n n ≡ true → ⊥
    irreflexive n e = absurd (grind (arith, nat_tests))

-- what is before another is another
before_apart : (x y : TopicPart) → is_before x y ≡ true → is_at x y ≡ false
before_apart x y lt = go (is_at x y) refl
  where
    go : (b : Bool) → is_at x y ≡ b → is_at x y ≡ false
    go true e = absurd (not_before_itself x (ap (is_before x) (same_from_is_at x y e) ∙ lt))
    go false e = e

-- ---- rising, by recursion

abbrev Up : List TopicPart → Type 0
Up [] = Unit {0}
Up (at ∷ ats) = All (λ other. is_before at other ≡ true) ats × Up ats

up_rises : (ats : List TopicPart) → Up ats → AreRising ats
up_rises [] up = λ i j d lt le. absurd (omega (arith, lt, le))
up_rises (at ∷ ats) up = AllPairs-cons (λ (x y : TopicPart). is_before x y ≡ true) at ats up.0 (up_rises ats up.1)

rises_up : (ats : List TopicPart) → AreRising ats → Up ats
rises_up [] rises = tt
rises_up (at ∷ ats) rises = (λ k d lt. rises 0 (suc k) d (omega arith) (omega (arith, lt)), rises_up ats (λ i j d lt le. rises (suc i) (suc j) d (omega (arith, lt)) (omega (arith, le))))

-- ---- one partition put in

all_put : (P : TopicPart → Type 0) (at : TopicPart) (others : List TopicPart) → P at → All P others → All P (put_at at others)
all_put P at [] p all = All-cons P at [] p (All-nil P)
all_put P at (other ∷ others) p all = go (is_before other at) refl (is_at other at) refl (all_put P at others p (All-tail P other others all))
  where
    go : (b : Bool) → is_before other at ≡ b → (c : Bool) → is_at other at ≡ c → All P (put_at at others) → All P (put_at at (other ∷ others))
    go true e c f ih = rw e (All-cons P other (put_at at others) (All-head P other others all) ih)
    go false e true f ih = rw (e, f) all
    go false e false f ih = rw (e, f) (All-cons P at (other ∷ others) p all)

up_put : (at : TopicPart) (others : List TopicPart) → Up others → Up (put_at at others)
up_put at [] up = (All-nil (λ (x : TopicPart). is_before at x ≡ true), tt)
up_put at (other ∷ others) up = go (is_before other at) refl (is_at other at) refl (up_put at others up.1)
  where
    go : (b : Bool) → is_before other at ≡ b → (c : Bool) → is_at other at ≡ c → Up (put_at at others) → Up (put_at at (other ∷ others))
    go true e c f ih = rw e (all_put (λ (x : TopicPart). is_before other x ≡ true) at others e up.0, ih)
    go false e true f ih = rw (e, f) up
    go false e false f ih =
        let first : is_before at other ≡ true = before_other other at e f in
        rw (e, f) (
          All-cons (λ (x : TopicPart). is_before at x ≡ true) other others first
              (All-weaker (λ (x : TopicPart). is_before other x ≡ true) (λ (x : TopicPart). is_before at x ≡ true) (λ x g. before_trans at other x first g) others up.0),
          up,
        )

under : (x : TopicPart) (xs : List TopicPart) (y : TopicPart) → Contains xs y → Contains (x ∷ xs) y
under x xs y c = (suc c.0, omega (arith, c.1), c.2)

first_of_all : (x : TopicPart) (xs : List TopicPart) (y : TopicPart) → x ≡ y → Contains (x ∷ xs) y
first_of_all x xs y e = (0, omega arith, e)

has_put : (at : TopicPart) (others : List TopicPart) → Contains (put_at at others) at
has_put at [] = first_of_all at [] at refl
has_put at (other ∷ others) = go (is_before other at) refl (is_at other at) refl (has_put at others)
  where
    go : (b : Bool) → is_before other at ≡ b → (c : Bool) → is_at other at ≡ c → Contains (put_at at others) at → Contains (put_at at (other ∷ others)) at
    go true e c f ih = rw e (under other (put_at at others) at ih)
    go false e true f ih = rw (e, f) (first_of_all other others at (same_from_is_at other at f))
    go false e false f ih = rw (e, f) (first_of_all at (other ∷ others) at refl)

has_still : (at : TopicPart) (others : List TopicPart) (x : TopicPart) → Contains others x → Contains (put_at at others) x
has_still at [] x c = absurd (omega (arith, c.1))
has_still at (other ∷ others) x c = go (is_before other at) refl (is_at other at) refl c (has_still at others x)
  where
    go : (b : Bool) → is_before other at ≡ b → (d : Bool) → is_at other at ≡ d → Contains (other ∷ others) x → (Contains others x → Contains (put_at at others) x) → Contains (put_at at (other ∷ others)) x
    go true e d f (zero, lt, here) ih = rw e (first_of_all other (put_at at others) x here)
    go true e d f (suc k, lt, here) ih = rw e (under other (put_at at others) x (ih (k, omega (arith, lt), here)))
    go false e true f c ih = rw (e, f) c
    go false e false f c ih = rw (e, f) (under at (other ∷ others) x c)

was_put : (at : TopicPart) (others : List TopicPart) (x : TopicPart) → Contains (put_at at others) x → Contains others x ⊎ (at ≡ x)
was_put at [] x (zero, lt, here) = inr here
was_put at [] x (suc k, lt, here) = absurd (omega (arith, lt))
was_put at (other ∷ others) x c = go (is_before other at) refl (is_at other at) refl c (was_put at others x)
  where
    later : Contains others x ⊎ (at ≡ x) → Contains (other ∷ others) x ⊎ (at ≡ x)
    later (inl d) = inl (under other others x d)
    later (inr e) = inr e

    split : (xs : List TopicPart) (y : TopicPart) → Contains (y ∷ xs) x → (y ≡ x) ⊎ Contains xs x
    split xs y (zero, lt, here) = inl here
    split xs y (suc k, lt, here) = inr (k, omega (arith, lt), here)

    go : (b : Bool) → is_before other at ≡ b → (d : Bool) → is_at other at ≡ d → Contains (put_at at (other ∷ others)) x → (Contains (put_at at others) x → Contains others x ⊎ (at ≡ x))
        → Contains (other ∷ others) x ⊎ (at ≡ x)
    go true e d f c ih = elim (split (put_at at others) other (rw e at c)) [ inl is ↦ inl (first_of_all other others x is) | inr c ↦ later (ih c) ]
    go false e true f c ih = inl (rw (e, f) at c)
    go false e false f c ih = elim (split (other ∷ others) at (rw (e, f) at c)) [ inl is ↦ inr is | inr c ↦ inl c ]

-- ---- all of them

pub sorted_none : AreSorted [] []
sorted_none = record { same = λ at. (λ c. c, λ c. c); order = up_rises [] tt }

sorted_put : (ats sorted : List TopicPart) (at : TopicPart) → AreSorted ats sorted → AreSorted (ats ++ at ∷ []) (put_at at sorted)
sorted_put ats sorted at are = record {
  same = λ x. (λ c. into x (Contains-push_cases ats at x c), λ c. back x (was_put at sorted x c));
  order = up_rises (put_at at sorted) (up_put at sorted (rises_up sorted are.order));
}
  where
    into : (x : TopicPart) → Contains ats x ⊎ (at ≡ x) → Contains (put_at at sorted) x
    into x (inl c) = has_still at sorted x ((are.same x).0 c)
    into x (inr e) = subst (λ (y : TopicPart). Contains (put_at at sorted) y) e (has_put at sorted)

    back : (x : TopicPart) → Contains sorted x ⊎ (at ≡ x) → Contains (ats ++ at ∷ []) x
    back x (inl c) = Contains-append_left ats (at ∷ []) x ((are.same x).1 c)
    back x (inr e) = subst (λ (y : TopicPart). Contains (ats ++ at ∷ []) y) e (Contains-push ats at)

-- one more of a list
pub sorted_next : (parts : List Part) (i : ℕ) (part : Part) (old new : List Part) → i < length parts → part ≡ get_or parts i part
    → AreSorted (map at_of (take i parts)) (map at_of old) → map at_of new ≡ put_at (at_of part) (map at_of old) → AreSorted (map at_of (take (i + 1) parts)) (map at_of new)
sorted_next parts i part old new lt is are put =
    let more : take (i + 1) parts ≡ take i parts ++ part ∷ [] = take_more parts i part lt ∙ ap (λ (x : Part). take i parts ++ x ∷ []) (sym is) in
    subst (λ (l : List TopicPart). AreSorted (map at_of (take (i + 1) parts)) l) (sym put)
    (subst (λ (l : List TopicPart). AreSorted l (put_at (at_of part) (map at_of old))) (sym (ap (map at_of) more ∙ pushed (take i parts)))
    (sorted_put (map at_of (take i parts)) (map at_of old) (at_of part) are))
  where
    pushed : (l : List Part) → map at_of (l ++ part ∷ []) ≡ map at_of l ++ at_of part ∷ []
    pushed [] = refl
    pushed (x ∷ l) = ap (λ m. at_of x ∷ m) (pushed l)

-- ---- the place at which a partition is put in

abbrev pub from_here : TopicPart → Part → Bool
from_here at other = not (is_before (at_of other) at)

pub place_is : (p : Part → Bool) (parts : List Part) → unwrap_or (position p parts) (length parts) ≡ position_or_len p parts
place_is p parts = go (nat_lt (position_or_len p parts) (length parts)) refl
  where
    go : (b : Bool) → nat_lt (position_or_len p parts) (length parts) ≡ b → unwrap_or (position p parts) (length parts) ≡ position_or_len p parts
    go true e = rw e refl
    go false e = rw e (past (position_or_len p parts) (length parts) e (prefix_len-le-length (λ x. not (p x)) parts))
      where
        past : (m n : ℕ) → nat_lt m n ≡ false → m ≤ n → n ≡ m
        past m n e le = grind (arith, nat_tests)

one_more : (n : ℕ) → 1 + n ≡ suc n
one_more n = omega arith

pub put_stands : (at : TopicPart) (parts : List Part) → begins_with at (map at_of (drop (position_or_len (from_here at) parts) parts)) ≡ true → map at_of parts ≡ put_at at (map at_of parts)
put_stands at [] e = absurd (cc e)
put_stands at (p ∷ ps) e = go (is_before (at_of p) at) refl (is_at (at_of p) at) refl e (put_stands at ps)
  where
    go : (b : Bool) → is_before (at_of p) at ≡ b → (c : Bool) → is_at (at_of p) at ≡ c → begins_with at (map at_of (drop (position_or_len (from_here at) (p ∷ ps)) (p ∷ ps))) ≡ true
        → (begins_with at (map at_of (drop (position_or_len (from_here at) ps) ps)) ≡ true → map at_of ps ≡ put_at at (map at_of ps))
        → map at_of (p ∷ ps) ≡ put_at at (map at_of (p ∷ ps))
    go true f c g e ih =
        let place : position_or_len (from_here at) (p ∷ ps) ≡ suc (position_or_len (from_here at) ps) = rw f (one_more (position_or_len (from_here at) ps)) in
        let there : begins_with at (map at_of (drop (suc (position_or_len (from_here at) ps)) (p ∷ ps))) ≡ true = subst (λ (n : ℕ). begins_with at (map at_of (drop n (p ∷ ps))) ≡ true) place e in
        rw f (ap (λ l. at_of p ∷ l) (ih there))
    go false f true g e ih = rw (f, g) refl
    go false f false g e ih =
        let place : position_or_len (from_here at) (p ∷ ps) ≡ 0 = rw f refl in
        let there : begins_with at (map at_of (drop 0 (p ∷ ps))) ≡ true = subst (λ (n : ℕ). begins_with at (map at_of (drop n (p ∷ ps))) ≡ true) place e in
        absurd (cc (there, g))

pub put_new : (at : TopicPart) (parts : List Part) (part : Part) → at_of part ≡ at → begins_with at (map at_of (drop (position_or_len (from_here at) parts) parts)) ≡ false
    → map at_of (insert parts (position_or_len (from_here at) parts) part) ≡ put_at at (map at_of parts)
put_new at [] part is e = ap (λ x. x ∷ []) is
put_new at (p ∷ ps) part is e = go (is_before (at_of p) at) refl (is_at (at_of p) at) refl e (put_new at ps part is)
  where
    go : (b : Bool) → is_before (at_of p) at ≡ b → (c : Bool) → is_at (at_of p) at ≡ c → begins_with at (map at_of (drop (position_or_len (from_here at) (p ∷ ps)) (p ∷ ps))) ≡ false
        → (begins_with at (map at_of (drop (position_or_len (from_here at) ps) ps)) ≡ false → map at_of (insert ps (position_or_len (from_here at) ps) part) ≡ put_at at (map at_of ps))
        → map at_of (insert (p ∷ ps) (position_or_len (from_here at) (p ∷ ps)) part) ≡ put_at at (map at_of (p ∷ ps))
    go true f c g e ih =
        let place : position_or_len (from_here at) (p ∷ ps) ≡ suc (position_or_len (from_here at) ps) = rw f (one_more (position_or_len (from_here at) ps)) in
        let there : begins_with at (map at_of (drop (suc (position_or_len (from_here at) ps)) (p ∷ ps))) ≡ false = subst (λ (n : ℕ). begins_with at (map at_of (drop n (p ∷ ps))) ≡ false) place e in
        subst (λ (n : ℕ). map at_of (insert (p ∷ ps) n part) ≡ put_at at (map at_of (p ∷ ps))) (sym place) (rw f (ap (λ l. at_of p ∷ l) (ih there)))
    go false f true g e ih =
        let place : position_or_len (from_here at) (p ∷ ps) ≡ 0 = rw f refl in
        let there : begins_with at (map at_of (drop 0 (p ∷ ps))) ≡ false = subst (λ (n : ℕ). begins_with at (map at_of (drop n (p ∷ ps))) ≡ false) place e in
        absurd (cc (there, g))
    go false f false g e ih =
        let place : position_or_len (from_here at) (p ∷ ps) ≡ 0 = rw f refl in
        subst (λ (n : ℕ). map at_of (insert (p ∷ ps) n part) ≡ put_at at (map at_of (p ∷ ps))) (sym place) (rw (f, g) (ap (λ x. x ∷ map at_of (p ∷ ps)) is))

-- ---- what rises is apart

pub rising_apart : (parts : List Part) → AreRising (map at_of parts) → AllPairs (λ x y. is_at (at_of x) (at_of y) ≡ false) parts
rising_apart parts rises = λ i j d lt le.
    before_apart (at_of (get_or parts i d)) (at_of (get_or parts j d))
    (subst (λ (x : TopicPart). is_before x (at_of (get_or parts j d)) ≡ true) (get_or-map at_of parts i d (at_of d) (omega (arith, lt, le)))
    (subst (λ (y : TopicPart). is_before (get_or (map at_of parts) i (at_of d)) y ≡ true) (get_or-map at_of parts j d (at_of d) le)
    (rises i j (at_of d) lt (omega (arith, le, length-map parts at_of)))))

pub rising_filter : (p : TopicPart → Bool) (ats : List TopicPart) → AreRising ats → AreRising (filter p ats)
rising_filter p ats rises = AllPairs-filter (λ (x y : TopicPart). is_before x y ≡ true) p ats rises
