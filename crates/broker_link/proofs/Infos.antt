-- What a link in memory tells of its topics, in order.
use Rattle.std.proofs.Common.{◌≡◌, ℕ, zero, suc, ◌+◌, ◌<◌, ◌≤◌, ◌^◌, Bool, true, false, nat_lt, List, [], ◌∷◌, ◌++◌, length, take, map, get_or, refl, ap, sym, subst, ◌∙◌, inl, inr, arith, Ordering, Less, Equal, Greater, Option, Some, None}
use Rattle.std.specs.Prelude.{pos, ◌⊎◌, not, bytes_eq, All, Contains, filter}
use Rattle.std.specs.List.{position, position_or_len, insert}
use Rattle.std.specs.Option.{unwrap_or}
use Rattle.std.specs.Ordering.{is_lt, nat_cmp, ordering_reverse}
use Rattle.std.specs.Cmp.Lexicographic.{slice_cmp, nat_list_cmp_total}
use Rattle.std.proofs.lemmas.Map.Lookups.{exact_bytes}
use Rattle.std.proofs.lemmas.List.{take_more, length-take, length-map, get_or-take, get_or-map}
use Rattle.std.proofs.lemmas.List.Sums.{prefix_len-le-length}
use Rattle.std.proofs.lemmas.List.Kept.{AllPairs-cons}
use Rattle.std.proofs.lemmas.List.Elements.{All-cons, All-nil, All-head, All-tail, All-weaker, Contains-append_left, Contains-push, Contains-push_cases}
use Rattle.std.proofs.lemmas.Bool.Decides.{nat_tests}
use Rattle.model.specs.state.Log.{Topic, shape_of}
use Rattle.broker_link.specs.Made.{ArePlans}
use Rattle.broker_link.specs.Metadata.{IsInfo, IsMetadata, NumberedFrom, asked, AreSorted}
use Rattle.broker_link.specs.Infos.{is_below, insert_info, wanted, Up, Gathered, TakesIn}
use Rattle.broker_link.specs.Stored.{log_of, log_with}
use Rattle.broker_link.specs.declared.link.PartInfo.{PartInfo}
use Rattle.broker_link.specs.declared.link.TopicInfo.{TopicInfo}
use Rattle.broker_link.proofs.Puts.{get_or_any}

pub numbered_push : (n : ℕ) (parts : List PartInfo) (part : PartInfo) → NumberedFrom n parts → part.number ≡ pos (n + length parts) → NumberedFrom n (parts ++ part ∷ [])
numbered_push n [] part all is = (is ∙ ap pos plain, tt)
  where
    plain : n + 0 ≡ n
    plain = omega arith
numbered_push n (x ∷ xs) part all is = (all.0, numbered_push (n + 1) xs part all.1 (is ∙ ap pos moved))
  where
    moved : n + length (x ∷ xs) ≡ n + 1 + length xs
    moved = omega arith

-- ---- one more in order

pub insert_is : (x : TopicInfo) (ys : List TopicInfo) → insert ys (position_or_len (is_below x.name) ys) x ≡ insert_info x ys
insert_is x [] = refl
insert_is x (y ∷ ys) = go (is_below x.name y) refl (insert_is x ys)
  where
    go : (b : Bool) → is_below x.name y ≡ b → insert ys (position_or_len (is_below x.name) ys) x ≡ insert_info x ys
        → insert (y ∷ ys) (position_or_len (is_below x.name) (y ∷ ys)) x ≡ insert_info x (y ∷ ys)
    go true e ih = rw e refl
    go false e ih = rw e (ap (λ m. insert (y ∷ ys) m x) (one_more (position_or_len (is_below x.name) ys)) ∙ ap (λ l. y ∷ l) ih)
      where
        one_more : (n : ℕ) → 1 + n ≡ suc n
        one_more n = omega arith

pub all_insert : (P : TopicInfo → Type 0) (x : TopicInfo) (ys : List TopicInfo) → P x → All P ys → All P (insert_info x ys)
all_insert P x [] p all = All-cons P x [] p (All-nil P)
all_insert P x (y ∷ ys) p all = go (is_below x.name y) refl (all_insert P x ys p (All-tail P y ys all))
  where
    go : (b : Bool) → is_below x.name y ≡ b → All P (insert_info x ys) → All P (insert_info x (y ∷ ys))
    go true e ih = rw e (All-cons P x (y ∷ ys) p all)
    go false e ih = rw e (All-cons P y (insert_info x ys) (All-head P y ys all) ih)

under : (y : TopicInfo) (ys : List TopicInfo) (z : TopicInfo) → Contains ys z → Contains (y ∷ ys) z
under y ys z c = (suc c.0, omega (arith, c.1), c.2)

pub has_inserted : (x : TopicInfo) (ys : List TopicInfo) → Contains (insert_info x ys) x
has_inserted x [] = (0, omega arith, refl)
has_inserted x (y ∷ ys) = go (is_below x.name y) refl (has_inserted x ys)
  where
    go : (b : Bool) → is_below x.name y ≡ b → Contains (insert_info x ys) x → Contains (insert_info x (y ∷ ys)) x
    go true e ih = rw e (0, omega arith, refl)
    go false e ih = rw e (under y (insert_info x ys) x ih)

pub has_others : (x : TopicInfo) (ys : List TopicInfo) (z : TopicInfo) → Contains ys z → Contains (insert_info x ys) z
has_others x [] z c = absurd (omega (arith, c.1))
has_others x (y ∷ ys) z c = go (is_below x.name y) refl c (λ d. has_others x ys z d)
  where
    go : (b : Bool) → is_below x.name y ≡ b → Contains (y ∷ ys) z → (Contains ys z → Contains (insert_info x ys) z) → Contains (insert_info x (y ∷ ys)) z
    go true e c ih = rw e (under x (y ∷ ys) z c)
    go false e (zero, lt, is) ih = rw e (0, omega arith, is)
    go false e (suc k, lt, is) ih = rw e (under y (insert_info x ys) z (ih (k, omega (arith, lt), is)))

less : (o : Ordering) → is_lt o ≡ true → o ≡ Less
less Less e = refl
less Equal e = absurd (cc e)
less Greater e = absurd (cc e)

below_trans : (x y z : List ℕ) → is_lt (slice_cmp nat_cmp x y) ≡ true → is_lt (slice_cmp nat_cmp y z) ≡ true → is_lt (slice_cmp nat_cmp x z) ≡ true
below_trans x y z e f = ap is_lt (nat_list_cmp_total.trans x y z (less (slice_cmp nat_cmp x y) e) (less (slice_cmp nat_cmp y z) f))

below_other : (x y : List ℕ) → is_lt (slice_cmp nat_cmp x y) ≡ false → (y ≡ x → ⊥) → is_lt (slice_cmp nat_cmp y x) ≡ true
below_other x y e other = go (slice_cmp nat_cmp x y) refl e
  where
    go : (o : Ordering) → slice_cmp nat_cmp x y ≡ o → is_lt (slice_cmp nat_cmp x y) ≡ false → is_lt (slice_cmp nat_cmp y x) ≡ true
    go Less f e = absurd (cc (f, e))
    go Equal f e = absurd (other (sym (exact_bytes x y f)))
    go Greater f e = ap is_lt (nat_list_cmp_total.antisymm y x ∙ ap ordering_reverse f)

pub up_insert : (x : TopicInfo) (ys : List TopicInfo) → All (λ (z : TopicInfo). z.name ≡ x.name → ⊥) ys → Up ys → Up (insert_info x ys)
up_insert x [] apart up = (All-nil (λ (z : TopicInfo). is_below x.name z ≡ true), tt)
up_insert x (y ∷ ys) apart up = go (is_below x.name y) refl (up_insert x ys (All-tail (λ (z : TopicInfo). z.name ≡ x.name → ⊥) y ys apart) up.1)
  where
    go : (b : Bool) → is_below x.name y ≡ b → Up (insert_info x ys) → Up (insert_info x (y ∷ ys))
    go true e ih = rw e (
      All-cons (λ (z : TopicInfo). is_below x.name z ≡ true) y ys e
          (All-weaker (λ (z : TopicInfo). is_below y.name z ≡ true) (λ (z : TopicInfo). is_below x.name z ≡ true) (λ z f. below_trans x.name y.name z.name e f) ys up.0),
      up,
    )
    go false e ih = rw e (all_insert (λ (z : TopicInfo). is_below y.name z ≡ true) x ys (below_other x.name y.name e (All-head (λ (z : TopicInfo). z.name ≡ x.name → ⊥) y ys apart)) up.0, ih)

pub sorted_up : (ys : List TopicInfo) → Up ys → AreSorted ys
sorted_up [] up = λ i j d lt le. absurd (omega (arith, lt, le))
sorted_up (y ∷ ys) up = AllPairs-cons (λ (x y : TopicInfo). is_lt (slice_cmp nat_cmp x.name y.name) ≡ true) y ys up.0 (sorted_up ys up.1)

-- ---- the topics one after another

pub gathered_first : (name : Option (List ℕ)) → Gathered name [] []
gathered_first name = record {
  up = tt;
  each = All-nil (λ (info : TopicInfo). (topic : Topic) × Contains [] topic × (wanted name topic ≡ true) × IsInfo topic info);
  all = λ topic c is. absurd (omega (arith, c.1));
}

pub differ : (topics : List Topic) (i : ℕ) (t : Topic) → ArePlans (shape_of (log_of topics)) → i < length topics → t ≡ get_or topics i t → (u : Topic) → Contains (take i topics) u → u.name ≡ t.name → ⊥
differ topics i t plans below here u c same =
    let f : Topic → List ℕ × ℕ = λ t. (t.name, length t.parts) in
    let k : ℕ = c.0 in
    let lt : k < i = omega (arith, c.1, length-take i topics) in
    let at : get_or topics k u ≡ u = sym (get_or-take i topics k u lt) ∙ c.2 in
    let first : get_or (map f topics) k (f u) ≡ f u = get_or-map f topics k u (f u) (omega (arith, lt, below)) ∙ ap f at in
    let second : get_or (map f topics) i (f u) ≡ f t = get_or-map f topics i t (f u) below ∙ ap f (sym here) in
    plans.apart k i (f u) lt (omega (arith, below, length-map topics f)) (ap (λ (p : List ℕ × ℕ). p.0) first ∙ (same ∙ sym (ap (λ (p : List ℕ × ℕ). p.0) second)))

gathered_push : (name : Option (List ℕ)) (old : List Topic) (t : Topic) (xs ys : List TopicInfo) → ((u : Topic) → Contains old u → u.name ≡ t.name → ⊥)
    → Gathered name old xs → TakesIn name t xs ys → Gathered name (old ++ t ∷ []) ys
gathered_push name old t xs ys apart g (inl skip) = subst (Gathered name (old ++ t ∷ [])) (sym skip.1) (record {
  up = g.up;
  each = All-weaker (λ (info : TopicInfo). (topic : Topic) × Contains old topic × (wanted name topic ≡ true) × IsInfo topic info) (λ (info : TopicInfo). (topic : Topic) × Contains (old ++ t ∷ []) topic × (wanted name topic ≡ true) × IsInfo topic info)
      (λ info h. (h.0, Contains-append_left old (t ∷ []) h.0 h.1, h.2, h.3)) xs g.each;
  all = λ topic c is. pick topic is (Contains-push_cases old t topic c);
})
  where
    pick : (topic : Topic) → wanted name topic ≡ true → Contains old topic ⊎ (t ≡ topic) → (info : TopicInfo) × Contains xs info × IsInfo topic info
    pick topic is (inl c) = g.all topic c is
    pick topic is (inr e) = absurd (cc (skip.0, ap (wanted name) e, is))
gathered_push name old t xs ys apart g (inr (is, (x, told, new))) = subst (Gathered name (old ++ t ∷ [])) (sym new) (record {
  up = up_insert x xs (All-weaker (λ (info : TopicInfo). (topic : Topic) × Contains old topic × (wanted name topic ≡ true) × IsInfo topic info) (λ (z : TopicInfo). z.name ≡ x.name → ⊥)
      (λ info h e. apart h.0 h.1 (sym h.3.name ∙ (e ∙ told.name))) xs g.each) g.up;
  each = all_insert (λ (info : TopicInfo). (topic : Topic) × Contains (old ++ t ∷ []) topic × (wanted name topic ≡ true) × IsInfo topic info) x xs (t, Contains-push old t, is, told)
      (All-weaker (λ (info : TopicInfo). (topic : Topic) × Contains old topic × (wanted name topic ≡ true) × IsInfo topic info) (λ (info : TopicInfo). (topic : Topic) × Contains (old ++ t ∷ []) topic × (wanted name topic ≡ true) × IsInfo topic info)
      (λ info h. (h.0, Contains-append_left old (t ∷ []) h.0 h.1, h.2, h.3)) xs g.each);
  all = λ topic c want. pick topic want (Contains-push_cases old t topic c);
})
  where
    pick : (topic : Topic) → wanted name topic ≡ true → Contains old topic ⊎ (t ≡ topic) → (info : TopicInfo) × Contains (insert_info x xs) info × IsInfo topic info
    pick topic want (inl c) = let old_one = g.all topic c want in (old_one.0, has_others x xs old_one.0 old_one.1, old_one.2)
    pick topic want (inr e) = (x, has_inserted x xs, subst (λ (u : Topic). IsInfo u x) e told)

pub gathered_next : (name : Option (List ℕ)) (topics : List Topic) (i : ℕ) (t : Topic) (xs ys : List TopicInfo) → ArePlans (shape_of (log_of topics)) → i < length topics → t ≡ get_or topics i t
    → Gathered name (take i topics) xs → TakesIn name t xs ys → Gathered name (take (i + 1) topics) ys
gathered_next name topics i t xs ys plans below here g takes =
    let more : take (i + 1) topics ≡ take i topics ++ t ∷ [] = take_more topics i t below ∙ ap (λ (x : Topic). take i topics ++ x ∷ []) (sym here) in
    subst (λ (ts : List Topic). Gathered name ts ys) (sym more) (gathered_push name (take i topics) t xs ys (differ topics i t plans below here) g takes)

pub few_parts : (topics : List Topic) (i : ℕ) (t : Topic) → ArePlans (shape_of (log_of topics)) → i < length topics → t ≡ get_or topics i t → length t.parts < 2 ^ 31
few_parts topics i t plans below here =
    let f : Topic → List ℕ × ℕ = λ t. (t.name, length t.parts) in
    let at : get_or (map f topics) i (f t) ≡ f t = get_or-map f topics i t (f t) below ∙ ap f (sym here) in
    subst (λ (p : List ℕ × ℕ). p.1 < 2 ^ 31) at (plans.few i (f t) (omega (arith, below, length-map topics f)))

pub place_is : (p : TopicInfo → Bool) (ys : List TopicInfo) → unwrap_or (position p ys) (length ys) ≡ position_or_len p ys
place_is p ys = go (nat_lt (position_or_len p ys) (length ys)) refl
  where
    go : (b : Bool) → nat_lt (position_or_len p ys) (length ys) ≡ b → unwrap_or (position p ys) (length ys) ≡ position_or_len p ys
    go true e = rw e refl
    go false e = rw e (past (position_or_len p ys) (length ys) e (prefix_len-le-length (λ x. not (p x)) ys))
      where
        past : (m n : ℕ) → nat_lt m n ≡ false → m ≤ n → n ≡ m
        past m n e le = grind (arith, nat_tests)

pub asked_has : (name : Option (List ℕ)) (topics : List Topic) (t : Topic) → Contains topics t → wanted name t ≡ true → Contains (asked name topics) t
asked_has None topics t c is = c
asked_has (Some name) [] t c is = absurd (omega (arith, c.1))
asked_has (Some name) (x ∷ xs) t c is = go (bytes_eq x.name name) refl c (λ d. asked_has (Some name) xs t d is)
  where
    go : (b : Bool) → bytes_eq x.name name ≡ b → Contains (x ∷ xs) t → (Contains xs t → Contains (asked (Some name) xs) t) → Contains (asked (Some name) (x ∷ xs)) t
    go true e (zero, lt, here) ih = rw e (0, omega arith, here)
    go true e (suc k, lt, here) ih = let d = ih (k, omega (arith, lt), here) in rw e (suc d.0, omega (arith, d.1), d.2)
    go false e (zero, lt, here) ih = absurd (cc (e, ap (λ (u : Topic). bytes_eq u.name name) here, is))
    go false e (suc k, lt, here) ih = rw e (ih (k, omega (arith, lt), here))

pub asked_all : (P : Topic → Type 0) (name : Option (List ℕ)) (topics : List Topic) → ((t : Topic) → Contains topics t → wanted name t ≡ true → P t) → All P (asked name topics)
asked_all P None topics f = λ k d lt. f (get_or topics k d) (k, lt, get_or_any topics k (get_or topics k d) d lt) refl
asked_all P (Some name) [] f = All-nil P
asked_all P (Some name) (x ∷ xs) f = go (bytes_eq x.name name) refl (asked_all P (Some name) xs (λ t c is. f t (suc c.0, omega (arith, c.1), c.2) is))
  where
    go : (b : Bool) → bytes_eq x.name name ≡ b → All P (asked (Some name) xs) → All P (asked (Some name) (x ∷ xs))
    go true e ih = rw e (All-cons P x (filter (λ (t : Topic). bytes_eq t.name name) xs) (f x (0, omega arith, refl) e) ih)
    go false e ih = rw e ih

pub is_metadata : (name : Option (List ℕ)) (topics : List Topic) (others : ℕ) (infos : List TopicInfo) → Gathered name topics infos → IsMetadata name (log_with topics others) infos
is_metadata name topics others infos g = record {
  sorted = sorted_up infos g.up;
  each = All-weaker (λ (info : TopicInfo). (topic : Topic) × Contains topics topic × (wanted name topic ≡ true) × IsInfo topic info) (λ (info : TopicInfo). (topic : Topic) × Contains (asked name topics) topic × IsInfo topic info)
      (λ info h. (h.0, asked_has name topics h.0 h.1 h.2, h.3)) infos g.each;
  all = asked_all (λ (topic : Topic). (info : TopicInfo) × Contains infos info × IsInfo topic info) name topics g.all;
}
