-- Positions that are set: where they stand then, and that nothing else changes.
use Rattle.std.proofs.Common.{◌≡◌, ℕ, zero, suc, ◌+◌, ◌<◌, ◌≤◌, ◌^◌, Bool, true, false, List, [], ◌∷◌, ◌++◌, map, length, take, set, slice_index_or, nat_lt, refl, ap, sym, subst, ◌∙◌, arith, Some, None}
use Rattle.std.specs.Prelude.{All, AllPairs, bytes_eq, is_some, nat_abs}
use Rattle.std.specs.List.{list_all, position, position_or_len}
use Rattle.std.proofs.lemmas.Bool.Decides.{nat_tests}
use Rattle.std.proofs.lemmas.Slice.Eq.{bytes_eq-Decides}
use Rattle.std.proofs.lemmas.List.{get_or-map, length-map, map-set, map_more}
use Rattle.std.proofs.lemmas.List.Elements.{All-cons, All-head, All-tail}
use Rattle.std.proofs.lemmas.List.Quantifiers.{position-Some}
use Rattle.std.proofs.lemmas.List.Folds.{list_all-map}
use Rattle.std.proofs.lemmas.List.Sums.{AllPass-from_list_all, fails_before_first, list_all-from_AllPass}
use Rattle.std.proofs.lemmas.Grind.{common_steps}
use Rattle.model.specs.state.Log.{TopicPart, is_at, Log, Keeps}
use Rattle.model.specs.step.Walk.{Place}
use Rattle.model.specs.state.World.{Consumer, IsInOrder, IsLow, is_before, position_in, with_position, with_positions}
use Rattle.model.proofs.Walks.{same_from_is_at, is_at_itself, is_then, is_else}
use Rattle.broker_link.specs.Fetching.{at_of}
use Rattle.broker_link.specs.declared.fetch.TopicPart.{TopicPart as Part}
use Rattle.broker_link.specs.declared.place.Place.{Place as CodePlace}
use Rattle.broker_link.specs.Places.{at_in, place_of}
use Rattle.model.specs.step.Fixed.{HasPart}
use Rattle.model.specs.step.Rules.{AllAssigned}
use Rattle.consumer_state.proofs.Fixing.{ats_are, has_part_later}
use Rattle.consumer_state.specs.Assign.{AreThere}
use Rattle.consumer_state.specs.Positions.{are_assigned, is_assigned, set_at}

-- ---- partitions in order are apart

not_before_itself : (x : TopicPart) → is_before x x ≡ false
not_before_itself x =
    let e : bytes_eq x.topic x.topic ≡ true = (bytes_eq-Decides x.topic x.topic).1 refl in
    let f : nat_lt x.partition x.partition ≡ false = grind (arith, nat_tests) in
    rw (e, f) refl

pub before_is_other : (x y : TopicPart) → is_before x y ≡ true → is_at x y ≡ false
before_is_other x y before = go (is_at x y) refl
  where
    go : (b : Bool) → is_at x y ≡ b → is_at x y ≡ false
    go true e = absurd (let itself : is_before x x ≡ true = ap (is_before x) (same_from_is_at x y e) ∙ before in cc (itself, not_before_itself x))
    go false e = e

pub after_is_other : (x y : TopicPart) → is_before x y ≡ true → is_at y x ≡ false
after_is_other x y before = go (is_at y x) refl
  where
    go : (b : Bool) → is_at y x ≡ b → is_at y x ≡ false
    go true e = absurd (let itself : is_before x x ≡ true = ap (is_before x) (sym (same_from_is_at y x e)) ∙ before in cc (itself, not_before_itself x))
    go false e = e

abbrev pub Apart : List Place → Type 0
Apart ps = AllPairs (λ (p q : Place). is_at p.at q.at ≡ false) ps

pub apart_of : (ps : List Place) → IsInOrder ps → Apart ps
apart_of ps order = λ i j d lt lt'. before_is_other (slice_index_or ps i d).at (slice_index_or ps j d).at (order i j d lt lt')

pub apart_tail : (p : Place) (ps : List Place) → Apart (p ∷ ps) → Apart ps
apart_tail p ps h = λ i j d lt lt'. h (suc i) (suc j) d (omega arith) (omega arith)

pub apart_head : (p : Place) (ps : List Place) → Apart (p ∷ ps) → All (λ (q : Place). is_at p.at q.at ≡ false) ps
apart_head p ps h = λ k d lt. h 0 (suc k) d (omega arith) (omega arith)

pub other_way : (x y : TopicPart) → is_at x y ≡ false → is_at y x ≡ false
other_way x y e = go (is_at y x) refl
  where
    go : (b : Bool) → is_at y x ≡ b → is_at y x ≡ false
    go true f = absurd (cc (e, sym (is_at_itself x) ∙ ap (is_at x) (sym (same_from_is_at y x f))))
    go false f = f

-- ---- one position set

pub set_at_is : (places : List Place) (k n : ℕ) (d : Place) → set_at places k n ≡ set places k (record { at = (slice_index_or places k d).at; position = n })
set_at_is [] k n d = refl
set_at_is (place ∷ places) zero n d = refl
set_at_is (place ∷ places) (suc k) n d = ap (λ ps. place ∷ ps) (set_at_is places k n d)

pub length-set_at : (places : List Place) (k n : ℕ) → length (set_at places k n) ≡ length places
length-set_at [] k n = refl
length-set_at (place ∷ places) zero n = refl
length-set_at (place ∷ places) (suc k) n = ap suc (length-set_at places k n)

-- positions stay below 2^63 where one of them is set below
pub low_set : (places : List Place) (k n : ℕ) → IsLow places → n < 2 ^ 63 → IsLow (set_at places k n)
low_set [] k n h lt = h
low_set (place ∷ places) zero n h lt = All-cons (λ (p : Place). p.position < 2 ^ 63) (record { at = place.at; position = n }) places lt (All-tail (λ (p : Place). p.position < 2 ^ 63) place places h)
low_set (place ∷ places) (suc k) n h lt =
    All-cons (λ (p : Place). p.position < 2 ^ 63) place (set_at places k n) (All-head (λ (p : Place). p.position < 2 ^ 63) place places h) (low_set places k n (All-tail (λ (p : Place). p.position < 2 ^ 63) place places h) lt)

-- a place that is written back with another position
pub written_is : (places : List CodePlace) (k n : ℕ) (here new : CodePlace) → k < length places → here ≡ slice_index_or places k here → at_in new ≡ at_in here → nat_abs new.position ≡ n
    → map place_of (set places k new) ≡ set_at (map place_of places) k n
written_is places k n here new lt is same position =
    let there : (slice_index_or (map place_of places) k (place_of here)).at ≡ at_in here = ap (λ (x : Place). x.at) (get_or-map place_of places k here (place_of here) lt) ∙ ap at_in (sym is) in
    let new_is : place_of new ≡ record { at = (slice_index_or (map place_of places) k (place_of here)).at; position = n } =
    ap (λ x. record { at = x; position = nat_abs new.position }) (same ∙ sym there) ∙ ap (λ m. record { at = (slice_index_or (map place_of places) k (place_of here)).at; position = m }) position in
    map-set place_of places k new ∙ (ap (set (map place_of places) k) new_is ∙ sym (set_at_is (map place_of places) k n (place_of here)))

pub skip_one : (new : Place) (ps : List Place) → All (λ (p : Place). is_at new.at p.at ≡ false) ps → with_position new ps ≡ ps
skip_one new [] h = refl
skip_one new (p ∷ ps) h =
    let e : is_at new.at p.at ≡ false = All-head (λ (p : Place). is_at new.at p.at ≡ false) p ps h in
    ap (λ x. x ∷ with_position new ps) (is_else (is_at new.at p.at) new p e) ∙ ap (λ xs. p ∷ xs) (skip_one new ps (All-tail (λ (p : Place). is_at new.at p.at ≡ false) p ps h))

-- ---- the partitions stay

-- places with the same partitions are in the same order
pub order_kept : (xs ys : List Place) → map (λ (p : Place). p.at) ys ≡ map (λ (p : Place). p.at) xs → IsInOrder xs → IsInOrder ys
order_kept xs ys same order =
    λ i j d lt lt'.
    let n : length ys ≡ length xs = omega (arith, ap length same, length-map xs (λ (p : Place). p.at), length-map ys (λ (p : Place). p.at)) in
    let there : (k : ℕ) → k < length ys → (slice_index_or ys k d).at ≡ (slice_index_or xs k d).at =
    λ k fits. sym (get_or-map (λ (p : Place). p.at) ys k d d.at fits) ∙ (ap (λ ats. slice_index_or ats k d.at) same ∙ get_or-map (λ (p : Place). p.at) xs k d d.at (omega arith)) in
    subst (λ x. is_before x (slice_index_or ys j d).at ≡ true) (sym (there i (omega arith)))
    (subst (λ x. is_before (slice_index_or xs i d).at x ≡ true) (sym (there j (omega arith))) (order i j d lt (omega arith)))

-- the same partitions
pub ats_set : (new : Place) (ps : List Place) → map (λ (p : Place). p.at) (with_position new ps) ≡ map (λ (p : Place). p.at) ps
ats_set new [] = refl
ats_set new (p ∷ ps) = go (is_at new.at p.at) refl (ats_set new ps)
  where
    go : (b : Bool) → is_at new.at p.at ≡ b → map (λ (p : Place). p.at) (with_position new ps) ≡ map (λ (p : Place). p.at) ps → map (λ (p : Place). p.at) (with_position new (p ∷ ps)) ≡ map (λ (p : Place). p.at) (p ∷ ps)
    go true e rest = ap (λ (x : Place). x.at ∷ map (λ (p : Place). p.at) (with_position new ps)) (is_then (is_at new.at p.at) new p e) ∙ (ap (λ (at : TopicPart). at ∷ map (λ (p : Place). p.at) (with_position new ps)) (same_from_is_at new.at p.at e) ∙ ap (λ ats. p.at ∷ ats) rest)
    go false e rest = ap (λ (x : Place). x.at ∷ map (λ (p : Place). p.at) (with_position new ps)) (is_else (is_at new.at p.at) new p e) ∙ ap (λ ats. p.at ∷ ats) rest

pub ats_set_all : (news ps : List Place) → map (λ (p : Place). p.at) (with_positions news ps) ≡ map (λ (p : Place). p.at) ps
ats_set_all [] ps = refl
ats_set_all (n ∷ ns) ps = ats_set_all ns (with_position n ps) ∙ ats_set n ps

-- places that were set stand in the same order
pub order_set : (places news places2 : List Place) → places2 ≡ with_positions news places → IsInOrder places → IsInOrder places2
order_set places news places2 is order = order_kept places places2 (ap (map (λ (p : Place). p.at)) is ∙ ats_set_all news places) order

-- and are in the topics of a later log
pub have_set : (a b : Log) (places places2 : List Place) → Keeps a b → map (λ (p : Place). p.at) places2 ≡ map (λ (p : Place). p.at) places → All (λ place. HasPart a place.at) places → All (λ place. HasPart b place.at) places2
have_set a b places places2 keeps same have = λ k d lt.
    let long : length places2 ≡ length places = omega (arith, ap length same, length-map places (λ (p : Place). p.at), length-map places2 (λ (p : Place). p.at)) in
    let fits : k < length places = omega (arith, lt, long) in
    let there : (slice_index_or places k d).at ≡ (slice_index_or places2 k d).at =
    sym (get_or-map (λ (p : Place). p.at) places k d d.at fits) ∙ (ap (λ (ats : List TopicPart). slice_index_or ats k d.at) (sym same) ∙ get_or-map (λ (p : Place). p.at) places2 k d d.at lt) in
    subst (HasPart b) there (has_part_later a b (slice_index_or places k d).at keeps (have k d fits))

-- ---- a position set where its partition stands

set_where : (at : TopicPart) (n : ℕ) (ps : List Place) (i : ℕ) (d : Place) → i < length ps → is_at at (slice_index_or ps i d).at ≡ true → ((k : ℕ) → k < i → is_at at (slice_index_or ps k d).at ≡ false) → Apart ps
    → set_at ps i n ≡ with_position (record { at = at; position = n }) ps
set_where at n [] i d lt here before apart = absurd (omega arith)
set_where at n (p ∷ ps) zero d lt here before apart =
    let new : Place = record { at = at; position = n } in
    let same : at ≡ p.at = same_from_is_at at p.at here in
    let others : All (λ (q : Place). is_at at q.at ≡ false) ps = subst (λ x. All (λ (q : Place). is_at x q.at ≡ false) ps) (sym same) (apart_head p ps apart) in
    sym (ap (λ x. x ∷ with_position new ps) (is_then (is_at at p.at) new p here) ∙ (ap (λ xs. new ∷ xs) (skip_one new ps others) ∙ ap (λ x. record { at = x; position = n } ∷ ps) same))
set_where at n (p ∷ ps) (suc i) d lt here before apart =
    let new : Place = record { at = at; position = n } in
    ap (λ xs. p ∷ xs) (set_where at n ps i d (omega arith) here (λ k le. before (suc k) (omega arith)) (apart_tail p ps apart))
    ∙ sym (ap (λ x. x ∷ with_position new ps) (is_else (is_at at p.at) new p (before 0 (omega arith))))

abbrev pub stands : TopicPart → CodePlace → Bool
stands at place = is_at at (at_in place)

here_is : (at : TopicPart) (ps : List CodePlace) (k : ℕ) (d : CodePlace) → k < length ps → is_at at (slice_index_or (map place_of ps) k (place_of d)).at ≡ stands at (slice_index_or ps k d)
here_is at ps k d lt = ap (λ (x : Place). is_at at x.at) (get_or-map place_of ps k d (place_of d) lt)

pub set_found : (at : TopicPart) (n : ℕ) (ps : List CodePlace) (i : ℕ) (d : CodePlace) → position (stands at) ps ≡ Some i → IsInOrder (map place_of ps)
    → set_at (map place_of ps) i n ≡ with_position (record { at = at; position = n }) (map place_of ps)
set_found at n ps i d found order =
    let it = position-Some (stands at) ps i d found in
    set_where at n (map place_of ps) i (place_of d) (omega (arith, it.0, length-map ps place_of)) (here_is at ps i d it.0 ∙ it.1)
    (λ k lt. here_is at ps k d (omega (arith, it.0, lt)) ∙ it.2 k lt) (apart_of (map place_of ps) order)

pub set_none : (new : Place) (ps : List CodePlace) (d : CodePlace) → position (stands new.at) ps ≡ None → with_position new (map place_of ps) ≡ map place_of ps
set_none new ps d none =
    let long : length ps ≤ position_or_len (stands new.at) ps = grind (arith, common_steps) in
    skip_one new (map place_of ps) (λ k e lt.
    let fits : k < length ps = omega (arith, lt, length-map ps place_of) in
    ap (λ (x : Place). is_at new.at x.at) (get_or-map place_of ps k d e fits) ∙ fails_before_first (stands new.at) ps k d (omega arith))

set_push : (news : List Place) (new : Place) (ps : List Place) → with_positions (news ++ new ∷ []) ps ≡ with_position new (with_positions news ps)
set_push [] new ps = refl
set_push (n ∷ news) new ps = set_push news new (with_position n ps)

-- one position more set
pub set_next : (news : List CodePlace) (i : ℕ) (new : CodePlace) (old now after : List Place) → i < length news → new ≡ slice_index_or news i new → now ≡ with_positions (map place_of (take i news)) old → after ≡ with_position (place_of new) now
    → after ≡ with_positions (map place_of (take (i + 1) news)) old
set_next news i new old now after lt is had set =
    let more : map place_of (take (i + 1) news) ≡ map place_of (take i news) ++ place_of new ∷ [] = map_more place_of news i new lt ∙ ap (λ (x : CodePlace). map place_of (take i news) ++ place_of x ∷ []) (sym is) in
    set ∙ (ap (with_position (place_of new)) had ∙ (sym (set_push (map place_of (take i news)) (place_of new) old) ∙ ap (λ ns. with_positions ns old) (sym more)))

-- ---- which partitions are assigned

pub parts_assigned : (ps : List Place) (parts : List Part) → are_assigned ps (map at_of parts) ≡ list_all (λ part. is_assigned ps (at_of part)) parts
parts_assigned ps parts = list_all-map (is_assigned ps) at_of parts

pub places_assigned : (ps : List Place) (news : List CodePlace) → are_assigned ps (map (λ place. place.at) (map place_of news)) ≡ list_all (λ new. is_assigned ps (at_in new)) news
places_assigned ps news = ap (are_assigned ps) (ats_are news) ∙ list_all-map (is_assigned ps) at_in news

pub all_assigned : (c : Consumer) (ats : List TopicPart) → are_assigned c.assignment ats ≡ true → AllAssigned ats c
all_assigned c ats e = AllPass-from_list_all (is_assigned c.assignment) ats e

pub not_assigned : (c : Consumer) (ats : List TopicPart) → are_assigned c.assignment ats ≡ false → AllAssigned ats c → ⊥
not_assigned c ats e all = cc (e, list_all-from_AllPass (is_assigned c.assignment) ats all)

-- the topics have a partition that is assigned
pub assigned_there : (log : Log) (ps : List Place) (at : TopicPart) → All (λ (p : Place). HasPart log p.at) ps → is_assigned ps at ≡ true → HasPart log at
assigned_there log [] at all e = absurd (cc e)
assigned_there log (p ∷ ps) at all e = go (is_at at p.at) refl (assigned_there log ps at (All-tail (λ (q : Place). HasPart log q.at) p ps all))
  where
    go : (b : Bool) → is_at at p.at ≡ b → (is_assigned ps at ≡ true → HasPart log at) → HasPart log at
    go true f rest = subst (HasPart log) (sym (same_from_is_at at p.at f)) (All-head (λ (q : Place). HasPart log q.at) p ps all)
    go false f rest = rest (ap is_some (sym (is_else (is_at at p.at) (Some p.position) (position_in ps at) f)) ∙ e)

pub are_there : (log : Log) (c : Consumer) (ats : List TopicPart) → AreThere log c → AllAssigned ats c → All (HasPart log) ats
are_there log c ats there all = λ k d lt. assigned_there log c.assignment (slice_index_or ats k d) there (all k d lt)
