-- From what a link answers to asks to what came for the places asked from.
use Rattle.std.proofs.Common.{◌≡◌, ℕ, ◌<◌, Bool, true, false, List, [], ◌∷◌, map, length, slice_index_or, refl, ap, sym, subst, ◌∙◌, arith, inl, inr}
use Rattle.std.specs.Prelude.{◌⊎◌, Result, Ok, Err, IfOk}
use Rattle.std.specs.List.{All, AllZip}
use Rattle.std.proofs.lemmas.List.{get_or-map, length-map}
use Rattle.std.proofs.lemmas.List.Elements.{All-map, All-nil, All-cons, All-head, All-tail}
use mathlib.Core.List.{IsPrefix}
use Rattle.model.specs.state.Log.{TopicPart, is_at, Log, IsLog, Keeps, part_at, from}
use Rattle.model.specs.step.Walk.{Place, Lot}
use Rattle.model.specs.state.World.{IsInOrder}
use Rattle.model.specs.step.Hand.{AtHand}
use Rattle.model.specs.step.Fixed.{HasPart}
use Rattle.model.proofs.Stretches.{keeps_itself}
use Rattle.broker_link.specs.Fetching.{ask_at, row_of, AreAsks, AreGot, IsFetched, IsGot, HaveAsked}
use Rattle.broker_link.specs.declared.fetch.FetchFrom.{FetchFrom}
use Rattle.broker_link.specs.declared.fetch.Fetched.{Fetched}
use Rattle.broker_link.specs.declared.place.Place.{Place as CodePlace}
use Rattle.instance.specs.Gathering.{asked, GotFrom, HaveAll, IsGotAt, IsHand, IsInside}
use Rattle.instance.specs.Walk.{HasOffsets, lot_of, lots_of}
use Rattle.broker_link.specs.Places.{place_of}
use Rattle.consumer_state.proofs.PositionLemmas.{before_is_other}

pub if_ok : {T E : Type 0} (r : Result T E) (P Q : T → Type 0) → ((x : T) → P x → Q x) → IfOk r P → IfOk r Q
if_ok (Ok x) P Q f h = f x h
if_ok (Err e) P Q f h = tt

-- what holds of the places asked from holds of the asks
of_asks : (P : TopicPart → Type 0) (asks : List FetchFrom) (places : List Place) → map asked asks ≡ places → All (λ place. P place.at) places → All (λ ask. P (ask_at ask)) asks
of_asks P asks places are all = λ k d lt.
    let lt' : k < length places = omega (arith, lt, ap length are, length-map asks asked) in
    let there : (slice_index_or places k (asked d)).at ≡ ask_at (slice_index_or asks k d) = ap (λ (xs : List Place). (slice_index_or xs k (asked d)).at) (sym are) ∙ ap (λ (x : Place). x.at) (get_or-map asked asks k d (asked d) lt) in
    subst P there (all k (asked d) lt')

pub are_asks : (asks : List FetchFrom) (places : List Place) → map asked asks ≡ places → 0 < length places → IsInOrder places → AreAsks asks
are_asks asks places are some order = record {
  some = omega (arith, ap length are, length-map asks asked);
  apart = λ i j d before lt.
      let long : length asks ≡ length places = omega (arith, ap length are, length-map asks asked) in
      let there : (k : ℕ) → k < length asks → (slice_index_or places k (asked d)).at ≡ ask_at (slice_index_or asks k d) =
      λ k fits. ap (λ (xs : List Place). (slice_index_or xs k (asked d)).at) (sym are) ∙ ap (λ (x : Place). x.at) (get_or-map asked asks k d (asked d) fits) in
      subst (λ x. is_at x (ask_at (slice_index_or asks j d)) ≡ false) (there i (omega arith))
      (subst (λ x. is_at (slice_index_or places i (asked d)).at x ≡ false) (there j lt)
      (before_is_other (slice_index_or places i (asked d)).at (slice_index_or places j (asked d)).at (order i j (asked d) before (omega arith))));
}

-- each offset that came is that of an INT64
pub offsets_of : (asks : List FetchFrom) (fetched : List Fetched) → AllZip IsFetched asks fetched → All HasOffsets fetched
offsets_of [] [] h = All-nil HasOffsets
offsets_of [] (f ∷ fs) h = absurd h
offsets_of (x ∷ xs) [] h = absurd h
offsets_of (x ∷ xs) (f ∷ fs) h = All-cons HasOffsets f fs (λ k d lt. let one = h.0 in let o = one.offsets k d lt in (o.0, o.1, o.3)) (offsets_of xs fs h.1)

each_got : (log : Log) (asks : List FetchFrom) (fetched : List Fetched) → AllZip (IsGot log) asks fetched → AllZip (IsGotAt log) (map asked asks) fetched
each_got log [] [] h = h
each_got log [] (f ∷ fs) h = absurd h
each_got log (x ∷ xs) [] h = absurd h
each_got log (x ∷ xs) (f ∷ fs) h = (let one = h.0 in record { outside = one.outside; inside = one.inside; first = one.first }, each_got log xs fs h.1)

-- what came for the places
pub got_from : (log : Log) (asks : List FetchFrom) (fetched : List Fetched) (places : List Place) → map asked asks ≡ places → AreGot log asks fetched → GotFrom log places fetched
got_from log asks fetched places are got = record {
  each = subst (λ (ps : List Place). AllZip (IsGotAt log) ps fetched) are (each_got log asks fetched got.each);
  none = λ inside empty. subst (All (λ (place : Place). from log place.at place.position ≡ [])) are (All-map (λ (place : Place). from log place.at place.position ≡ []) asked asks (got.none inside empty));
}

pub have_asked : (log : Log) (asks : List FetchFrom) (places : List Place) → map asked asks ≡ places → HaveAll log places → HaveAsked log asks
have_asked log asks places are have = of_asks (HasPart log) asks places are have

-- ---- the rows at hand

pub whose_are : (places : List CodePlace) (fetched : List Fetched) → length fetched ≡ length places → map (λ (lot : Lot). lot.place) (lots_of places fetched) ≡ map place_of places
whose_are [] fetched same = refl
whose_are (p ∷ ps) [] same = absurd (omega arith)
whose_are (p ∷ ps) (f ∷ fs) same = ap (λ xs. place_of p ∷ xs) (whose_are ps fs (omega arith))

abbrev Begins : Log → Lot → Type 0
Begins log lot = IsPrefix lot.rows (from log lot.place.at lot.place.position)

firsts : (log : Log) (places : List CodePlace) (fetched : List Fetched) → AllZip (IsGotAt log) (map place_of places) fetched → All (Begins log) (lots_of places fetched)
firsts log [] fetched h = All-nil (Begins log)
firsts log (p ∷ ps) [] h = All-nil (Begins log)
firsts log (p ∷ ps) (f ∷ fs) h = All-cons (Begins log) (lot_of p f) (lots_of ps fs) (let one = h.0 in one.first) (firsts log ps fs h.1)

map_empty : {A B : Type 0} (f : A → B) (xs : List A) → map f xs ≡ [] → xs ≡ []
map_empty f [] e = refl
map_empty f (x ∷ xs) e = absurd (cc e)

empties : (places : List CodePlace) (fetched : List Fetched) → length fetched ≡ length places → All (λ (lot : Lot). lot.rows ≡ []) (lots_of places fetched) → All (λ (f : Fetched). f.rows ≡ []) fetched
empties [] [] same h = All-nil (λ (f : Fetched). f.rows ≡ [])
empties [] (f ∷ fs) same h = absurd (omega arith)
empties (p ∷ ps) [] same h = absurd (omega arith)
empties (p ∷ ps) (f ∷ fs) same h =
    All-cons (λ (f : Fetched). f.rows ≡ []) f fs (map_empty row_of f.rows (All-head (λ (l : Lot). l.rows ≡ []) (lot_of p f) (lots_of ps fs) h))
    (empties ps fs (omega arith) (All-tail (λ (l : Lot). l.rows ≡ []) (lot_of p f) (lots_of ps fs) h))

none_outside : (log : Log) (places : List Place) (fetched : List Fetched) → AllZip (IsGotAt log) places fetched → All (IsInside log) places → All (λ (f : Fetched). f.out_of_range ≡ false) fetched
none_outside log [] [] h inside = All-nil (λ (f : Fetched). f.out_of_range ≡ false)
none_outside log [] (f ∷ fs) h inside = absurd h
none_outside log (p ∷ ps) [] h inside = absurd h
none_outside log (p ∷ ps) (f ∷ fs) h inside =
    All-cons (λ (f : Fetched). f.out_of_range ≡ false) f fs (go f.out_of_range refl) (none_outside log ps fs h.1 (All-tail (IsInside log) p ps inside))
  where
    here : IsInside log p
    here = All-head (IsInside log) p ps inside

    never : ((p.position < (part_at log p.at).start) ⊎ ((part_at log p.at).end < p.position)) → f.out_of_range ≡ false
    never (inl lt) = absurd (omega (arith, lt, here.0))
    never (inr lt) = absurd (omega (arith, lt, here.1))

    go : (b : Bool) → f.out_of_range ≡ b → f.out_of_range ≡ false
    go true e = let one = h.0 in never (one.outside e)
    go false e = e

pub all_are_inside : (log : Log) (places : List Place) (fetched : List Fetched) → AllZip (IsGotAt log) places fetched → All (λ (f : Fetched). f.out_of_range ≡ false) fetched → All (IsInside log) places
all_are_inside log [] [] h inside = All-nil (IsInside log)
all_are_inside log [] (f ∷ fs) h inside = absurd h
all_are_inside log (p ∷ ps) [] h inside = absurd h
all_are_inside log (p ∷ ps) (f ∷ fs) h inside =
    All-cons (IsInside log) p ps (let one = h.0 in one.inside (All-head (λ (x : Fetched). x.out_of_range ≡ false) f fs inside)) (all_are_inside log ps fs h.1 (All-tail (λ (x : Fetched). x.out_of_range ≡ false) f fs inside))

-- what came for places that are all in range is at hand
pub hand_of : (log : Log) (places : List CodePlace) (fetched : List Fetched) → length fetched ≡ length places → GotFrom log (map place_of places) fetched → All (IsInside log) (map place_of places)
    → IsHand log (map place_of places) (lots_of places fetched)
hand_of log places fetched same got inside = record {
  whose = whose_are places fetched same;
  first = firsts log places fetched got.each;
  none = λ empty. got.none (none_outside log (map place_of places) fetched got.each inside) (empties places fetched same empty);
  range = inside;
}

-- with nothing assigned nothing is at hand
pub hand_none : (log : Log) → IsHand log [] []
hand_none log = record { whose = refl; first = All-nil (Begins log); none = λ empty. All-nil (λ (place : Place). from log place.at place.position ≡ []); range = All-nil (IsInside log) }

-- at hand in the model's terms
pub at_hand : (a b : Log) (places : List Place) (lots : List Lot) (looked : Type 0) → IsLog b → Keeps a b → IsHand b places lots → AtHand a b places lots looked
at_hand a b places lots looked log keeps hand = record {
  whose = hand.whose;
  first = hand.first;
  none = λ empty. record { log = b; since = (log, keeps); kept = keeps_itself b; none = hand.none empty; range = λ x. hand.range };
}

pub if_ok_both : {T E : Type 0} (r : Result T E) (P Q R : T → Type 0) → ((x : T) → P x → Q x → R x) → IfOk r P → IfOk r Q → IfOk r R
if_ok_both (Ok x) P Q R f h k = f x h k
if_ok_both (Err e) P Q R f h k = tt
