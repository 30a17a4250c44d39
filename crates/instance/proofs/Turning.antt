-- Lists that begin at another place and go once round.
use Rattle.std.proofs.Common.{◌≡◌, ℕ, zero, suc, ◌+◌, ◌-◌, ◌<◌, ◌≤◌, List, [], ◌∷◌, ◌++◌, map, length, take, drop, slice_index_or, refl, ap, sym, subst, ◌∙◌, arith, length-append, inl, inr}
use Rattle.std.specs.Prelude.{◌⊎◌, false}
use Rattle.std.specs.List.{All, AllZip, RotatedLeft}
use Rattle.std.proofs.Math.Seq.{drop-append_seam, take-append_seam}
use Rattle.std.proofs.lemmas.List.{get_or-map, length-map, length-drop, map-append, take-append-drop, take-map}
use Rattle.std.proofs.lemmas.List.Elements.{All-nil, All-cons, All-head, All-tail, All-append}
use Rattle.model.specs.state.Log.{is_at, Log, from}
use Rattle.model.specs.step.Walk.{Place, turned}
use Rattle.model.specs.state.World.{IsInOrder}
use Rattle.broker_link.specs.Fetching.{ask_at, AreAsks, AreInTurn, rows_in, rows_in_turn}
use Rattle.broker_link.specs.declared.fetch.FetchFrom.{FetchFrom}
use Rattle.broker_link.specs.declared.fetch.Fetched.{Fetched}
use Rattle.instance.specs.Gathering.{AreGiven, asked, GotFrom, IsGotAt}
use Rattle.consumer_state.proofs.PositionLemmas.{before_is_other, after_is_other}

pub length_turned : {A : Type 0} (k : ℕ) (xs : List A) → length (turned k xs) ≡ length xs
length_turned k xs = omega (arith, length-append (drop k xs) (take k xs), length-append (take k xs) (drop k xs), ap length (take-append-drop k xs))

map_drop : {A B : Type 0} (f : A → B) (k : ℕ) (xs : List A) → map f (drop k xs) ≡ drop k (map f xs)
map_drop f zero xs = refl
map_drop f (suc k) [] = refl
map_drop f (suc k) (x ∷ xs) = map_drop f k xs

map_turned : {A B : Type 0} (f : A → B) (k : ℕ) (xs : List A) → map f (turned k xs) ≡ turned k (map f xs)
map_turned f k xs = map-append f (drop k xs) (take k xs) ∙ (ap (λ ys. ys ++ map f (take k xs)) (map_drop f k xs) ∙ ap (λ ys. drop k (map f xs) ++ ys) (sym (take-map f k xs)))

all_both : {A : Type 0} (P : A → Type 0) (xs ys : List A) → All P (xs ++ ys) → All P xs × All P ys
all_both P [] ys h = (All-nil P, h)
all_both P (x ∷ xs) ys h =
    let rest = all_both P xs ys (All-tail P x (xs ++ ys) h) in
    (All-cons P x xs (All-head P x (xs ++ ys) h) rest.0, rest.1)

all_turned_back : {A : Type 0} (P : A → Type 0) (k : ℕ) (xs : List A) → All P (turned k xs) → All P xs
all_turned_back P k xs h =
    let both = all_both P (drop k xs) (take k xs) h in
    subst (All P) (take-append-drop k xs) (All-append P (take k xs) (drop k xs) both.1 both.0)

zip_both : {A B : Type 0} (R : A → B → Type 0) (xs xs2 : List A) (ys : List B) → AllZip R (xs ++ xs2) ys → AllZip R xs (take (length xs) ys) × AllZip R xs2 (drop (length xs) ys)
zip_both R [] xs2 ys h = (tt, h)
zip_both R (x ∷ xs) xs2 [] h = absurd h
zip_both R (x ∷ xs) xs2 (y ∷ ys) h =
    let rest = zip_both R xs xs2 ys h.1 in
    ((h.0, rest.0), rest.1)

zip_append : {A B : Type 0} (R : A → B → Type 0) (xs xs2 : List A) (ys ys2 : List B) → AllZip R xs ys → AllZip R xs2 ys2 → AllZip R (xs ++ xs2) (ys ++ ys2)
zip_append R [] xs2 [] ys2 h k = k
zip_append R [] xs2 (y ∷ ys) ys2 h k = absurd h
zip_append R (x ∷ xs) xs2 [] ys2 h k = absurd h
zip_append R (x ∷ xs) xs2 (y ∷ ys) ys2 h k = (h.0, zip_append R xs xs2 ys ys2 h.1 k)

-- what was paired with a turned list pairs, turned back, with the list
zip_turned_back : {A B : Type 0} (R : A → B → Type 0) (k : ℕ) (xs : List A) (ys : List B) → AllZip R (turned k xs) ys → AllZip R xs (turned (length (drop k xs)) ys)
zip_turned_back R k xs ys h =
    let both = zip_both R (drop k xs) (take k xs) ys h in
    subst (λ zs. AllZip R zs (turned (length (drop k xs)) ys)) (take-append-drop k xs)
    (zip_append R (take k xs) (drop k xs) (drop (length (drop k xs)) ys) (take (length (drop k xs)) ys) both.1 both.0)

below_or_not : (a b : ℕ) → (a < b) ⊎ (b ≤ a)
below_or_not zero zero = inr (omega arith)
below_or_not zero (suc b) = inl (omega arith)
below_or_not (suc a) zero = inr (omega arith)
below_or_not (suc a) (suc b) = elim (below_or_not a b) [ inl h ↦ inl (omega arith) | inr h ↦ inr (omega arith) ]

-- the asks name no partition twice wherever they begin
pub turned_asks : (asks asks2 : List FetchFrom) (places : List Place) (k : ℕ) → map asked asks ≡ places → RotatedLeft asks asks2 (length asks) k → length asks2 ≡ length asks → 0 < length places → k ≤ length places → IsInOrder places → AreAsks asks2
turned_asks asks asks2 places k are turn same some within order = record {
  some = omega (arith, same, long, some);
  apart = λ i j d before lt. apart i j d before (omega (arith, lt, same)) (split (j + k)) (split (i + k));
}
  where
    long : length asks ≡ length places
    long = omega (arith, ap length are, length-map asks asked)

    split : (x : ℕ) → (x < length asks) ⊎ (length asks ≤ x)
    split x = below_or_not x (length asks)

    there : (d : FetchFrom) (i : ℕ) → i < length asks → (slice_index_or places i (asked d)).at ≡ ask_at (slice_index_or asks i d)
    there d i fits = ap (λ (xs : List Place). (slice_index_or xs i (asked d)).at) (sym are) ∙ ap (λ (x : Place). x.at) (get_or-map asked asks i d (asked d) fits)

    rises : (d : FetchFrom) (i j : ℕ) → i < j → j < length asks → is_at (ask_at (slice_index_or asks i d)) (ask_at (slice_index_or asks j d)) ≡ false
    rises d i j before lt =
        subst (λ x. is_at x (ask_at (slice_index_or asks j d)) ≡ false) (there d i (omega arith))
        (subst (λ x. is_at (slice_index_or places i (asked d)).at x ≡ false) (there d j lt)
        (before_is_other (slice_index_or places i (asked d)).at (slice_index_or places j (asked d)).at (order i j (asked d) before (omega (arith, lt, long)))))

    falls : (d : FetchFrom) (i j : ℕ) → j < i → i < length asks → is_at (ask_at (slice_index_or asks i d)) (ask_at (slice_index_or asks j d)) ≡ false
    falls d i j before lt =
        subst (λ x. is_at x (ask_at (slice_index_or asks j d)) ≡ false) (there d i lt)
        (subst (λ x. is_at (slice_index_or places i (asked d)).at x ≡ false) (there d j (omega arith))
        (after_is_other (slice_index_or places j (asked d)).at (slice_index_or places i (asked d)).at (order j i (asked d) before (omega (arith, lt, long)))))

    put : (d : FetchFrom) (i j m n : ℕ) → slice_index_or asks2 i d ≡ slice_index_or asks m d → slice_index_or asks2 j d ≡ slice_index_or asks n d
        → is_at (ask_at (slice_index_or asks m d)) (ask_at (slice_index_or asks n d)) ≡ false → is_at (ask_at (slice_index_or asks2 i d)) (ask_at (slice_index_or asks2 j d)) ≡ false
    put d i j m n e f h = subst (λ x. is_at (ask_at x) (ask_at (slice_index_or asks2 j d)) ≡ false) (sym e) (subst (λ x. is_at (ask_at (slice_index_or asks m d)) (ask_at x) ≡ false) (sym f) h)

    apart : (i j : ℕ) (d : FetchFrom) → i < j → j < length asks → (j + k < length asks) ⊎ (length asks ≤ j + k) → (i + k < length asks) ⊎ (length asks ≤ i + k)
        → is_at (ask_at (slice_index_or asks2 i d)) (ask_at (slice_index_or asks2 j d)) ≡ false
    apart i j d before lt (inl a) (inl b) = put d i j (i + k) (j + k) (turn.0 i d b) (turn.0 j d a) (rises d (i + k) (j + k) (omega (arith, before)) a)
    apart i j d before lt (inl a) (inr b) = absurd (omega (arith, before, a, b))
    apart i j d before lt (inr a) (inl b) = put d i j (i + k) (j + k - length asks) (turn.0 i d b) (turn.1 j d a lt) (falls d (i + k) (j + k - length asks) (omega (arith, lt, before)) b)
    apart i j d before lt (inr a) (inr b) = put d i j (i + k - length asks) (j + k - length asks) (turn.1 i d b (omega (arith, before, lt))) (turn.1 j d a lt) (rises d (i + k - length asks) (j + k - length asks) (omega (arith, before, a, b)) (omega (arith, lt, within, long)))

-- turned asks ask from the turned places
pub asked_turned : (asks : List FetchFrom) (places : List Place) (k : ℕ) → map asked asks ≡ places → map asked (turned k asks) ≡ turned k places
asked_turned asks places k are = map_turned asked k asks ∙ ap (turned k) are

-- what came for the turned places, turned back, came for the places
pub got_turned_back : (log : Log) (places : List Place) (k m : ℕ) (fetched : List Fetched) → GotFrom log (turned k places) fetched → m ≡ length places - k → GotFrom log places (turned m fetched)
got_turned_back log places k m fetched got is = record {
  each = subst (λ n. AllZip (IsGotAt log) places (turned n fetched)) (length-drop k places ∙ sym is) (zip_turned_back (IsGotAt log) k places fetched got.each);
  none = λ inside empty.
      all_turned_back (λ (place : Place). from log place.at place.position ≡ []) k places
      (got.none (all_turned_back (λ (f : Fetched). f.out_of_range ≡ false) m fetched inside) (all_turned_back (λ (f : Fetched). f.rows ≡ []) m fetched empty));
}

-- a list that is cut in two, the other way round
seam_turned : {A : Type 0} (k : ℕ) (xs ys : List A) → length xs ≡ k → turned k (xs ++ ys) ≡ ys ++ xs
seam_turned k xs ys long = subst (λ n. turned n (xs ++ ys) ≡ ys ++ xs) long (ap (λ l. l ++ take (length xs) (xs ++ ys)) (drop-append_seam xs ys) ∙ ap (λ l. ys ++ l) (take-append_seam xs ys))

turned_twice : {A : Type 0} (k m : ℕ) (xs : List A) → k ≤ length xs → m ≡ length xs - k → turned k (turned m xs) ≡ xs
turned_twice k m xs within is = seam_turned k (drop m xs) (take m xs) (omega (arith, length-drop m xs, within, is)) ∙ take-append-drop m xs

turned_none : {A : Type 0} (k : ℕ) → turned {A = A} k [] ≡ []
turned_none zero = refl
turned_none (suc k) = refl

-- rows that were given in the turned order, turned back
pub given_turned_back : (most : ℕ) (log : Log) (asks : List FetchFrom) (fetched : List Fetched) (places : List Place) (k m : ℕ) → map asked asks ≡ turned k places → AreInTurn most log asks fetched → k ≤ length fetched → m ≡ length fetched - k
    → AreGiven most k log places (map rows_in (turned m fetched))
given_turned_back most log asks fetched places k m are turn within is =
    let n : length (map rows_in fetched) ≡ length fetched = length-map fetched rows_in in
    ap (turned k) (map_turned rows_in m fetched) ∙ (turned_twice k m (map rows_in fetched) (omega (arith, n, within)) (omega (arith, n, is)) ∙ (turn ∙ ap (rows_in_turn most [] log) are))

-- of no place nothing came
pub given_none : (most k : ℕ) (log : Log) (places : List Place) (fetched : List Fetched) → places ≡ [] → fetched ≡ [] → AreGiven most k log places (map rows_in fetched)
given_none most k log places fetched empty none =
    ap (λ fs. turned k (map rows_in fs)) none ∙ (turned_none k ∙ sym (ap (λ ps. rows_in_turn most [] log (turned k ps)) empty ∙ ap (rows_in_turn most [] log) (turned_none k)))
