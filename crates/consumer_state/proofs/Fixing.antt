-- From positions fixed one after another to the places that the model fixes.
use Rattle.std.proofs.Common.{◌≡◌, ℕ, ℤ, suc, ◌+◌, ◌<◌, ◌^◌, List, [], ◌∷◌, ◌++◌, length, map, take, get_or, refl, ap, sym, subst, ◌∙◌, inl, inr, arith, true, nat_abs, Option, Some, None}
use Rattle.std.specs.Prelude.{◌⊎◌, All, Contains}
use Rattle.std.specs.List.{AllZip}
use Rattle.std.proofs.lemmas.List.{get_or-map, length-map, map_push, take_more}
use Rattle.std.proofs.lemmas.List.Elements.{All-push}
use Rattle.model.specs.state.Log.{TopicPart, Log, Keeps, IsLogAfter}
use Rattle.model.specs.step.Walk.{Place}
use Rattle.model.specs.state.World.{Edge, IsInOrder, IsLow, is_before, position_in}
use Rattle.model.specs.step.Fixed.{Fixes, HasPart, fixed_at}
use Rattle.model.specs.step.Rules.{IsSet, lacking}
use Rattle.model.proofs.Stretches.{keeps_itself, keeps_on}
use Rattle.broker_link.specs.Fetching.{at_of, told_offset}
use Rattle.broker_link.specs.declared.fetch.TopicPart.{TopicPart as Part}
use Rattle.broker_link.specs.declared.place.Place.{Place as CodePlace}
use Rattle.consumer_state.specs.Fix.{AreFixed, IsFixed, IsKnown, merged, next_after}
use Rattle.consumer_state.specs.Order.{AreRising, AreSorted}
use Rattle.broker_link.specs.Places.{at_in, place_of}
use Rattle.broker_link.proofs.Puts.{get_or_any}
use Rattle.consumer_state.proofs.Lacking.{part_there, same_count}

-- a log that is kept has the same partitions
pub has_part_later : (a b : Log) (at : TopicPart) → Keeps a b → HasPart a at → HasPart b at
has_part_later a b at keeps has = omega (arith, same_count a b at.topic keeps, has)

-- ---- one more

fixed_push : (reset : Edge) (a : Log) (ats : List TopicPart) (ks : List ℤ) (ps : List Place) (m b : Log) (at : TopicPart) (k : ℤ) (p : Place)
    → AreFixed reset a ats ks ps m → IsLogAfter m b → p.at ≡ at → IsFixed b reset at k p.position → AreFixed reset a (ats ++ at ∷ []) (ks ++ k ∷ []) (ps ++ p ∷ []) b
fixed_push reset a [] [] [] m b at k p h later is fixed = (b, (later.0, keeps_on a m b h later.1), is, fixed, keeps_itself b)
fixed_push reset a [] [] (q ∷ ps) m b at k p h later is fixed = absurd h
fixed_push reset a [] (y ∷ ks) ps m b at k p h later is fixed = absurd h
fixed_push reset a (x ∷ ats) [] ps m b at k p h later is fixed = absurd h
fixed_push reset a (x ∷ ats) (y ∷ ks) [] m b at k p h later is fixed = absurd h
fixed_push reset a (x ∷ ats) (y ∷ ks) (q ∷ ps) m b at k p h later is fixed = (h.0, h.1, h.2, h.3, fixed_push reset h.0 ats ks ps m b at k p h.4 later is fixed)

pub fixed_next : (reset : Edge) (a m b : Log) (parts : List Part) (known : List ℤ) (places : List CodePlace) (i : ℕ) (part : Part) (k d : ℤ) (place : CodePlace)
    → i < length parts → i < length known → part ≡ get_or parts i part → k ≡ get_or known i d
    → AreFixed reset a (map at_of (take i parts)) (take i known) (map place_of places) m → IsLogAfter m b → at_in place ≡ at_of part → IsFixed b reset (at_of part) k (nat_abs place.position)
    → AreFixed reset a (map at_of (take (i + 1) parts)) (take (i + 1) known) (map place_of (places ++ place ∷ [])) b
fixed_next reset a m b parts known places i part k d place lt lt' is is' h later whose fixed =
    let one : map at_of (take (i + 1) parts) ≡ map at_of (take i parts) ++ at_of part ∷ [] =
    ap (map at_of) (take_more parts i part lt ∙ ap (λ (x : Part). take i parts ++ x ∷ []) (sym is)) ∙ map_push at_of (take i parts) part in
    let two : take (i + 1) known ≡ take i known ++ k ∷ [] = take_more known i d lt' ∙ ap (λ (x : ℤ). take i known ++ x ∷ []) (sym is') in
    rw (one, two, map_push place_of places place) (fixed_push reset a (map at_of (take i parts)) (take i known) (map place_of places) m b (at_of part) k (place_of place) h later whose fixed)

pub whose_next : (parts : List Part) (places : List CodePlace) (i : ℕ) (part : Part) (place : CodePlace) → i < length parts → part ≡ get_or parts i part
    → map at_in places ≡ map at_of (take i parts) → at_in place ≡ at_of part → map at_in (places ++ place ∷ []) ≡ map at_of (take (i + 1) parts)
whose_next parts places i part place lt is whose here =
    map_push at_in places place ∙ (ap (λ (l : List TopicPart). l ++ at_in place ∷ []) whose ∙ (ap (λ (x : TopicPart). map at_of (take i parts) ++ x ∷ []) here
    ∙ (sym (map_push at_of (take i parts) part) ∙ ap (map at_of) (ap (λ (x : Part). take i parts ++ x ∷ []) is ∙ sym (take_more parts i part lt)))))

pub part_has : (a m : Log) (parts : List Part) (i : ℕ) (part : Part) → i < length parts → part ≡ get_or parts i part → Keeps a m → All (HasPart a) (map at_of parts) → HasPart m (at_of part)
part_has a m parts i part lt is keeps all =
    has_part_later a m (at_of part) keeps
    (subst (λ (x : TopicPart). HasPart a x) (get_or-map at_of parts i part (at_of part) lt ∙ ap at_of (sym is)) (all i (at_of part) (omega (arith, lt, length-map parts at_of))))

pub low_push : (places : List CodePlace) (place : CodePlace) → IsLow (map place_of places) → nat_abs place.position < 2 ^ 63 → IsLow (map place_of (places ++ place ∷ []))
low_push places place low small = rw (map_push place_of places place) (All-push (λ (p : Place). p.position < 2 ^ 63) (map place_of places) (place_of place) low small)

-- ---- all of them

pub long_merged : (kept : List Place) (ats : List TopicPart) (offsets : List ℤ) (next : ℕ) → length (merged kept ats offsets next) ≡ length ats
long_merged kept [] offsets next = refl
long_merged kept (at ∷ ats) offsets next = ap suc (long_merged kept ats offsets (next_after (position_in kept at) next))

pub fixes_of : (committed : TopicPart → Option ℕ) (reset : Edge) (kept : List Place) (a : Log) (ats : List TopicPart) (ks : List ℤ) (ps : List Place) (b : Log)
    → AllZip (IsKnown kept committed) ats ks → AreFixed reset a ats ks ps b → Fixes committed reset kept a ats ps b
fixes_of committed reset kept a [] [] [] b known fixed = fixed
fixes_of committed reset kept a [] [] (p ∷ ps) b known fixed = absurd fixed
fixes_of committed reset kept a [] (k ∷ ks) ps b known fixed = absurd known
fixes_of committed reset kept a (at ∷ ats) [] ps b known fixed = absurd known
fixes_of committed reset kept a (at ∷ ats) (k ∷ ks) [] b known fixed = absurd fixed
fixes_of committed reset kept a (at ∷ ats) (k ∷ ks) (p ∷ ps) b known fixed =
    (fixed.0, fixed.1, fixed.2, either known.0, fixes_of committed reset kept fixed.0 ats ks ps b known.1 fixed.4)
  where
    either : IsKnown kept committed at k
        → (position_in kept at ≡ Some p.position) ⊎ ((position_in kept at ≡ None) × (committed at ≡ None → HasPart fixed.0 at) × (p.position ≡ fixed_at reset (committed at) fixed.0 at))
    either (inl (n, e, is)) =
        let position : p.position ≡ n = fixed.3.is ∙ ap (λ (x : ℤ). fixed_at reset (told_offset x) fixed.0 at) is in
        inl (e ∙ ap (λ (x : ℕ). Some x) (sym position))
    either (inr (none, is)) = inr (none, λ e. fixed.3.have (sym is ∙ e), fixed.3.is ∙ ap (λ (o : Option ℕ). fixed_at reset o fixed.0 at) (sym is))

-- what was fixed from a later log on was fixed from an earlier one on
pub fixes_since : (c d : TopicPart → Option ℕ) (reset : Edge) (kept : List Place) (a m : Log) (ats : List TopicPart) (ps : List Place) (b : Log) → ((at : TopicPart) → d at ≡ c at) → Keeps a m
    → Fixes d reset kept m ats ps b → Fixes c reset kept a ats ps b
fixes_since c d reset kept a m [] [] b same keeps fixes = keeps_on a m b keeps fixes
fixes_since c d reset kept a m [] (p ∷ ps) b same keeps fixes = absurd fixes
fixes_since c d reset kept a m (at ∷ ats) [] b same keeps fixes = absurd fixes
fixes_since c d reset kept a m (at ∷ ats) (p ∷ ps) b same keeps fixes =
    (fixes.0, (fixes.1.0, keeps_on a m fixes.0 keeps fixes.1.1), fixes.2, either fixes.3, fixes_since c d reset kept fixes.0 fixes.0 ats ps b same (keeps_itself fixes.0) fixes.4)
  where
    either : (position_in kept at ≡ Some p.position) ⊎ ((position_in kept at ≡ None) × (d at ≡ None → HasPart fixes.0 at) × (p.position ≡ fixed_at reset (d at) fixes.0 at))
        → (position_in kept at ≡ Some p.position) ⊎ ((position_in kept at ≡ None) × (c at ≡ None → HasPart fixes.0 at) × (p.position ≡ fixed_at reset (c at) fixes.0 at))
    either (inl e) = inl e
    either (inr (none, has, is)) = inr (none, λ e. has (same at ∙ e), is ∙ ap (λ (o : Option ℕ). fixed_at reset o fixes.0 at) (same at))

-- ---- the places are those listed

pub ats_are : (places : List CodePlace) → map (λ (place : Place). place.at) (map place_of places) ≡ map at_in places
ats_are [] = refl
ats_are (p ∷ ps) = ap (λ l. at_in p ∷ l) (ats_are ps)

pub in_order : (places : List CodePlace) → AreRising (map at_in places) → IsInOrder (map place_of places)
in_order places rises = λ i j d lt le.
    let long : length (map place_of places) ≡ length (map at_in places) = length-map places place_of ∙ sym (length-map places at_in) in
    let ats : List TopicPart = map (λ (place : Place). place.at) (map place_of places) in
    let up : AreRising ats = subst AreRising (sym (ats_are places)) rises in
    subst (λ (x : TopicPart). is_before x (get_or (map place_of places) j d).at ≡ true) (get_or-map (λ (place : Place). place.at) (map place_of places) i d d.at (omega (arith, lt, le)))
    (subst (λ (y : TopicPart). is_before (get_or ats i d.at) y ≡ true) (get_or-map (λ (place : Place). place.at) (map place_of places) j d d.at le)
    (up i j d.at lt (omega (arith, le, long, ap length (ats_are places)))))

pub is_set : (ats sorted : List TopicPart) (places : List CodePlace) → AreSorted ats sorted → map at_in places ≡ sorted → IsSet ats (map place_of places)
is_set ats sorted places are whose =
    let same : map (λ (place : Place). place.at) (map place_of places) ≡ sorted = ats_are places ∙ whose in
    record {
      same = λ at. (λ c. subst (λ (l : List TopicPart). Contains l at) (sym same) ((are.same at).0 c), λ c. (are.same at).1 (subst (λ (l : List TopicPart). Contains l at) same c));
      order = in_order places (subst AreRising (sym whose) are.order);
    }

-- each of those listed is there
pub sorted_there : (log : Log) (ats sorted : List TopicPart) → lacking log ats ats ≡ None → AreSorted ats sorted → All (HasPart log) sorted
sorted_there log ats sorted none are = λ k d lt. part_there log ats (get_or sorted k d) none ((are.same (get_or sorted k d)).1 (k, lt, get_or_any sorted k (get_or sorted k d) d lt))
