-- From the places that were assigned and the committed offsets to what is known of each partition.
use Rattle.std.proofs.Common.{◌≡◌, ℕ, ℤ, zero, suc, ◌+◌, ◌<◌, ◌≤◌, Bool, true, false, List, [], ◌∷◌, ◌++◌, length, map, take, drop, get_or, refl, ap, sym, subst, ◌∙◌, inl, inr, arith, negsuc, append_assoc, Option, Some, None}
use Rattle.std.specs.Prelude.{filter, is_none}
use Rattle.std.specs.List.{AllZip}
use Rattle.std.proofs.Math.Seq.{drop-cons}
use Rattle.std.proofs.lemmas.List.{get_or-map, length-map, map_push, take_more}
use Rattle.std.proofs.lemmas.List.Elements.{filter-append}
use Rattle.model.specs.state.Log.{TopicPart, Log}
use Rattle.model.specs.step.Walk.{Place}
use Rattle.model.specs.state.World.{position_in}
use Rattle.broker_link.specs.Fetching.{at_of, told_offset, IsCommittedAt}
use Rattle.broker_link.specs.declared.fetch.TopicPart.{TopicPart as Part}
use Rattle.broker_link.proofs.Puts.{get_or_any}
use Rattle.consumer_state.specs.Fix.{is_new, known_at, merged, next_after, IsKnown}

-- ---- those that weren't assigned

pub news_next : (p : TopicPart → Bool) (parts : List Part) (i : ℕ) (part : Part) (old new : List Part) → i < length parts → part ≡ get_or parts i part
    → map at_of old ≡ filter p (map at_of (take i parts)) → map at_of new ≡ map at_of old ++ filter p (at_of part ∷ []) → map at_of new ≡ filter p (map at_of (take (i + 1) parts))
news_next p parts i part old new lt is had put =
    let more : take (i + 1) parts ≡ take i parts ++ part ∷ [] = take_more parts i part lt ∙ ap (λ (x : Part). take i parts ++ x ∷ []) (sym is) in
    put ∙ (ap (λ l. l ++ filter p (at_of part ∷ [])) had
    ∙ (sym (filter-append p (map at_of (take i parts)) (at_of part ∷ [])) ∙ ap (λ l. filter p l) (sym (map_push at_of (take i parts) part) ∙ ap (map at_of) (sym more))))

-- ---- what is known, one after another

drop_here : (xs : List Part) (i : ℕ) (x : Part) → i < length xs → x ≡ get_or xs i x → drop i xs ≡ x ∷ drop (i + 1) xs
drop_here xs i x lt is = drop-cons xs i x lt ∙ (ap (λ (y : Part). y ∷ drop (suc i) xs) (sym is) ∙ ap (λ n. x ∷ drop n xs) (plus_one i))
  where
    plus_one : (n : ℕ) → suc n ≡ n + 1
    plus_one n = omega arith

new_is : (kept : List Place) (at : TopicPart) (o : Option ℕ) → position_in kept at ≡ o → is_new kept at ≡ is_none o
new_is kept at o e = ap is_none e

count_new : (kept : List Place) (at : TopicPart) (ats : List TopicPart) (o : Option ℕ) (next : ℕ) → position_in kept at ≡ o
    → next + length (filter (is_new kept) (at ∷ ats)) ≡ next_after o next + length (filter (is_new kept) ats)
count_new kept at ats None next e = let f : is_new kept at ≡ true = new_is kept at None e in rw f (omega arith)
count_new kept at ats (Some n) next e = let f : is_new kept at ≡ false = new_is kept at (Some n) e in rw f refl

-- a new one has an offset
pub has_offset : (kept : List Place) (parts : List Part) (i : ℕ) (part : Part) (next : ℕ) (offsets : List ℤ) → i < length parts → part ≡ get_or parts i part
    → next + length (filter (is_new kept) (map at_of (drop i parts))) ≡ length offsets → position_in kept (at_of part) ≡ None → next < length offsets
has_offset kept parts i part next offsets lt is room none =
    let here : drop i parts ≡ part ∷ drop (i + 1) parts = drop_here parts i part lt is in
    let count = count_new kept (at_of part) (map at_of (drop (i + 1) parts)) None next none in
    let whole : next + length (filter (is_new kept) (map at_of (part ∷ drop (i + 1) parts))) ≡ length offsets = subst (λ (l : List Part). next + length (filter (is_new kept) (map at_of l)) ≡ length offsets) here room in
    omega (arith, count, whole)

pub room_next : (kept : List Place) (parts : List Part) (i : ℕ) (part : Part) (next n : ℕ) (offsets : List ℤ) → i < length parts → part ≡ get_or parts i part
    → next + length (filter (is_new kept) (map at_of (drop i parts))) ≡ length offsets → n ≡ next_after (position_in kept (at_of part)) next
    → n + length (filter (is_new kept) (map at_of (drop (i + 1) parts))) ≡ length offsets
room_next kept parts i part next n offsets lt is room n_is =
    let here : drop i parts ≡ part ∷ drop (i + 1) parts = drop_here parts i part lt is in
    let count = count_new kept (at_of part) (map at_of (drop (i + 1) parts)) (position_in kept (at_of part)) next refl in
    let whole : next + length (filter (is_new kept) (map at_of (part ∷ drop (i + 1) parts))) ≡ length offsets = subst (λ (l : List Part). next + length (filter (is_new kept) (map at_of l)) ≡ length offsets) here room in
    omega (arith, count, whole, n_is)

pub merged_next : (kept : List Place) (parts : List Part) (i : ℕ) (part : Part) (next n : ℕ) (offsets old new all : List ℤ) → i < length parts → part ≡ get_or parts i part
    → old ++ merged kept (map at_of (drop i parts)) offsets next ≡ all → new ≡ old ++ known_at (position_in kept (at_of part)) offsets next ∷ [] → n ≡ next_after (position_in kept (at_of part)) next
    → new ++ merged kept (map at_of (drop (i + 1) parts)) offsets n ≡ all
merged_next kept parts i part next n offsets old new all lt is whole put n_is =
    let here : drop i parts ≡ part ∷ drop (i + 1) parts = drop_here parts i part lt is in
    let one : ℤ = known_at (position_in kept (at_of part)) offsets next in
    let rest : List ℤ = merged kept (map at_of (drop (i + 1) parts)) offsets (next_after (position_in kept (at_of part)) next) in
    ap (λ (l : List ℤ). l ++ merged kept (map at_of (drop (i + 1) parts)) offsets n) put
    ∙ (ap (λ (m : ℕ). (old ++ one ∷ []) ++ merged kept (map at_of (drop (i + 1) parts)) offsets m) n_is
    ∙ (append_assoc old (one ∷ []) rest ∙ (ap (λ (l : List Part). old ++ merged kept (map at_of l) offsets next) (sym here) ∙ whole)))

pub merged_end : (kept : List Place) (parts : List Part) (i next : ℕ) (offsets known all : List ℤ) → length parts ≤ i → known ++ merged kept (map at_of (drop i parts)) offsets next ≡ all → known ≡ all
merged_end kept parts i next offsets known all le whole =
    sym (unit known) ∙ (ap (λ (l : List Part). known ++ merged kept (map at_of l) offsets next) (sym (past parts i le)) ∙ whole)
  where
    unit : (l : List ℤ) → l ++ [] ≡ l
    unit [] = refl
    unit (x ∷ l) = ap (λ m. x ∷ m) (unit l)

    past : (l : List Part) (n : ℕ) → length l ≤ n → drop n l ≡ []
    past [] zero le = refl
    past [] (suc n) le = refl
    past (x ∷ l) zero le = absurd (omega (arith, le))
    past (x ∷ l) (suc n) le = past l n (omega (arith, le))

-- ---- what is known is so

known_new : (kept : List Place) (committed : TopicPart → Option ℕ) (offsets : List ℤ) (next : ℕ) (at : TopicPart) (o : Option ℕ) → position_in kept at ≡ o
    → (o ≡ None → committed at ≡ told_offset (get_or offsets next (negsuc 0))) → IsKnown kept committed at (known_at o offsets next)
known_new kept committed offsets next at None e told = inr (e, told refl)
known_new kept committed offsets next at (Some n) e told = inl (n, e, refl)

merged_is : (kept : List Place) (committed : TopicPart → Option ℕ) (ats : List TopicPart) (offsets : List ℤ) (next : ℕ)
    → ((j : ℕ) (d : TopicPart) → j < length (filter (is_new kept) ats) → committed (get_or (filter (is_new kept) ats) j d) ≡ told_offset (get_or offsets (next + j) (negsuc 0)))
    → AllZip (IsKnown kept committed) ats (merged kept ats offsets next)
merged_is kept committed [] offsets next told = tt
merged_is kept committed (at ∷ ats) offsets next told = go (position_in kept at) refl told (λ n h. merged_is kept committed ats offsets n h)
  where
    Told : List TopicPart → ℕ → Type 0
    Told news n = (j : ℕ) (d : TopicPart) → j < length news → committed (get_or news j d) ≡ told_offset (get_or offsets (n + j) (negsuc 0))

    both : (o : Option ℕ) → position_in kept at ≡ o → IsKnown kept committed at (known_at o offsets next) → AllZip (IsKnown kept committed) ats (merged kept ats offsets (next_after o next))
        → AllZip (IsKnown kept committed) (at ∷ ats) (merged kept (at ∷ ats) offsets next)
    both o e here rest =
        subst (λ (x : Option ℕ). IsKnown kept committed at (known_at x offsets next) × AllZip (IsKnown kept committed) ats (merged kept ats offsets (next_after x next))) (sym e) (here, rest)

    at_next : (n j : ℕ) → n + suc j ≡ n + 1 + j
    at_next n j = omega arith

    at_first : (n : ℕ) → n + 0 ≡ n
    at_first n = omega arith

    go : (o : Option ℕ) → position_in kept at ≡ o → Told (filter (is_new kept) (at ∷ ats)) next → ((n : ℕ) → Told (filter (is_new kept) ats) n → AllZip (IsKnown kept committed) ats (merged kept ats offsets n))
        → AllZip (IsKnown kept committed) (at ∷ ats) (merged kept (at ∷ ats) offsets next)
    go None e told ih =
        let f : is_new kept at ≡ true = ap is_none e in
        let news : filter (is_new kept) (at ∷ ats) ≡ at ∷ filter (is_new kept) ats = rw f refl in
        let all : Told (at ∷ filter (is_new kept) ats) next = subst (λ (l : List TopicPart). Told l next) news told in
        both None e (known_new kept committed offsets next at None e (λ none. all 0 at (omega arith) ∙ ap (λ n. told_offset (get_or offsets n (negsuc 0))) (at_first next)))
        (ih (next + 1) (λ j d lt. all (suc j) d (omega (arith, lt)) ∙ ap (λ n. told_offset (get_or offsets n (negsuc 0))) (at_next next j)))
    go (Some n) e told ih =
        let f : is_new kept at ≡ false = ap is_none e in
        let news : filter (is_new kept) (at ∷ ats) ≡ filter (is_new kept) ats = rw f refl in
        both (Some n) e (known_new kept committed offsets next at (Some n) e (λ none. absurd (cc none))) (ih next (subst (λ (l : List TopicPart). Told l next) news told))

zip_told : (log : Log) (group : List ℕ) (news : List Part) (offsets : List ℤ) → AllZip (IsCommittedAt log group) news offsets
    → (j : ℕ) (d : Part) → j < length news → log.committed group (at_of (get_or news j d)) ≡ told_offset (get_or offsets j (negsuc 0))
zip_told log group [] offsets zip j d lt = absurd (omega (arith, lt))
zip_told log group (x ∷ xs) [] zip j d lt = absurd zip
zip_told log group (x ∷ xs) (o ∷ os) zip zero d lt = zip.0
zip_told log group (x ∷ xs) (o ∷ os) zip (suc j) d lt = zip_told log group xs os zip.1 j d (omega (arith, lt))

-- what is known of each is its position, or what the group has committed
pub all_known : (kept : List Place) (log : Log) (group : List ℕ) (ats : List TopicPart) (news : List Part) (offsets : List ℤ) → map at_of news ≡ filter (is_new kept) ats
    → AllZip (IsCommittedAt log group) news offsets → AllZip (IsKnown kept (log.committed group)) ats (merged kept ats offsets 0)
all_known kept log group ats news offsets news_are zip =
    merged_is kept (log.committed group) ats offsets 0 (subst (λ (l : List TopicPart). (j : ℕ) (d : TopicPart) → j < length l → log.committed group (get_or l j d) ≡ told_offset (get_or offsets (0 + j) (negsuc 0))) news_are told)
  where
    told : (j : ℕ) (d : TopicPart) → j < length (map at_of news) → log.committed group (get_or (map at_of news) j d) ≡ told_offset (get_or offsets (0 + j) (negsuc 0))
    told j d lt =
        let short : j < length news = omega (arith, lt, length-map news at_of) in
        let part : Part = first_of news (omega (arith, short)) in
        ap (log.committed group) (get_or_any (map at_of news) j d (at_of part) lt ∙ get_or-map at_of news j part (at_of part) short)
        ∙ (zip_told log group news offsets zip j part short ∙ ap (λ n. told_offset (get_or offsets n (negsuc 0))) (none_more j))
      where
        none_more : (n : ℕ) → n ≡ 0 + n
        none_more n = omega arith

        first_of : (l : List Part) → 0 < length l → Part
        first_of [] lt = absurd (omega (arith, lt))
        first_of (x ∷ l) lt = x
