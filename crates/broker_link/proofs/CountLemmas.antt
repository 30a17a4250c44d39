-- From the metadata of a topic to how many partitions the log has of it.
use Rattle.std.proofs.Common.{◌≡◌, ℕ, zero, suc, ◌<◌, Bool, true, false, List, [], ◌∷◌, length, refl, ap, sym, ◌∙◌, arith, Some}
use Rattle.std.specs.Prelude.{All, AllPairs, Contains, filter, bytes_eq}
use Rattle.std.specs.List.{list_any}
use Rattle.std.proofs.lemmas.Slice.Eq.{bytes_eq-Decides}
use Rattle.std.proofs.lemmas.List.Elements.{All-head, All-tail}
use Rattle.model.specs.state.Log.{Topic, Log, IsLog, parts_in}
use Rattle.broker_link.specs.Metadata.{IsInfo, IsMetadata}
use Rattle.broker_link.specs.declared.link.TopicInfo.{TopicInfo}
use Rattle.broker_link.specs.Count.{count_in, IsCount}

abbrev is_called : List ℕ → Topic → Bool
is_called name t = bytes_eq t.name name

-- no other topic has the name
none_called : (u : Topic) (us : List Topic) (name : List ℕ) → All (λ v. bytes_eq u.name v.name ≡ false) us → bytes_eq u.name name ≡ true → filter (is_called name) us ≡ []
none_called u [] name all is = refl
none_called u (v ∷ vs) name all is =
    go (bytes_eq v.name name) refl (none_called u vs name (All-tail (λ (v : Topic). bytes_eq u.name v.name ≡ false) v vs all) is)
  where
    go : (b : Bool) → bytes_eq v.name name ≡ b → filter (is_called name) vs ≡ [] → filter (is_called name) (v ∷ vs) ≡ []
    go true e rest =
        let same : v.name ≡ name = (bytes_eq-Decides v.name name).0 e in
        let differ : bytes_eq u.name v.name ≡ false = All-head (λ (v : Topic). bytes_eq u.name v.name ≡ false) v vs all in
        absurd (cc (differ, ap (λ n. bytes_eq u.name n) same, is))
    go false e rest = rw e rest

-- the one topic of that name
found : (ts : List Topic) (name : List ℕ) (t : Topic) → AllPairs (λ x y. bytes_eq x.name y.name ≡ false) ts → Contains (filter (is_called name) ts) t
    → (list_any (is_called name) ts ≡ true) × (length (parts_in ts name) ≡ length t.parts)
found [] name t pairs c = absurd (omega (arith, c.1))
found (u ∷ us) name t pairs c = go (bytes_eq u.name name) refl c (λ d. found us name t (λ i j d lt le. pairs (suc i) (suc j) d (omega (arith, lt)) (omega (arith, le))) d)
  where
    go : (b : Bool) → bytes_eq u.name name ≡ b → Contains (filter (is_called name) (u ∷ us)) t
        → (Contains (filter (is_called name) us) t → (list_any (is_called name) us ≡ true) × (length (parts_in us name) ≡ length t.parts))
        → (list_any (is_called name) (u ∷ us) ≡ true) × (length (parts_in (u ∷ us) name) ≡ length t.parts)
    go true e c ih =
        let others : filter (is_called name) us ≡ [] = none_called u us name (λ k d lt. pairs 0 (suc k) d (omega arith) (omega (arith, lt))) e in
        let kept : filter (is_called name) (u ∷ us) ≡ u ∷ [] = rw e (ap (λ l. u ∷ l) others) in
        let one : Contains (u ∷ []) t = rw kept at c in
        rw e (refl, ap (λ (x : Topic). length x.parts) (only u t one))
      where
        only : (u t : Topic) → Contains (u ∷ []) t → u ≡ t
        only u t (zero, lt, here) = here
        only u t (suc k, lt, here) = absurd (omega (arith, lt))
    go false e c ih =
        let same : filter (is_called name) (u ∷ us) ≡ filter (is_called name) us = rw e refl in
        let both = ih (rw same at c) in
        rw e both

-- a topic of that name is kept
some_called : (ts : List Topic) (name : List ℕ) → list_any (is_called name) ts ≡ true → 0 < length (filter (is_called name) ts)
some_called [] name is = absurd (cc is)
some_called (u ∷ us) name is = go (bytes_eq u.name name) refl (some_called us name) is
  where
    go : (b : Bool) → bytes_eq u.name name ≡ b → (list_any (is_called name) us ≡ true → 0 < length (filter (is_called name) us)) → list_any (is_called name) (u ∷ us) ≡ true
        → 0 < length (filter (is_called name) (u ∷ us))
    go true e ih is = rw e (omega arith)
    go false e ih is = let rest : list_any (is_called name) (u ∷ us) ≡ list_any (is_called name) us = rw e refl in rw e (ih (sym rest ∙ is))

pub counted : (log : Log) (topic : List ℕ) (infos : List TopicInfo) → IsLog log → IsMetadata (Some topic) log infos → IsCount log topic (count_in infos)
counted log topic [] is tells = λ has.
    let any : Topic = record { name = []; parts = [] } in
    let told = tells.all 0 any (some_called log.topics topic has) in
    absurd (omega (arith, told.1.1))
counted log topic (info ∷ infos) is tells =
    let told = All-head (λ (info : TopicInfo). (t : Topic) × Contains (filter (is_called topic) log.topics) t × IsInfo t info) info infos tells.each in
    let both = found log.topics topic told.0 is.names told.1 in
    (both.0, both.1 ∙ sym told.2.count)
