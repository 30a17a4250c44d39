-- A link that was just made.
use Rattle.std.proofs.Common.{◌≡◌, ℕ, zero, suc, ◌<◌, Bool, true, false, List, [], ◌∷◌, length, map, get_or, refl, ap, sym, subst, ◌∙◌, arith}
use Rattle.std.specs.Prelude.{◌≢◌, All, AllPairs, bytes_eq, replicate}
use Rattle.std.proofs.lemmas.Slice.Eq.{bytes_eq-Decides}
use Rattle.std.proofs.lemmas.List.Kept.{AllPairs-cons}
use Rattle.std.proofs.lemmas.List.Elements.{All-cons, All-nil, All-head, All-tail}
use Rattle.std.proofs.lemmas.List.{length-replicate}
use Rattle.model.specs.state.Log.{IsLog, IsPart, Row, Topic, parts_in, shape_of}
use Rattle.broker_link.specs.Made.{ArePlans, empty_part, empty_topic}
use Rattle.broker_link.specs.Stored.{log_of}

pub shape_made : (plans : List (List ℕ × ℕ)) → shape_of (log_of (map empty_topic plans)) ≡ plans
shape_made [] = refl
shape_made (p ∷ ps) =
    let f : Topic → List ℕ × ℕ = λ t. (t.name, length t.parts) in
    let e : f (empty_topic p) ≡ p = ap (λ n. (p.0, n)) (length-replicate p.1 empty_part) in
    ap (λ x. x ∷ shape_of (log_of (map empty_topic ps))) e ∙ ap (λ l. p ∷ l) (shape_made ps)

pub plans_told : (plans : List (List ℕ × ℕ)) (topics : List Topic) → topics ≡ map empty_topic plans → ArePlans plans → ArePlans (shape_of (log_of topics))
plans_told plans topics is are = subst ArePlans (sym (ap (λ l. shape_of (log_of l)) is ∙ shape_made plans)) are

-- ---- empty partitions make a log

empty_there : (n k : ℕ) → get_or (replicate n empty_part) k empty_part ≡ empty_part
empty_there zero k = refl
empty_there (suc n) zero = refl
empty_there (suc n) (suc k) = empty_there n k

empty_at : (plans : List (List ℕ × ℕ)) (name : List ℕ) (k : ℕ) → get_or (parts_in (map empty_topic plans) name) k empty_part ≡ empty_part
empty_at [] name k = refl
empty_at (p ∷ ps) name k = go (bytes_eq p.0 name) refl (empty_at ps name k)
  where
    go : (b : Bool) → bytes_eq p.0 name ≡ b → get_or (parts_in (map empty_topic ps) name) k empty_part ≡ empty_part → get_or (parts_in (map empty_topic (p ∷ ps)) name) k empty_part ≡ empty_part
    go true e rest = rw e (empty_there p.1 k)
    go false e rest = rw e rest

other_names : (p : List ℕ × ℕ) (ps : List (List ℕ × ℕ)) → All (λ q. p.0 ≢ q.0) ps → All (λ (t : Topic). bytes_eq p.0 t.name ≡ false) (map empty_topic ps)
other_names p [] all = All-nil (λ (t : Topic). bytes_eq p.0 t.name ≡ false)
other_names p (q ∷ qs) all =
    All-cons (λ (t : Topic). bytes_eq p.0 t.name ≡ false) (empty_topic q) (map empty_topic qs) (go (bytes_eq p.0 q.0) refl) (other_names p qs (All-tail (λ q. p.0 ≢ q.0) q qs all))
  where
    go : (b : Bool) → bytes_eq p.0 q.0 ≡ b → bytes_eq p.0 q.0 ≡ false
    go false e = e
    go true e = absurd (All-head (λ q. p.0 ≢ q.0) q qs all ((bytes_eq-Decides p.0 q.0).0 e))

names_apart : (plans : List (List ℕ × ℕ)) → AllPairs (λ p q. p.0 ≢ q.0) plans → AllPairs (λ (x y : Topic). bytes_eq x.name y.name ≡ false) (map empty_topic plans)
names_apart [] apart = λ i j d lt le. absurd (omega (arith, lt, le))
names_apart (p ∷ ps) apart =
    AllPairs-cons (λ (x y : Topic). bytes_eq x.name y.name ≡ false) (empty_topic p) (map empty_topic ps) (other_names p ps (λ k d lt. apart 0 (suc k) d (omega arith) (omega (arith, lt))))
    (names_apart ps (λ i j d lt le. apart (suc i) (suc j) d (omega (arith, lt)) (omega (arith, le))))

pub made_is_log : (plans : List (List ℕ × ℕ)) (topics : List Topic) → topics ≡ map empty_topic plans → ArePlans plans → IsLog (log_of topics)
made_is_log plans topics is are = subst (λ (ts : List Topic). IsLog (log_of ts)) (sym is) (record {
  names = names_apart plans are.apart;
  part = λ at. subst IsPart (sym (empty_at plans at.topic at.partition)) (record { whole = omega arith; rises = tt; ends = All-nil (λ (row : Row). row.offset < 0) });
})
