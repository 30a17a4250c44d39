-- Records by partition.
use Rattle.std.proofs.Common.{◌≡◌, ℕ, ◌<◌, Bool, true, false, cond, List, [], ◌∷◌, ◌++◌, length, refl, ap, sym, ◌∙◌, arith, append_assoc, append-nil}
use Rattle.std.specs.Prelude.{◌==◌, pos, nat_abs, ◌≢◌, All, AllPairs}
use Rattle.std.proofs.lemmas.List.Elements.{All-cons, All-nil, All-head, All-tail}
use Rattle.std.proofs.lemmas.List.Kept.{AllPairs-cons}
use Rattle.std.proofs.lemmas.Bool.Decides.{nat_tests, Decides-eqb}
use Rattle.std.proofs.lemmas.Grind.{common_steps}
use Rattle.model.specs.state.Entry.{Payload}
use Rattle.broker_link.specs.Produced.{AreParts}
use Rattle.broker_link.specs.declared.link.NewRecord.{NewRecord}
use Rattle.broker_link.specs.declared.link.PartRecords.{PartRecords}
use Rattle.producer.specs.Groups.{new_of, put_in, grouped}

-- the rows of the first part of that number
abbrev pub rows_in : ℕ → List PartRecords → List NewRecord
rows_in n [] = []
rows_in n (part ∷ parts) = cond (nat_abs part.partition == n) part.rows (rows_in n parts)

-- the records of that partition
abbrev pub rows_of : ℕ → List Payload → List NewRecord
rows_of n [] = []
rows_of n (p ∷ payloads) = cond (p.partition == n) (new_of p ∷ rows_of n payloads) (rows_of n payloads)

pub equal : (x y : ℕ) → (x == y) ≡ true → x ≡ y
equal x y e = (Decides-eqb x y).0 e

pub same_is_equal : (x : ℕ) → (x == x) ≡ true
same_is_equal x = (Decides-eqb x x).1 refl

pub rows_put : (n : ℕ) (p : Payload) (parts : List PartRecords) → rows_in n (put_in p parts) ≡ rows_in n parts ++ rows_of n (p ∷ [])
rows_put n p [] = refl
rows_put n p (part ∷ parts) = go (nat_abs part.partition == p.partition) refl (nat_abs part.partition == n) refl (rows_put n p parts)
  where
    go : (b : Bool) → (nat_abs part.partition == p.partition) ≡ b → (c : Bool) → (nat_abs part.partition == n) ≡ c → rows_in n (put_in p parts) ≡ rows_in n parts ++ rows_of n (p ∷ [])
        → rows_in n (put_in p (part ∷ parts)) ≡ rows_in n (part ∷ parts) ++ rows_of n (p ∷ [])
    go true e true f ih =
        let same : (p.partition == n) ≡ true = ap (λ m. m == n) (sym (equal (nat_abs part.partition) p.partition e)) ∙ f in
        rw (e, f, same) refl
    go true e false f ih =
        let other : (p.partition == n) ≡ false = ap (λ m. m == n) (sym (equal (nat_abs part.partition) p.partition e)) ∙ f in
        rw (e, f, other) (sym (append-nil (rows_in n parts)))
    go false e true f ih =
        let other : (p.partition == n) ≡ false = apart (nat_abs part.partition) p.partition n e f in
        rw (e, f, other) (sym (append-nil part.rows))
      where
        apart : (x y n : ℕ) → (x == y) ≡ false → (x == n) ≡ true → (y == n) ≡ false
        apart x y n e f = grind (arith, nat_tests)
    go false e false f ih = rw (e, f) ih

pub rows_grouped : (n : ℕ) (parts : List PartRecords) (payloads : List Payload) → rows_in n (grouped parts payloads) ≡ rows_in n parts ++ rows_of n payloads
rows_grouped n parts [] = sym (append-nil (rows_in n parts))
rows_grouped n parts (p ∷ payloads) =
    rows_grouped n (put_in p parts) payloads ∙ (ap (λ l. l ++ rows_of n payloads) (rows_put n p parts) ∙ (append_assoc (rows_in n parts) (rows_of n (p ∷ [])) (rows_of n payloads) ∙ ap (λ l. rows_in n parts ++ l) (one_more n p payloads)))
  where
    one_more : (n : ℕ) (p : Payload) (payloads : List Payload) → rows_of n (p ∷ []) ++ rows_of n payloads ≡ rows_of n (p ∷ payloads)
    one_more n p payloads = go (p.partition == n) refl
      where
        go : (b : Bool) → (p.partition == n) ≡ b → rows_of n (p ∷ []) ++ rows_of n payloads ≡ rows_of n (p ∷ payloads)
        go true e = rw e refl
        go false e = rw e refl

-- ---- the parts are what a link takes

all_put : (P : PartRecords → Type 0) (p : Payload) (parts : List PartRecords) → P (record { partition = pos p.partition; rows = new_of p ∷ [] })
    → ((part : PartRecords) → P part → P (record { partition = part.partition; rows = part.rows ++ new_of p ∷ [] })) → All P parts → All P (put_in p parts)
all_put P p [] new more all = All-cons P (record { partition = pos p.partition; rows = new_of p ∷ [] }) [] new (All-nil P)
all_put P p (part ∷ parts) new more all = go (nat_abs part.partition == p.partition) refl (All-head P part parts all) (All-tail P part parts all) (all_put P p parts new more (All-tail P part parts all))
  where
    go : (b : Bool) → (nat_abs part.partition == p.partition) ≡ b → P part → All P parts → All P (put_in p parts) → All P (put_in p (part ∷ parts))
    go true e first rest ih = rw e (All-cons P (record { partition = part.partition; rows = part.rows ++ new_of p ∷ [] }) parts (more part first) rest)
    go false e first rest ih = rw e (All-cons P part (put_in p parts) first ih)

pub all_grouped : (P : PartRecords → Type 0) (parts : List PartRecords) (payloads : List Payload)
    → ((p : Payload) → P (record { partition = pos p.partition; rows = new_of p ∷ [] }))
    → ((p : Payload) (part : PartRecords) → P part → P (record { partition = part.partition; rows = part.rows ++ new_of p ∷ [] }))
    → All P parts → All P (grouped parts payloads)
all_grouped P parts [] new more all = all
all_grouped P parts (p ∷ payloads) new more all = all_grouped P (put_in p parts) payloads new more (all_put P p parts (new p) (more p) all)

-- the numbers differ
abbrev pub Apart : List PartRecords → Type 0
Apart [] = Unit {0}
Apart (part ∷ parts) = All (λ q. nat_abs part.partition ≢ nat_abs q.partition) parts × Apart parts

apart_put : (p : Payload) (parts : List PartRecords) → Apart parts → Apart (put_in p parts)
apart_put p [] apart = (All-nil (λ (q : PartRecords). p.partition ≢ nat_abs q.partition), tt)
apart_put p (part ∷ parts) apart = go (nat_abs part.partition == p.partition) refl (apart_put p parts apart.1)
  where
    go : (b : Bool) → (nat_abs part.partition == p.partition) ≡ b → Apart (put_in p parts) → Apart (put_in p (part ∷ parts))
    go true e ih = rw e apart
    go false e ih =
        let other : nat_abs part.partition ≢ p.partition = λ same. absurd (cc (e, ap (λ m. nat_abs part.partition == m) (sym same), same_is_equal (nat_abs part.partition))) in
        rw e (all_put (λ (q : PartRecords). nat_abs part.partition ≢ nat_abs q.partition) p parts other (λ q h. h) apart.0, ih)

pub apart_grouped : (parts : List PartRecords) (payloads : List Payload) → Apart parts → Apart (grouped parts payloads)
apart_grouped parts [] apart = apart
apart_grouped parts (p ∷ payloads) apart = apart_grouped (put_in p parts) payloads (apart_put p parts apart)

all_pairs : (parts : List PartRecords) → Apart parts → AllPairs (λ (x y : PartRecords). x.partition ≢ y.partition) parts
all_pairs [] apart = λ i j d lt le. absurd (omega (arith, lt, le))
all_pairs (part ∷ parts) apart =
    AllPairs-cons (λ (x y : PartRecords). x.partition ≢ y.partition) part parts (λ k d lt same. apart.0 k d lt (ap nat_abs same)) (all_pairs parts apart.1)

some_put : (p : Payload) (parts : List PartRecords) → 0 < length (put_in p parts)
some_put p [] = omega arith
some_put p (part ∷ parts) = go (nat_abs part.partition == p.partition) refl
  where
    go : (b : Bool) → (nat_abs part.partition == p.partition) ≡ b → 0 < length (put_in p (part ∷ parts))
    go true e = rw e (omega arith)
    go false e = rw e (omega arith)

some_grouped : (parts : List PartRecords) (payloads : List Payload) → 0 < length parts → 0 < length (grouped parts payloads)
some_grouped parts [] h = h
some_grouped parts (p ∷ payloads) h = some_grouped (put_in p parts) payloads (some_put p parts)

pub are_parts : (payloads : List Payload) → 0 < length payloads → AreParts (grouped [] payloads)
are_parts [] h = absurd (omega (arith, h))
are_parts (p ∷ payloads) h = record {
  whole = all_grouped (λ (part : PartRecords). part.partition ≡ pos (nat_abs part.partition)) [] (p ∷ payloads) (λ q. refl) (λ q part e. e) (All-nil (λ (part : PartRecords). part.partition ≡ pos (nat_abs part.partition)));
  some = some_grouped (put_in p []) payloads (some_put p []);
  each = all_grouped (λ (part : PartRecords). 0 < length part.rows) [] (p ∷ payloads) (λ q. omega arith) (λ q part e. grind (arith, common_steps)) (All-nil (λ (part : PartRecords). 0 < length part.rows));
  apart = all_pairs (grouped [] (p ∷ payloads)) (apart_grouped [] (p ∷ payloads) tt);
}
