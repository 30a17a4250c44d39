-- Look-ups by number, as the code finds them.
use Rattle.std.proofs.Common.{◌≡◌, ℕ, zero, suc, ◌+◌, ◌<◌, Bool, true, false, List, [], ◌∷◌, ◌++◌, length, map, get_or, refl, ap, sym, ◌∙◌, arith, Option, Some, None}
use Rattle.std.specs.Prelude.{◌==◌, ℤ, pos, nat_abs, slice_set}
use Rattle.std.specs.List.{position}
use Rattle.std.proofs.lemmas.List.Quantifiers.{position-Some}
use Rattle.std.proofs.lemmas.Bool.Decides.{nat_tests}
use Rattle.std.proofs.lemmas.Grind.{common_steps}
use Rattle.model.specs.state.Entry.{Payload}
use Rattle.broker_link.specs.declared.link.PartRecords.{PartRecords}
use Rattle.producer.specs.declared.told.Cursor.{Cursor}
use Rattle.producer.specs.Groups.{new_of, put_in, code_at, next_at, bump, bumped}

-- the first that passes the test stands there
pub record IsFirst {X : Type 0} (p : X → Bool) (xs : List X) (i : ℕ) (x : X) : Type 0 where
  pub within : i < length xs
  pub here : get_or xs i x ≡ x
  pub passes : p x ≡ true
  pub before : (k : ℕ) (d : X) → k < i → p (get_or xs k d) ≡ false

get_or_any : {X : Type 0} (xs : List X) (i : ℕ) (d e : X) → i < length xs → get_or xs i d ≡ get_or xs i e
get_or_any [] i d e lt = absurd (omega (arith, lt))
get_or_any (x ∷ xs) zero d e lt = refl
get_or_any (x ∷ xs) (suc i) d e lt = get_or_any xs i d e (omega (arith, lt))

pub is_first : {X : Type 0} (p : X → Bool) (xs : List X) (i : ℕ) (x : X) → position p xs ≡ Some i → x ≡ get_or xs i x → IsFirst p xs i x
is_first p xs i x is here =
    let all = position-Some p xs i x is in
    record {
      within = all.0;
      here = sym here;
      passes = ap p here ∙ all.1;
      before = λ k d lt. ap p (get_or_any xs k d x (omega (arith, lt, all.0))) ∙ all.2 k lt;
    }

pub first_get : {X : Type 0} (p : X → Bool) (xs : List X) (i : ℕ) (d : X) → position p xs ≡ Some i → IsFirst p xs i (get_or xs i d)
first_get p xs i d is = is_first p xs i (get_or xs i d) is (get_or_any xs i d (get_or xs i d) (position-Some p xs i d is).0)

first_rest : {X : Type 0} (p : X → Bool) (y : X) (ys : List X) (i : ℕ) (x : X) → IsFirst p (y ∷ ys) (suc i) x → IsFirst p ys i x
first_rest p y ys i x first = record { within = omega (arith, first.within); here = first.here; passes = first.passes; before = λ k d lt. first.before (suc k) d (omega arith) }

none_rest : {X : Type 0} (p : X → Bool) (y : X) (ys : List X) → position p (y ∷ ys) ≡ None → (p y ≡ false) × (position p ys ≡ None)
none_rest p y ys is = go (p y) refl
  where
    go : (b : Bool) → p y ≡ b → (p y ≡ false) × (position p ys ≡ None)
    go true e = absurd (grind (arith, nat_tests, common_steps))
    go false e = (e, grind (arith, nat_tests, common_steps))

-- ---- cursors

pub cursor_some : (n : ℕ) (cs : List Cursor) (i : ℕ) (c : Cursor) → IsFirst (λ (c : Cursor). c.number == n) cs i c
    → (code_at cs n ≡ c.code) × (next_at cs n ≡ c.next) × (slice_set cs i (bumped c) ≡ bump n cs)
cursor_some n [] i c first = absurd (omega (arith, first.within))
cursor_some n (x ∷ xs) zero c first =
    let is : x ≡ c = first.here in
    let e : (x.number == n) ≡ true = ap (λ (y : Cursor). y.number == n) is ∙ first.passes in
    rw e (ap (λ (y : Cursor). y.code) is, ap (λ (y : Cursor). y.next) is, ap (λ (y : Cursor). bumped y ∷ xs) (sym is))
cursor_some n (x ∷ xs) (suc i) c first =
    let e : (x.number == n) ≡ false = first.before 0 x (omega arith) in
    let ih = cursor_some n xs i c (first_rest (λ (c : Cursor). c.number == n) x xs i c first) in
    rw e (ih.0, ih.1, ap (λ l. x ∷ l) ih.2)

pub cursor_none : (n : ℕ) (cs : List Cursor) → position (λ (c : Cursor). c.number == n) cs ≡ None
    → (code_at cs n ≡ pos 3) × (next_at cs n ≡ 0) × (cs ≡ bump n cs)
cursor_none n [] is = (refl, refl, refl)
cursor_none n (x ∷ xs) is =
    let both = none_rest (λ (c : Cursor). c.number == n) x xs is in
    let e : (x.number == n) ≡ false = both.0 in
    let ih = cursor_none n xs both.1 in
    rw e (ih.0, ih.1, ap (λ l. x ∷ l) ih.2)

-- ---- parts

pub part_some : (p : Payload) (parts : List PartRecords) (i : ℕ) (part : PartRecords) → IsFirst (λ (x : PartRecords). nat_abs x.partition == p.partition) parts i part
    → slice_set parts i (record { partition = part.partition; rows = part.rows ++ new_of p ∷ [] }) ≡ put_in p parts
part_some p [] i part first = absurd (omega (arith, first.within))
part_some p (x ∷ xs) zero part first =
    let is : x ≡ part = first.here in
    let e : (nat_abs x.partition == p.partition) ≡ true = ap (λ (y : PartRecords). nat_abs y.partition == p.partition) is ∙ first.passes in
    rw e (ap (λ (y : PartRecords). record { partition = y.partition; rows = y.rows ++ new_of p ∷ [] } ∷ xs) (sym is))
part_some p (x ∷ xs) (suc i) part first =
    let e : (nat_abs x.partition == p.partition) ≡ false = first.before 0 x (omega arith) in
    let ih = part_some p xs i part (first_rest (λ (x : PartRecords). nat_abs x.partition == p.partition) x xs i part first) in
    rw e (ap (λ l. x ∷ l) ih)

pub part_none : (p : Payload) (parts : List PartRecords) → position (λ (x : PartRecords). nat_abs x.partition == p.partition) parts ≡ None
    → parts ++ record { partition = pos p.partition; rows = new_of p ∷ [] } ∷ [] ≡ put_in p parts
part_none p [] is = refl
part_none p (x ∷ xs) is =
    let both = none_rest (λ (x : PartRecords). nat_abs x.partition == p.partition) x xs is in
    let e : (nat_abs x.partition == p.partition) ≡ false = both.0 in
    let ih = part_none p xs both.1 in
    rw e (ap (λ l. x ∷ l) ih)
