-- One partition's answer, and those of several in turn.
use Rattle.std.proofs.Common.{◌≡◌, ℕ, ◌+◌, ◌<◌, ◌≤◌, ◌^◌, Bool, true, false, List, [], ◌∷◌, ◌++◌, length, take, get_or, refl, ap, sym, subst, ◌∙◌, arith, append-nil, append_assoc, drop, Result, Ok, Err, Some, None}
use Rattle.std.specs.Prelude.{pos, nat_abs, OnErr, bytes_eq, All, Contains}
use Rattle.std.specs.List.{position, AllZip}
use Rattle.std.proofs.lemmas.List.Quantifiers.{position-Some}
use Rattle.std.proofs.lemmas.List.Elements.{All-weaker}
use Rattle.std.proofs.lemmas.List.{take_more, take-append-drop}
use Rattle.std.proofs.lemmas.Bool.Decides.{nat_tests}
use Rattle.std.proofs.lemmas.Slice.Eq.{bytes_eq-Decides}
use Rattle.std.proofs.lemmas.Grind.{common_steps}
use Rattle.model.specs.state.Log.{Row, Part, Topic, Log, parts_in, part_at, Keeps, shape_of}
use Rattle.model.specs.state.Entry.{is_zero}
use Rattle.model.proofs.Stretches.{keeps_itself, keeps_on}
use Rattle.model.proofs.Stored.{kept_row}
use Rattle.broker_link.specs.Produced.{numbered, at_of, Takes, IsBased, IsPlainly, taken_of}
use Rattle.broker_link.specs.Stored.{appended, log_of, taken_by, IsPut, ArePut, SomePut}
use Rattle.broker_link.specs.declared.link.PartRecords.{PartRecords}
use Rattle.broker_link.specs.declared.link.PartPlaced.{PartPlaced}
use Rattle.broker_link.proofs.Puts.{IsFirst, Grows, log_keeps, log_is_log, rows_after, part_here, part_stands, get_or_any}

abbrev pub is_named : List ℕ → Topic → Bool
is_named name t = bytes_eq t.name name

-- ---- by the place that `position` gives

pub first_from_position : (topics : List Topic) (name : List ℕ) (place : ℕ) (t : Topic) → position (λ (t : Topic). bytes_eq t.name name) topics ≡ Some place → t ≡ get_or topics place t
    → IsFirst topics name place t
first_from_position topics name place t is here =
    let all = position-Some (is_named name) topics place t is in
    let e : bytes_eq (get_or topics place t).name name ≡ true = all.1 in
    record {
      within = all.0;
      here = sym here;
      named = ap (λ (u : Topic). u.name) here ∙ (bytes_eq-Decides (get_or topics place t).name name).0 e;
      before = λ k d lt. ap (λ (u : Topic). bytes_eq u.name name) (get_or_any topics k d t (omega (arith, lt, all.0))) ∙ all.2 k lt;
    }

pub none_named : (topics : List Topic) (name : List ℕ) → position (λ (t : Topic). bytes_eq t.name name) topics ≡ None → length (parts_in topics name) ≤ 0
none_named [] name is = omega arith
none_named (x ∷ xs) name is = go (bytes_eq x.name name) refl (none_named xs name)
  where
    go : (b : Bool) → bytes_eq x.name name ≡ b → (position (λ (t : Topic). bytes_eq t.name name) xs ≡ None → length (parts_in xs name) ≤ 0) → length (parts_in (x ∷ xs) name) ≤ 0
    go true e rest = absurd (grind (arith, nat_tests, common_steps))
    go false e rest = rw e (rest (grind (arith, nat_tests, common_steps)))

-- ---- one partition

pub put_none : (a : List Topic) (topic : List ℕ) (part : PartRecords) (placed : PartPlaced) → placed.partition ≡ part.partition → placed.code ≡ pos 3
    → length (parts_in a topic) ≤ nat_abs part.partition → IsPut (log_of a) (log_of a) topic part placed
put_none a topic part placed same code lacks = record {
  keeps = keeps_itself (log_of a);
  is_log = λ is. is;
  takes = record {
    same = same;
    based = λ zero_is. absurd (three_is_not_zero (sym code ∙ zero_is));
    behind = λ zero_is. absurd (three_is_not_zero (sym code ∙ zero_is));
    stand = λ zero_is. absurd (three_is_not_zero (sym code ∙ zero_is));
  };
  added = (let e : is_zero placed.code ≡ false = ap is_zero code in rw e (omega arith));
  based = λ zero_is. absurd (three_is_not_zero (sym code ∙ zero_is));
  plainly = λ other. (code, λ below. omega (arith, below, lacks));
}
  where
    three_is_not_zero : pos 3 ≡ pos 0 → ⊥
    three_is_not_zero e = cc e

pub put_some : (a b : List Topic) (topic : List ℕ) (part : PartRecords) (placed : PartPlaced) (place number base : ℕ) (t : Topic) (p : Part)
    → Grows a b topic place number t p part.rows → part.partition ≡ pos number → base ≡ p.end → base + length part.rows < 2 ^ 63
    → placed.partition ≡ part.partition → placed.code ≡ pos 0 → placed.base ≡ pos base
    → IsPut (log_of a) (log_of b) topic part placed
put_some a b topic part placed place number base t p g whole base_is small same code base_at =
    let at : ℕ = nat_abs part.partition in
    let at_is : nat_abs part.partition ≡ number = ap nat_abs whole in
    let base_abs : nat_abs placed.base ≡ base = ap nat_abs base_at in
    let here = part_here a b topic place number t p part.rows g in
    let old : part_at (log_of a) (at_of topic part) ≡ p = ap (λ n. part_at (log_of a) (record { topic = topic; partition = n })) at_is ∙ here.0 in
    let new : part_at (log_of b) (at_of topic part) ≡ appended p part.rows = ap (λ n. part_at (log_of b) (record { topic = topic; partition = n })) at_is ∙ here.1 in
    let stand : All (λ (row : Row). Contains (part_at (log_of b) (at_of topic part)).rows row) (numbered (nat_abs placed.base) part.rows) =
    subst (λ (n : ℕ). All (λ (row : Row). Contains (part_at (log_of b) (at_of topic part)).rows row) (numbered n part.rows)) (sym (base_abs ∙ base_is))
    (subst (λ (q : Part). All (λ (row : Row). Contains q.rows row) (numbered p.end part.rows)) (sym new) (part_stands p part.rows)) in
    record {
      keeps = log_keeps a b topic place number t p part.rows g;
      is_log = log_is_log a b topic place number t p part.rows g;
      takes = record {
        same = same;
        based = λ z. base_at ∙ ap pos (sym base_abs);
        behind = λ z. omega (arith, ap (λ (q : Part). q.end) old, base_is, base_abs);
        stand = λ z. stand;
      };
      added = (let e : is_zero placed.code ≡ true = ap is_zero code in rw e (rows_after a b topic place number t p part.rows g));
      based = λ z. (base, base_at, small);
      plainly = λ other. absurd (other code);
    }

-- ---- several partitions in turn

takes_later : (a m b : Log) (topic : List ℕ) (part : PartRecords) (placed : PartPlaced) → Keeps m b → Takes a m topic part placed → Takes a b topic part placed
takes_later a m b topic part placed keeps t = record {
  same = t.same;
  based = t.based;
  behind = t.behind;
  stand = λ z. All-weaker (λ (row : Row). Contains (part_at m (at_of topic part)).rows row) (λ (row : Row). Contains (part_at b (at_of topic part)).rows row)
      (λ row c. kept_row m b (at_of topic part) row keeps c) (numbered (nat_abs placed.base) part.rows) (t.stand z);
}

takes_since : (a m b : Log) (topic : List ℕ) (part : PartRecords) (placed : PartPlaced) → Keeps a m → Takes m b topic part placed → Takes a b topic part placed
takes_since a m b topic part placed keeps t = record {
  same = t.same;
  based = t.based;
  behind = λ z. omega (arith, (keeps.part (at_of topic part)).end, t.behind z);
  stand = t.stand;
}

-- the same topics with as many partitions
pub parts_counted : (a b : List Topic) (name : List ℕ) → shape_of (log_of b) ≡ shape_of (log_of a) → length (parts_in b name) ≡ length (parts_in a name)
parts_counted [] [] name e = refl
parts_counted [] (y ∷ ys) name e = absurd (cc e)
parts_counted (x ∷ xs) [] name e = absurd (cc e)
parts_counted (x ∷ xs) (y ∷ ys) name e =
    let f : Topic → List ℕ × ℕ = λ t. (t.name, length t.parts) in
    let pair : f y ≡ f x = cc e in
    let names : y.name ≡ x.name = ap (λ (p : List ℕ × ℕ). p.0) pair in
    let counts : length y.parts ≡ length x.parts = ap (λ (p : List ℕ × ℕ). p.1) pair in
    let rest : shape_of (log_of ys) ≡ shape_of (log_of xs) = cc e in
    go (bytes_eq x.name name) refl names counts (parts_counted xs ys name rest)
  where
    go : (b : Bool) → bytes_eq x.name name ≡ b → y.name ≡ x.name → length y.parts ≡ length x.parts → length (parts_in ys name) ≡ length (parts_in xs name)
        → length (parts_in (y ∷ ys) name) ≡ length (parts_in (x ∷ xs) name)
    go true e names counts rest = let f : bytes_eq y.name name ≡ true = ap (λ n. bytes_eq n name) names ∙ e in rw (e, f) counts
    go false e names counts rest = let f : bytes_eq y.name name ≡ false = ap (λ n. bytes_eq n name) names ∙ e in rw (e, f) rest

plainly_since : (a m : Log) (topic : List ℕ) (part : PartRecords) (placed : PartPlaced) → Keeps a m → IsPlainly m topic part placed → IsPlainly a topic part placed
plainly_since a m topic part placed keeps is = λ other. let both = is other in
    (both.0, λ below. both.1 (omega (arith, below, parts_counted a.topics m.topics topic keeps.shape)))

-- pairs at the end
zip_push : {A B : Type 0} (R S : A → B → Type 0) (xs : List A) (ys : List B) (x : A) (y : B) → ((x : A) (y : B) → R x y → S x y) → AllZip R xs ys → S x y → AllZip S (xs ++ x ∷ []) (ys ++ y ∷ [])
zip_push R S [] [] x y f all s = (s, tt)
zip_push R S [] (w ∷ ws) x y f all s = absurd all
zip_push R S (v ∷ vs) [] x y f all s = absurd all
zip_push R S (v ∷ vs) (w ∷ ws) x y f all s = (f v w all.0, zip_push R S vs ws x y f all.1 s)

taken_push : (R : PartRecords → PartPlaced → Type 0) (parts : List PartRecords) (placed : List PartPlaced) (part : PartRecords) (p : PartPlaced) → AllZip R parts placed
    → taken_of (parts ++ part ∷ []) (placed ++ p ∷ []) ≡ taken_of parts placed + taken_by part p
taken_push R [] [] part p all = omega arith
taken_push R [] (w ∷ ws) part p all = absurd all
taken_push R (v ∷ vs) [] part p all = absurd all
taken_push R (v ∷ vs) (w ∷ ws) part p all = omega (arith, taken_push R vs ws part p all.1)

pub put_first : (a : List Topic) (topic : List ℕ) → ArePut (log_of a) (log_of a) topic [] []
put_first a topic = record { keeps = keeps_itself (log_of a); is_log = λ is. is; takes = tt; added = omega arith; based = tt; plainly = tt }

pub put_more : (a m b : Log) (topic : List ℕ) (parts : List PartRecords) (placed : List PartPlaced) (part : PartRecords) (p : PartPlaced)
    → ArePut a m topic parts placed → IsPut m b topic part p → ArePut a b topic (parts ++ part ∷ []) (placed ++ p ∷ [])
put_more a m b topic parts placed part p are is = record {
  keeps = keeps_on a m b are.keeps is.keeps;
  is_log = λ l. is.is_log (are.is_log l);
  takes = zip_push (Takes a m topic) (Takes a b topic) parts placed part p (λ x y t. takes_later a m b topic x y is.keeps t) are.takes (takes_since a m b topic part p are.keeps is.takes);
  added = omega (arith, are.added, is.added, taken_push (Takes a m topic) parts placed part p are.takes);
  based = zip_push IsBased IsBased parts placed part p (λ x y t. t) are.based is.based;
  plainly = zip_push (IsPlainly a topic) (IsPlainly a topic) parts placed part p (λ x y t. t) are.plainly (plainly_since a m topic part p are.keeps is.plainly);
}

pub some_put : (a b : Log) (topic : List ℕ) (parts : List PartRecords) (placed : List PartPlaced) → ArePut a b topic parts placed → SomePut a b topic parts
some_put a b topic parts placed are = record { keeps = are.keeps; is_log = are.is_log; placed = placed; takes = are.takes; added = are.added }

-- nothing was done for one more
pub some_more : (a b : Log) (topic : List ℕ) (parts : List PartRecords) (part : PartRecords) → SomePut a b topic parts → SomePut a b topic (parts ++ part ∷ [])
some_more a b topic parts part some =
    let none : PartPlaced = record { partition = part.partition; code = pos 3; base = pos 0 } in
    let takes : Takes a b topic part none = record { same = refl; based = λ z. refl; behind = λ z. absurd (cc z); stand = λ z. absurd (cc z) } in
    record {
      keeps = some.keeps;
      is_log = some.is_log;
      placed = some.placed ++ none ∷ [];
      takes = zip_push (Takes a b topic) (Takes a b topic) parts some.placed part none (λ x y t. t) some.takes takes;
      added = omega (arith, some.added, taken_push (Takes a b topic) parts some.placed part none some.takes);
    }

pub some_all : (a b : Log) (topic : List ℕ) (parts rest : List PartRecords) → SomePut a b topic parts → SomePut a b topic (parts ++ rest)
some_all a b topic parts [] some = subst (SomePut a b topic) (sym (append-nil parts)) some
some_all a b topic parts (part ∷ rest) some =
    subst (SomePut a b topic) (append_assoc parts (part ∷ []) rest) (some_all a b topic (parts ++ part ∷ []) rest (some_more a b topic parts part some))

pub put_next : (a m b : Log) (topic : List ℕ) (parts : List PartRecords) (i : ℕ) (placed : List PartPlaced) (part : PartRecords) (p : PartPlaced) → i < length parts → part ≡ get_or parts i part
    → ArePut a m topic (take i parts) placed → IsPut m b topic part p → ArePut a b topic (take (i + 1) parts) (placed ++ p ∷ [])
put_next a m b topic parts i placed part p below here are is =
    let more : take (i + 1) parts ≡ take i parts ++ part ∷ [] = take_more parts i part below ∙ ap (λ (x : PartRecords). take i parts ++ x ∷ []) (sym here) in
    subst (λ (ps : List PartRecords). ArePut a b topic ps (placed ++ p ∷ [])) (sym more) (put_more a m b topic (take i parts) placed part p are is)

pub some_of : (a b : Log) (topic : List ℕ) (parts : List PartRecords) (n : ℕ) (placed : List PartPlaced) → ArePut a b topic (take n parts) placed → SomePut a b topic parts
some_of a b topic parts n placed are =
    subst (SomePut a b topic) (take-append-drop n parts) (some_all a b topic (take n parts) (drop n parts) (some_put a b topic (take n parts) placed are))

pub on_err : {T E : Type 0} (r : Result T E) (P : Type 0) → P → OnErr r P
on_err (Ok x) P p = tt
on_err (Err e) P p = p

pub zip_weaker : {A B : Type 0} (R S : A → B → Type 0) (xs : List A) (ys : List B) → ((x : A) (y : B) → R x y → S x y) → AllZip R xs ys → AllZip S xs ys
zip_weaker R S [] [] f all = tt
zip_weaker R S [] (y ∷ ys) f all = absurd all
zip_weaker R S (x ∷ xs) [] f all = absurd all
zip_weaker R S (x ∷ xs) (y ∷ ys) f all = (f x y all.0, zip_weaker R S xs ys f all.1)
