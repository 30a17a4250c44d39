-- From what a bound says of a row's size to which rows fit, one after another.
use Rattle.std.proofs.Common.{◌≡◌, ℕ, ◌+◌, ◌-◌, ◌≤◌, ◌||◌, Bool, true, false, List, [], ◌∷◌, ◌++◌, refl, ap, sym, ◌∙◌, arith, Some, None}
use Rattle.std.specs.Prelude.{cond, is_some, nat_le, not}
use Rattle.std.proofs.lemmas.List.{append-nil, append_assoc}
use Rattle.std.proofs.lemmas.List.Sums.{sum_by-append, sum_by_push}
use Rattle.std.proofs.lemmas.Bool.Decides.{nat_tests}
use Rattle.model.specs.state.Log.{Log, Row}
use Rattle.model.specs.step.Walk.{Place, size_of}
use Rattle.broker_link.specs.Fetching.{are_none, bytes_in, fits, fitting, rows_in_turn, stored_from}
use Rattle.broker_link.specs.Reads.{IsBound, all_from, less, room}
use Rattle.broker_link.specs.declared.reading.Bound.{Bound}

less_by : (most b s : ℕ) → less s (cond (nat_le b most) (Some (most - b)) None) ≡ cond (nat_le (b + s) most) (Some (most - (b + s))) None
less_by most b s = go (nat_le b most) refl (nat_le (b + s) most) refl
  where
    go : (t : Bool) → nat_le b most ≡ t → (u : Bool) → nat_le (b + s) most ≡ u → less s (cond t (Some (most - b)) None) ≡ cond u (Some (most - (b + s))) None
    go false e false h = refl
    go false e true h = absurd (let x : nat_le (b + s) most ≡ false = grind (arith, nat_tests) in cc (x, h))
    go true e false h = let x : nat_le s (most - b) ≡ false = grind (arith, nat_tests) in ap (λ t. cond t (Some (most - b - s)) None) x
    go true e true h = let x : nat_le s (most - b) ≡ true = grind (arith, nat_tests) in let n : most - b - s ≡ most - (b + s) = omega arith in ap (λ t. cond t (Some (most - b - s)) None) x ∙ ap (λ n. Some n) n

less_room : (most : ℕ) (before : List Row) (row : Row) → less (size_of row) (room most before) ≡ room most (before ++ row ∷ [])
less_room most before row =
    less_by most (bytes_in before) (size_of row) ∙ ap (λ n. cond (nat_le n most) (Some (most - n)) None) (sym (sum_by_push size_of before row))

none_pushed : (before : List Row) (row : Row) (rest : List Row) → are_none (before ++ row ∷ rest) ≡ false
none_pushed [] row rest = refl
none_pushed (x ∷ xs) row rest = refl

-- What a bound says of a row of that size behind those before it.
pub record Tests (old new : Bound) (row : Row) (took : Bool) : Type 0 where
  pub size : ℕ
  pub sized : size ≡ size_of row
  pub takes : took ≡ (not old.begun || is_some new.left)
  pub left : new.left ≡ less size old.left
  pub begun : new.begun ≡ true

left_is : (most : ℕ) (before : List Row) (row : Row) (old new : Bound) (took : Bool) → IsBound most before old → Tests old new row took → new.left ≡ room most (before ++ row ∷ [])
left_is most before row old new took is t = t.left ∙ (ap (less t.size) is.left ∙ (ap (λ n. less n (room most before)) t.sized ∙ less_room most before row))

pub bound_more : (most : ℕ) (before : List Row) (row : Row) (old new : Bound) (took : Bool) → IsBound most before old → Tests old new row took → IsBound most (before ++ row ∷ []) new
bound_more most before row old new took is t = record {
  left = left_is most before row old new took is t;
  begun = t.begun ∙ ap not (sym (none_pushed before row []));
}

twice : (b : Bool) → not (not b) ≡ b
twice true = refl
twice false = refl

some_is : (t : Bool) (n : ℕ) → is_some (cond t (Some n) None) ≡ t
some_is true n = refl
some_is false n = refl

-- it takes the row exactly where it fits
pub took_is : (most : ℕ) (before : List Row) (row : Row) (old new : Bound) (took : Bool) → IsBound most before old → Tests old new row took → took ≡ fits most before row
took_is most before row old new took is t =
    let all : List Row = before ++ row ∷ [] in
    t.takes ∙ (ap (λ b. not b || is_some new.left) is.begun
    ∙ (ap (λ b. b || is_some new.left) (twice (are_none before))
    ∙ (ap (λ l. are_none before || is_some l) (left_is most before row old new took is t) ∙ ap (λ b. are_none before || b) (some_is (nat_le (bytes_in all) most) (most - bytes_in all)))))

second_false : (a b : Bool) → (a || b) ≡ false → b ≡ false
second_false false b e = e
second_false true b e = absurd (cc e)

-- behind a row that doesn't fit the bound stands behind any further ones
pub bound_over : (most : ℕ) (before : List Row) (row : Row) (rest : List Row) (old new : Bound) (took : Bool) → IsBound most before old → Tests old new row took → took ≡ false
    → IsBound most (before ++ row ∷ rest) new
bound_over most before row rest old new took is t out = record {
  left = left_is most before row old new took is t ∙ (ap (λ b. cond b (Some (most - bytes_in all)) None) over ∙ sym (ap (λ b. cond b (Some (most - bytes_in (before ++ row ∷ rest))) None) (still (bytes_in all) (bytes_in (before ++ row ∷ rest)) over more)));
  begun = t.begun ∙ ap not (sym (none_pushed before row rest));
}
  where
    all : List Row
    all = before ++ row ∷ []

    over : nat_le (bytes_in all) most ≡ false
    over = second_false (are_none before) (nat_le (bytes_in all) most) (sym (took_is most before row old new took is t) ∙ out)

    more : bytes_in all ≤ bytes_in (before ++ row ∷ rest)
    more =
        let two : bytes_in (all ++ rest) ≡ bytes_in all + bytes_in rest = sum_by-append size_of all rest in
        let same : bytes_in (all ++ rest) ≡ bytes_in (before ++ row ∷ rest) = ap bytes_in (append_assoc before (row ∷ []) rest) in
        omega (arith, two, same)

    still : (m n : ℕ) → nat_le m most ≡ false → m ≤ n → nat_le n most ≡ false
    still m n e le = grind (arith, nat_tests)

-- where all of these rows fit, further ones are taken behind them
pub fitting_append : (most : ℕ) (before xs ys : List Row) → fitting most before xs ≡ xs → fitting most before (xs ++ ys) ≡ xs ++ fitting most (before ++ xs) ys
fitting_append most before [] ys all = ap (λ b. fitting most b ys) (sym (append-nil before))
fitting_append most before (x ∷ xs) ys all = go (fits most before x) all (fitting_append most (before ++ x ∷ []) xs ys)
  where
    go : (t : Bool) → cond t (x ∷ fitting most (before ++ x ∷ []) xs) [] ≡ x ∷ xs
        → (fitting most (before ++ x ∷ []) xs ≡ xs → fitting most (before ++ x ∷ []) (xs ++ ys) ≡ xs ++ fitting most ((before ++ x ∷ []) ++ xs) ys)
        → cond t (x ∷ fitting most (before ++ x ∷ []) (xs ++ ys)) [] ≡ x ∷ (xs ++ fitting most (before ++ x ∷ xs) ys)
    go false h further = absurd (cc h)
    go true h further =
        let rest : fitting most (before ++ x ∷ []) xs ≡ xs = cc h in
        ap (λ l. x ∷ l) (further rest ∙ ap (λ b. xs ++ fitting most b ys) (append_assoc before (x ∷ []) xs))

-- one row that fits, or doesn't, with what follows it
pub fits_one : (most : ℕ) (before : List Row) (row : Row) → fits most before row ≡ true → fitting most before (row ∷ []) ≡ row ∷ []
fits_one most before row fit = ap (λ t. cond t (row ∷ []) []) fit

pub fits_none : (most : ℕ) (before : List Row) (row : Row) (rest : List Row) → fits most before row ≡ false → fitting most before (row ∷ rest) ≡ []
fits_none most before row rest out = ap (λ t. cond t (row ∷ fitting most (before ++ row ∷ []) rest) []) out

-- ---- one place after another

-- one place more
pub turn_more : (most : ℕ) (before : List Row) (log : Log) (places : List Place) (place : Place)
    → rows_in_turn most before log (places ++ place ∷ []) ≡ rows_in_turn most before log places ++ fitting most (before ++ all_from log places) (stored_from log place) ∷ []
turn_more most before log [] place = ap (λ b. fitting most b (stored_from log place) ∷ []) (sym (append-nil before))
turn_more most before log (p ∷ ps) place =
    ap (λ l. fitting most before (stored_from log p) ∷ l)
    (turn_more most (before ++ stored_from log p) log ps place ∙ ap (λ b. rows_in_turn most (before ++ stored_from log p) log ps ++ fitting most b (stored_from log place) ∷ []) (append_assoc before (stored_from log p) (all_from log ps)))

pub all_more : (log : Log) (places : List Place) (place : Place) → all_from log (places ++ place ∷ []) ≡ all_from log places ++ stored_from log place
all_more log [] place = append-nil (stored_from log place)
all_more log (p ∷ ps) place = ap (λ l. stored_from log p ++ l) (all_more log ps place) ∙ sym (append_assoc (stored_from log p) (all_from log ps) (stored_from log place))

-- the first row of all fits, so that none came only where there is none
pub none_there : (most : ℕ) (rows : List Row) → fitting most [] rows ≡ [] → rows ≡ []
none_there most [] e = refl
none_there most (row ∷ rows) e = absurd (cc e)

-- the same of a log with other counts
pub turn_with : (most : ℕ) (before : List Row) (a b : Log) (places : List Place) → ((place : Place) → stored_from a place ≡ stored_from b place) → rows_in_turn most before a places ≡ rows_in_turn most before b places
turn_with most before a b [] same = refl
turn_with most before a b (p ∷ ps) same =
    ap (λ (rows : List Row). fitting most before rows ∷ rows_in_turn most (before ++ rows) a ps) (same p)
    ∙ ap (λ (l : List (List Row)). fitting most before (stored_from b p) ∷ l) (turn_with most (before ++ stored_from b p) a b ps same)
