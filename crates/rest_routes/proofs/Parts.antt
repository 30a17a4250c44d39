-- What stands before the first element that passes a test.
use Rattle.std.proofs.Common.{◌≡◌, ℕ, ◌≤◌, List, length, take, Some, None, Bool, true, false, cond, nat_lt, refl, sym, ap, ◌∙◌, arith}
use Rattle.std.specs.Prelude.{not}
use Rattle.std.specs.List.{before_first, position, position_or_len}
use Rattle.std.proofs.lemmas.Bool.Decides.{nat_tests}
use Rattle.std.proofs.lemmas.List.Sums.{prefix_len-le-length}
use Rattle.std.proofs.Math.Seq.{take-length}

some_at : (b : Bool) (n k : ℕ) → Some k ≡ cond b (Some n) None → k ≡ n
some_at true n k e = cc
some_at false n k e = absurd cc

none_at : (b : Bool) (n : ℕ) → None ≡ cond b (Some n) None → b ≡ false
none_at true n e = absurd cc
none_at false n e = refl

-- it stands at this place
pub before_place : (p : ℕ → Bool) (xs : List ℕ) (k : ℕ) → Some k ≡ position p xs → take k xs ≡ before_first p xs
before_place p xs k is = ap (λ (n : ℕ). take n xs) (some_at (nat_lt (position_or_len p xs) (length xs)) (position_or_len p xs) k is)

-- there is none
pub before_none : (p : ℕ → Bool) (xs : List ℕ) → None ≡ position p xs → xs ≡ before_first p xs
before_none p xs is =
    let past : nat_lt (position_or_len p xs) (length xs) ≡ false = none_at (nat_lt (position_or_len p xs) (length xs)) (position_or_len p xs) is in
    let within : position_or_len p xs ≤ length xs = prefix_len-le-length (λ x. not (p x)) xs in
    let whole : position_or_len p xs ≡ length xs = grind (arith, nat_tests) in
    sym (ap (λ (n : ℕ). take n xs) whole ∙ take-length xs)
