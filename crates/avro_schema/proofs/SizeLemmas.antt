-- From the digits of a size to a size that is too big.
use Rattle.std.proofs.Common.{◌≡◌, ℕ, suc, ◌+◌, ◌-◌, ◌*◌, ◌<◌, ◌≤◌, List, [], ◌∷◌, length, get_or, drop, Bool, true, false, cond, ◌&&◌, Ok, Err, inl, refl, ap, ◌∙◌, arith}
use Rattle.std.specs.Prelude.{fold, nat_le}
use Rattle.std.proofs.Math.Seq.{drop-cons}
use Rattle.std.proofs.lemmas.Bool.Decides.{nat_tests}
use Rattle.json_token.specs.Integer.{decimal}
use Rattle.avro_schema.specs.Reading.{are_digits, digits_size}
use Rattle.avro_names.specs.Outcomes.{Why}
use Rattle.avro_names.specs.declared.error.SchemaNo.TheVariants.{BadType}

fold_grows : (acc : ℕ) (ds : List ℕ) → acc ≤ fold (λ n d. n * 10 + (d - 48)) acc ds
fold_grows acc [] = omega arith
fold_grows acc (d ∷ ds) = let h = fold_grows (acc * 10 + (d - 48)) ds in omega arith

pub digits_grow : (xs : List ℕ) (i acc : ℕ) → i < length xs → decimal xs ≡ fold (λ n d. n * 10 + (d - 48)) acc (drop i xs) → acc * 10 + (get_or xs i 0 - 48) ≤ decimal xs
digits_grow xs i acc lt e =
    let split = drop-cons xs i 0 lt in
    let h = fold_grows (acc * 10 + (get_or xs i 0 - 48)) (drop (suc i) xs) in
    let whole : decimal xs ≡ fold (λ n d. n * 10 + (d - 48)) (acc * 10 + (get_or xs i 0 - 48)) (drop (suc i) xs) = e ∙ ap (λ ds. fold (λ n d. n * 10 + (d - 48)) acc ds) split in
    omega arith

and_false : (a : Bool) → (a && false) ≡ false
and_false true = refl
and_false false = refl

big_test : (n : ℕ) → 1048576 < n → nat_le n 1048576 ≡ false
big_test n h = grind (arith, nat_tests)

pub too_big : (xs : List ℕ) → 0 < length xs → 1048576 < decimal xs → Why (digits_size xs) BadType
too_big [] some big = absurd (omega arith)
too_big (b ∷ bs) some big = inl (ap (λ t. cond (are_digits (b ∷ bs) && t) (Ok (decimal (b ∷ bs))) (Err BadType)) (big_test (decimal (b ∷ bs)) big) ∙ ap (λ t. cond t (Ok (decimal (b ∷ bs))) (Err BadType)) (and_false (are_digits (b ∷ bs))))
