-- From what `parse` gives of digits to the number that they write.
use Rattle.std.proofs.Common.{◌≡◌, ℕ, ◌<◌, ◌^◌, List, length, true, Result, Ok, Err, SomeIff, rules}
use Rattle.std.specs.List.{list_all}
use Rattle.std.specs.Char.{is_ascii_digit}
use Rattle.std.specs.Result.{OkIff, result_ok}
use Rattle.std.specs.Str.Parse.{digits_value, ParsesUnsigned}
use Rattle.std.proofs.lemmas.Str.Parse.{IsNumeralModel, numerals_by_value, parse_digits}

-- the texts of digits, and the numbers that they write
own : IsNumeralModel (λ ds. list_all is_ascii_digit ds ≡ true) (digits_value 10)
own = numerals_by_value _ (search rules)

-- the number, where it fits
fits : {E : Type 0} (n : ℕ) (filled : Type 0) (r : Result ℕ E) → filled → OkIff r (filled × (n < 2 ^ 32)) n → SomeIff (result_ok r) (n < 2 ^ 32) n
fits n filled (Ok x) is said = (said.0.1, said.1)
fits n filled (Err e) is said = λ below. said (is, below)

pub number_read : {E : Type 0} (ds : List ℕ) (r : Result ℕ E) → ParsesUnsigned 32 10 ds r → 0 < length ds → list_all is_ascii_digit ds ≡ true → SomeIff (result_ok r) (digits_value 10 ds < 2 ^ 32) (digits_value 10 ds)
number_read ds r said filled digits = fits (digits_value 10 ds) (0 < length ds) r filled (parse_digits own 32 ds r said digits)
