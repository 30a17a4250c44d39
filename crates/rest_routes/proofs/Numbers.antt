-- From what `parse` gives of digits to the number that they write, and how large a number of so many digits is.
use Rattle.std.proofs.Common.{◌≡◌, ℕ, ◌<◌, ◌≤◌, ◌^◌, List, length, true, Result, Ok, Err, SomeIff, Option, Some, None, ap, rules}
use Rattle.std.specs.List.{list_all}
use Rattle.std.specs.Char.{is_ascii_digit}
use Rattle.std.specs.Result.{OkIff, result_ok}
use Rattle.std.specs.Str.Parse.{digits_value, ParsesUnsigned}
use Rattle.std.proofs.lemmas.Str.Parse.{IsNumeralModel, numerals_by_value, parse_digits, digits_value_short}

-- the texts of digits, and the numbers that they write
own : IsNumeralModel (λ ds. list_all is_ascii_digit ds ≡ true) (digits_value 10)
own = numerals_by_value _ (search rules)

-- the number, where it fits
fits : {E : Type 0} (n : ℕ) (filled : Type 0) (r : Result ℕ E) → filled → OkIff r (filled × (n < 2 ^ 64)) n → SomeIff (result_ok r) (n < 2 ^ 64) n
fits n filled (Ok x) is said = (said.0.1, said.1)
fits n filled (Err e) is said = λ below. said (is, below)

pub number_read : {E : Type 0} (ds : List ℕ) (r : Result ℕ E) → ParsesUnsigned 64 10 ds r → 0 < length ds → list_all is_ascii_digit ds ≡ true → SomeIff (result_ok r) (digits_value 10 ds < 2 ^ 64) (digits_value 10 ds)
number_read ds r said filled digits = fits (digits_value 10 ds) (0 < length ds) r filled (parse_digits own 64 ds r said digits)

-- up to 18 digits write a number below 10^18
pub value_of_few : (ds : List ℕ) → list_all is_ascii_digit ds ≡ true → length ds ≤ 18 → digits_value 10 ds < 10 ^ 18
value_of_few ds digits few = digits_value_short own ds 18 digits few

-- a number that fits is there
pub some_where : (P : Type 0) (o : Option ℕ) (n : ℕ) → SomeIff o P n → P → o ≡ Some n
some_where P None n said is = absurd (said is)
some_where P (Some x) n said is = ap (λ (y : ℕ). Some y) said.1
