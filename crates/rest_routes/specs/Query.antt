-- The two fields of a query that a read of records has (URL Standard, application/x-www-form-urlencoded).
use Rattle.std.specs.Prelude.{ℕ, ◌&&◌, List, [], ◌∷◌, length, Option, Some, None, option_map, if◌then◌else◌, nat_le, codes}
use Rattle.std.specs.List.{list_all}
use Rattle.std.specs.Str.{bytes_eq}
use Rattle.std.specs.Str.Lossy.{utf8_lossy}
use Rattle.std.specs.Str.Parse.{digits_value}
use Rattle.std.specs.Char.{is_ascii_digit}
use Rattle.form_urlencoded.specs.Form.{raw_pairs, decode}
use Rattle.rest_routes.specs.declared.query.Limits.{Limits}

-- what a name or a value stands for: `+` is a space, escapes are decoded, and what is no UTF-8 is replaced
abbrev pub text_of : List ℕ → List ℕ
text_of bytes = utf8_lossy (decode bytes)

-- the value of the first of these fields that has the name, as it was sent
abbrev pub first_value : (name : List ℕ) → List (List ℕ × List ℕ) → Option (List ℕ)
first_value name [] = None
first_value name (field ∷ fields) = if bytes_eq (text_of field.0) name then Some field.1 else first_value name fields

-- 1 to 18 decimal digits, and the number that they write
unfoldable pub amount_of : List ℕ → Option ℕ
amount_of digits =
    if nat_le 1 (length digits) && nat_le (length digits) 18 && list_all is_ascii_digit digits
    then Some (digits_value 10 digits) else None

-- a number, where a value is given
abbrev pub amount_in : Option (List ℕ) → Option (Option ℕ)
amount_in None = Some None
amount_in (Some value) = option_map (λ (n : ℕ). Some n) (amount_of (text_of value))

-- the number that a query gives under that name, or none; nothing where what it gives is no number
unfoldable pub given_in : (name query : List ℕ) → Option (Option ℕ)
given_in name query = amount_in (first_value name (raw_pairs query))

-- both limits, where both read
abbrev pub both_limits : Option (Option ℕ) → Option (Option ℕ) → Option Limits
both_limits (Some timeout) (Some max_bytes) = Some (record { timeout = timeout; max_bytes = max_bytes })
both_limits _ _ = None

-- the limits of a query
unfoldable pub limits_of : List ℕ → Option Limits
limits_of query = both_limits (given_in (codes "timeout") query) (given_in (codes "max_bytes") query)
