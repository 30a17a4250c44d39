-- The parameters of a path: the parts between its slashes, with their escapes decoded once (RFC 3986, sections 2.1 and 3.3).
use Rattle.std.specs.Prelude.{ℕ, ◌^◌, Bool, ◌&&◌, ◌==◌, not, List, length, Option, Some, None, option_and_then, if◌then◌else◌, nat_lt, nat_le}
use Rattle.std.specs.List.{list_all, before_first, after_first}
use Rattle.std.specs.Str.{is_utf8}
use Rattle.std.specs.Str.Parse.{digits_value}
use Rattle.std.specs.Char.{is_ascii_digit}
use Rattle.percent_encoding.specs.Percent.{percent_decode}

-- a slash
abbrev pub is_slash : ℕ → Bool
is_slash b = b == 47

-- what follows the first slash: nothing where there is none
abbrev pub behind : List ℕ → List ℕ
behind path = after_first is_slash path

-- what stands between the second slash and the third
abbrev pub first_parameter : List ℕ → List ℕ
first_parameter path = before_first is_slash (behind (behind path))

-- what stands between the fourth slash and the fifth
abbrev pub second_parameter : List ℕ → List ℕ
second_parameter path = first_parameter (behind (behind path))

-- 1 to 249 bytes
abbrev pub is_short : List ℕ → Bool
is_short text = nat_le 1 (length text) && nat_le (length text) 249

-- text of 1 to 249 bytes in UTF-8
abbrev pub short_text : List ℕ → Option (List ℕ)
short_text text = if is_utf8 text && is_short text then Some text else None

-- what a parameter stands for: its escapes decoded, where that is such a text
unfoldable pub name_of : List ℕ → Option (List ℕ)
name_of part = short_text (percent_decode part)

-- no control character of ASCII
abbrev pub is_printed : ℕ → Bool
is_printed b = nat_le 32 b && not (b == 127)

-- the name of a group or an instance has none
abbrev pub printed : List ℕ → Option (List ℕ)
printed name = if list_all is_printed name then Some name else None

-- the name of a group or an instance
abbrev pub instance_name_of : List ℕ → Option (List ℕ)
instance_name_of part = option_and_then printed (name_of part)

-- digits of a number up to 2147483647
abbrev pub is_numbered : List ℕ → Bool
is_numbered name = nat_le 1 (length name) && list_all is_ascii_digit name && nat_lt (digits_value 10 name) (2 ^ 31)

-- the number that they write
abbrev pub numbered : List ℕ → Option ℕ
numbered name = if is_numbered name then Some (digits_value 10 name) else None

-- the number of a partition
abbrev pub number_of : List ℕ → Option ℕ
number_of part = option_and_then numbered (name_of part)
