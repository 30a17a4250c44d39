-- The members of a field's value that is a list (RFC 9110, section 5.6.1).
use Rattle.std.specs.Prelude.{ℕ, List, length, map, take, drop, Bool, ◌&&◌, ◌==◌}
use Rattle.std.specs.List.{list_all, list_any, slice_split}
use Rattle.std.specs.Str.{bytes_eq}
use Rattle.std.specs.Char.{to_ascii_lowercase}
use Rattle.httparse.specs.Grammar.{is_ows, skip_ows}

-- what parts the members
abbrev pub is_comma : ℕ → Bool
is_comma b = b == 44

-- the text is this word without ASCII case, between spaces and tabs
abbrev pub is_word : List ℕ → List ℕ → Bool
is_word word text =
    bytes_eq (map to_ascii_lowercase (take (length word) (skip_ows text))) (map to_ascii_lowercase word) && list_all is_ows (drop (length word) (skip_ows text))

-- one of the members is the word
abbrev pub has_member : List ℕ → List ℕ → Bool
has_member word value = list_any (is_word word) (slice_split is_comma value)
