-- Topics in words: TOPIC:PARTS, this project's own form.
use Rattle.std.specs.Prelude.{ℕ, Bool, true, ◌&&◌, ◌==◌, not, List, [], ◌∷◌, length, Option, Some, None, option_map, option_and_then, if◌then◌else◌, nat_lt, nat_le, codes}
use Rattle.std.specs.List.{list_all, list_any, position_or_len, before_first, after_first}
use Rattle.std.specs.Str.{bytes_eq}
use Rattle.std.specs.Str.Parse.{digits_value}
use Rattle.std.specs.Char.{is_ascii_digit}
use Rattle.rest_routes.specs.Path.{is_topic_name}

-- a topic's name that isn't one or two dots
unfoldable pub is_given_name : List ℕ → Bool
is_given_name name = is_topic_name name && not (bytes_eq name (codes ".")) && not (bytes_eq name (codes ".."))

-- 1 to 10 digits that write a number from 1 to 64
unfoldable pub count_in : List ℕ → Option ℕ
count_in digits =
    if nat_lt 0 (length digits) && nat_le (length digits) 10 && list_all is_ascii_digit digits
    && nat_le 1 (digits_value 10 digits) && nat_le (digits_value 10 digits) 64
    then Some (digits_value 10 digits) else None

abbrev pub is_colon : ℕ → Bool
is_colon b = b == 58

-- a topic and the number of its partitions: a name and a count round the first colon
unfoldable pub topic_of : List ℕ → Option (List ℕ × ℕ)
topic_of word =
    if nat_lt (position_or_len is_colon word) (length word) && is_given_name (before_first is_colon word)
    then option_map (λ count. (before_first is_colon word, count)) (count_in (after_first is_colon word)) else None

-- the topics of words, in order
abbrev pub topics_of : List (List ℕ) → Option (List (List ℕ × ℕ))
topics_of [] = Some []
topics_of (w ∷ ws) = option_and_then (λ topic. option_map (λ more. topic ∷ more) (topics_of ws)) (topic_of w)

-- a topic of that name is among these
abbrev pub has_name : List ℕ → List (List ℕ × ℕ) → Bool
has_name name topics = list_any (λ t. bytes_eq t.0 name) topics

-- each name stands once
abbrev pub are_apart : List (List ℕ × ℕ) → Bool
are_apart [] = true
are_apart (t ∷ ts) = not (has_name t.0 ts) && are_apart ts

-- 1 to 16 words of topics with different names
unfoldable pub topics_in : List (List ℕ) → Option (List (List ℕ × ℕ))
topics_in words =
    if nat_le 1 (length words) && nat_le (length words) 16
    then option_and_then (λ topics. if are_apart topics then Some topics else None) (topics_of words) else None
