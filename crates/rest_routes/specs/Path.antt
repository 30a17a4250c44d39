-- The names of topics that a command makes (the legal characters of Kafka's topics).
use Rattle.std.specs.Prelude.{ℕ, Bool, ◌&&◌, ◌||◌, ◌==◌, List, length, nat_lt, nat_le}
use Rattle.std.specs.List.{list_all}
use Rattle.std.specs.Char.{is_ascii_alphanumeric}

-- a letter, a digit, a dot, an underscore or a dash
abbrev pub is_name_byte : ℕ → Bool
is_name_byte b = is_ascii_alphanumeric b || b == 46 || b == 95 || b == 45

-- 1 to 249 of these
abbrev pub is_topic_name : List ℕ → Bool
is_topic_name name = nat_lt 0 (length name) && nat_le (length name) 249 && list_all is_name_byte name
