-- The methods of the paths that the gateway has (RFC 9110, sections 10.2.1 and 15.5.6), by the places of its table.
use Rattle.std.specs.Prelude.{ℕ, List, ◌++◌, codes, if◌then◌else◌, ◌==◌, ◌||◌}

-- The methods of the path that a place has: a topic (3, 4), one of its partitions (6, 7), and the offsets (11, 12) and assignments
-- (16, 17) of an instance are read and written; a group (9) and positions (18 to 20) are written; an instance (10) is deleted; a
-- subscription (13 to 15) is all three; the others are read.
unfoldable pub methods_of : ℕ → List ℕ
methods_of place =
    if place == 3 || place == 4 || place == 6 || place == 7 || place == 11 || place == 12 || place == 16 || place == 17 then codes "GET, POST" else
    if place == 9 || place == 18 || place == 19 || place == 20 then codes "POST" else
    if place == 10 then codes "DELETE" else
    if place == 13 || place == 14 || place == 15 then codes "DELETE, GET, POST" else
    codes "GET"

-- the field that lists them
abbrev pub allowing : ℕ → List ℕ
allowing place = codes "Allow: " ++ (methods_of place ++ codes "\r\n")

-- the body of the refusal
abbrev pub no_method_text : List ℕ
no_method_text = codes "{\"error_code\":405,\"message\":\"Method not allowed.\"}"
