-- The empty lines that may stand before a request line (RFC 9112, section 2.2), and a line that ends inside its target.
use Rattle.std.specs.Prelude.{ℕ, ◌+◌, Bool, List, [], ◌∷◌, length, take, drop, if◌then◌else◌, ◌==◌, ◌&&◌, nat_lt}
use Rattle.std.specs.List.{list_all, position_or_len}
use Rattle.httparse.specs.Grammar.{is_token, is_uri_byte}

-- the bytes behind the empty lines at the front
abbrev pub behind_blank : List ℕ → List ℕ
behind_blank [] = []
behind_blank (a ∷ []) = if a == 10 then [] else a ∷ []
behind_blank (a ∷ b ∷ rest) =
    if a == 10 then behind_blank (b ∷ rest) else
    if (a == 13) && (b == 10) then behind_blank rest else a ∷ b ∷ rest

-- the place of the first space, or the length
abbrev pub space_place : List ℕ → ℕ
space_place line = position_or_len (λ b. b == 32) line

-- a method, a space, and then bytes of a target alone
unfoldable pub is_cut_line : List ℕ → Bool
is_cut_line line =
    nat_lt (space_place line) (length line) && is_token (take (space_place line) line)
    && list_all is_uri_byte (drop (space_place line + 1) line)
