-- What a request target asks for: its origin form, or its absolute form without scheme and authority (RFC 9112, section 3.2).
use Rattle.std.specs.Prelude.{ℕ, List, [], ◌∷◌, length, take, drop, Bool, ◌&&◌, ◌||◌, ◌==◌, nat_lt, if◌then◌else◌, codes}
use Rattle.std.specs.List.{list_all, position_or_len}
use Rattle.std.specs.Str.{bytes_eq}

-- a byte of ASCII
abbrev pub is_plain : ℕ → Bool
is_plain b = nat_lt b 128

-- the bytes begin with that front
abbrev pub begins_with : List ℕ → List ℕ → Bool
begins_with front bytes = bytes_eq front (take (length front) bytes)

-- the target is ASCII, and begins with a slash or with the scheme
abbrev pub is_served : List ℕ → Bool
is_served target = list_all is_plain target && (begins_with (codes "/") target || begins_with (codes "http://") target)

-- a byte that ends the authority
abbrev pub ends_authority : ℕ → Bool
ends_authority b = b == 47 || b == 63 || b == 35

-- the bytes from the end of the authority on
abbrev pub behind_authority : List ℕ → List ℕ
behind_authority bytes = drop (position_or_len ends_authority bytes) bytes

-- the bytes, or a slash where there is none
abbrev pub or_slash : List ℕ → List ℕ
or_slash [] = codes "/"
or_slash (b ∷ bytes) = b ∷ bytes

-- the target without its scheme and authority
unfoldable pub asked_in : List ℕ → List ℕ
asked_in target = if begins_with (codes "http://") target then or_slash (behind_authority (drop 7 target)) else target
