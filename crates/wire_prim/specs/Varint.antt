-- VARINT and VARLONG: Kafka protocol guide, "Protocol Primitive Types" (zigzag and base 128 as in Protocol Buffers).
use Rattle.std.specs.Prelude.{ℤ, pos, negsuc, ℕ, zero, suc, ◌≡◌, ◌+◌, ◌*◌, ◌/◌, ◌%◌, ◌^◌, ◌<◌, ◌≤◌, List, [], ◌∷◌, length, take, drop, if◌then◌else◌, nat_le, nat_lt, ◌==◌, Ok, Err}
use Rattle.wire_prim.specs.declared.error.PrimNo.TheVariants.{Short, TooLong}
use Rattle.wire_prim.specs.Behind.{Behind, next}
use Rattle.wire_prim.specs.Reading.{Reading, Takes}

-- 0, -1, 1, -2 are 0, 1, 2, 3
abbrev pub zigzag : ℤ → ℕ
zigzag (pos n) = 2 * n
zigzag (negsuc n) = 2 * n + 1

abbrev pub unzigzag : ℕ → ℤ
unzigzag n = if n % 2 == 0 then pos (n / 2) else negsuc (n / 2)

-- how many bytes at the front say by their highest bit that another one follows
abbrev pub lead : List ℕ → ℕ
lead [] = 0
lead (byte ∷ bytes) = if nat_le 128 byte then suc (lead bytes) else 0

-- those bytes and the one that ends them
abbrev pub run_of : List ℕ → List ℕ
run_of bytes = take (suc (lead bytes)) bytes

-- the number of which the bytes are groups of seven bits, lowest first
abbrev pub grouped : List ℕ → ℕ
grouped [] = 0
grouped (byte ∷ bytes) = byte % 128 + 128 * grouped bytes

-- the bytes spell the integer, in at most so many bytes
pub record IsVarint (limit : ℕ) (value : ℤ) (item : List ℕ) : Type 0 where
  pub ends : length item ≡ suc (lead item)
  pub within : length item ≤ limit
  pub number : grouped item ≡ zigzag value

-- the integer at the front
abbrev pub varint_at : List ℕ → ℤ
varint_at bytes = unzigzag (grouped (run_of bytes))

-- a run of one byte or two stood at the front and makes the number, and has been read
pub record IsFew (number : ℕ) (old new : Reading) : Type 0 where
  pub few : lead old.left ≤ 1
  pub ended : lead old.left < length old.left
  pub takes : Takes (run_of old.left) old new
  pub groups : number ≡ grouped (run_of old.left)
  pub small : number < 128 ^ 2

-- what follows a run of at most so many bytes
abbrev pub behind_run : ℕ → List ℕ → Behind
behind_run limit bytes = if nat_le limit (lead bytes) then Err TooLong else (if nat_lt (lead bytes) (length bytes) then Ok (drop (suc (lead bytes)) bytes) else Err Short)

-- what follows one whose number is below a bound
abbrev pub behind_bounded : ℕ → ℕ → List ℕ → Behind
behind_bounded limit bound bytes = next (behind_run limit bytes) (λ rest. if nat_lt (grouped (run_of bytes)) bound then Ok rest else Err TooLong)

abbrev pub behind_varint : List ℕ → Behind
behind_varint = behind_bounded 5 (2 ^ 32)

abbrev pub behind_varlong : List ℕ → Behind
behind_varlong = behind_bounded 10 (2 ^ 64)

-- the groups of a number in at most k more bytes than one
abbrev pub groups_of : ℕ → ℕ → List ℕ
groups_of zero n = n ∷ []
groups_of (suc k) n = if nat_lt n 128 then n ∷ [] else (128 + n % 128) ∷ groups_of k (n / 128)

-- the shortest spelling of a VARINT
abbrev pub varint_bytes : ℤ → List ℕ
varint_bytes value = groups_of 4 (zigzag value)

-- the shortest spelling of a VARLONG
abbrev pub varlong_bytes : ℤ → List ℕ
varlong_bytes value = groups_of 9 (zigzag value)
