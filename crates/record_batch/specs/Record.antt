-- A record of a batch: Kafka documentation, "Message Format", record and record header.
use Rattle.std.specs.Prelude.{ℤ, pos, negsuc, ◌+ℤ◌, ℕ, zero, suc, ◌+◌, ◌-◌, ◌^◌, List, [], ◌∷◌, ◌++◌, length, take, drop, Option, None, Some, Result, Ok, Err, if◌then◌else◌, ◌&&◌, nat_le, int_le, int_lt}
use Rattle.wire_prim.specs.Reading.{Reading}
use Rattle.wire_prim.specs.Behind.{behind_bytes, behind_int8, behind_text, int8_at}
use Rattle.wire_prim.specs.Varint.{varint_at, behind_varint, behind_varlong}
use Rattle.broker_link.specs.declared.link.Stored.{Stored}
use Rattle.record_batch.specs.Read.{Read, onward, item, ended}

abbrev pub integer_at : Reading → Read ℤ
integer_at at = item varint_at at (behind_varint at.left)

-- a key or a value of that length, which was read at a place
abbrev pub nullable_of : ℕ → ℤ → Reading → Read (Option (List ℕ))
nullable_of place (pos n) at = item (λ bytes. Some (take n bytes)) at (behind_bytes n at.left)
nullable_of place (negsuc zero) at = Ok (None, at)
nullable_of place (negsuc (suc k)) at = Err place

-- varint length, -1 for null, and the bytes
abbrev pub nullable_at : Reading → Read (Option (List ℕ))
nullable_at at = onward (integer_at at) (nullable_of at.place)

abbrev pub name_of : ℕ → ℤ → Reading → Read (Unit {0})
name_of place (pos n) at = item (λ _. tt) at (behind_text (pos n) at.left)
name_of place (negsuc k) at = Err place

-- varint length and UTF-8 name, then a value
abbrev pub header_at : Reading → Read (Unit {0})
header_at at = onward (integer_at at) (λ size named. onward (name_of at.place size named) (λ name valued. onward (nullable_at valued) (λ value end. Ok (tt, end))))

abbrev pub headers_at : ℕ → Reading → Read (Unit {0})
headers_at zero at = Ok (tt, at)
headers_at (suc n) at = onward (header_at at) (λ value behind. headers_at n behind)

-- as many headers as a count says, which was read at a place
abbrev pub headers_of : ℕ → ℤ → Reading → Read (Unit {0})
headers_of place (pos n) at = headers_at n at
headers_of place (negsuc k) at = Err place

-- varint header count and the headers, and nothing behind them
abbrev pub tail_at : Reading → Read (Unit {0})
tail_at at = onward (integer_at at) (λ count headed. onward (headers_of at.place count headed) (λ done end. ended tt end end.left))

-- the offset is at least the lowest that may come, and below 2^63 - 1
abbrev pub bounded : ℕ → ℤ → ℤ → Reading → Read ℤ
bounded place low offset at = if int_le low offset && int_lt offset (pos (2 ^ 63 - 1)) then Ok (offset, at) else Err place

-- varint offsetDelta, which counts from the batch's base offset
abbrev pub delta_at : ℤ → ℤ → Reading → Read ℤ
delta_at base low at = onward (integer_at at) (λ delta behind. bounded at.place low (base +ℤ delta) behind)

-- i8 attributes, varlong timestampDelta, varint offsetDelta
abbrev pub offset_at : ℤ → ℤ → Reading → Read ℤ
offset_at base low at = onward (item int8_at at (behind_int8 at.left)) (λ attributes stamped. onward (item varint_at stamped (behind_varlong stamped.left)) (λ stamp placed. delta_at base low placed))

-- what stands behind a record's length
unfoldable pub body_at : ℤ → ℤ → Reading → Read Stored
body_at base low at =
    onward (offset_at base low at) (λ offset keyed. onward (nullable_at keyed) (λ key valued. onward (nullable_at valued) (λ value headed. onward (tail_at headed) (λ done end. Ok (record { offset = offset; key = key; value = value }, end)))))

-- the body has as many bytes as its length says, which was read at a place
abbrev pub body_of : ℕ → ℤ → ℤ → ℤ → Reading → Read Stored
body_of place base low (pos n) at =
    if nat_le n (length at.left) then onward (body_at base low (record { place = at.place; left = take n at.left })) (λ row end. Ok (row, record { place = at.place + n; left = drop n at.left })) else Err place
body_of place base low (negsuc k) at = Err place

-- varint length of what follows, and that
unfoldable pub record_at : ℤ → ℤ → Reading → Read Stored
record_at base low at = onward (integer_at at) (body_of at.place base low)

-- rows before those of more
abbrev pub before : List Stored → Result (List Stored) ℕ → Result (List Stored) ℕ
before rows (Ok more) = Ok (rows ++ more)
before rows (Err place) = Err place

-- a row and then what depends on it
abbrev pub chain : Read Stored → (Stored → Reading → Result (List Stored) ℕ) → Result (List Stored) ℕ
chain (Ok got) more = before (got.0 ∷ []) (more got.0 got.1)
chain (Err place) more = Err place

-- no row, and nothing is left
abbrev pub none_left : ℕ → List ℕ → Result (List Stored) ℕ
none_left place [] = Ok []
none_left place (byte ∷ bytes) = Err place

-- so many records and nothing behind them, each offset above the one before it
abbrev pub records_at : ℕ → ℤ → ℤ → Reading → Result (List Stored) ℕ
records_at zero base low at = none_left at.place at.left
records_at (suc n) base low at = chain (record_at base low at) (λ row behind. records_at n base (row.offset +ℤ pos 1) behind)
