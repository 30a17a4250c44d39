-- The items of a message as bytes: Kafka protocol guide, "Protocol Primitive Types".
use Rattle.std.specs.Prelude.{ℤ, pos, negsuc, ℕ, List, ◌++◌, length, Option, None, Some}
use Rattle.std.specs.Int.{w8, w16, w32, w64, to_be_bytes, cast_unsigned}

-- an INT8: two's complement
abbrev pub int8_bytes : ℤ → List ℕ
int8_bytes value = to_be_bytes w8 (cast_unsigned w8 value)

-- an INT16: two's complement, highest byte first
abbrev pub int16_bytes : ℤ → List ℕ
int16_bytes value = to_be_bytes w16 (cast_unsigned w16 value)

-- an INT32
abbrev pub int32_bytes : ℤ → List ℕ
int32_bytes value = to_be_bytes w32 (cast_unsigned w32 value)

-- an INT64
abbrev pub int64_bytes : ℤ → List ℕ
int64_bytes value = to_be_bytes w64 (cast_unsigned w64 value)

-- a STRING: its length as an INT16, and its bytes
abbrev pub string_item : List ℕ → List ℕ
string_item text = int16_bytes (pos (length text)) ++ text

-- a NULLABLE_STRING: null is the length -1
abbrev pub nullable_string_item : Option (List ℕ) → List ℕ
nullable_string_item None = int16_bytes (negsuc 0)
nullable_string_item (Some text) = string_item text

-- BYTES: their length as an INT32, and the bytes
abbrev pub bytes_item : List ℕ → List ℕ
bytes_item piece = int32_bytes (pos (length piece)) ++ piece

-- NULLABLE_BYTES: null is the length -1
abbrev pub nullable_bytes_item : Option (List ℕ) → List ℕ
nullable_bytes_item None = int32_bytes (negsuc 0)
nullable_bytes_item (Some piece) = bytes_item piece

-- the length of an ARRAY: an INT32
abbrev pub count_item : ℕ → List ℕ
count_item size = int32_bytes (pos size)

-- the length of an ARRAY that may be null, which is the length -1
abbrev pub nullable_count_item : Option ℕ → List ℕ
nullable_count_item None = int32_bytes (negsuc 0)
nullable_count_item (Some size) = count_item size
