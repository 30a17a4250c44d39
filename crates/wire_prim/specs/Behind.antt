-- Where an item ends, or why it doesn't read: Kafka protocol guide, "Protocol Primitive Types".
use Rattle.std.specs.Prelude.{ℤ, pos, negsuc, ℕ, zero, suc, ◌≡◌, ◌⊎◌, List, [], ◌∷◌, length, take, drop, slice_index, if◌then◌else◌, nat_le, Result, Ok, Err, Option, None, Some, nat_abs}
use Rattle.std.specs.Int.{w8, w16, w32, w64, from_be_bytes, cast_signed}
use Rattle.std.specs.Str.{is_utf8}
use Rattle.wire_prim.specs.declared.error.PrimNo.{PrimNo}
use Rattle.wire_prim.specs.declared.error.PrimNo.TheVariants.{Short, BadUtf8, Negative, Want}

-- the bytes that follow, or why there are none
abbrev pub Behind : Type 0
Behind = Result (List ℕ) PrimNo

-- the answer is the one that the bytes give
abbrev pub Answers : {T : Type 0} → Result T PrimNo → Behind → List ℕ → Type 0
Answers (Ok value) behind left = behind ≡ Ok left
Answers (Err cause) behind left = behind ≡ Err cause

-- the answer is the one that the bytes give, or want of memory
abbrev pub AnswersOrWants : {T : Type 0} → Result T PrimNo → Behind → List ℕ → Type 0
AnswersOrWants (Ok value) behind left = behind ≡ Ok left
AnswersOrWants (Err cause) behind left = (cause ≡ Want) ⊎ (behind ≡ Err cause)

-- what follows two items in turn
abbrev pub next : Behind → (List ℕ → Behind) → Behind
next (Ok rest) item = item rest
next (Err cause) item = Err cause

-- what follows a row of items
abbrev pub behind_row : List (List ℕ → Behind) → List ℕ → Behind
behind_row [] bytes = Ok bytes
behind_row (item ∷ items) bytes = next (item bytes) (behind_row items)

-- what follows that many equal items
abbrev pub behind_many : ℕ → (List ℕ → Behind) → List ℕ → Behind
behind_many zero item bytes = Ok bytes
behind_many (suc n) item bytes = next (item bytes) (behind_many n item)

-- what follows so many bytes
abbrev pub behind_bytes : ℕ → List ℕ → Behind
behind_bytes n bytes = if nat_le n (length bytes) then Ok (drop n bytes) else Err Short

abbrev pub behind_int8 : List ℕ → Behind
behind_int8 = behind_bytes 1

abbrev pub behind_int16 : List ℕ → Behind
behind_int16 = behind_bytes 2

abbrev pub behind_int32 : List ℕ → Behind
behind_int32 = behind_bytes 4

abbrev pub behind_int64 : List ℕ → Behind
behind_int64 = behind_bytes 8

-- the integers at the front
abbrev pub int8_at : List ℕ → ℤ
int8_at bytes = cast_signed w8 (slice_index bytes 0)

abbrev pub int16_at : List ℕ → ℤ
int16_at bytes = cast_signed w16 (from_be_bytes w16 (take 2 bytes))

abbrev pub int32_at : List ℕ → ℤ
int32_at bytes = cast_signed w32 (from_be_bytes w32 (take 4 bytes))

abbrev pub int64_at : List ℕ → ℤ
int64_at bytes = cast_signed w64 (from_be_bytes w64 (take 8 bytes))

-- what follows as many bytes as a length says
abbrev pub behind_sized : ℤ → List ℕ → Behind
behind_sized (pos n) bytes = behind_bytes n bytes
behind_sized (negsuc k) bytes = Err Negative

-- the same where -1 stands for null
abbrev pub behind_nullable : ℤ → List ℕ → Behind
behind_nullable (pos n) bytes = behind_bytes n bytes
behind_nullable (negsuc zero) bytes = Ok bytes
behind_nullable (negsuc (suc k)) bytes = Err Negative

-- what follows a text as long as a length says
abbrev pub behind_text : ℤ → List ℕ → Behind
behind_text (pos n) bytes = next (behind_bytes n bytes) (λ rest. if is_utf8 (take n bytes) then Ok rest else Err BadUtf8)
behind_text (negsuc k) bytes = Err Negative

-- the same where -1 stands for null
abbrev pub behind_nullable_text : ℤ → List ℕ → Behind
behind_nullable_text (pos n) bytes = behind_text (pos n) bytes
behind_nullable_text (negsuc zero) bytes = Ok bytes
behind_nullable_text (negsuc (suc k)) bytes = Err Negative

-- what follows the length of an array
abbrev pub behind_size : ℤ → List ℕ → Behind
behind_size (pos n) bytes = Ok bytes
behind_size (negsuc k) bytes = Err Negative

-- the same where -1 stands for null
abbrev pub behind_nullable_size : ℤ → List ℕ → Behind
behind_nullable_size (pos n) bytes = Ok bytes
behind_nullable_size (negsuc zero) bytes = Ok bytes
behind_nullable_size (negsuc (suc k)) bytes = Err Negative

abbrev pub behind_string : List ℕ → Behind
behind_string bytes = next (behind_int16 bytes) (behind_text (int16_at bytes))

abbrev pub behind_nullable_string : List ℕ → Behind
behind_nullable_string bytes = next (behind_int16 bytes) (behind_nullable_text (int16_at bytes))

abbrev pub behind_bytes_item : List ℕ → Behind
behind_bytes_item bytes = next (behind_int32 bytes) (behind_sized (int32_at bytes))

abbrev pub behind_nullable_bytes : List ℕ → Behind
behind_nullable_bytes bytes = next (behind_int32 bytes) (behind_nullable (int32_at bytes))

abbrev pub behind_count : List ℕ → Behind
behind_count bytes = next (behind_int32 bytes) (behind_size (int32_at bytes))

abbrev pub behind_nullable_count : List ℕ → Behind
behind_nullable_count bytes = next (behind_int32 bytes) (behind_nullable_size (int32_at bytes))

-- the length of an array at the front
abbrev pub count_at : List ℕ → ℕ
count_at bytes = nat_abs (int32_at bytes)

abbrev pub size_or_null : ℤ → Option ℕ
size_or_null (pos n) = Some n
size_or_null (negsuc k) = None

-- the length of an array that may be null
abbrev pub nullable_count_at : List ℕ → Option ℕ
nullable_count_at bytes = size_or_null (int32_at bytes)

-- what follows an array: its length, and as many rows
abbrev pub behind_array : (List ℕ → Behind) → List ℕ → Behind
behind_array row bytes = next (behind_count bytes) (behind_many (count_at bytes) row)

-- what follows the rows of an array, of which there are none where it is null
abbrev pub behind_rows_of : Option ℕ → (List ℕ → Behind) → List ℕ → Behind
behind_rows_of None row bytes = Ok bytes
behind_rows_of (Some n) row bytes = behind_many n row bytes

abbrev pub behind_nullable_array : (List ℕ → Behind) → List ℕ → Behind
behind_nullable_array row bytes = next (behind_nullable_count bytes) (behind_rows_of (nullable_count_at bytes) row)
