-- A batch as it is written: Kafka documentation, "Message Format", record batch and record.
use Rattle.std.specs.Prelude.{ℤ, pos, negsuc, ℕ, ◌+◌, ◌-◌, List, [], ◌∷◌, ◌++◌, length, Option, None, Some}
use Rattle.std.specs.Int.{w32, cast_signed}
use Rattle.wire_prim.specs.Item.{int8_bytes, int16_bytes, int32_bytes, int64_bytes}
use Rattle.wire_prim.specs.Varint.{varint_bytes, varlong_bytes}
use Rattle.wire_prim.specs.Crc.{checksum}
use Rattle.broker_link.specs.declared.link.NewRecord.{NewRecord}
use Rattle.broker_link.specs.declared.link.Stored.{Stored}

-- a key or a value behind its length, which is -1 for null
abbrev pub nullable_bytes : Option (List ℕ) → List ℕ
nullable_bytes None = varint_bytes (negsuc 0)
nullable_bytes (Some piece) = varint_bytes (pos (length piece)) ++ piece

-- attributes 0, timestampDelta 0, offsetDelta, key, value, no headers
abbrev pub body_bytes : ℕ → NewRecord → List ℕ
body_bytes delta row = int8_bytes (pos 0) ++ varlong_bytes (pos 0) ++ varint_bytes (pos delta) ++ nullable_bytes row.key ++ nullable_bytes row.value ++ varint_bytes (pos 0)

-- a record is its body behind the body's length
abbrev pub record_bytes : ℕ → NewRecord → List ℕ
record_bytes delta row = varint_bytes (pos (length (body_bytes delta row))) ++ body_bytes delta row

-- the records at the deltas from one on
abbrev pub records_bytes : ℕ → List NewRecord → List ℕ
records_bytes delta [] = []
records_bytes delta (row ∷ rows) = record_bytes delta row ++ records_bytes (delta + 1) rows

-- attributes 0, lastOffsetDelta, baseTimestamp, maxTimestamp
unfoldable pub stamps_bytes : ℤ → ℤ → List ℕ
stamps_bytes base_ts last = int16_bytes (pos 0) ++ int32_bytes last ++ int64_bytes base_ts ++ int64_bytes base_ts

-- producerId -1, producerEpoch -1, baseSequence -1, count
unfoldable pub producer_bytes : ℤ → List ℕ
producer_bytes count = int64_bytes (negsuc 0) ++ int16_bytes (negsuc 0) ++ int32_bytes (negsuc 0) ++ int32_bytes count

abbrev pub fields_bytes : ℤ → ℕ → List ℕ
fields_bytes base_ts count = stamps_bytes base_ts (pos (count - 1)) ++ producer_bytes (pos count)

-- what the checksum is of
abbrev pub summed_bytes : ℤ → List NewRecord → List ℕ
summed_bytes base_ts rows = fields_bytes base_ts (length rows) ++ records_bytes 0 rows

-- baseOffset 0, batchLength, partitionLeaderEpoch -1, magic 2
unfoldable pub head_bytes : ℤ → List ℕ
head_bytes size = int64_bytes (pos 0) ++ int32_bytes size ++ int32_bytes (negsuc 0) ++ int8_bytes (pos 2)

-- the length of what follows it, the checksum, and what it is of
abbrev pub framed_bytes : List ℕ → List ℕ
framed_bytes summed = head_bytes (pos (9 + length summed)) ++ int32_bytes (cast_signed w32 (checksum summed)) ++ summed

abbrev pub batch_bytes : ℤ → List NewRecord → List ℕ
batch_bytes base_ts rows = framed_bytes (summed_bytes base_ts rows)

-- the rows at the offsets from one on
abbrev pub stored_from : ℕ → List NewRecord → List Stored
stored_from offset [] = []
stored_from offset (row ∷ rows) = record { offset = pos offset; key = row.key; value = row.value } ∷ stored_from (offset + 1) rows
