-- Record batches of format 2: Kafka documentation, "Message Format", record batch.
use Rattle.std.specs.Prelude.{⊤, ◌≤ℤ◌, ◌<ℤ◌, ◌+ℤ◌, ◌-◌, ◌^◌, ℤ, pos, negsuc, ℕ, zero, suc, ◌≡◌, ◌⊎◌, ◌+◌, ◌≤◌, ◌/◌, ◌%◌, List, [], ◌++◌, length, take, drop, filter, Option, None, Some, Result, Ok, Err, if◌then◌else◌, ◌==◌, nat_le, int_le, ◌∷◌}
use Rattle.std.specs.Int.{w16, w32, cast_unsigned}
use Rattle.std.specs.Ordering.{int_eq}
use Rattle.wire_prim.specs.Reading.{Reading, Takes}
use Rattle.wire_prim.specs.Behind.{int8_at, int16_at, int32_at, int64_at}
use Rattle.wire_prim.specs.Crc.{checksum}
use Rattle.broker_link.specs.declared.link.Stored.{Stored}
use Rattle.record_batch.specs.declared.fault.BatchFault.{BatchFault}
use Rattle.record_batch.specs.declared.fault.BatchFault.TheVariants.{BadMagic, BadCrc, Codec, Control, BadRecord, Want}
use Rattle.record_batch.specs.Record.{records_at}

-- the fields of a batch that decide, by their places in it: baseOffset at 0, magic at 16, crc at 17, attributes at 21, count at 57
pub record Fields : Type 0 where
  pub base : ℤ
  pub magic : ℤ
  pub crc : ℕ
  pub summed : List ℕ
  pub attributes : ℕ
  pub count : ℤ

abbrev pub fields_of : List ℕ → Fields
fields_of bytes =
    record { base = int64_at bytes; magic = int8_at (drop 16 bytes); crc = cast_unsigned w32 (int32_at (drop 17 bytes)); summed = drop 21 bytes; attributes = cast_unsigned w16 (int16_at (drop 21 bytes)); count = int32_at (drop 57 bytes) }

-- another format, a wrong checksum, a codec in bits 0 to 2, a transaction in bit 4 or a control batch in bit 5
abbrev pub fault_of : Fields → Option BatchFault
fault_of fields =
    if int_eq fields.magic (pos 2) then
    (if fields.crc == checksum fields.summed then
    (if fields.attributes % 8 == 0 then
    (if fields.attributes / 16 % 4 == 0 then None else Some Control) else
    Some (Codec (fields.attributes % 8))) else
    Some (BadCrc fields.crc (checksum fields.summed))) else
    Some (BadMagic fields.magic)

-- an item at fault is named by its place
abbrev pub named : Result (List Stored) ℕ → Result (List Stored) BatchFault
named (Ok rows) = Ok rows
named (Err place) = Err (BadRecord place)

-- as many records as a count says, which stands at a place
abbrev pub rows_of : ℕ → ℤ → ℤ → Reading → Result (List Stored) BatchFault
rows_of place (pos n) base at = named (records_at n base (pos 0) at)
rows_of place (negsuc k) base at = Err (BadRecord place)

abbrev pub unless : Option BatchFault → Result (List Stored) BatchFault → Result (List Stored) BatchFault
unless None rows = rows
unless (Some fault) rows = Err fault

-- the rows of a batch that is whole, or its first fault
unfoldable pub batch_at : Reading → Result (List Stored) BatchFault
batch_at at =
    let fields = fields_of at.left in
    unless (fault_of fields) (rows_of (at.place + 57) fields.count fields.base (record { place = at.place + 61; left = drop 61 at.left }))

-- how many bytes the next batch has, none where the bytes end inside it, or the place of a length that is too small
abbrev pub size_of : ℤ → Reading → Result (Option ℕ) ℕ
size_of (pos n) at = if nat_le 49 n then (if nat_le (n + 12) (length at.left) then Ok (Some (n + 12)) else Ok None) else Err (at.place + 8)
size_of (negsuc k) at = Err (at.place + 8)

abbrev pub frame_at : Reading → Result (Option ℕ) ℕ
frame_at at = if nat_le 12 (length at.left) then size_of (int32_at (drop 8 at.left)) at else Ok None

-- rows before those of more
abbrev pub joined : Result (List Stored) BatchFault → Result (List Stored) BatchFault → Result (List Stored) BatchFault
joined (Ok rows) (Ok more) = Ok (rows ++ more)
joined (Ok rows) (Err fault) = Err fault
joined (Err fault) more = Err fault

-- the next batch, and what stands behind it
abbrev pub framed : Result (Option ℕ) ℕ → Reading → (Reading → Result (List Stored) BatchFault) → Result (List Stored) BatchFault
framed (Ok None) at more = Ok []
framed (Ok (Some size)) at more = joined (batch_at (record { place = at.place; left = take size at.left })) (more (record { place = at.place + size; left = drop size at.left }))
framed (Err place) at more = Err (BadRecord place)

-- the rows of at most so many batches in turn, up to one that the bytes cut
abbrev pub batches_at : ℕ → Reading → Result (List Stored) BatchFault
batches_at zero at = Ok []
batches_at (suc n) at = framed (frame_at at) at (batches_at n)

-- there are fewer batches than bytes
abbrev pub batches_of : List ℕ → Result (List Stored) BatchFault
batches_of bytes = batches_at (length bytes) (record { place = 0; left = bytes })

-- the rows at or above an offset
abbrev pub rows_from : ℤ → List Stored → List Stored
rows_from from rows = filter (λ row. int_le from row.offset) rows

-- those rows behind what is held
abbrev pub added : {E : Type 0} → ℤ → List Stored → Result (List Stored) E → Result (List Stored) E
added from held (Ok rows) = Ok (held ++ rows_from from rows)
added from held (Err fault) = Err fault

-- the answer is what the bytes give, or want of memory
abbrev pub Adds : {T : Type 0} → Result T BatchFault → Result (List Stored) BatchFault → List Stored → Type 0
Adds (Ok done) said new = said ≡ Ok new
Adds (Err fault) said new = (fault ≡ Want) ⊎ (said ≡ Err fault)

-- the answer is the part that the next batch has
abbrev pub IsFramed : Result (Option Reading) ℕ → Result (Option ℕ) ℕ → Reading → Reading → Type 0
IsFramed (Ok None) said old new = said ≡ Ok None
IsFramed (Ok (Some part)) said old new = (size : ℕ) × (said ≡ Ok (Some size)) × (61 ≤ size) × (length part.left ≡ size) × (part.place ≡ old.place) × Takes part.left old new
IsFramed (Err place) said old new = said ≡ Err place

-- the answer is these rows or this fault, or want of memory
abbrev pub HasRows : {T : Type 0} → (T → List Stored) → Result T BatchFault → Result (List Stored) BatchFault → Type 0
HasRows items (Ok rows) said = said ≡ Ok (items rows)
HasRows items (Err fault) said = (fault ≡ Want) ⊎ (said ≡ Err fault)

-- an offset of a partition
abbrev pub IsOffset : ℤ → Type 0
IsOffset offset = (pos 0 ≤ℤ offset) × (offset <ℤ pos (2 ^ 63 - 1))

-- each offset is one, is at least a lowest, and is above the one before it
abbrev pub Rises : ℤ → List Stored → Type 0
Rises low [] = ⊤
Rises low (row ∷ rows) = (low ≤ℤ row.offset) × (row.offset <ℤ pos (2 ^ 63 - 1)) × Rises (row.offset +ℤ pos 1) rows
