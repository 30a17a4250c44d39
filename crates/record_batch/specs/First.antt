-- The batch that some bytes begin with: Kafka documentation, "Message Format", record batch (baseOffset, batchLength, offsetDelta).
use Rattle.std.specs.Prelude.{ℤ, pos, ◌+ℤ◌, ℕ, ◌+◌, ◌<◌, ◌≡◌, ◌↔◌, ⊤, Bool, true, List, [], ◌∷◌, length, take, drop, Option, None, Some, Result, Ok, Err}
use Rattle.wire_prim.specs.Behind.{int32_at, int64_at}
use Rattle.wire_prim.specs.Reading.{Reading}
use Rattle.broker_link.specs.declared.link.Stored.{Stored}
use Rattle.record_batch.specs.declared.fault.BatchFault.{BatchFault}
use Rattle.record_batch.specs.declared.first.FirstBatch.{FirstBatch}
use Rattle.record_batch.specs.Record.{records_at}
use Rattle.record_batch.specs.Batch.{batch_at, batches_at, batches_of, frame_at, named}

-- a row's offset is the base offset and its offset delta: the deltas are one number, one more, and so on
abbrev pub HaveDeltas : ℤ → ℕ → List Stored → Type 0
HaveDeltas base delta [] = ⊤
HaveDeltas base delta (row ∷ rows) = (row.offset ≡ base +ℤ pos delta) × HaveDeltas base (delta + 1) rows

-- the bytes are exactly one whole batch, by its length, and it reads as these rows, of which there are some, at the offset deltas 0, 1, 2 and so on
pub record IsOneBatch (bytes : List ℕ) (rows : List Stored) : Type 0 where
  pub whole : pos (length bytes) ≡ int32_at (drop 8 bytes) +ℤ pos 12
  pub reads : batches_of bytes ≡ Ok rows
  pub some : 0 < length rows
  pub deltas : HaveDeltas (int64_at bytes) 0 rows

-- all bytes, from their first on
abbrev pub from_start : List ℕ → Reading
from_start bytes = record { place = 0; left = bytes }

-- a whole batch stands first in the bytes: its rows, and what is said of it
pub record IsFirst (bytes : List ℕ) (first : FirstBatch) (rows : List Stored) : Type 0 where
  pub size : frame_at (from_start bytes) ≡ Ok (Some first.size)
  pub reads : batch_at (from_start (take first.size bytes)) ≡ Ok rows
  pub base : first.base ≡ int64_at bytes
  pub count : length rows ≡ first.count
  pub deltas : (first.contiguous ≡ true) ↔ HaveDeltas first.base 0 rows

-- a whole batch that reads, no whole batch, or the fault of the first one
abbrev pub Judges : Result (Option FirstBatch) BatchFault → List ℕ → Type 0
Judges (Ok (Some first)) bytes = (rows : List Stored) × IsFirst bytes first rows
Judges (Ok None) bytes = frame_at (from_start bytes) ≡ Ok None
Judges (Err fault) bytes = batches_at 1 (from_start bytes) ≡ Err fault

-- what is said of a batch whose bytes these are
abbrev pub JudgesPart : Result FirstBatch BatchFault → Reading → Type 0
JudgesPart (Ok first) at = (rows : List Stored) × (batch_at at ≡ Ok rows) × (first.size ≡ length at.left) × (first.base ≡ int64_at at.left) × (length rows ≡ first.count) × ((first.contiguous ≡ true) ↔ HaveDeltas first.base 0 rows)
JudgesPart (Err fault) at = batch_at at ≡ Err fault

-- so many records from a base offset stand there, or the batch has a fault
abbrev pub Counts : Result (ℕ × ℤ × Reading) BatchFault → Result (List Stored) BatchFault → Type 0
Counts (Ok found) batch = batch ≡ named (records_at found.0 found.1 (pos 0) found.2)
Counts (Err fault) batch = batch ≡ Err fault

-- whether the records' offset deltas are 0, 1, 2 and so on, or the fault
abbrev pub TellsDeltas : Result Bool BatchFault → Result (List Stored) BatchFault → ℤ → Type 0
TellsDeltas (Ok told) (Ok rows) base = (told ≡ true) ↔ HaveDeltas base 0 rows
TellsDeltas (Ok told) (Err fault) base = ⊥
TellsDeltas (Err fault) said base = said ≡ Err fault
