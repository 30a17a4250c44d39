-- A batch with another base offset: Kafka documentation, "Message Format", record batch (baseOffset, offsetDelta).
use Rattle.std.specs.Prelude.{ℤ, ◌+ℤ◌, pos, ◌≡◌, List, ℕ, ◌++◌, drop, map, Ok}
use Rattle.wire_prim.specs.Item.{int64_bytes}
use Rattle.broker_link.specs.declared.link.Stored.{Stored}
use Rattle.record_batch.specs.Batch.{Rises, batch_at}

-- a row at an offset that is so much higher
abbrev pub moved : ℤ → Stored → Stored
moved by row = record { offset = row.offset +ℤ by; key = row.key; value = row.value }

-- the batch with this base offset in its first eight bytes
abbrev pub with_base : ℤ → List ℕ → List ℕ
with_base base batch = int64_bytes base ++ drop 8 batch

-- the rows of one batch are those of another, each higher by so much, as far as these are offsets of a partition
abbrev pub AreMoved : ℤ → List ℕ → List ℕ → Type 0
AreMoved by old new = (place : ℕ) (rows : List Stored) → batch_at (record { place = place; left = old }) ≡ Ok rows → Rises (pos 0) (map (moved by) rows)
    → batch_at (record { place = place; left = new }) ≡ Ok (map (moved by) rows)
