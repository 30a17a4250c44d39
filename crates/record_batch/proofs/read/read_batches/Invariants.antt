use Rattle.std.proofs.Common.{◌≡◌, ◌-◌, [], length}
use Rattle.record_batch.specs.Batch.{added, batches_at, batches_of}
use Rattle.record_batch.proofs.read.read_batches.Given as goal

abbrev pub invariant-loop : goal.invariant-loop
invariant-loop l = added l.from [] (batches_of l.bytes) ≡ added l.from l.rows.items (batches_at (length l.bytes - l.counter) l.cursor)
