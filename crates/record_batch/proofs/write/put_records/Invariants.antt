use Rattle.std.proofs.Common.{◌≡◌, ◌++◌, drop}
use Rattle.record_batch.specs.Written.{records_bytes}
use Rattle.record_batch.proofs.write.put_records.Given as goal

abbrev pub invariant-loop-delta : goal.invariant-loop-delta
invariant-loop-delta l = l.initial.out.items ++ records_bytes 0 l.rows ≡ l.out.items ++ records_bytes l.delta (drop l.delta l.rows)
