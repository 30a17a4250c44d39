use Rattle.std.proofs.Common.{◌≡◌, ◌-◌, pos}
use Rattle.record_batch.specs.Batch.{added, named}
use Rattle.record_batch.specs.Record.{records_at}
use Rattle.record_batch.proofs.read.take_records.Given as goal

abbrev pub invariant-loop : goal.invariant-loop
invariant-loop l =
    added l.from l.initial.rows.items (named (records_at l.count l.base (pos 0) l.initial.cursor)) ≡ added l.from l.rows.items (named (records_at (l.count - l.counter) l.base l.low l.cursor))
