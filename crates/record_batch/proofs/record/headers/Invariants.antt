use Rattle.std.proofs.Common.{◌≡◌, ◌-◌}
use Rattle.record_batch.specs.Record.{headers_at}
use Rattle.record_batch.proofs.record.headers.Given as goal

abbrev pub invariant-loop : goal.invariant-loop
invariant-loop l = headers_at l.count l.initial.cursor ≡ headers_at (l.count - l.counter) l.cursor
