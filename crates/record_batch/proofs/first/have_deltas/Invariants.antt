use Rattle.std.proofs.Common.{◌≡◌, ◌-◌, pos, true}
use Rattle.record_batch.specs.Record.{records_at}
use Rattle.record_batch.proofs.FirstLemmas.{judged}
use Rattle.record_batch.proofs.first.have_deltas.Given as goal

abbrev pub invariant-loop : goal.invariant-loop
invariant-loop l =
    judged true l.base (records_at l.count l.base (pos 0) l.initial.cursor) ≡ judged l.contiguous l.next (records_at (l.count - l.counter) l.base l.low l.cursor)
