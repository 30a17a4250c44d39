use Rattle.broker_link.specs.Reads.{IsTaking}
use Rattle.broker_link.proofs.reading.take_rows.Given as goal

abbrev pub invariant-loop-i : goal.invariant-loop-i
invariant-loop-i l = IsTaking l.base l.records l.i l.rows l.fn.bound l.bound
