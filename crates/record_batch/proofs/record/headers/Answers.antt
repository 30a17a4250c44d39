use Rattle.std.proofs.Common.{◌∙◌}
use Rattle.record_batch.proofs.RecordLemmas.{one_header}
use Rattle.record_batch.proofs.record.headers.Goals as goal

pub loop-preserved : goal.loop-preserved
loop-preserved c = c.loop.invariant ∙ one_header c.args.count c.loop.counter c.loop.cursor _ _ c.loop-test.true c.in_ok-header.ensures
