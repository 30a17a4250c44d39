use Rattle.record_batch.proofs.FaultLemmas.{batch_has_a_cause}
use Rattle.record_batch.proofs.OneBatchLemmas.{first_is}
use Rattle.record_batch.proofs.first.first_batch.Goals as goal

pub returns-in-Ok-clause-judges : goal.returns-in-Ok-clause-judges
returns-in-Ok-clause-judges c =
    let framed = rw c.in-Ok-Some.field-0-is at c.in-Ok-Some.ensures in
    first_is c.args.bytes.now _ _ c.in-Ok-Some.batch c.in-Ok.first c.new-cursor.ensures framed c.in-Ok.ensures

pub returns-in-Err-judge-clause-not_want : goal.returns-in-Err-judge-clause-not_want
returns-in-Err-judge-clause-not_want c = batch_has_a_cause c.in-Ok-Some.batch c.in-Err-judge.fault c.in-Err-judge.ensures
