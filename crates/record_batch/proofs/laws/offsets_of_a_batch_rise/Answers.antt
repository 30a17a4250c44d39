use Rattle.std.proofs.Common.{length}
use Rattle.record_batch.proofs.OffsetLaws.{batch_rises, batches_offsets}
use Rattle.record_batch.proofs.laws.offsets_of_a_batch_rise.Goals as goal

pub returns : goal.returns
returns c = record { all = λ bytes rows is. batches_offsets (length bytes) (record { place = 0; left = bytes }) rows is; rise = batch_rises }
