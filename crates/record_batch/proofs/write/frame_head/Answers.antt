use Rattle.std.proofs.Common.{refl}
use Rattle.record_batch.proofs.BatchTrip.{head_length}
use Rattle.record_batch.proofs.write.frame_head.Goals as goal

pub returns-clause-size : goal.returns-clause-size
returns-clause-size c = head_length _ _ _ _ _ c.in-Ok.ensures.items c.in_ok-put_head.ensures c.in_ok-put_int32.ensures.ok refl
