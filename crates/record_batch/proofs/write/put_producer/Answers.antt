use Rattle.std.proofs.Common.{negsuc}
use Rattle.std.specs.Int.{w32}
use Rattle.std.proofs.lemmas.Int.{to_z-of_z}
use Rattle.wire_prim.specs.Item.{int16_bytes, int32_bytes, int64_bytes}
use Rattle.record_batch.specs.Written.{producer_bytes}
use Rattle.record_batch.proofs.Appending.{on_ok, four}
use Rattle.record_batch.proofs.write.put_producer.Goals as goal

pub returns : goal.returns
unfolding producer_bytes
returns c =
    let final = rw (to_z-of_z w32 c.args.count c.ranges.count) at c.put_int32-2.ensures.ok in
    on_ok c.put_int32-2.result _ _ (λ end. four _ (int64_bytes (negsuc 0)) (int16_bytes (negsuc 0)) (int32_bytes (negsuc 0)) (int32_bytes c.args.count) _ _ _ _ c.in_ok-put_int64.ensures.ok c.in_ok-put_int16.ensures.ok c.in_ok-put_int32.ensures.ok end) final
