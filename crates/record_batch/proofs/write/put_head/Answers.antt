use Rattle.std.proofs.Common.{pos, negsuc}
use Rattle.std.specs.Int.{w32}
use Rattle.std.proofs.lemmas.Int.{to_z-of_z}
use Rattle.wire_prim.specs.Item.{int8_bytes, int32_bytes, int64_bytes}
use Rattle.record_batch.specs.Written.{head_bytes}
use Rattle.record_batch.proofs.Appending.{on_ok, four}
use Rattle.record_batch.proofs.write.put_head.Goals as goal

pub returns : goal.returns
unfolding head_bytes
returns c =
    let size = rw (to_z-of_z w32 c.args.size c.ranges.size) at c.in_ok-put_int32.ensures.ok in
    let final = c.put_int8.ensures.ok in
    on_ok c.put_int8.result _ _ (λ end. four _ (int64_bytes (pos 0)) (int32_bytes c.args.size) (int32_bytes (negsuc 0)) (int8_bytes (pos 2)) _ _ _ _ c.in_ok-put_int64.ensures.ok size c.in_ok-put_int32-2.ensures.ok end) final
