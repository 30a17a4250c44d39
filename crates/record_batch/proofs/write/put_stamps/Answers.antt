use Rattle.std.proofs.Common.{pos}
use Rattle.std.specs.Int.{w32, w64}
use Rattle.std.proofs.lemmas.Int.{to_z-of_z}
use Rattle.wire_prim.specs.Item.{int16_bytes, int32_bytes, int64_bytes}
use Rattle.record_batch.specs.Written.{stamps_bytes}
use Rattle.record_batch.proofs.Appending.{on_ok, four}
use Rattle.record_batch.proofs.write.put_stamps.Goals as goal

pub returns : goal.returns
unfolding stamps_bytes
returns c =
    let last = rw (to_z-of_z w32 c.args.last c.ranges.last) at c.in_ok-put_int32.ensures.ok in
    let base = rw (to_z-of_z w64 c.args.base_ts c.ranges.base_ts) at c.in_ok-put_int64.ensures.ok in
    let final = rw (to_z-of_z w64 c.args.base_ts c.ranges.base_ts) at c.put_int64-2.ensures.ok in
    on_ok c.put_int64-2.result _ _ (λ end. four _ (int16_bytes (pos 0)) (int32_bytes c.args.last) (int64_bytes c.args.base_ts) (int64_bytes c.args.base_ts) _ _ _ _ c.in_ok-put_int16.ensures.ok last base end) final
