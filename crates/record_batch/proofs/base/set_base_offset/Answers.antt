use Rattle.std.proofs.Common.{sym, subst, ◌-ℤ◌}
use Rattle.std.specs.Int.{w64}
use Rattle.std.proofs.lemmas.Int.{to_z-of_z}
use Rattle.wire_prim.specs.Behind.{int64_at}
use Rattle.record_batch.specs.Moved.{AreMoved}
use Rattle.record_batch.proofs.Moving.{batch_moved}
use Rattle.record_batch.proofs.base.set_base_offset.Goals as goal

pub returns-clause-rows : goal.returns-clause-rows
returns-clause-rows c =
    let bytes = rw (to_z-of_z w64 c.args.base c.ranges.base) at c.put_base.ensures.bytes in
    subst (AreMoved (c.args.base -ℤ int64_at c.args.batch.now) c.args.batch.now) (sym bytes) (batch_moved c.args.base c.args.batch.now c.ranges.base)
