use Rattle.std.specs.Int.{w64}
use Rattle.std.proofs.lemmas.Int.{to_z-of_z}
use Rattle.record_batch.proofs.BatchTrip.{written_bytes, written_out}
use Rattle.record_batch.proofs.write.write_batch.Goals as goal

pub returns-clause-bytes : goal.returns-clause-bytes
returns-clause-bytes c =
    let fields = rw (to_z-of_z w64 c.args.base_ts c.ranges.base_ts) at c.in_ok-put_fields.ensures.ok in
    written_bytes c.args.base_ts c.args.rows.now _ _ _ _ _ c.in-Ok.ensures.items c.in_ok-put.ensures fields c.in_ok-put_records.ensures c.in_ok-set_head.ensures.ok

pub returns-clause-reads : goal.returns-clause-reads
returns-clause-reads c =
    let fields = rw (to_z-of_z w64 c.args.base_ts c.ranges.base_ts) at c.in_ok-put_fields.ensures.ok in
    written_out c.args.base_ts c.args.rows.now _ _ _ _ _ c.in-Ok.ensures.items c.in_ok-put.ensures fields c.in_ok-put_records.ensures c.in_ok-set_head.ensures.ok
    c.in_ok-put_fields.ensures.fits c.in_ok-set_head.ensures.fits c.in_ok-set_head.ensures.sum
