use Rattle.wire_layout.proofs.Loops.{put_more, fits_more}
use Rattle.wire_layout.proofs.array.put_items.Goals as goal

pub loop-item-preserved : goal.loop-item-preserved
loop-item-preserved g c =
    let kept = c.loop-item.invariant in
    record {
      written = put_more g.T.Put.layout.spelling c.args.items.now c.loop-item.item-index _ _ _ _ c.loop-item-test.true c.item-item.is kept.written c.in_ok-put.ensures.ok;
      fits = fits_more g.T.Put.layout.fits c.args.items.now c.loop-item.item-index _ c.loop-item-test.true c.item-item.is kept.fits c.in_ok-put.ensures.fits;
    }
