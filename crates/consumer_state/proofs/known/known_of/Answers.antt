use Rattle.std.proofs.Common.{map}
use Rattle.broker_link.specs.Places.{place_of}
use Rattle.consumer_state.proofs.Knowing.{has_offset, merged_end, merged_next, room_next}
use Rattle.consumer_state.proofs.known.known_of.Goals as goal

pub put_known-requires : goal.put_known-requires
put_known-requires c = record {
  within = λ none.
      has_offset (map place_of c.args.kept.now) c.args.parts.now c.loop-part.part-index c.part-item.result c.loop-part.next c.args.offsets.now c.loop-part-test.true c.part-item.is c.loop-part.invariant.room none;
}

pub loop-part-preserved : goal.loop-part-preserved
loop-part-preserved c =
    let kept = map place_of c.args.kept.now in
    record {
      whole = merged_next kept c.args.parts.now c.loop-part.part-index c.part-item.result c.loop-part.next c.in_ok-next.next c.args.offsets.now c.loop-part.known.items c.put_known.new.known.items _ c.loop-part-test.true
          c.part-item.is c.loop-part.invariant.whole c.in_ok-next.ensures.put c.in_ok-next.ensures.next;
      room = room_next kept c.args.parts.now c.loop-part.part-index c.part-item.result c.loop-part.next c.in_ok-next.next c.args.offsets.now c.loop-part-test.true c.part-item.is c.loop-part.invariant.room c.in_ok-next.ensures.next;
    }

pub returns : goal.returns
returns c = merged_end (map place_of c.args.kept.now) c.args.parts.now c.loop-part.part-index c.loop-part.next c.args.offsets.now c.loop-part.known.items _ c.loop-part-test.false c.loop-part.invariant.whole
