use Rattle.std.proofs.Common.{sym, map, arith, None}
use Rattle.std.proofs.lemmas.List.{get_or_default, length-map}
use Rattle.broker_link.specs.Places.{place_of}
use Rattle.instance.proofs.Resetting.{put_none, put_more}
use Rattle.instance.proofs.resets.put_told.Goals as goal

pub loop-i-init : goal.loop-i-init
loop-i-init c = record { places = sym (put_none (map place_of c.args.places.now)); kept = λ h. h }

pub loop-i-preserved : goal.loop-i-preserved
loop-i-preserved c =
    record { places = put_more (map place_of c.args.places.now) c.args.told.now c.loop-i.i _ (map place_of c.loop-i.places) (map place_of c.put_one.new.places) c.loop-i-test.true (omega (arith, c.requires.same, length-map c.args.places.now place_of)) (get_or_default c.args.told.now c.loop-i.i None _ c.loop-i-test.true) c.loop-i.invariant.places c.put_one.ensures.places; kept = λ h. c.put_one.ensures.kept (c.loop-i.invariant.kept h) }
