use Rattle.std.proofs.Common.{◌≡◌, take, map}
use Rattle.model.specs.state.World.{IsLow}
use Rattle.instance.specs.Gathering.{put_all}
use Rattle.broker_link.specs.Places.{place_of}
use Rattle.instance.proofs.resets.put_told.Given as goal

abbrev pub invariant-loop-i : goal.invariant-loop-i
invariant-loop-i l = record {
  places : map place_of l.places ≡ put_all (map place_of l.fn.places) (take l.i l.told);
  kept : IsLow (map place_of l.fn.places) → IsLow (map place_of l.places);
}
