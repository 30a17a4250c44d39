use Rattle.std.proofs.Common.{◌≡◌, ◌+◌, ◌++◌, drop, length, map}
use Rattle.std.specs.Prelude.{filter}
use Rattle.broker_link.specs.Fetching.{at_of}
use Rattle.consumer_state.specs.Fix.{is_new, merged}
use Rattle.broker_link.specs.Places.{place_of}
use Rattle.consumer_state.proofs.known.known_of.Given as goal

abbrev pub invariant-loop-part : goal.invariant-loop-part
invariant-loop-part l = record {
  whole : l.known.items ++ merged (map place_of l.kept) (map at_of (drop l.part-index l.parts)) l.offsets l.next ≡ merged (map place_of l.kept) (map at_of l.parts) l.offsets 0;
  room : l.next + length (filter (is_new (map place_of l.kept)) (map at_of (drop l.part-index l.parts))) ≡ length l.offsets;
}
