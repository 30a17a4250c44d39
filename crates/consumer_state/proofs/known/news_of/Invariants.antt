use Rattle.std.proofs.Common.{◌≡◌, take, map}
use Rattle.std.specs.Prelude.{filter}
use Rattle.broker_link.specs.Fetching.{at_of}
use Rattle.consumer_state.specs.Fix.{is_new}
use Rattle.broker_link.specs.Places.{place_of}
use Rattle.consumer_state.proofs.known.news_of.Given as goal

abbrev pub invariant-loop-part : goal.invariant-loop-part
invariant-loop-part l = map at_of l.news.items ≡ filter (is_new (map place_of l.kept)) (map at_of (take l.part-index l.parts))
