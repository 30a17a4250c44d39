use Rattle.std.specs.Prelude.{codes, string_bytes}
use Rattle.rest_replies.proofs.ListingLemmas.{places_more, places_whole}
use Rattle.rest_replies.proofs.listing.places_text.Goals as goal

pub loop-i-preserved : goal.loop-i-preserved
loop-i-preserved c =
    places_more c.args.places.now c.loop-i.i c.index-places-i.result (codes "{\"partitions\":[") (string_bytes c.loop-i.text) (string_bytes c.push_one.new.text) c.loop-i-test.true c.index-places-i.is c.loop-i.invariant c.in_ok-push_one.ensures

pub returns : goal.returns
returns c = places_whole c.args.places.now c.loop-i.i (string_bytes c.loop-i.text) (string_bytes c.push_str.new.self) c.loop-i-test.false c.loop-i.invariant c.in_ok-push_str.ensures.bytes
