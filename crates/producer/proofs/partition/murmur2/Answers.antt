use Rattle.std.proofs.Common.{◌≡◌, ◌++◌, ◌∙◌, ap, take-append-drop}
use Rattle.model.specs.state.Hashes.{murmur_on}
use Rattle.producer.proofs.partition.murmur2.Goals as goal

whole : (c : goal.After-behind_four-hash) → c.in-Some.four.now ++ c.in-Some.after.now ≡ c.loop-four.rest.now
whole c = rw (c.in-Some.ensures.cases.0, c.in-Some.ensures.cases.1) (take-append-drop 4 c.loop-four.rest.now)

pub loop-four-preserved : goal.loop-four-preserved
loop-four-preserved c = c.behind_four-hash.ensures c.in-Some.after.now ∙ ap (murmur_on c.loop-four.hash) (whole c) ∙ c.loop-four.invariant
