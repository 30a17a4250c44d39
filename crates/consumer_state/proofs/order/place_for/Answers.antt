use Rattle.std.proofs.Common.{◌∙◌, ap, length, Option, ℕ}
use Rattle.std.specs.Option.{unwrap_or}
use Rattle.broker_link.specs.Fetching.{at_of}
use Rattle.consumer_state.proofs.Sorting.{from_here, place_is}
use Rattle.consumer_state.proofs.order.place_for.Goals as goal

pub returns : goal.returns
returns c =
    c.unwrap_or.ensures ∙ (ap (λ (o : Option ℕ). unwrap_or o (length c.args.sorted.now)) c.first_from.ensures ∙ place_is (from_here (at_of c.args.part.now)) c.args.sorted.now)
