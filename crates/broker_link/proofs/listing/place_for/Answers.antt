use Rattle.std.proofs.Common.{◌∙◌, ap, length, Option, ℕ}
use Rattle.std.specs.Option.{unwrap_or}
use Rattle.broker_link.specs.Infos.{is_below}
use Rattle.broker_link.proofs.Infos.{place_is}
use Rattle.broker_link.proofs.listing.place_for.Goals as goal

pub returns : goal.returns
returns c =
    c.unwrap_or.ensures ∙ (ap (λ (o : Option ℕ). unwrap_or o (length c.args.infos.now)) c.first_below.ensures ∙ place_is (is_below c.args.name.now) c.args.infos.now)
