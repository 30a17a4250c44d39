use Rattle.std.proofs.Common.{inl, ap, ◌∙◌, List, ℕ}
use Rattle.std.specs.Prelude.{None}
use Rattle.model.specs.texts.Texts.Response.{Body}
use Rattle.rest_replies.proofs.listing.listed.Goals as goal

pub returns-in-Ok : goal.returns-in-Ok
returns-in-Ok c = record { says = inl (λ advertise forms call. ap (λ (l : List ℕ). Body None l) (c.from_string.ensures ∙ c.in-Ok.ensures)) }
