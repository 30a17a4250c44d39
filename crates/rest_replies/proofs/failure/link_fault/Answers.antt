use Rattle.std.proofs.Common.{inl, ap, ◌∙◌, List, ℕ}
use Rattle.model.specs.texts.Texts.{error_text}
use Rattle.rest_replies.proofs.FailureLemmas.{error_is}
use Rattle.rest_replies.proofs.failure.link_fault.Goals as goal

pub returns-in-Ok : goal.returns-in-Ok
returns-in-Ok c = record { says = inl (λ advertise forms call. error_is 50003 c.in-Ok.text ∙ ap (λ (l : List ℕ). error_text 50003 l) c.in-Ok.ensures) }
