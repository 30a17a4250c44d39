use Rattle.std.proofs.Common.{◌≡◌, inl, ap, ◌∙◌, to_z, of_z, w16, arith}
use Rattle.std.proofs.lemmas.Int.{to_z-of_z}
use Rattle.rest_replies.specs.Failure.{broker_message, broker_number}
use Rattle.rest_replies.proofs.FailureLemmas.{says_broker}
use Rattle.rest_replies.proofs.failure.broker_refusal.Goals as goal

pub returns-in-Ok : goal.returns-in-Ok
returns-in-Ok c =
    let same : to_z w16 (of_z w16 c.args.code) ≡ c.args.code = grind (arith, to_z-of_z) in
    record { says = inl (says_broker c.args.code c.broker_number.result c.from_string.result (c.broker_number.ensures ∙ ap broker_number same) (c.from_string.ensures ∙ (c.in-Ok.ensures ∙ ap broker_message same))) }
