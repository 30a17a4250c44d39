use Rattle.std.proofs.Common.{inl}
use Rattle.rest_replies.proofs.FailureLemmas.{says_refused}
use Rattle.rest_replies.proofs.failure.refused.Goals as goal

pub returns-in-Ok : goal.returns-in-Ok
returns-in-Ok c = record { says = inl (says_refused c.args.code c.in-Ok.reply c.requires c.in-Ok.ensures) }
