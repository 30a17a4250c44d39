use Rattle.proxy_cli.proofs.Sending.{sends_so}
use Rattle.proxy_cli.proofs.Wants.{answered_or_want}
use Rattle.proxy_cli.proofs.session.exchange.Goals as goal

pub returns-clause-sent : goal.returns-clause-sent
returns-clause-sent g c = λ known.
    let found = c.answer-reply.ensures.answered known in
    sends_so _ _ (λ said or. (found.0, answered_or_want _ _ _ _ _ _ _ _ _ said _ found.1 or)) _ _ _ _ c.send.ensures.sent
