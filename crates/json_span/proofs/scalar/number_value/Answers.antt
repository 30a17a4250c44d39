use Rattle.json_span.proofs.Lifts.{number_end, number_stops}
use Rattle.json_span.proofs.scalar.number_value.Goals as goal

pub returns-in-Err-clause-err : goal.returns-in-Err-clause-err
returns-in-Err-clause-err c = λ opens a. number_stops _ _ _ _ opens _ a c.in-Err.ensures.err

pub returns-in-Ok-add_token-clause-ok : goal.returns-in-Ok-add_token-clause-ok
returns-in-Ok-add_token-clause-ok c = λ opens a. number_end _ _ _ _ _ _ _ _ opens a c.in-Ok.ensures.ok c.in-Ok-add_token.ensures.ok
