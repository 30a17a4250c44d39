use Rattle.json_span.proofs.Lifts.{text_end, text_stops}
use Rattle.json_span.proofs.Turns.{between_quotes}
use Rattle.json_span.proofs.scalar.text_value.Goals as goal

pub returns-in-Err-clause-err : goal.returns-in-Err-clause-err
returns-in-Err-clause-err c = λ opens a. text_stops _ _ _ _ opens _ a c.in-Err.ensures.err

pub returns-in-Ok-add_token-clause-ok : goal.returns-in-Ok-add_token-clause-ok
returns-in-Ok-add_token-clause-ok c = λ opens a. text_end _ _ _ _ _ _ _ _ opens _ a c.in-Ok.ensures.ok c.in-Ok-form_of.ensures.ok c.in-Ok-add_token.ensures.ok

pub form_of-requires-clause-valid : goal.form_of-requires-clause-valid
form_of-requires-clause-valid c = between_quotes _ _ _ c.in-Ok.ensures.ok
