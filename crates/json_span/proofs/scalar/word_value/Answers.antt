use Rattle.json_span.proofs.Turns.{word_stops}
use Rattle.json_span.proofs.scalar.word_value.Goals as goal

pub returns-in-Err-clause-err : goal.returns-in-Err-clause-err
returns-in-Err-clause-err c = word_stops _ _ _ _ c.in-Err.ensures.err
