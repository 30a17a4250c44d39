use Rattle.json_span.proofs.Turns.{refused_text}
use Rattle.json_span.proofs.reader.read.Goals as goal

pub returns-in-Err-clause-accepts : goal.returns-in-Err-clause-accepts
returns-in-Err-clause-accepts c = λ j t. refused_text _ _ j c.in-Err.ensures.refused t
