use Rattle.json_span.proofs.Turns.{content_plain}
use Rattle.json_span.proofs.scalar.form_of.Goals as goal

pub returns-else-escapes-clause-ok : goal.returns-else-escapes-clause-ok
returns-else-escapes-clause-ok c = content_plain _ (c.requires.plain c.if-escapes.false)
