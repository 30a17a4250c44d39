use Rattle.std.proofs.Common.{sym}
use Rattle.command_words.proofs.Plans.{plans_of_words}
use Rattle.command_words.proofs.words.read_words.Goals as goal

pub returns-in-Ok-Some-clause-plans : goal.returns-in-Ok-Some-clause-plans
returns-in-Ok-Some-clause-plans c = plans_of_words _ c.in-Ok-Some.command (sym (rw c.in-Ok-Some.field-0-is at c.in-Ok-Some.ensures))
