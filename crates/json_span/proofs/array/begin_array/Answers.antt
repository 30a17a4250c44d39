use Rattle.std.proofs.Common.{arith}
use Rattle.json_span.proofs.Turns as turns
use Rattle.json_span.proofs.array.begin_array.Goals as goal

pub returns-then-len-ge-MAX_LEVELS-clause-err : goal.returns-then-len-ge-MAX_LEVELS-clause-err
returns-then-len-ge-MAX_LEVELS-clause-err c = λ nodes a. turns.array_too_deep _ _ nodes _ _ a c.requires.inside c.requires.bracket (omega arith)

pub returns-in-Ok-clause-ok : goal.returns-in-Ok-clause-ok
returns-in-Ok-clause-ok c = λ nodes a. turns.array_begins _ _ nodes _ _ _ _ _ a c.requires.inside c.requires.bracket (omega arith) c.in_default.ensures.ok c.in-Ok.ensures.ok (omega arith, c.new.ensures.items)
