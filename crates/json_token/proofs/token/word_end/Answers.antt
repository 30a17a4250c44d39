use Rattle.std.proofs.Common.{arith}
use Rattle.json_token.proofs.TokenEndLemmas.{word_breaks, word_cut}
use Rattle.json_token.proofs.token.word_end.Goals as goal

pub returns-then-bytes-place-clause-err : goal.returns-then-bytes-place-clause-err
returns-then-bytes-place-clause-err c = word_cut _ _ _ _ (omega arith) (omega arith) c.loop-i.invariant.1

pub returns-then-bytes-place-2-clause-err : goal.returns-then-bytes-place-2-clause-err
returns-then-bytes-place-2-clause-err c = word_breaks _ _ _ _ (omega arith) (omega arith) c.loop-i.invariant.1 c.if-bytes-place-2.true
