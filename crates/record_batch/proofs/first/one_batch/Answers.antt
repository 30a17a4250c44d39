use Rattle.std.proofs.Common.{arith}
use Rattle.record_batch.proofs.OneBatchLemmas.{one_is, said_of_one}
use Rattle.record_batch.proofs.first.one_batch.Goals as goal

pub returns-in-Ok-Some-clause-some : goal.returns-in-Ok-Some-clause-some
returns-in-Ok-Some-clause-some c =
    let judges = rw c.in-Ok-Some.field-0-is at c.in-Ok-Some.ensures.judges in
    (judges.0, one_is c.args.bytes.now c.in-Ok-Some.first judges.0 judges.1 c.if-first.true (omega arith) (omega arith), judges.1.count)

pub returns-in_default-2-clause-none : goal.returns-in_default-2-clause-none
returns-in_default-2-clause-none c = λ none rows one.
    let judges = rw c.in-Ok-Some.field-0-is at c.in-Ok-Some.ensures.judges in
    let said = said_of_one c.args.bytes.now rows c.in-Ok-Some.first judges one in
    absurd (omega (arith, said.count, one.some))

pub returns-in_default-3-clause-none : goal.returns-in_default-3-clause-none
returns-in_default-3-clause-none c = λ none rows one.
    let judges = rw c.in-Ok-Some.field-0-is at c.in-Ok-Some.ensures.judges in
    let said = said_of_one c.args.bytes.now rows c.in-Ok-Some.first judges one in
    absurd (cc (said.contiguous, c.if-first.false))
