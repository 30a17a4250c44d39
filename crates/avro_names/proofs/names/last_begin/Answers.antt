use Rattle.std.proofs.Common.{arith}
use Rattle.avro_names.proofs.NameLemmas.{last_split_at, no_dot_at}
use Rattle.avro_names.proofs.names.last_begin.Goals as goal

pub returns-then-name-place-eq46-clause-last : goal.returns-then-name-place-eq46-clause-last
returns-then-name-place-eq46-clause-last c = (last_split_at _ _ c.loop-place-test.true c.loop-place.invariant.inside c.if-name-place-eq46.true c.loop-place.invariant.none).1

pub returns-then-name-place-eq46-clause-before : goal.returns-then-name-place-eq46-clause-before
returns-then-name-place-eq46-clause-before c = (last_split_at _ _ c.loop-place-test.true c.loop-place.invariant.inside c.if-name-place-eq46.true c.loop-place.invariant.none).0

pub returns-clause-last : goal.returns-clause-last
returns-clause-last c = (no_dot_at _ c.loop-place.place (omega arith) c.loop-place.invariant.none).1

pub returns-clause-before : goal.returns-clause-before
returns-clause-before c = (no_dot_at _ c.loop-place.place (omega arith) c.loop-place.invariant.none).0
