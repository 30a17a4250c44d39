use Rattle.wire_prim.proofs.VarintLaws.{varlong_reads, varlong_spelled, varlong_shortest}
use Rattle.wire_prim.proofs.put.put_varlong.Goals as goal

pub returns-clause-reads : goal.returns-clause-reads
returns-clause-reads c = varlong_reads c.args.value _ c.ranges.value (varlong_spelled c.args.value c.ranges.value)

pub returns-clause-spells : goal.returns-clause-spells
returns-clause-spells c = varlong_spelled c.args.value c.ranges.value

pub returns-clause-shortest : goal.returns-clause-shortest
returns-clause-shortest c = λ item is. varlong_shortest _ c.args.value item is
