use Rattle.wire_prim.proofs.VarintLaws.{varint_reads, varint_spelled, varint_shortest}
use Rattle.wire_prim.proofs.put.put_varint.Goals as goal

pub returns-clause-reads : goal.returns-clause-reads
returns-clause-reads c = varint_reads c.args.value _ c.ranges.value (varint_spelled c.args.value c.ranges.value)

pub returns-clause-spells : goal.returns-clause-spells
returns-clause-spells c = varint_spelled c.args.value c.ranges.value

pub returns-clause-shortest : goal.returns-clause-shortest
returns-clause-shortest c = λ item is. varint_shortest _ c.args.value item is
