use Rattle.wire_prim.proofs.VarintLaws.{varint_reads, varlong_reads, varint_at_front}
use Rattle.wire_prim.proofs.laws.varints_have_one_reading.Goals as goal

pub returns : goal.returns
returns c = record {
  varint = λ value item fits is. (varint_reads value item fits is, λ rest. varint_at_front 5 value item rest is);
  varlong = λ value item fits is. (varlong_reads value item fits is, λ rest. varint_at_front 10 value item rest is);
}
