use Rattle.std.proofs.Common.{ℕ, List, suc, sym, subst, ap}
use Rattle.avro_schema.specs.Types.{AvroType, enum_}
use Rattle.avro_schema.specs.Nodes.{IsOfKind}
use Rattle.avro_value.specs.Value as shapes
use Rattle.avro_datum.specs.Data.{value_of}
use Rattle.avro_value.specs.Reading.{Reads, body_at, symbol_at}
use Rattle.avro_value.specs.Reading as reading
use Rattle.avro_value.proofs.PickLemmas.{resolves_is}
use Rattle.avro_datum.proofs.ReadLemmas.{reads_along}
use Rattle.avro_datum.proofs.reader.leaf.Goals as goal

pub returns-in-Enum : goal.returns-in-Enum
returns-in-Enum c t stands j here inner =
    let s = c.args.schema.now in
    let k = c.args.number in
    let e = subst (λ kind. IsOfKind s c.args.place kind) c.in-Enum.is c.requires.kind in
    reads_along value_of c.read_symbol.result _ _ (suc k) (sym (ap (λ (u : AvroType). body_at inner u j k) (resolves_is s c.args.place t (enum_ e.0 e.1) stands e.2))) (c.read_symbol.ensures e.0 e.1 e.2 j here)
