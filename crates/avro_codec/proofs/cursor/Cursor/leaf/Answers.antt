use Rattle.std.proofs.Common.{length, subst, List, ℕ}
use Rattle.avro_schema.specs.Types.{enum_}
use Rattle.avro_schema.specs.Nodes.{IsOfKind}
use Rattle.avro_datum.specs.Data.{value_of}
use Rattle.avro_codec.specs.Reading.{Reads, enum_at}
use Rattle.avro_value.proofs.PickLemmas.{resolves_is}
use Rattle.avro_codec.proofs.cursor.Cursor.leaf.Goals as goal

pub returns-in-Enum-clause-value : goal.returns-in-Enum-clause-value
returns-in-Enum-clause-value c t stands inner =
    let s = c.args.schema.now in
    let e = subst (λ k. IsOfKind s c.args.place k) c.in-Enum.is c.requires.kind in
    rw (resolves_is s c.args.place t (enum_ e.0 e.1) stands e.2) (subst (λ (symbols : List (List ℕ)). Reads value_of c.symbol.result (enum_at c.args.node (length symbols) c.args.self.now) c.symbol.new.self) (c.symbols.ensures e.0 e.1 e.2) c.symbol.ensures.value)
