use Rattle.std.proofs.Common.{◌≡◌, Ok, subst}
use Rattle.avro_schema.specs.Nodes.{tree_of}
use Rattle.avro_datum.specs.Data.{value_of}
use Rattle.avro_value.specs.Value.{max_levels}
use Rattle.avro_codec.specs.Reading.{Place, value_at}
use Rattle.avro_value.specs.Steps.{Fails}
use Rattle.avro_codec.proofs.DecodeLemmas.{datum_read, datum_stop, datum_more}
use Rattle.avro_codec.proofs.decoder.read_all.Goals as goal

pub returns-in-Err : goal.returns-in-Err
returns-in-Err c =
    let whole = tree_of c.args.schema.now in
    datum_stop whole c.args.bytes.now c.in-Err.e (subst (λ (p : Place). Fails c.in-Err.e (value_at whole max_levels whole p)) c.new-cursor.ensures (c.in-Err.ensures.value whole c.root.ensures))

pub returns-then-is_at_end : goal.returns-then-is_at_end
returns-then-is_at_end c =
    let whole = tree_of c.args.schema.now in
    let read = subst (λ (p : Place). value_at whole max_levels whole p ≡ Ok (value_of c.in-Ok.datum, c.value.new.self)) c.new-cursor.ensures (c.in-Ok.ensures.value whole c.root.ensures) in
    datum_read whole c.args.bytes.now (value_of c.in-Ok.datum) c.value.new.self c.is_at_end.result read c.is_at_end.ensures c.if-is_at_end.true

pub returns-else-is_at_end : goal.returns-else-is_at_end
returns-else-is_at_end c =
    let whole = tree_of c.args.schema.now in
    let read = subst (λ (p : Place). value_at whole max_levels whole p ≡ Ok (value_of c.in-Ok.datum, c.value.new.self)) c.new-cursor.ensures (c.in-Ok.ensures.value whole c.root.ensures) in
    datum_more whole c.args.bytes.now (value_of c.in-Ok.datum) c.value.new.self c.is_at_end.result read c.is_at_end.ensures c.if-is_at_end.false
