use Rattle.avro_schema.specs.Nodes.{tree_of}
use Rattle.avro_datum.specs.Data.{value_of}
use Rattle.avro_codec.specs.Plain.{plain}
use Rattle.avro_codec.proofs.Whole.{written_fresh, fresh_spells}
use Rattle.avro_codec.proofs.encoder.encode.Goals as goal

pub returns : goal.returns
returns c =
    let whole = tree_of c.args.schema.now in
    let v = value_of c.args.datum.now in
    let value = written_fresh c.encode_into.result (λ out. out.items) c.new.result.items (plain v) c.new.ensures.items c.encode_into.ensures.value in
    record {
      value = value;
      spells = fresh_spells c.encode_into.result (λ out. out.items) whole v value c.encode_into.ensures.spells;
      only = c.encode_into.ensures.only;
      refusal = c.encode_into.ensures.refusal;
    }
