use Rattle.avro_schema.specs.Nodes.{tree_of}
use Rattle.avro_codec.proofs.Whole.{read_spells, read_only}
use Rattle.avro_codec.proofs.decoder.decode.Goals as goal

pub returns : goal.returns
returns c = record {
  value = read_spells (tree_of c.args.schema.now) c.args.bytes.now c.read_all.result c.read_all.ensures;
  only = read_only (tree_of c.args.schema.now) c.args.bytes.now c.read_all.result c.read_all.ensures;
  reading = c.read_all.ensures;
}
