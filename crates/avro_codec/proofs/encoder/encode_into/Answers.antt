use Rattle.avro_schema.specs.Nodes.{tree_of}
use Rattle.avro_datum.specs.Data.{value_of}
use Rattle.avro_codec.proofs.Whole.{written_spells, written_only, written_refusal}
use Rattle.avro_codec.proofs.encoder.encode_into.Goals as goal

pub returns : goal.returns
returns c = record {
  value = c.write_all.ensures.value;
  spells = written_spells (tree_of c.args.schema.now) (value_of c.args.datum.now) c.write_all.result c.write_all.ensures.verdict;
  only = written_only (tree_of c.args.schema.now) (value_of c.args.datum.now) c.write_all.result c.write_all.ensures.verdict;
  refusal = written_refusal (tree_of c.args.schema.now) (value_of c.args.datum.now) c.write_all.result c.write_all.ensures.verdict;
}
