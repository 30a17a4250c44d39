use Rattle.avro_schema.specs.Nodes.{tree_of}
use Rattle.avro_datum.proofs.JsonWhole.{read_is_json, read_only}
use Rattle.avro_datum.proofs.datum.Datum.read.Goals as goal

pub returns : goal.returns
returns c = record {
  value = λ j here. read_is_json (tree_of c.args.schema.now) j c.read_all.result (c.read_all.ensures j here);
  only = λ j here. read_only (tree_of c.args.schema.now) j c.read_all.result (c.read_all.ensures j here);
  reading = c.read_all.ensures;
}
