use Rattle.std.specs.Prelude.{string_bytes}
use Rattle.avro_schema.specs.Nodes.{tree_of}
use Rattle.avro_datum.specs.Data.{value_of}
use Rattle.avro_datum.proofs.JsonWhole.{text_behind, text_only}
use Rattle.avro_datum.proofs.datum.Datum.text_into.Goals as goal

pub returns-clause-again : goal.returns-clause-again
returns-clause-again c = text_behind string_bytes (string_bytes c.args.front) (tree_of c.args.schema.now) (value_of c.args.self.now) c.write_all.result c.names_differ.ensures c.write_all.ensures.typed c.write_all.ensures.value

pub returns-clause-only : goal.returns-clause-only
returns-clause-only c = text_only (tree_of c.args.schema.now) (value_of c.args.self.now) c.write_all.result c.write_all.ensures.refusal
