use Rattle.std.specs.Prelude.{string_bytes}
use Rattle.avro_schema.specs.Nodes.{tree_of}
use Rattle.avro_datum.specs.Data.{value_of}
use Rattle.avro_datum.proofs.JsonWhole.{text_all_again, text_alone, text_only}
use Rattle.avro_datum.proofs.datum.Datum.text.Goals as goal

pub returns-clause-value : goal.returns-clause-value
returns-clause-value c = text_alone string_bytes _ (tree_of c.args.schema.now) (value_of c.args.self.now) c.write_all.result c.new.ensures.bytes c.write_all.ensures.value

pub returns-clause-again : goal.returns-clause-again
returns-clause-again c =
    let value = text_alone string_bytes _ (tree_of c.args.schema.now) (value_of c.args.self.now) c.write_all.result c.new.ensures.bytes c.write_all.ensures.value in
    text_all_again string_bytes (tree_of c.args.schema.now) (value_of c.args.self.now) c.write_all.result c.names_differ.ensures c.write_all.ensures.typed value

pub returns-clause-only : goal.returns-clause-only
returns-clause-only c = text_only (tree_of c.args.schema.now) (value_of c.args.self.now) c.write_all.result c.write_all.ensures.refusal
