use Rattle.avro_schema.specs.Nodes.{tree_of}
use Rattle.avro_datum.proofs.ReadLemmas.{datum_is}
use Rattle.avro_datum.proofs.reader.read_all.Goals as goal

pub returns : goal.returns
returns c j here =
    let whole = tree_of c.args.schema.now in
    datum_is whole j c.read_value.result c.read_value.new.next (c.read_value.ensures whole c.root.ensures j here)
