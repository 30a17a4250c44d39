use Rattle.std.proofs.Common.{ap, ◌∙◌}
use Rattle.avro_names.specs.NameList.{place_of}
use Rattle.avro_schema.proofs.Found as found
use Rattle.avro_schema.proofs.schema.Schema.symbol.Goals as goal

pub form_of-requires-clause-inside : goal.form_of-requires-clause-inside
form_of-requires-clause-inside c = found.has_node _ _ _ _ c.self.view_is c.self.invariant _ _ c.requires.2.1

pub returns : goal.returns
returns c = λ n ss r. c.symbol_in.ensures ∙ ap (place_of c.args.symbol.now) (found.symbols_are _ _ _ _ c.self.view_is c.self.invariant _ _ (c.form_of.ensures _ c.self.invariant) n ss r)
