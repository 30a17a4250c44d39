use Rattle.std.proofs.Common.{◌∙◌, arith}
use Rattle.avro_schema.proofs.Found as found
use Rattle.avro_schema.proofs.schema.Schema.branch_name.Goals as goal

pub index-requires : goal.index-requires
index-requires c = let inside = found.has_node _ _ _ _ c.self.view_is c.self.invariant _ _ c.requires.1 in omega (arith, c.self.inside.parts.nodes.ok.0)

pub returns : goal.returns
returns c = λ t h. c.name_in.ensures ∙ found.name_is _ _ _ _ c.self.view_is c.self.invariant _ _ c.index.ensures t h
