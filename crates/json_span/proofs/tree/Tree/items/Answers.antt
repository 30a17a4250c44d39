use Rattle.json_span.specs.Json.{array}
use Rattle.json_span.proofs.Lookups as lookups
use Rattle.json_span.proofs.tree.Tree.items.Goals as goal

pub items-requires : goal.items-requires
items-requires c = lookups.node_inside c.args.self.now.nodes c.args.self.now.source.items c.args.node (array c.requires.0) c.requires.1

pub returns-clause-value : goal.returns-clause-value
returns-clause-value c = λ js h. (lookups.items_stand c.args.self.now.nodes c.args.self.now.source.items c.args.node _ js c.items.ensures h).0

pub returns-clause-below : goal.returns-clause-below
returns-clause-below c = (lookups.items_stand c.args.self.now.nodes c.args.self.now.source.items c.args.node _ c.requires.0 c.items.ensures c.requires.1).1
