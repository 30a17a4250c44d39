use Rattle.json_span.specs.Json.{object}
use Rattle.json_span.proofs.Lookups as lookups
use Rattle.json_span.proofs.tree.Tree.members.Goals as goal

pub members-requires : goal.members-requires
members-requires c = lookups.node_inside c.args.self.now.nodes c.args.self.now.source.items c.args.node (object c.requires.0) c.requires.1

pub returns-clause-value : goal.returns-clause-value
returns-clause-value c = λ ms h. (lookups.members_stand c.args.self.now.nodes c.args.self.now.source.items c.args.node _ ms c.members.ensures h).0

pub returns-clause-below : goal.returns-clause-below
returns-clause-below c = (lookups.members_stand c.args.self.now.nodes c.args.self.now.source.items c.args.node _ c.requires.0 c.members.ensures c.requires.1).1
