use Rattle.std.proofs.Common.{ap, ◌∙◌}
use Rattle.json_token.specs.Integer.{integer_of}
use Rattle.json_span.specs.Json.{number}
use Rattle.json_span.proofs.Lookups as lookups
use Rattle.json_span.proofs.tree.Tree.int_of.Goals as goal

pub start-requires : goal.start-requires
start-requires c = lookups.node_inside c.args.self.now.nodes c.args.self.now.source.items c.args.node (number c.requires.0) c.requires.1

pub end-requires : goal.end-requires
end-requires c = lookups.node_inside c.args.self.now.nodes c.args.self.now.source.items c.args.node (number c.requires.0) c.requires.1

pub part-requires-clause-order : goal.part-requires-clause-order
part-requires-clause-order c = (lookups.lies c.args.self.now.nodes c.args.self.now.source.items c.args.node _ _ (number c.requires.0) c.start.ensures c.end.ensures c.requires.1).order

pub part-requires-clause-inside : goal.part-requires-clause-inside
part-requires-clause-inside c = (lookups.lies c.args.self.now.nodes c.args.self.now.source.items c.args.node _ _ (number c.requires.0) c.start.ensures c.end.ensures c.requires.1).inside

pub returns : goal.returns
returns c = λ s h. c.integer_of.ensures ∙ ap integer_of (lookups.number_text _ _ _ s _ (lookups.lies c.args.self.now.nodes c.args.self.now.source.items c.args.node _ _ (number s) c.start.ensures c.end.ensures h) c.part.ensures)
