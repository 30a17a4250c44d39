use Rattle.std.proofs.Common.{◌∙◌}
use Rattle.json_span.specs.Json.{text}
use Rattle.json_span.proofs.Lookups as lookups
use Rattle.json_span.proofs.tree.Tree.string_of.Goals as goal

pub escaped-requires : goal.escaped-requires
escaped-requires c = lookups.node_inside c.args.self.now.nodes c.args.self.now.source.items c.args.node (text c.requires.0) c.requires.1

pub start-start-requires : goal.start-start-requires
start-start-requires c = lookups.node_inside c.args.self.now.nodes c.args.self.now.source.items c.args.node (text c.requires.0) c.requires.1

pub end-end-requires : goal.end-end-requires
end-end-requires c = lookups.node_inside c.args.self.now.nodes c.args.self.now.source.items c.args.node (text c.requires.0) c.requires.1

pub from_utf8_unchecked-requires : goal.from_utf8_unchecked-requires
from_utf8_unchecked-requires c = lookups.chars_text _ _ _ _ _ (lookups.inner _ _ _ _ (lookups.lies c.args.self.now.nodes c.args.self.now.source.items c.args.node _ _ (text c.requires.0) c.start-start.ensures c.end-end.ensures c.requires.1)) c.part-bytes.ensures

pub part-bytes-requires-clause-order : goal.part-bytes-requires-clause-order
part-bytes-requires-clause-order c = (lookups.inner _ _ _ _ (lookups.lies c.args.self.now.nodes c.args.self.now.source.items c.args.node _ _ (text c.requires.0) c.start-start.ensures c.end-end.ensures c.requires.1)).order

pub part-bytes-requires-clause-inside : goal.part-bytes-requires-clause-inside
part-bytes-requires-clause-inside c = (lookups.inner _ _ _ _ (lookups.lies c.args.self.now.nodes c.args.self.now.source.items c.args.node _ _ (text c.requires.0) c.start-start.ensures c.end-end.ensures c.requires.1)).inside

pub returns-in-Some : goal.returns-in-Some
returns-in-Some c = λ s h. lookups.escaped_content c.args.self.now.nodes c.args.self.now.source.items c.args.node s _ h c.in-Some.ensures

pub returns-in-None : goal.returns-in-None
returns-in-None c = λ s h. lookups.plain_content c.args.self.now.nodes c.args.self.now.source.items c.args.node _ _ s _ h c.in-None.ensures (lookups.inner _ _ _ _ (lookups.lies c.args.self.now.nodes c.args.self.now.source.items c.args.node _ _ (text s) c.start-start.ensures c.end-end.ensures h)) (c.from_utf8_unchecked.ensures ∙ c.part-bytes.ensures)
