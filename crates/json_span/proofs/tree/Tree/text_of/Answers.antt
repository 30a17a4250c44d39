use Rattle.std.proofs.Common.{◌∙◌}
use Rattle.json_span.proofs.Lookups as lookups
use Rattle.json_span.proofs.tree.Tree.text_of.Goals as goal

pub start-requires : goal.start-requires
start-requires c = lookups.node_inside _ _ _ _ c.requires.1

pub end-requires : goal.end-requires
end-requires c = lookups.node_inside _ _ _ _ c.requires.1

pub part-bytes-requires-clause-order : goal.part-bytes-requires-clause-order
part-bytes-requires-clause-order c = (lookups.lies _ _ _ _ _ _ c.start.ensures c.end.ensures c.requires.1).order

pub part-bytes-requires-clause-inside : goal.part-bytes-requires-clause-inside
part-bytes-requires-clause-inside c = (lookups.lies _ _ _ _ _ _ c.start.ensures c.end.ensures c.requires.1).inside

pub from_utf8_unchecked-requires : goal.from_utf8_unchecked-requires
from_utf8_unchecked-requires c = lookups.text_utf8 _ _ _ _ _ (lookups.lies _ _ _ _ _ _ c.start.ensures c.end.ensures c.requires.1) c.part-bytes.ensures

pub returns-clause-value : goal.returns-clause-value
returns-clause-value c = λ j h. c.from_utf8_unchecked.ensures ∙ (c.part-bytes.ensures ∙ (lookups.lies _ _ _ _ _ j c.start.ensures c.end.ensures h).spells)

pub returns-clause-again : goal.returns-clause-again
returns-clause-again c = λ j h. lookups.text_again _ _ _ j _ (lookups.lies _ _ _ _ _ j c.start.ensures c.end.ensures h) (c.from_utf8_unchecked.ensures ∙ c.part-bytes.ensures)
