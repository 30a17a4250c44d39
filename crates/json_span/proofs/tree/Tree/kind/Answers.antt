use Rattle.json_span.proofs.Lookups as lookups
use Rattle.json_span.proofs.tree.Tree.kind.Goals as goal

pub kind-requires : goal.kind-requires
kind-requires c = lookups.node_inside _ _ _ _ c.requires.1

pub returns-clause-value : goal.returns-clause-value
returns-clause-value c = λ j h. lookups.kind_stands _ _ _ _ j c.kind.ensures h

pub returns-clause-is : goal.returns-clause-is
returns-clause-is c = lookups.kind_is c.args.self.now c.args.node _ c.requires c.kind.ensures
