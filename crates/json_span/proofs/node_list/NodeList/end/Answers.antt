use Rattle.std.proofs.Common.{sym, ap, ◌∙◌, length, arith}
use Rattle.std.specs.List.{slice_get}
use Rattle.json_span.specs.declared.tree.Node.{Node}
use Rattle.json_span.proofs.NodeListLemmas as lemmas
use Rattle.json_span.proofs.node_list.NodeList.end.Goals as goal

pub index-requires : goal.index-requires
index-requires c = let n = lemmas.nodes_length c.self.inside.beside c.self.inside.nodes.items in let v = ap length c.self.view_is in omega (arith, c.requires)

pub returns : goal.returns
returns c = λ x h. let at = lemmas.node_at c.self.inside.beside c.self.inside.nodes.items c.args.node _ x c.index.ensures (ap (λ ns. slice_get ns c.args.node) c.self.view_is ∙ h) in sym (ap (λ (y : Node). y.end) at)
