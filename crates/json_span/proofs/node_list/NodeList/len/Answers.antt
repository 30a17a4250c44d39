use Rattle.std.proofs.Common.{ap, length, arith}
use Rattle.json_span.proofs.NodeListLemmas.{nodes_length}
use Rattle.json_span.proofs.node_list.NodeList.len.Goals as goal

pub returns : goal.returns
returns c = let n = nodes_length c.self.inside.beside c.self.inside.nodes.items in let v = ap length c.self.view_is in omega (arith, c.len.ensures)
