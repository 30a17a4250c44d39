use Rattle.avro_value.proofs.PartLemmas.{nodes_go, nodes_done}
use Rattle.avro_value.proofs.json_pick.last_nodes.Goals as goal

pub loop-member-preserved : goal.loop-member-preserved
loop-member-preserved c =
    nodes_go c.args.members.now c.loop-member.member-index c.member-item.result c.as_str.result c.loop-member.nodes c.insert.new.self c.loop-member-test.true c.member-item.is c.as_str.ensures c.loop-member.invariant c.in_ok-insert.ensures.updates

pub returns-clause-ok : goal.returns-clause-ok
returns-clause-ok c = nodes_done c.args.members.now c.loop-member.member-index c.loop-member.nodes c.loop-member-test.false c.loop-member.invariant
