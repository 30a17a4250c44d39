use Rattle.std.proofs.Common.{arith}
use Rattle.json_span.proofs.Turns as turns
use Rattle.json_span.proofs.array.push_item.Goals as goal

pub returns-in-Some-clause-ok : goal.returns-in-Some-clause-ok
returns-in-Some-clause-ok c = turns.pushed c.args.node _ c.args.opens.now.items c.in-Some.top.now c.add_item.new.top c.add_item.result (omega arith) (omega (arith, c.in-Some.ensures.item)) c.in-Some.ensures.value c.add_item.ensures.ok
