use Rattle.std.proofs.Common.{◌-◌, length}
use Rattle.json_span.specs.Steps.{At}
use Rattle.json_span.proofs.reader.read_text.Given as goal

abbrev pub invariant-loop-next : goal.invariant-loop-next
invariant-loop-next l = At l.bytes l.next l.place l.tree.nodes l.tree.source.items l.opens.items

abbrev pub decreases-loop-next : goal.decreases-loop-next
decreases-loop-next l = length l.bytes - l.place
