use Rattle.std.proofs.Common.{ap}
use Rattle.wire_prim.specs.Reading.{Reading}
use Rattle.wire_layout.proofs.Refusals.{not_read, left_over}
use Rattle.wire_layout.proofs.whole.read_whole_placed.Goals as goal

pub returns-in-Err-clause-read : goal.returns-in-Err-clause-read
returns-in-Err-clause-read g c =
    let start = ap (λ (r : Reading). r.left) c.new-cursor.ensures in
    rw (c.refusal_at.ensures, c.refusal_of.ensures) (not_read g.T.Put.layout g.met.T.Laid.laid c.args.bytes.now _ c.in-Err.cause (rw start at c.in-Err.ensures.answer))

pub returns-else-left-eq0-clause-read : goal.returns-else-left-eq0-clause-read
returns-else-left-eq0-clause-read g c =
    let start = ap (λ (r : Reading). r.left) c.new-cursor.ensures in
    rw c.refusal_at-else-left-eq0.ensures (left_over g.T.Put.layout g.met.T.Laid.laid c.args.bytes.now _ _ (rw start at c.in-Ok.ensures.answer) c.left-left.ensures c.if-left-eq0.false)
