use Rattle.std.proofs.Common.{arith}
use Rattle.json_span.proofs.Turns as turns
use Rattle.json_span.proofs.object.after_member.Goals as goal

pub returns-then-at-bytes-clause-err : goal.returns-then-at-bytes-clause-err
returns-then-at-bytes-clause-err c = turns.member_cut _ _ _ _ _ _ _ _ c.requires c.skip_blanks-at.ensures c.if-at-bytes.true

pub next_member-requires-clause-at : goal.next_member-requires-clause-at
next_member-requires-clause-at c = turns.member_moves _ _ _ _ _ _ _ _ c.requires c.skip_blanks-at.ensures

pub returns-then-bytes-at-ne125-clause-err : goal.returns-then-bytes-at-ne125-clause-err
returns-then-bytes-at-ne125-clause-err c = let s = c.skip_blanks-at.ensures in turns.member_breaks _ _ _ _ _ _ _ _ c.requires s (omega (arith, s.inside)) c.if-bytes-at-eq44.false c.if-bytes-at-ne125.true

pub returns-in-Ok-clause-ok : goal.returns-in-Ok-clause-ok
returns-in-Ok-clause-ok c = let s = c.skip_blanks-at.ensures in turns.object_closes _ _ _ _ _ _ _ _ _ _ _ _ c.requires s (omega (arith, s.inside)) (omega arith) c.in-Ok.ensures.source c.in-Ok.ensures.ok.1 c.in-Ok.ensures.ok.0 c.object_of.ensures
