use Rattle.std.proofs.Common.{arith}
use Rattle.json_span.proofs.Turns as turns
use Rattle.json_span.proofs.object.next_member.Goals as goal

pub returns-then-at-bytes-clause-err : goal.returns-then-at-bytes-clause-err
returns-then-at-bytes-clause-err c = turns.next_name_cut _ _ _ _ _ _ _ _ c.requires.at c.requires.inside c.requires.comma c.skip_blanks-at.ensures c.if-at-bytes.true

pub returns-then-bytes-at-ne34-clause-err : goal.returns-then-bytes-at-ne34-clause-err
returns-then-bytes-at-ne34-clause-err c = let s = c.skip_blanks-at.ensures in turns.next_name_breaks _ _ _ _ _ _ _ _ c.requires.at c.requires.inside c.requires.comma s (omega (arith, s.inside)) c.if-bytes-at-ne34.true

pub returns-in-Ok-push_open-clause-ok : goal.returns-in-Ok-push_open-clause-ok
returns-in-Ok-push_open-clause-ok c = turns.member_follows _ _ _ _ _ _ _ _ _ _ _ _ _ _ c.requires.at c.requires.inside c.requires.comma c.skip_blanks-at.ensures c.in_default.ensures.ok c.in-Ok.ensures.ok c.in-Ok-push_open.ensures.ok (λ x y z w. (x, y, z, w))

pub returns-in-Err-member_name-clause-err : goal.returns-in-Err-member_name-clause-err
returns-in-Err-member_name-clause-err c = c.in-Err-member_name.ensures.err _ _ (turns.next_name_at _ _ _ _ _ _ _ _ c.requires.at c.requires.inside c.requires.comma c.skip_blanks-at.ensures)
