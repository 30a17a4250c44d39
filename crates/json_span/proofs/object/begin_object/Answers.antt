use Rattle.std.proofs.Common.{arith, ap, ◌∙◌, Some}
use Rattle.json_span.proofs.Turns as turns
use Rattle.json_span.proofs.object.begin_object.Goals as goal

pub returns-then-len-ge-MAX_LEVELS-clause-err : goal.returns-then-len-ge-MAX_LEVELS-clause-err
returns-then-len-ge-MAX_LEVELS-clause-err c = turns.object_too_deep _ _ _ _ _ c.requires.at c.requires.inside c.requires.brace (omega arith)

pub returns-then-at-bytes-clause-err : goal.returns-then-at-bytes-clause-err
returns-then-at-bytes-clause-err c = turns.object_cut _ _ _ _ _ _ c.requires.at c.requires.inside c.requires.brace (omega arith) c.skip_blanks-at.ensures c.if-at-bytes.true

pub returns-in-Ok-push_open-clause-ok : goal.returns-in-Ok-push_open-clause-ok
returns-in-Ok-push_open-clause-ok c = turns.first_member _ _ _ _ _ _ _ _ _ _ _ _ c.requires.at c.requires.inside c.requires.brace (omega arith) c.skip_blanks-at.ensures c.in_default.ensures.ok c.in-Ok.ensures.ok c.in-Ok-push_open.ensures.ok (λ x y. (omega arith, c.new.ensures.items, x, y))

pub returns-in-Err-member_name-clause-err : goal.returns-in-Err-member_name-clause-err
returns-in-Err-member_name-clause-err c = c.in-Err-member_name.ensures.err _ _ (turns.first_name_at _ _ _ _ _ _ c.requires.at c.requires.inside c.requires.brace (omega arith) c.skip_blanks-at.ensures)

pub returns-then-bytes-at-ne125-clause-err : goal.returns-then-bytes-at-ne125-clause-err
returns-then-bytes-at-ne125-clause-err c = let s = c.skip_blanks-at.ensures in turns.object_breaks _ _ _ _ _ _ c.requires.at c.requires.inside c.requires.brace (omega arith) s (omega (arith, s.inside)) c.if-bytes-at-eq34.false c.if-bytes-at-ne125.true

pub returns-in-Ok-close-clause-ok : goal.returns-in-Ok-close-clause-ok
returns-in-Ok-close-clause-ok c = let s = c.skip_blanks-at.ensures in turns.empty_object _ _ _ _ _ _ _ _ _ _ _ _ c.requires.at c.requires.inside c.requires.brace (omega arith) s (omega (arith, s.inside)) (omega arith) c.in_default.ensures.ok c.in-Ok-close.ensures.source (omega arith) c.in-Ok-close.ensures.ok.1 c.in-Ok-close.ensures.ok.0 (c.object_of.ensures ∙ ap Some c.new-2.ensures.items)
