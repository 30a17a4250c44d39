use Rattle.std.proofs.Common.{arith}
use Rattle.json_span.proofs.Turns as turns
use Rattle.json_span.proofs.array.after_item.Goals as goal

pub returns-then-at-bytes-clause-err : goal.returns-then-at-bytes-clause-err
returns-then-at-bytes-clause-err c = turns.item_cut _ _ _ _ _ _ _ _ c.requires c.skip_blanks-at.ensures c.if-at-bytes.true

pub returns-in-Ok-clause-ok : goal.returns-in-Ok-clause-ok
returns-in-Ok-clause-ok c = let s = c.skip_blanks-at.ensures in turns.item_follows _ _ _ _ _ _ _ _ _ _ _ c.requires s (omega (arith, s.inside)) c.if-bytes-at-eq44.true c.in_default.ensures.ok c.in-Ok.ensures.ok (λ x y. (x, y))

pub returns-then-bytes-at-ne93-clause-err : goal.returns-then-bytes-at-ne93-clause-err
returns-then-bytes-at-ne93-clause-err c = let s = c.skip_blanks-at.ensures in turns.item_breaks _ _ _ _ _ _ _ _ c.requires s (omega (arith, s.inside)) c.if-bytes-at-eq44.false c.if-bytes-at-ne93.true

pub returns-in-Ok-close-clause-ok : goal.returns-in-Ok-close-clause-ok
returns-in-Ok-close-clause-ok c = let s = c.skip_blanks-at.ensures in turns.array_closes _ _ _ _ _ _ _ _ _ _ _ _ c.requires s (omega (arith, s.inside)) (omega arith) c.in-Ok-close.ensures.source c.in-Ok-close.ensures.ok.1 c.in-Ok-close.ensures.ok.0 c.array_of.ensures
