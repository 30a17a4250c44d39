use Rattle.std.proofs.Common.{Bool, arith, subst}
use Rattle.json_span.specs.Steps.{PushesItem}
use Rattle.json_span.proofs.Turns as turns
use Rattle.json_span.proofs.array.next_item.Goals as goal

pub returns-in-Ok-clause-ok : goal.returns-in-Ok-clause-ok
returns-in-Ok-clause-ok c =
    let s = c.skip_blanks-at.ensures in
    let P : Bool → Type 0 = λ t. PushesItem c.args.node c.args.opens.now.items c.push_item.new.opens.items t in
    (omega (arith, s.moved), λ nodes a. turns.item_placed c.args.bytes.now c.args.place c.args.node c.skip_blanks-at.result nodes _ _ _ _ s (omega (arith, s.inside)) c.if-bytes-at-ne44.false c.in-Ok.ensures.ok (subst P c.in-Ok-true.field-0-test c.in-Ok-true.ensures.ok) a)
