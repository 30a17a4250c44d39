use Rattle.std.proofs.Common.{arith}
use Rattle.json_span.proofs.Turns as turns
use Rattle.std.proofs.Common.{Bool, subst}
use Rattle.json_span.specs.Steps.{AtValue}
use Rattle.json_span.proofs.reader.value.Goals as goal

pub returns-then-at-bytes-clause-err : goal.returns-then-at-bytes-clause-err
returns-then-at-bytes-clause-err c = turns.value_cut _ _ _ _ _ _ _ c.requires c.skip_blanks-at.ensures c.if-at-bytes.true

pub value_at-requires-clause-at : goal.value_at-requires-clause-at
value_at-requires-clause-at c = record { first = c.args.first; at = turns.value_moves _ _ _ _ _ _ _ c.requires c.skip_blanks-at.ensures }

pub returns-then-not-first-clause-err : goal.returns-then-not-first-clause-err
returns-then-not-first-clause-err c = let s = c.skip_blanks-at.ensures in turns.value_closes _ _ _ _ _ _ _ c.requires s (omega (arith, s.inside)) (omega arith) c.if-not-first.true

pub empty_array-requires-clause-at : goal.empty_array-requires-clause-at
empty_array-requires-clause-at c =
    let P : Bool → Type 0 = λ f. AtValue c.args.bytes.now c.skip_blanks-at.result f c.args.tree.now.nodes c.args.tree.now.source.items c.args.opens.now.items in
    subst P c.if-not-first.false (turns.value_moves _ _ _ _ _ _ _ c.requires c.skip_blanks-at.ensures)
