use Rattle.std.proofs.Common.{sym, ◌∙◌}
use Rattle.json_span.proofs.Turns as turns
use Rattle.json_span.proofs.Lifts as lifts
use Rattle.json_token.proofs.TokenEndLemmas as steps
use Rattle.json_span.proofs.reader.value_at.Goals as goal

pub returns-then-byte-eq34-clause-err : goal.returns-then-byte-eq34-clause-err
returns-then-byte-eq34-clause-err c = turns.then_after_err _ _ _ c.after.ensures (turns.err_any _ _ _ _ _ _ c.text_value.ensures.err c.requires.at)

pub returns-then-begins_number-clause-err : goal.returns-then-begins_number-clause-err
returns-then-begins_number-clause-err c = turns.then_after_err _ _ _ c.after-then-begins_number.ensures (turns.err_any _ _ _ _ _ _ c.number_value.ensures.err c.requires.at)

pub returns-in-Err-clause-err : goal.returns-in-Err-clause-err
returns-in-Err-clause-err c = c.in-Err.ensures.err _ c.requires.at

pub returns-then-byte-eq116-clause-ok : goal.returns-then-byte-eq116-clause-ok
returns-then-byte-eq116-clause-ok c = turns.word_ok _ _ _ _ _ _ c.args.opens.now.items _ _ _ _ c.after-then-byte-eq116.ensures c.word_value.ensures.ok (λ to k w d. lifts.true_end _ _ to k _ _ _ _ _ c.requires.at w d)

pub returns-then-byte-eq116-clause-err : goal.returns-then-byte-eq116-clause-err
returns-then-byte-eq116-clause-err c = turns.word_err _ _ _ _ _ c.after-then-byte-eq116.ensures c.word_value.ensures.err (λ e w. lifts.true_stops _ _ _ _ _ _ e c.requires.at (steps.byte_first _ _ 116 c.requires.inside c.if-byte-eq116.true) w)

pub returns-then-byte-eq102-clause-ok : goal.returns-then-byte-eq102-clause-ok
returns-then-byte-eq102-clause-ok c = turns.word_ok _ _ _ _ _ _ c.args.opens.now.items _ _ _ _ c.after-then-byte-eq102.ensures c.word_value-then-byte-eq102.ensures.ok (λ to k w d. lifts.false_end _ _ to k _ _ _ _ _ c.requires.at w d)

pub returns-then-byte-eq102-clause-err : goal.returns-then-byte-eq102-clause-err
returns-then-byte-eq102-clause-err c = turns.word_err _ _ _ _ _ c.after-then-byte-eq102.ensures c.word_value-then-byte-eq102.ensures.err (λ e w. lifts.false_stops _ _ _ _ _ _ e c.requires.at (steps.byte_first _ _ 102 c.requires.inside c.if-byte-eq102.true) w)

pub returns-then-byte-eq110-clause-ok : goal.returns-then-byte-eq110-clause-ok
returns-then-byte-eq110-clause-ok c = turns.word_ok _ _ _ _ _ _ c.args.opens.now.items _ _ _ _ c.after-then-byte-eq110.ensures c.word_value-then-byte-eq110.ensures.ok (λ to k w d. lifts.null_end _ _ to k _ _ _ _ _ c.requires.at w d)

pub returns-then-byte-eq110-clause-err : goal.returns-then-byte-eq110-clause-err
returns-then-byte-eq110-clause-err c = turns.word_err _ _ _ _ _ c.after-then-byte-eq110.ensures c.word_value-then-byte-eq110.ensures.err (λ e w. lifts.null_stops _ _ _ _ _ _ e c.requires.at (steps.byte_first _ _ 110 c.requires.inside c.if-byte-eq110.true) w)

pub returns-clause-err : goal.returns-clause-err
returns-clause-err c = turns.value_breaks _ _ _ _ _ c.requires.at c.requires.inside c.requires.blank c.requires.open c.if-byte-eq34.false (sym c.begins_number.ensures ∙ c.if-begins_number.false) c.if-byte-eq123.false c.if-byte-eq91.false c.if-byte-eq116.false c.if-byte-eq102.false c.if-byte-eq110.false
