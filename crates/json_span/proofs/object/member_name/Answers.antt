use Rattle.std.proofs.Common.{arith, ap, ◌∙◌, ◌++◌, ◌∷◌, []}
use Rattle.json_span.proofs.Turns as turns
use Rattle.json_span.proofs.object.member_name.Goals as goal

pub returns-in-Err-clause-err : goal.returns-in-Err-clause-err
returns-in-Err-clause-err c = λ frames front a. turns.name_refused _ _ frames front _ a c.in-Err.ensures.err

pub returns-then-at-bytes-clause-err : goal.returns-then-at-bytes-clause-err
returns-then-at-bytes-clause-err c = λ frames front a. turns.colon_cut _ _ _ _ frames front c.in-Ok.ensures.ok c.skip_blanks-at.ensures c.if-at-bytes.true a

pub returns-then-bytes-at-ne58-clause-err : goal.returns-then-bytes-at-ne58-clause-err
returns-then-bytes-at-ne58-clause-err c = let s = c.skip_blanks-at.ensures in λ frames front a. turns.colon_breaks _ _ _ _ frames front c.in-Ok.ensures.ok s (omega (arith, s.inside)) c.if-bytes-at-ne58.true a

pub returns-in-Ok-push_byte-clause-ok : goal.returns-in-Ok-push_byte-clause-ok
returns-in-Ok-push_byte-clause-ok c = let s = c.skip_blanks-at.ensures in turns.named_to _ _ _ _ _ _ _ c.in-Ok.ensures.ok s (omega (arith, s.inside)) (omega arith) c.in-Ok-name_of.ensures.ok (c.in-Ok-push_byte.ensures.ok ∙ ap (λ x. x ++ (58 ∷ [])) c.in_default.ensures.ok)

pub name_of-requires-clause-valid : goal.name_of-requires-clause-valid
name_of-requires-clause-valid c = turns.between_quotes _ _ _ c.in-Ok.ensures.ok
