use Rattle.std.proofs.Common.{arith, sym, ◌∙◌, length}
use Rattle.std.proofs.lemmas.List.{take_rest}
use Rattle.json_token.proofs.Escapes as escapes
use Rattle.json_token.proofs.escape.unit.Goals as goal

pub returns-then-rest-lt4-clause-ok : goal.returns-then-rest-lt4-clause-ok
returns-then-rest-lt4-clause-ok c = let s = c.args.rest.now in escapes.short_ok _ s _ (length s) (omega arith) (escapes.unit_short s (omega arith))

pub returns-in-Ok-clause-ok : goal.returns-in-Ok-clause-ok
returns-in-Ok-clause-ok c = escapes.unit_high_ok _ _ _ _ _ (omega arith) c.code_unit-unit.ensures.value (sym c.is_high.ensures ∙ c.if-is_high.true) (rw take_rest at c.in-Ok.ensures.ok)

pub returns-in-Ok-push_char-clause-ok : goal.returns-in-Ok-push_char-clause-ok
returns-in-Ok-push_char-clause-ok c = escapes.unit_ok _ _ _ _ (omega arith) c.code_unit-unit.ensures.value (sym c.is_high.ensures ∙ c.if-is_high.false) c.in-Ok-push_char.ensures.ok
