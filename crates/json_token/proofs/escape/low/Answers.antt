use Rattle.std.proofs.Common.{arith, ap, ◌∙◌, ◌+◌, ◌-◌, ◌*◌, length}
use Rattle.json_token.proofs.Escapes as escapes
use Rattle.json_token.proofs.escape.low.Goals as goal

pub returns-then-rest-lt6-clause-ok : goal.returns-then-rest-lt6-clause-ok
returns-then-rest-lt6-clause-ok c = let s = c.args.rest.now in escapes.short_ok _ s _ (length s) (omega arith) (escapes.low_short c.args.high s (omega arith))

pub returns-in-Ok-clause-ok : goal.returns-in-Ok-clause-ok
returns-in-Ok-clause-ok c = escapes.low_ok _ _ _ _ _ (omega arith) c.in-Ok.ensures.ok (ap (λ y. 65536 + (c.args.high - 55296) * 1024 + y) (c.saturating_sub.ensures ∙ ap (λ u. u - 56320) c.code_unit-unit.ensures.value))
