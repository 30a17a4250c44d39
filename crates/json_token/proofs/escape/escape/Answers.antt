use Rattle.std.proofs.Common.{arith}
use Rattle.std.proofs.lemmas.List.{take_rest}
use Rattle.json_token.proofs.Escapes as escapes
use Rattle.json_token.proofs.escape.escape.Goals as goal

pub returns-then-rest-eq0-clause-ok : goal.returns-then-rest-eq0-clause-ok
returns-then-rest-eq0-clause-ok c = escapes.escape_empty _ _ (omega arith)

pub returns-in-Ok-clause-ok : goal.returns-in-Ok-clause-ok
returns-in-Ok-clause-ok c = escapes.escape_u_ok _ _ _ _ (omega arith) c.if-rest-eq117.true (rw take_rest at c.in-Ok.ensures.ok)

pub returns-in-Ok-push_byte-clause-ok : goal.returns-in-Ok-push_byte-clause-ok
returns-in-Ok-push_byte-clause-ok c = escapes.escape_short_ok _ _ _ _ (omega arith) c.if-rest-eq117.false c.short_escape.ensures c.in-Ok-push_byte.ensures.ok
