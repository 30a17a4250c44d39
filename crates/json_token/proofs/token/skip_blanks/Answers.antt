use Rattle.std.proofs.Common.{arith, sym, ◌∙◌}
use Rattle.json_token.proofs.TokenEndLemmas.{skip_more, skip_end}
use Rattle.json_token.proofs.token.skip_blanks.Goals as goal

pub loop-at-preserved : goal.loop-at-preserved
loop-at-preserved c = (omega arith, omega arith, skip_more _ _ _ c.loop-at.invariant.0 (omega arith) c.loop-at.invariant.2 (sym c.is_blank.ensures ∙ c.if-is_blank.true))

pub returns-else-is_blank : goal.returns-else-is_blank
returns-else-is_blank c = skip_end _ _ _ c.loop-at.invariant.0 c.loop-at.invariant.1 c.loop-at.invariant.2 (λ h. sym c.is_blank.ensures ∙ c.if-is_blank.false)
