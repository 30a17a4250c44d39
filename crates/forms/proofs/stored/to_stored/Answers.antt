use Rattle.std.proofs.Common.{List, ℕ, refl, sym, subst}
use Rattle.std.specs.Prelude.{codes}
use Rattle.json_span.specs.Json.{Json}
use Rattle.json_span.specs.Refusals.{max_levels}
use Rattle.json_span.specs.Text.{IsText}
use Rattle.forms.proofs.ShownLemmas.{some_text_shown}
use Rattle.forms.proofs.stored.to_stored.Goals as goal

pub returns-in_ok-copied-in-Json-clause-again : goal.returns-in_ok-copied-in-Json-clause-again
returns-in_ok-copied-in-Json-clause-again c = λ j stands within same.
    some_text_shown c.in_ok-copied-in-Json.field-0 j (subst (λ (bytes : List ℕ). IsText max_levels bytes j) (sym c.in_ok-copied-in-Json.ensures) (c.text_of.ensures.again j stands max_levels within))

pub returns-then-eq-clause-again : goal.returns-then-eq-clause-again
returns-then-eq-clause-again c = λ j stands within same. (codes "null", refl)
