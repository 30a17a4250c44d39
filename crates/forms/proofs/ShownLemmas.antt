-- From what a JSON text was read as to its value, and to how it is shown.
use Rattle.std.proofs.Common.{◌≡◌, ◌∙◌, ℕ, List, Some, None, refl, ap, inl, inr}
use Rattle.json_span.specs.Json.{Json}
use Rattle.json_span.specs.Refusals.{max_levels}
use Rattle.json_span.specs.Text.{IsText, compact}
use Rattle.model.specs.state.Forms.Showing.{Text, Unshown}
use Rattle.forms.specs.Text.{value_of}
use Rattle.forms.specs.decide.Decisions.{Decided}
use Rattle.forms.specs.decide.Values.{IsSomeText, decided_text, found}
use Rattle.forms.specs.Shown.{showing_of, text_or_not}
use Rattle.forms.specs.declared.format.Format.TheVariants.{Json as InJson}

found_is : (bytes : List ℕ) (j : Json) → IsText max_levels bytes j → ((levels : ℕ) (k : Json) → IsText levels bytes k → k ≡ j) → (d : Decided (IsSomeText max_levels bytes)) → found max_levels bytes d ≡ Some j
found_is bytes j text only (inl x) = ap (λ (k : Json). Some k) (only max_levels x.0 x.1)
found_is bytes j text only (inr never) = absurd (never (j, text))

-- a text has the value that is its only one
pub value_is : (bytes : List ℕ) (j : Json) → IsText max_levels bytes j → ((levels : ℕ) (k : Json) → IsText levels bytes k → k ≡ j) → value_of bytes ≡ Some j
value_is bytes j text only = found_is bytes j text only (decided_text max_levels bytes)

none_found : (bytes : List ℕ) → ((j : Json) → IsText max_levels bytes j → ⊥) → (d : Decided (IsSomeText max_levels bytes)) → found max_levels bytes d ≡ None
none_found bytes none (inl x) = absurd (none x.0 x.1)
none_found bytes none (inr never) = refl

-- what is no text has none
pub no_value : (bytes : List ℕ) → ((j : Json) → IsText max_levels bytes j → ⊥) → value_of bytes ≡ None
no_value bytes none = none_found bytes none (decided_text max_levels bytes)

-- a text is shown as the one value that it has, and what is no text isn't shown
pub text_shown : (bytes : List ℕ) (j : Json) → IsText max_levels bytes j → ((levels : ℕ) (k : Json) → IsText levels bytes k → k ≡ j) → showing_of InJson bytes ≡ Text (compact j)
text_shown bytes j text only = ap text_or_not (value_is bytes j text only)

pub no_text_shown : (bytes : List ℕ) → ((j : Json) → IsText max_levels bytes j → ⊥) → showing_of InJson bytes ≡ Unshown 2
no_text_shown bytes none = ap text_or_not (no_value bytes none)

some_found : (bytes : List ℕ) (j : Json) → IsText max_levels bytes j → (d : Decided (IsSomeText max_levels bytes)) → (shown : List ℕ) × (text_or_not (found max_levels bytes d) ≡ Text shown)
some_found bytes j text (inl x) = (compact x.0, refl)
some_found bytes j text (inr never) = absurd (never (j, text))

-- a text can be shown
pub some_text_shown : (bytes : List ℕ) (j : Json) → IsText max_levels bytes j → (shown : List ℕ) × (showing_of InJson bytes ≡ Text shown)
some_text_shown bytes j text = some_found bytes j text (decided_text max_levels bytes)
