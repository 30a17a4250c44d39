use Rattle.std.proofs.Common.{◌≡◌, List, ℕ, subst, ◌∙◌}
use Rattle.std.specs.Prelude.{IfOk, string_bytes}
use Rattle.rest_calls.specs.Views.{key_in}
use Rattle.rest_replies.proofs.CreationLemmas.{created_is}
use Rattle.rest_replies.proofs.creation.made_text.Goals as goal

pub returns : goal.returns
returns c =
    subst (λ (l : List ℕ). IfOk c.created_text.result (λ s. string_bytes s ≡ l))
    (created_is c.args.advertise.now (key_in c.args.group.now c.args.instance.now) c.as_str-4.result.now c.as_str.result.now c.as_str-2.result.now c.as_str-3.result.now c.as_str-5.result.now
    (c.as_str-4.ensures.value ∙ c.in_ok-id.ensures) (c.as_str.ensures.value ∙ c.in_ok-group.ensures) (c.as_str-2.ensures.value ∙ c.in_ok-name.ensures)
    (c.as_str-3.ensures.value ∙ c.in_ok-place.ensures) (c.as_str-5.ensures.value ∙ c.in_ok-place-2.ensures))
    c.created_text.ensures
