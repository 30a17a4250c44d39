use Rattle.std.proofs.Common.{◌≡◌, ◌∙◌, List, ℕ, subst}
use Rattle.std.specs.Prelude.{IfOk, string_bytes}
use Rattle.model.specs.texts.Bodies.{array}
use Rattle.rest_replies.proofs.TopicsLemmas.{names_are}
use Rattle.rest_replies.proofs.topics.names_text.Goals as goal

pub returns : goal.returns
returns c =
    subst (λ (texts : List (List ℕ)). IfOk c.array.result (λ s. string_bytes s ≡ array texts)) (c.as_slice.ensures.value ∙ (c.in_ok-names.ensures ∙ names_are c.args.infos.now)) c.array.ensures
