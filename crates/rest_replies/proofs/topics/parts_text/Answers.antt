use Rattle.std.proofs.Common.{◌≡◌, ◌∙◌, List, ℕ, ap, map, subst}
use Rattle.std.specs.Prelude.{IfOk, string_bytes}
use Rattle.model.specs.texts.Bodies.{array}
use Rattle.rest_replies.specs.Topics.{text_of}
use Rattle.rest_replies.proofs.TopicsLemmas.{parts_are}
use Rattle.rest_replies.proofs.topics.parts_text.Goals as goal

pub returns : goal.returns
returns c =
    subst (λ (texts : List (List ℕ)). IfOk c.array.result (λ s. string_bytes s ≡ array texts)) (c.as_slice-2.ensures.value ∙ (c.in_ok-parts.ensures ∙ (ap (map text_of) c.as_slice.ensures ∙ parts_are c.args.info.now.parts))) c.array.ensures
