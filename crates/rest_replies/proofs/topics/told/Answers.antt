use Rattle.std.proofs.Common.{◌∙◌, List, ℕ, None, ap, inl}
use Rattle.model.specs.texts.Texts.Response.{Body}
use Rattle.rest_replies.specs.Topics.{body_of}
use Rattle.rest_replies.proofs.TopicsLemmas.{text_is}
use Rattle.rest_replies.proofs.topics.told.Goals as goal

pub returns-in-Ok : goal.returns-in-Ok
returns-in-Ok c = λ fits. inl (λ advertise forms.
    ap (λ (l : List ℕ). Body None l) (c.from_string.ensures ∙ (c.in-Ok.ensures ∙ ap (λ (name : List ℕ). body_of name c.args.found.now) c.name_of.ensures)) ∙ text_is c.args.question.now c.args.found.now fits advertise forms)
