use Rattle.std.proofs.Common.{ap, ap₂, codes, Some, ◌∙◌}
use Rattle.std.proofs.lemmas.Result.{IfOk-weaker}
use Rattle.clap.specs.Words.{Rule, rule_of, with_rule}
use Rattle.clap.specs.declared.builder.action.ArgAction.TheVariants.{Set}
use Rattle.clap.specs.declared.builder.arg.Arg.{Arg}
use Rattle.command_words.proofs.app.session_app.Goals as goal

pub returns : goal.returns
returns c =
    let local = ap (λ (a : Arg). a.global) c.action-advertise.ensures ∙ ap (λ (a : Arg). a.global) c.long.ensures ∙ c.new.ensures.optional.1 in
    let rule =
    ap rule_of c.action-advertise.ensures
    ∙ ap (λ (a : Arg). rule_of (record a { action = Some Set })) c.long.ensures
    ∙ ap (λ (r : Rule). record r { long = Some (codes "advertise"); action = Some Set }) c.new.ensures.rule in
    let one = c.in_ok-command.ensures.shape local ∙ ap₂ with_rule c.bare.ensures rule in
    IfOk-weaker c.arg-2.result _ _ (λ r h. h.shape c.topics_option.ensures.local ∙ ap₂ with_rule one c.topics_option.ensures.rule) c.arg-2.ensures
