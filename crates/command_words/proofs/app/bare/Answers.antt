use Rattle.std.proofs.Common.{ap, true, ◌∙◌}
use Rattle.clap.specs.Simple.{app_of_fields}
use Rattle.command_words.specs.Apps.{bare}
use Rattle.command_words.proofs.app.bare.Goals as goal

pub returns : goal.returns
returns c =
    ap app_of_fields c.disable_version_flag.ensures
    ∙ ap (λ f. app_of_fields (record f { disable_version_flag = true })) c.disable_help_flag.ensures
    ∙ ap (λ f. app_of_fields (record f { disable_version_flag = true; disable_help_flag = true })) c.no_binary_name.ensures
    ∙ ap bare c.new.ensures.app
