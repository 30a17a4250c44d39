use Rattle.std.proofs.Common.{rules, ap, ◌∙◌}
use Rattle.std.proofs.lemmas.Result.{IfOk-weaker}
use Rattle.command_words.proofs.Matches.{refused_rows, taken_rows}
use Rattle.command_words.proofs.app.session_matches.Goals as goal

pub returns-in-Err : goal.returns-in-Err
returns-in-Err c =
    IfOk-weaker c.refused.result _ _ (λ m h. let none = refused_rows _ _ c.in-Err.error c.in_ok-app.ensures c.in-Err.ensures.kinds h.1 in search rules) c.refused.ensures

pub returns-in-Ok : goal.returns-in-Ok
returns-in-Ok c = taken_rows _ _ c.in-Ok.matches c.in_ok-app.ensures c.in-Ok.ensures.kinds c.in-Ok.ensures.matches
