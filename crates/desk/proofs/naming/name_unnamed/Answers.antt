use Rattle.std.proofs.Common.{◌∙◌, sym}
use Rattle.rest_calls.specs.Views.{asked_of}
use Rattle.desk.proofs.NamingLemmas.{named_enters}
use Rattle.desk.proofs.naming.name_unnamed.Goals as goal

pub returns-in-Ok-clause-entered : goal.returns-in-Ok-clause-entered
returns-in-Ok-clause-entered c =
    c.with_name.ensures ∙ named_enters c.args.caller (asked_of c.args.call) c.args.names_given.now c.saturating_add.result c.from_string.result (sym c.is_unnamed.ensures ∙ c.if-not-is_unnamed.false) c.saturating_add.ensures (c.from_string.ensures ∙ c.in-Ok.ensures)
