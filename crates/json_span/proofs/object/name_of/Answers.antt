use Rattle.std.proofs.Common.{sym, ◌∙◌}
use Rattle.json_span.proofs.Turns as turns
use Rattle.json_token.proofs.Utf8Lemmas.{chars_utf8}
use Rattle.json_span.proofs.object.name_of.Goals as goal

pub from_utf8_unchecked-name-requires : goal.from_utf8_unchecked-name-requires
from_utf8_unchecked-name-requires c = chars_utf8 _ c.requires.valid

pub returns-in-Ok-clause-ok : goal.returns-in-Ok-clause-ok
returns-in-Ok-clause-ok c = c.in-Ok.ensures ∙ (c.from_utf8_unchecked-name.ensures ∙ sym (turns.content_plain _ (c.requires.plain c.if-escapes.false)))
