use Rattle.std.proofs.lemmas.Str.{IsUtf8-string_bytes}
use Rattle.wire_layout.specs.Layout.{string}
use Rattle.wire_layout.proofs.item.TextLaid.decode.Goals as goal

pub returns-clause-fits : goal.returns-clause-fits
unfolding string
returns-clause-fits c = rw c.from_string.ensures (record { short = c.in_ok-text.ensures.bound; utf8 = IsUtf8-string_bytes c.in_ok-text.text })
