use Rattle.std.proofs.lemmas.Str.{IsUtf8-string_bytes}
use Rattle.wire_layout.specs.Layout.{nullable_string}
use Rattle.wire_layout.proofs.item.OptionTextLaid.decode.Goals as goal

pub returns-in-Some-clause-fits : goal.returns-in-Some-clause-fits
unfolding nullable_string
returns-in-Some-clause-fits c =
    rw c.from_string.ensures (record { short = rw c.in-Some.is at c.in_ok-text.ensures.bound; utf8 = IsUtf8-string_bytes c.in-Some.text })
