use Rattle.std.proofs.Common.{◌≡◌, drop, map, string_bytes}
use Rattle.std.specs.List.{list_any}
use Rattle.command_words.specs.Words.{is_dash}
use Rattle.command_words.proofs.words.has_dash.Given as goal

abbrev pub invariant-loop-word : goal.invariant-loop-word
invariant-loop-word l = list_any is_dash (map string_bytes (drop l.word-index l.words)) ≡ list_any is_dash (map string_bytes l.words)
