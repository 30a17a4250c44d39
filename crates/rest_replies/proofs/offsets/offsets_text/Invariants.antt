use Rattle.std.proofs.Common.{◌≡◌, ◌++◌, take, map}
use Rattle.std.specs.Prelude.{codes, string_bytes}
use Rattle.model.specs.texts.Texts.{joined, placed_text}
use Rattle.rest_replies.specs.Answer.{placed_of}
use Rattle.rest_replies.proofs.offsets.offsets_text.Given as goal

abbrev pub invariant-loop-i : goal.invariant-loop-i
invariant-loop-i l = string_bytes l.text ≡ codes "{\"offsets\":[" ++ joined (map (λ t. placed_text (placed_of t)) (take l.i l.told))
