use Rattle.std.proofs.Common.{◌≡◌, ◌++◌, take}
use Rattle.std.specs.Prelude.{codes, string_bytes}
use Rattle.model.specs.texts.Bodies.{joined}
use Rattle.rest_replies.proofs.topics.array.Given as goal

abbrev pub invariant-loop-i : goal.invariant-loop-i
invariant-loop-i l = string_bytes l.text ≡ codes "[" ++ joined (take l.i l.texts)
