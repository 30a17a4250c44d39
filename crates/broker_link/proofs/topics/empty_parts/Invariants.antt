use Rattle.std.proofs.Common.{◌≡◌}
use Rattle.std.specs.Prelude.{replicate}
use Rattle.broker_link.specs.Made.{empty_part}
use Rattle.broker_link.proofs.topics.empty_parts.Given as goal

abbrev pub invariant-loop-number : goal.invariant-loop-number
invariant-loop-number l = l.parts.items ≡ replicate l._number empty_part
