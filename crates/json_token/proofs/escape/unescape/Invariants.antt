use Rattle.std.proofs.Common.{◌≡◌, ◌-◌, ◌≤◌, ◌++◌, length, drop}
use Rattle.json_token.specs.Chars.{content}
use Rattle.json_token.proofs.escape.unescape.Given as goal

abbrev pub invariant-loop-out : goal.invariant-loop-out
invariant-loop-out l = record { inside : l.at ≤ length l.chars; content : l.out.items ++ content (drop l.at l.chars) ≡ content l.chars }

abbrev pub decreases-loop-out : goal.decreases-loop-out
decreases-loop-out l = length l.chars - l.at
