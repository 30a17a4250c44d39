use Rattle.std.proofs.Common.{◌≡◌, ◌-◌, ◌≤◌, length, take, false}
use Rattle.json_token.specs.Chars.{Leads, has_backslash}
use Rattle.json_token.specs.declared.chars.Inside.TheVariants.{Plain}
use Rattle.json_token.proofs.chars.chars_end.Given as goal

abbrev pub invariant-loop-at : goal.invariant-loop-at
invariant-loop-at l = record { inside : l.at ≤ length l.bytes; leads : Leads Plain (take l.at l.bytes) l.inside; plain : l.escapes ≡ false → has_backslash (take l.at l.bytes) ≡ false }

abbrev pub decreases-loop-at : goal.decreases-loop-at
decreases-loop-at l = length l.bytes - l.at
