use Rattle.std.proofs.Common.{◌≡◌, take, false}
use Rattle.json_token.specs.Chars.{has_backslash}
use Rattle.json_token.proofs.escape.own_count.Given as goal

abbrev pub invariant-loop-i : goal.invariant-loop-i
invariant-loop-i l = has_backslash (take l.i l.bytes) ≡ false
