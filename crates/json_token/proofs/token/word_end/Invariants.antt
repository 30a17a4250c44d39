use Rattle.std.proofs.Common.{◌≡◌, ◌≤◌, length, take, drop}
use Rattle.json_token.proofs.token.word_end.Given as goal

abbrev pub invariant-loop-i : goal.invariant-loop-i
invariant-loop-i l = (l.i ≤ length (drop l.place l.bytes)) × (take l.i l.word ≡ take l.i (drop l.place l.bytes))
