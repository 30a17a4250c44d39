use Rattle.std.proofs.Common.{◌≡◌, length}
use Rattle.http_head.specs.Blank.{behind_blank}
use Rattle.http_head.proofs.target.behind_lines.Given as goal

abbrev pub invariant-loop-rest : goal.invariant-loop-rest
invariant-loop-rest l = behind_blank l.line ≡ behind_blank l.buf

abbrev pub decreases-loop-rest : goal.decreases-loop-rest
decreases-loop-rest l = length l.line
