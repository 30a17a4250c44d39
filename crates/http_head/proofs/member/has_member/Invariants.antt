use Rattle.std.proofs.Common.{◌≡◌, length}
use Rattle.http_head.specs.Member.{has_member}
use Rattle.http_head.proofs.member.has_member.Given as goal

abbrev pub invariant-loop-member : goal.invariant-loop-member
invariant-loop-member l = has_member l.word l.rest ≡ has_member l.word l.value

abbrev pub decreases-loop-member : goal.decreases-loop-member
decreases-loop-member l = length l.rest
