use Rattle.std.proofs.Common.{append_assoc}
use Rattle.wire_group.proofs.offset_commit.OffsetCommitRequestPut.put.Goals as goal

pub returns-clause-ok : goal.returns-clause-ok
returns-clause-ok c =
    rw (c.in_ok-put-5.ensures.ok, c.in_ok-put-4.ensures.ok, c.in_ok-put-3.ensures.ok, c.in_ok-put-2.ensures.ok, c.in_ok-put.ensures.ok)
    (simp append_assoc)
