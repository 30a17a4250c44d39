use Rattle.std.proofs.Common.{arith}
use Rattle.std.proofs.lemmas.Grind.{common_steps}
use Rattle.wire_prim.proofs.VarintLemmas.{room_left, one_group_less, groups_written, groups_ended, groups_two}
use Rattle.wire_prim.proofs.put.put_groups.Goals as goal

pub loop-number-preserved : goal.loop-number-preserved
loop-number-preserved c =
    let kept = c.loop-number.invariant in
    let room = room_left c.args.more c.loop-number.count c.loop-number.number kept.within kept.small c.loop-number-test.true in
    record {
      within = room;
      room = grind (arith, common_steps);
      small = one_group_less c.args.more c.loop-number.count c.loop-number.number room kept.small;
      written = groups_written c.args.more c.loop-number.count c.loop-number.number c.loop-number.groups _ room (omega arith) c.loop-number-test.true kept.written;
    }

pub returns-clause-ok : goal.returns-clause-ok
returns-clause-ok c =
    let whole = groups_ended c.args.more c.loop-number.count c.loop-number.number c.loop-number.groups _ (omega arith) c.loop-number-test.false c.loop-number.invariant.written in
    rw whole at c.put-2.ensures.ok

pub returns-then-number-lt16384-clause-ok : goal.returns-then-number-lt16384-clause-ok
returns-then-number-lt16384-clause-ok c = rw (groups_two c.args.more c.args.number c.requires.fits (omega (arith, c.if-number-lt128.false)) c.if-number-lt16384.true) c.put.ensures.ok
