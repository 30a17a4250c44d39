use Rattle.std.proofs.Common.{sym, ◌∙◌}
use Rattle.avro_value.proofs.PartLemmas.{among, names_go, differ_go, differ_stop, not_true, not_false}
use Rattle.avro_value.proofs.json_pick.differ.Goals as goal

pub loop-member-preserved : goal.loop-member-preserved
loop-member-preserved c =
    let ms = c.args.members.now in
    let i = c.loop-member.member-index in
    let m = c.member-item.result in
    record {
      names = names_go ms i m c.as_str.result c.loop-member.names c.insert.new.self c.loop-member-test.true c.member-item.is c.as_str.ensures c.loop-member.invariant.names c.in_ok-insert.ensures.updates;
      unlike = differ_go ms i m c.loop-member-test.true c.member-item.is c.loop-member.invariant.unlike
          (sym (among ms i m c.as_str.result c.loop-member.names c.loop-member.invariant.names c.as_str.ensures) ∙ not_true _ _ c.in_ok-insert.ensures.added c.if-not-branch.false);
    }

pub returns-then-not-branch-clause-value : goal.returns-then-not-branch-clause-value
returns-then-not-branch-clause-value c =
    let ms = c.args.members.now in
    let i = c.loop-member.member-index in
    let m = c.member-item.result in
    sym (differ_stop ms i m c.loop-member-test.true c.member-item.is (sym (among ms i m c.as_str.result c.loop-member.names c.loop-member.invariant.names c.as_str.ensures) ∙ not_false _ _ c.in_ok-insert.ensures.added c.if-not-branch.true))
