use Rattle.std.proofs.Common.{length, ap, sym, subst, ◌∙◌, arith}
use Rattle.std.specs.Prelude.{◌≢◌}
use Rattle.std.proofs.lemmas.List.Elements.{All-get_or}
use Rattle.broker_link.specs.declared.script.Foreign.{Foreign}
use Rattle.broker_link.proofs.Others.{came_on}
use Rattle.broker_link.proofs.script.add_others.Goals as goal

pub loop-one-preserved : goal.loop-one-preserved
loop-one-preserved c = record {
  came = came_on c.args.topics.now.list.items c.loop-one.topics.list.items c.add_other.new.topics.list.items c.args.others.now c.loop-one.others c.add_other.new.others c.loop-one.invariant.came c.add_other.ensures.came;
  none = λ empty. absurd (omega (arith, c.loop-one-test.true, ap length empty));
  unnamed = λ all.
      let other : c.one-item.result.call ≢ c.args.call =
      subst (λ (o : Foreign). o.call ≢ c.args.call) (sym c.one-item.is) (All-get_or (λ (o : Foreign). o.call ≢ c.args.call) c.args.list.now c.loop-one.one-index c.one-item.result c.loop-one-test.true all) in
      let before = c.loop-one.invariant.unnamed all in
      let now = c.add_other.ensures.unnamed other in
      (now.0 ∙ before.0, now.1 ∙ before.1);
}
