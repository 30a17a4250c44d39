use Rattle.std.proofs.Common.{◌≡◌, ◌+◌, length, arith, sym, subst, ap, ◌∙◌}
use Rattle.std.specs.Prelude.{pos}
use Rattle.std.specs.List.{All}
use Rattle.std.proofs.lemmas.Grind.{common_steps}
use Rattle.std.proofs.lemmas.List.Elements.{All-push}
use Rattle.broker_link.specs.Infos.{IsOnNodeOne}
use Rattle.broker_link.specs.Metadata.{NumberedFrom}
use Rattle.broker_link.proofs.Infos.{numbered_push}
use Rattle.broker_link.proofs.listing.make_parts.Goals as goal

pub loop-number-preserved : goal.loop-number-preserved
loop-number-preserved c =
    let long : c.loop-number.number ≡ 0 + length c.loop-number.parts = omega (arith, c.loop-number.invariant.count) in
    record {
      count = grind (arith, common_steps, c.in_ok-push.ensures.ok, c.loop-number.invariant.count);
      nodes = subst (All IsOnNodeOne) (sym c.in_ok-push.ensures.ok) (All-push IsOnNodeOne c.loop-number.parts c.in_ok-make_part.field-0 c.loop-number.invariant.nodes c.in_ok-make_part.ensures.nodes);
      numbers = λ few. subst (NumberedFrom 0) (sym c.in_ok-push.ensures.ok)
          (numbered_push 0 c.loop-number.parts c.in_ok-make_part.field-0 (c.loop-number.invariant.numbers few) (c.in_ok-make_part.ensures.number (omega (arith, c.loop-number-test.true, few)) ∙ ap pos long));
    }
