use Rattle.std.proofs.Common.{◌≡◌, length, List, arith}
use Rattle.forms.specs.Formats.{format_of}
use Rattle.model.specs.step.Walk.{Lot, Rule}
use Rattle.instance.specs.Walk.{lots_of, rule_of, seen}
use Rattle.instance.proofs.Walking.{length-lots_of, range_more}
use Rattle.instance.proofs.walk.Walk.range.Goals as goal

pub loop-lot-preserved : goal.loop-lot-preserved
loop-lot-preserved c =
    let lots : List Lot = lots_of c.args.lots.now.places.now c.args.lots.now.fetched.now in
    let rule : Rule = rule_of c.args.rule.bound (format_of c.args.rule.format) in
    let same : length c.args.lots.now.fetched.now ≡ length c.args.lots.now.places.now = omega arith in
    record {
      rest = range_more rule lots c.loop-lot.lot c.args.to (seen lots c.loop-lot.self) (seen lots c.part.new.self) _ (omega arith) (omega (arith, length-lots_of c.args.lots.now.places.now c.args.lots.now.fetched.now same)) c.if-self.false c.in_ok-part.ensures.walked c.loop-lot.invariant.rest;
      so_far = c.in_ok-part.ensures.so_far;
    }
