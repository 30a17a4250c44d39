use Rattle.std.proofs.Common.{◌≡◌, length, List, arith}
use Rattle.forms.specs.Formats.{format_of}
use Rattle.model.specs.step.Walk.{Lot, Rule, unwalked}
use Rattle.instance.specs.Walk.{lots_of, rule_of, seen}
use Rattle.instance.proofs.Walking.{length-lots_of, round}
use Rattle.instance.proofs.walk.go_round.Goals as goal

pub returns-clause-walked : goal.returns-clause-walked
returns-clause-walked c =
    let lots : List Lot = lots_of c.args.lots.now.places.now c.args.lots.now.fetched.now in
    let rule : Rule = rule_of c.args.rule.bound (format_of c.args.rule.format) in
    let same : length c.args.lots.now.fetched.now ≡ length c.args.lots.now.places.now = omega arith in
    round rule lots c.args.rotation (length c.args.lots.now.places.now) unwalked (seen lots c.in_ok-walked.walked) (seen lots c.range.new.self) (seen lots c.range-2.new.self)
    (omega (arith, length-lots_of c.args.lots.now.places.now c.args.lots.now.fetched.now same)) (c.in_ok-walked.ensures.empty lots) c.in_ok-range.ensures.walked c.in_ok-range-2.ensures.walked
