use Rattle.std.proofs.Common.{◌≡◌, ◌-◌, drop, take}
use Rattle.forms.specs.Formats.{format_of}
use Rattle.model.specs.step.Walk.{walk}
use Rattle.instance.specs.Walk.{IsSoFar, lots_of, rule_of, seen}
use Rattle.instance.proofs.walk.Walk.range.Given as goal

-- what is left of the range goes on as the whole would have
abbrev pub invariant-loop-lot : goal.invariant-loop-lot
invariant-loop-lot l = record {
  rest : walk (rule_of l.rule.bound (format_of l.rule.format)) (seen (lots_of l.lots.places.now l.lots.fetched.now) l.self) (take (l.to - l.lot) (drop l.lot (lots_of l.lots.places.now l.lots.fetched.now)))
      ≡ walk (rule_of l.rule.bound (format_of l.rule.format)) (seen (lots_of l.lots.places.now l.lots.fetched.now) l.fn.self) (take (l.to - l.from) (drop l.from (lots_of l.lots.places.now l.lots.fetched.now)));
  so_far : IsSoFar (lots_of l.lots.places.now l.lots.fetched.now) (format_of l.rule.format) l.self;
}
