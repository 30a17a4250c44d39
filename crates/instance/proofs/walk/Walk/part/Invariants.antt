use Rattle.std.proofs.Common.{◌≡◌, drop}
use Rattle.forms.specs.Formats.{format_of}
use Rattle.model.specs.step.Walk.{walk_part}
use Rattle.instance.specs.Walk.{IsSoFar, lot_at, lots_of, rule_of, seen}
use Rattle.instance.proofs.walk.Walk.part.Given as goal

-- what is left of the lot goes on as the whole would have
abbrev pub invariant-loop-row : goal.invariant-loop-row
invariant-loop-row l = record {
  rest : walk_part (rule_of l.rule.bound (format_of l.rule.format)) (lot_at (lots_of l.lots.places.now l.lots.fetched.now) l.lot).place.at (seen (lots_of l.lots.places.now l.lots.fetched.now) l.self) (drop l.row (lot_at (lots_of l.lots.places.now l.lots.fetched.now) l.lot).rows)
      ≡ walk_part (rule_of l.rule.bound (format_of l.rule.format)) (lot_at (lots_of l.lots.places.now l.lots.fetched.now) l.lot).place.at (seen (lots_of l.lots.places.now l.lots.fetched.now) l.fn.self) (lot_at (lots_of l.lots.places.now l.lots.fetched.now) l.lot).rows;
  so_far : IsSoFar (lots_of l.lots.places.now l.lots.fetched.now) (format_of l.rule.format) l.self;
}
