use Rattle.std.proofs.Common.{◌∙◌, ◌++◌, ap, sym}
use Rattle.std.specs.Prelude.{reverse}
use Rattle.std.proofs.lemmas.List.{append-nil}
use Rattle.producer.proofs.ReversedLemmas.{shorter, reversed_more}
use Rattle.producer.proofs.by_part.reversed.Goals as goal

pub loop-row-init : goal.loop-row-init
loop-row-init c = sym (append-nil c.args.rows) ∙ ap (λ xs. c.args.rows ++ reverse xs) (sym c.in_ok-reversed.ensures.items)

pub loop-row-smaller : goal.loop-row-smaller
loop-row-smaller c = shorter c.loop-row.rows c.pop.new.self c.in-Some.row c.in-Some.ensures

pub loop-row-preserved : goal.loop-row-preserved
loop-row-preserved c =
    reversed_more c.args.rows c.loop-row.rows c.pop.new.self c.loop-row.reversed.items c.in-Some.row c.loop-row.invariant c.in-Some.ensures
    ∙ ap (λ xs. c.pop.new.self ++ reverse xs) (sym c.in_ok-push.ensures.items)

pub returns : goal.returns
returns c = sym (c.loop-row.invariant ∙ ap (λ xs. xs ++ reverse c.loop-row.reversed.items) c.in_default.ensures.0)
