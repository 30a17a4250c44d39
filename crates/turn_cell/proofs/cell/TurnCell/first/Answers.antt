use Rattle.std.proofs.Common.{replicate, List, Option, sym, subst}
use Rattle.atomic_table.specs.Table.{opening}
use Rattle.turn_cell.specs.declared.rule.Kept.{Kept}
use Rattle.turn_cell.specs.Rules.{Rule, newcomer}
use Rattle.turn_cell.proofs.Steps.{opens}
use Rattle.turn_cell.proofs.cell.TurnCell.first.Goals as goal

pub new-requires : goal.new-requires
new-requires g c =
    subst (λ (xs : List (Option (Kept g.row.S.Denot g.row.S-Entry.Denot))). Rule g.S.Stands.stands g.S.Stands.caller g.S.Stands.same_root c.of.result.value c.args.passes (opening (replicate 16 0) xs (newcomer c.of.result.value c.args.passes))) (sym c.in_ok-slots.ensures)
    (opens g.S.Stands.stands g.S.Stands.caller g.S.Stands.same_root c.of.result.value c.args.passes c.args.value (sym c.of.ensures) c.requires.count.1 c.requires.stands.0
    (subst (λ r. g.S.Stands.same_root r c.args.value) (sym c.of.ensures) c.requires.stands.1))
