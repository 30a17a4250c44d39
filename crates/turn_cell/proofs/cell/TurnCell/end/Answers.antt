use Rattle.std.proofs.Common.{◌≡◌, ℕ, Some, None, false, get_or, get_or-set_other, ◌∙◌, sym, refl, subst, arith}
use Rattle.std.specs.Bool.{IsTrue}
use mathlib.Core.Option.{some}
use lib.ListN.{get_elem?}
use Rattle.std.specs.Slots.{slots_items, slots_filled, slots_counts}
use Rattle.turn_cell.specs.Rules.{IsLast}
use Rattle.turn_cell.specs.Turns.{root_of}
use Rattle.turn_cell.proofs.Steps.{ending, ending_spare, some_same}
use Rattle.turn_cell.proofs.cell.TurnCell.end.Goals as goal

pub take-kept-requires : goal.take-kept-requires
take-kept-requires g c =
    let n = c.close_with-closed.ensures.counts.1 in
    let one = c.args.self.sized.1 in (
      omega arith,
      subst IsTrue (sym (c.close_with-closed.ensures.values.1 0 (omega arith) (omega arith))) refl,
    )

pub unreachable-requires : goal.unreachable-requires
unreachable-requires g c =
    let r = c.close_with-closed.result in
    let e = ending g.S.Stands.stands g.S.Stands.caller g.S.Stands.same_root c.args.self.table.shared.key.root.value c.args.self.table.shared.key.passes c.args.seat.id c.args.seat.me.0 (slots_items r.words) (slots_items r.slots) c.word-turns.result c.take-kept.result
    c.close_with-closed.ensures.values.2 c.requires.last.0 (omega (arith, c.args.self.counted.0, c.requires.last.1)) c.word-turns.ensures c.take-kept.ensures.value in
    let z : None ≡ Some e.0 = sym c.in-None.is ∙ e.1 in cc

pub returns : goal.returns
returns g c =
    let r = c.close_with-closed.result in
    let e = ending g.S.Stands.stands g.S.Stands.caller g.S.Stands.same_root c.args.self.table.shared.key.root.value c.args.self.table.shared.key.passes c.args.seat.id c.args.seat.me.0 (slots_items r.words) (slots_items r.slots) c.word-turns.result c.take-kept.result
    c.close_with-closed.ensures.values.2 c.requires.last.0 (omega (arith, c.args.self.counted.0, c.requires.last.1)) c.word-turns.ensures c.take-kept.ensures.value in
    let k = some_same e.0 c.in-Some.field-0 (sym e.1 ∙ c.in-Some.is) in
    subst (λ (n : ℕ). IsLast g.S.Stands.stands g.S.Stands.caller g.S.Stands.same_root (root_of c.args.self) n c.args.seat.me.0 c.in-Some.field-0.value c.word-turns.result) c.args.self.counted.0
    (subst (λ x. IsLast g.S.Stands.stands g.S.Stands.caller g.S.Stands.same_root (root_of c.args.self) c.args.self.table.shared.key.passes c.args.seat.me.0 x.value c.word-turns.result) k e.2)

pub free_spares-requires-clause-others : goal.free_spares-requires-clause-others
free_spares-requires-clause-others g c k pos lt =
    let r = c.close_with-closed.result in
    let n = c.close_with-closed.ensures.counts.1 in
    let four = c.args.self.sized.1 in
    let others = c.take-kept.ensures.others in (
      subst (λ l. IsTrue (get_or l k false)) (sym others.1)
          (subst IsTrue (sym (get_or-set_other (slots_filled r.slots) 0 k false false (λ e. omega (arith, e)))) (c.close_with-closed.ensures.values.1 k (omega arith) (omega arith))),
      subst (λ l. get_elem? l k ≡ some None) (sym others.0)
          (ending_spare g.S.Stands.stands g.S.Stands.caller g.S.Stands.same_root c.args.self.table.shared.key.root.value c.args.self.table.shared.key.passes c.args.seat.id c.args.seat.me.0 (slots_items r.words) (slots_items r.slots)
          c.close_with-closed.ensures.values.2 k pos (omega (arith, (slots_counts r.slots).0))),
    )
