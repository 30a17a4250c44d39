use Rattle.std.proofs.Common.{rules, Some, ◌++◌, ◌∷◌, [], ◌∙◌, sym, ap, refl, subst}
use mathlib.Core.Option.{none}
use Rattle.turn_cell.specs.declared.rule.Kept.{Kept}
use Rattle.atomic_table.specs.Table.{step, rest}
use Rattle.turn_cell.proofs.Steps.{passes_on}
use Rattle.turn_cell.proofs.Uses.{finished}
use Rattle.turn_cell.proofs.cell.TurnCell.give_back.Goals as goal

pub fetch_add-served-requires : goal.fetch_add-served-requires
fetch_add-served-requires g c =
    let o = c.requires.turn.1 in
    let k : Kept g.row.S.Denot g.row.S-Entry.Denot = record { value = c.args.value; last = Some c.of.result } in
    let given = c.exchange.ensures.3 ∙ ap (λ l. (c.args.pass.now.seat.me.0, (0, Some k) ∷ l)) (ap rest o.held) in (
      c.exchange.ensures.0 ∙ c.requires.turn.0,
      search rules,
      passes_on g.S.Stands.stands g.S.Stands.caller g.S.Stands.same_root c.args.self.now.table.shared.key.root.value c.args.self.now.table.shared.key.passes c.args.self.now.table.shared.table_id.slots c.exchange.new.seat.id c.args.pass.now.number
          c.exchange.new.seat.me.0 c.exchange.new.seat.me.1 k c.args.entry.now (ap (λ m. m.1) given) (search rules) (ap (λ m. m.0.in_turn) given ∙ o.in_turn) (ap (λ m. m.0.taken) given ∙ o.taken) (ap (λ m. m.0.number) given ∙ o.number_is) c.requires.names
          (ap Some c.of.ensures) (subst (λ v. g.S.Stands.stands c.args.value (v.seen ++ c.args.entry.now ∷ [])) (sym (ap (λ m. m.0) given)) c.requires.stands) c.requires.root,
    )

pub returns : goal.returns
returns g c =
    let o = c.requires.turn.1 in
    let k : Kept g.row.S.Denot g.row.S-Entry.Denot = record { value = c.args.value; last = Some c.of.result } in
    let given = c.exchange.ensures.3 ∙ ap (λ l. (c.args.pass.now.seat.me.0, (0, Some k) ∷ l)) (ap rest o.held) in
    finished g.S.Stands.stands g.S.Stands.caller g.S.Stands.same_root c.args.self.now c.args.pass.now (record { seat = c.fetch_add-served.new.seat; number = c.args.pass.now.number; left = c.args.pass.now.left })
    (step c.args.self.now.table.shared.table_id.slots 1 1 0 none) c.exchange.new.seat.me k c.args.entry.now c.fetch_add-served.result c.requires.turn (c.fetch_add-served.ensures.0 ∙ c.exchange.ensures.0 ∙ c.requires.turn.0) refl refl c.requires.names
    given (ap Some c.of.ensures) c.fetch_add-served.ensures.2
