use Rattle.std.proofs.Common.{Some, List, ℕ, ◌+◌, drop, sym, subst}
use Rattle.std.proofs.Math.ListN.{drop_of_length-le}
use Rattle.avro_names.specs.MemberNames.{SymbolsSoFar}
use Rattle.avro_names.proofs.ListLemmas.{next_item_at, symbols_refused, symbols_more, symbols_last}
use Rattle.avro_names.proofs.member_names.symbols.Goals as goal

pub part_name-requires : goal.part_name-requires
part_name-requires c =
    let s = c.loop-item.invariant c.requires.0 c.requires.1 in
    let n = next_item_at c.args.tree.now c.args.items.now c.loop-item.item-index s.left c.loop-item-test.true s.stand in
    (Some n.j, n.stands)

pub returns-in-Err-clause-err : goal.returns-in-Err-clause-err
returns-in-Err-clause-err c = λ js h.
    let s = c.loop-item.invariant js h in
    let n = next_item_at c.args.tree.now c.args.items.now c.loop-item.item-index s.left c.loop-item-test.true s.stand in
    symbols_refused c.args.tree.now js c.args.items.now c.loop-item.item-index c.loop-item.seen c.in-Err.e s n (c.in-Err.ensures.err (Some n.j) n.stands)

pub loop-item-preserved : goal.loop-item-preserved
loop-item-preserved c = λ js h.
    let s = c.loop-item.invariant js h in
    let n = next_item_at c.args.tree.now c.args.items.now c.loop-item.item-index s.left c.loop-item-test.true s.stand in
    let P : List (List ℕ) → Type 0 = λ seen. SymbolsSoFar c.args.tree.now js (drop (c.loop-item.item-index + 1) c.args.items.now) seen in
    subst P (sym c.in_default.ensures.seen) (symbols_more c.args.tree.now js c.args.items.now c.loop-item.item-index c.loop-item.seen c.in_default.field-0.now s n (c.in_default.ensures.ok (Some n.j) n.stands))

pub returns-clause-ok : goal.returns-clause-ok
returns-clause-ok c = λ js h. symbols_last _ js _ _ (drop_of_length-le c.args.items.now c.loop-item-test.false) (c.loop-item.invariant js h)
