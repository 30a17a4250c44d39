use Rattle.std.proofs.Common.{◌++◌, ◌∷◌, [], drop, sym, subst, ◌+◌}
use Rattle.schema_table.proofs.RowLemmas.{Taking, taking_next, taking_row, taking_unfit}
use Rattle.schema_table.proofs.load.take_all.Goals as goal

pub returns-in-Err-clause-unfit : goal.returns-in-Err-clause-unfit
returns-in-Err-clause-unfit c fault =
    let row = c.row-item.result in
    let left = drop (c.loop-row.row-index + 1) c.args.rows.now in
    taking_unfit c.args.schemas.now c.args.rows.now c.args.news.now c.loop-row.schemas c.loop-row.news row left
    (taking_row c.args.schemas.now c.args.rows.now c.args.news.now c.loop-row.schemas c.loop-row.news c.loop-row.row-index row c.loop-row-test.true c.row-item.is c.loop-row.invariant)
    (c.in-Err.ensures.unfit fault)

pub loop-row-preserved : goal.loop-row-preserved
loop-row-preserved c =
    let row = c.row-item.result in
    let start = c.args.schemas.now in
    let rows = c.args.rows.now in
    let before = c.args.news.now in
    let left = drop (c.loop-row.row-index + 1) rows in
    let next = taking_next start rows before c.loop-row.schemas c.loop-row.news row left
    (taking_row start rows before c.loop-row.schemas c.loop-row.news c.loop-row.row-index row c.loop-row-test.true c.row-item.is c.loop-row.invariant) c.in-Ok.ensures.next.id in
    subst (λ texts. Taking start rows before texts c.take.new.news left) (sym c.in-Ok.ensures.schemas)
    (subst (λ news. Taking start rows before (c.loop-row.schemas ++ row.canonical ∷ []) news left) (sym c.in-Ok.ensures.news) next)
