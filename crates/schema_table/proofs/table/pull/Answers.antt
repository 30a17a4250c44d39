use Rattle.std.proofs.Common.{subst, inr}
use Rattle.schema_keeper.specs.Keeper.{Begins}
use Rattle.schema_table.specs.Table.{IsTable, rows_of}
use Rattle.schema_table.proofs.RowLemmas.{caused, kept_front}
use Rattle.schema_table.proofs.table.pull.Goals as goal

pub returns-in-Ok-clause-fault : goal.returns-in-Ok-clause-fault
returns-in-Ok-clause-fault g c =
    let old = c.args.schemas.now in
    caused c.take_loaded.result _ _
    (λ e unfit is. inr (record {
      loaded = c.in-Ok.rows;
      told = c.in-Ok.ensures.value;
      unfit = subst (λ l. IsTable l → Begins (rows_of old) l → ⊥) c.as_slice.ensures (unfit is);
    }))
    c.take_loaded.ensures.unfit

pub returns-in-Ok-clause-front : goal.returns-in-Ok-clause-front
returns-in-Ok-clause-front g c rows told begins =
    let old = c.args.schemas.now in
    let new = c.take_loaded.new.schemas in
    kept_front old new c.in-Ok.rows rows (c.in-Ok.ensures.value rows told) begins
    (subst (λ l. Begins (rows_of old) l → Begins (rows_of new) l) c.as_slice.ensures c.take_loaded.ensures.front)
