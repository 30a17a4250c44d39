use Rattle.std.proofs.Common.{◌≡◌, ◌+◌, ◌++◌, ◌∷◌, [], length, slice_get, Some, sym, ap, subst, ◌∙◌}
use Rattle.schema_keeper.specs.Keeper.{HadBefore, IsAbove}
use Rattle.schema_table.specs.Table.{BeginsWith, rows_of}
use Rattle.schema_table.proofs.IndexLemmas.{last_in, length-more}
use Rattle.schema_table.proofs.RowLemmas.{begins_itself, begins_with, holds_more, next_above}
use Rattle.schema_table.proofs.table.Table.add.Goals as goal

pub keep-requires : goal.keep-requires
keep-requires g c rows told =
    let old = c.args.self.now.schemas in
    let count : c.len-id.result ≡ length old + 1 = c.len-id.ensures.value ∙ ap length c.in-Ok.ensures.schemas ∙ length-more old c.args.text.now in
    subst (λ n. IsAbove n rows) (sym count) (next_above old rows (c.args.self.now.fresh c.requires.fresh rows told))

pub invariant_of-self-in-Ok-keep-clause-fresh : goal.invariant_of-self-in-Ok-keep-clause-fresh
invariant_of-self-in-Ok-keep-clause-fresh g c quiet rows told =
    let old = c.args.self.now.schemas in
    let text = c.args.text.now in
    let Told = g.P.Keeper.tells c.args.self.now.keeper in
    let count : c.len-id.result ≡ length old + 1 = c.len-id.ensures.value ∙ ap length c.in-Ok.ensures.schemas ∙ length-more old text in
    subst (λ ks. rows ≡ rows_of ks) (sym (c.in-Ok-keep.ensures.same.0 ∙ c.in-Ok.ensures.schemas))
    (holds_more Told old text rows (c.args.self.now.fresh c.requires.fresh) (subst (λ n. HadBefore Told rows n text) count (c.in-Ok-keep.ensures.ok rows told)))

pub invariant_of-self-in-Ok-keep-clause-kept : goal.invariant_of-self-in-Ok-keep-clause-kept
invariant_of-self-in-Ok-keep-clause-kept g c rows told =
    let old = c.args.self.now.schemas in
    let text = c.args.text.now in
    let Told = g.P.Keeper.tells c.args.self.now.keeper in
    let count : c.len-id.result ≡ length old + 1 = c.len-id.ensures.value ∙ ap length c.in-Ok.ensures.schemas ∙ length-more old text in
    let is : rows ≡ rows_of (old ++ text ∷ []) =
    holds_more Told old text rows (c.args.self.now.fresh c.requires.fresh) (subst (λ n. HadBefore Told rows n text) count (c.in-Ok-keep.ensures.ok rows told)) in
    subst (λ ks. BeginsWith (rows_of ks) rows) (sym (c.in-Ok-keep.ensures.same.0 ∙ c.in-Ok.ensures.schemas))
    (subst (BeginsWith (rows_of (old ++ text ∷ []))) (sym is) (begins_with _ _ (begins_itself (rows_of (old ++ text ∷ [])))))

pub invariant_of-self-in-Ok-keep-clause-safe : goal.invariant_of-self-in-Ok-keep-clause-safe
invariant_of-self-in-Ok-keep-clause-safe g c quiet rows left told crash = begins_with rows left (c.in-Ok-keep.ensures.safe rows left told crash)

pub returns-in-Ok-keep-clause-id : goal.returns-in-Ok-keep-clause-id
returns-in-Ok-keep-clause-id g c =
    let old = c.args.self.now.schemas in
    let text = c.args.text.now in
    let count : c.len-id.result ≡ length old + 1 = c.len-id.ensures.value ∙ ap length c.in-Ok.ensures.schemas ∙ length-more old text in
    (length old, count, subst (λ ks. slice_get ks (length old) ≡ Some text) (sym (c.in-Ok-keep.ensures.same.0 ∙ c.in-Ok.ensures.schemas)) (last_in old text))
