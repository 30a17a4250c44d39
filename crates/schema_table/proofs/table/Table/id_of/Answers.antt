use Rattle.std.proofs.Common.{◌≡◌, sym, ap, subst, ◌∙◌}
use Rattle.avro_schema.specs.Canonical.{canonical_form}
use Rattle.avro_schema.specs.Nodes.{tree_of}
use Rattle.schema_table.specs.Table.{IsFull}
use Rattle.schema_table.proofs.RowLemmas.{grew_on, lacked, told_on}
use Rattle.schema_table.proofs.table.Table.id_of.Goals as goal

pub returns-clause-grew : goal.returns-clause-grew
returns-clause-grew g c =
    grew_on c.args.self.now.schemas c.refresh.new.self.schemas c.add.new.self.schemas c.args.news.now.rows c.refresh.new.news.rows c.add.new.news.rows c.in-Ok.ensures.grew c.add.ensures.grew

pub returns-clause-told : goal.returns-clause-told
returns-clause-told g c =
    told_on (g.P.Keeper.tells c.args.self.now.keeper) (g.P.Keeper.tells c.refresh.new.self.keeper) (g.P.Keeper.tells c.add.new.self.keeper) c.in-Ok.ensures.told c.add.ensures.told

pub returns-in-Some-clause-room : goal.returns-in-Some-clause-room
returns-in-Some-clause-room g c quiet full =
    absurd (lacked c.args.self.now.schemas c.refresh.new.self.schemas c.in-Some.id c.as_str.result.now (canonical_form (tree_of c.args.schema.now))
    (ap (λ t. t.schemas) (c.in-Ok.ensures.idle quiet).0) (c.as_str.ensures.value ∙ c.in-Ok-canonical.ensures.value) full.lacks c.in-Some.ensures.some)

pub returns-clause-room : goal.returns-clause-room
returns-clause-room g c quiet full =
    let same = ap (λ t. t.schemas) (c.in-Ok.ensures.idle quiet).0 in
    let is = c.as_str-in-None.ensures.value ∙ c.in-Ok-canonical.ensures.value in
    c.add.ensures.room (subst (λ l. IsFull l c.as_str-in-None.result.now) (sym same) (subst (IsFull c.args.self.now.schemas) (sym is) full))
