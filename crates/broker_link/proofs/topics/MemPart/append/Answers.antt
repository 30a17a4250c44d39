use Rattle.std.proofs.Common.{◌≡◌, ◌∙◌, ◌++◌, List, ap}
use Rattle.model.specs.state.Log.{Part}
use Rattle.broker_link.specs.Stored.{appended, part_of}
use Rattle.broker_link.specs.declared.link.NewRecord.{NewRecord}
use Rattle.broker_link.proofs.Numbered.{appended_is}
use Rattle.broker_link.proofs.topics.MemPart.append.Goals as goal

pub returns-clause-ok : goal.returns-clause-ok
returns-clause-ok c =
    let rows : List NewRecord = c.self.inside.rows.items in
    let old : part_of rows ≡ c.args.self.now = c.self.view_is in (
      c.len-base.ensures ∙ (c.self.inside.rows.ok.0 ∙ ap (λ (p : Part). p.end) old),
      ap part_of (c.in_ok-append.ensures.items ∙ ap (λ (more : List NewRecord). rows ++ more) c.in_ok-rows.ensures)
          ∙ (appended_is rows c.args.records.now ∙ ap (λ (p : Part). appended p c.args.records.now) old),
    )
