use Rattle.std.proofs.Common.{[], ◌∷◌, ◌++◌, not, ap, ◌∙◌}
use Rattle.avro_names.specs.NameList.{is_among}
use Rattle.avro_schema.proofs.Found.{form_name}
use Rattle.avro_schema.proofs.named.add_branch.Goals as goal

pub returns-in-Ok-clause-added : goal.returns-in-Ok-clause-added
returns-in-Ok-clause-added c =
    let name = c.name_in.ensures ∙ form_name c.args.parts.now.nodes.items c.args.node c.index.result.now c.requires.before c.requires.node c.index.ensures in
    c.in-Ok.ensures.added ∙ ap (λ n. not (is_among n c.args.seen.now)) name

pub returns-in-Ok-clause-seen : goal.returns-in-Ok-clause-seen
returns-in-Ok-clause-seen c =
    let name = c.name_in.ensures ∙ form_name c.args.parts.now.nodes.items c.args.node c.index.result.now c.requires.before c.requires.node c.index.ensures in
    c.in-Ok.ensures.items ∙ ap (λ n. c.args.seen.now ++ n ∷ []) name
