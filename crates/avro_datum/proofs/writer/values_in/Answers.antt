use Rattle.std.proofs.Common.{sym, ◌∙◌}
use Rattle.avro_schema.specs.Types.{resolved}
use Rattle.avro_schema.specs.Nodes.{tree_of}
use Rattle.avro_datum.proofs.ShownLemmas.{values_there}
use Rattle.avro_datum.proofs.writer.values_in.Goals as goal

pub returns-then-branch-clause-value : goal.returns-then-branch-clause-value
returns-then-branch-clause-value c t stands =
    let p = c.in-Some.ensures t stands in
    (p.0, values_there (resolved (tree_of c.args.schema.now) t) p.0 c.args.entries.now (sym c.in_ok-keys_differ.ensures.value ∙ c.if-branch.true) p.1, p.2)
