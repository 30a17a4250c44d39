use Rattle.std.proofs.Common.{sym, ◌∙◌, inr}
use Rattle.avro_value.proofs.PartLemmas.{entries_are, entries_alike}
use Rattle.avro_value.proofs.json_pick.entries_in.Goals as goal

pub returns-then-branch : goal.returns-then-branch
returns-then-branch c j stands =
    let found = c.in-Ok.ensures j stands in
    (found.0, entries_are c.args.number c.args.tree.now j c.in-Ok.members.now found.0 found.1 found.2 (sym c.in_ok-differ.ensures.value ∙ c.if-branch.true), found.2)

pub returns-else-branch : goal.returns-else-branch
returns-else-branch c j stands =
    let found = c.in-Ok.ensures j stands in
    inr (entries_alike c.args.number c.args.tree.now j c.in-Ok.members.now found.0 found.1 found.2 (sym c.in_ok-differ.ensures.value ∙ c.if-branch.false))
