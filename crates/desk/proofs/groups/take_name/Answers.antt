use Rattle.std.proofs.Common.{rules, sym, Some, None}
use Rattle.std.proofs.lemmas.Map.Text.{btree_map_updates_text}
use Rattle.desk.proofs.ConsumersLemmas.{put_under}
use Rattle.desk.proofs.groups.take_name.Goals as goal

pub returns-in-Some-clause-puts : goal.returns-in-Some-clause-puts
returns-in-Some-clause-puts c =
    let old = c.args.groups.now in
    let left = c.take_in.new.names in
    let new = c.get_mut.follows.lender left in
    let updates = (c.get_mut.follows.holds left).3 (search rules) in
    put_under old new c.in-Some.names.now left c.args.group.now c.args.name.now None (sym c.in-Some.ensures.value)
    (λ other. btree_map_updates_text c.args.group.now old new (Some left) updates other) c.take_in.ensures.puts
