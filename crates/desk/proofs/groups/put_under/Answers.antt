use Rattle.std.proofs.Common.{rules, List, ℕ, subst, sym, Some}
use Rattle.std.specs.Prelude.{string_bytes}
use Rattle.std.specs.BTreeMap.{get_by_text}
use Rattle.std.proofs.lemmas.Map.Text.{btree_map_updates_text}
use Rattle.desk.specs.Consumers.{PutsName}
use Rattle.desk.proofs.ConsumersLemmas.{put_under, same_under, on_ok_from, on_err_from}
use Rattle.desk.proofs.groups.put_under.Goals as goal

pub returns-in-Some-clause-puts : goal.returns-in-Some-clause-puts
returns-in-Some-clause-puts c =
    let old = c.args.groups.now in
    let names = c.in-Some.names.now in
    let left = c.put_in.new.names in
    let new = c.get_mut.follows.lender left in
    let updates = (c.get_mut.follows.holds left).3 (search rules) in
    on_ok_from c.put_in.result _ _
    (λ puts. put_under old new names left c.args.group.now c.args.name.now (Some c.args.instance) (sym c.in-Some.ensures.value)
    (λ other. btree_map_updates_text c.args.group.now old new (Some left) updates other)
    (subst (λ (name : List ℕ). PutsName (Some names) name (Some c.args.instance) (Some left)) c.in-Ok.ensures.ok puts)) c.put_in.ensures.puts

pub returns-in-Some-clause-stays : goal.returns-in-Some-clause-stays
returns-in-Some-clause-stays c =
    let old = c.args.groups.now in
    let names = c.in-Some.names.now in
    let left = c.put_in.new.names in
    let new = c.get_mut.follows.lender left in
    let updates = (c.get_mut.follows.holds left).3 (search rules) in
    on_err_from c.put_in.result _ _
    (λ same. same_under old new names left c.args.group.now (sym c.in-Some.ensures.value)
    (λ other. btree_map_updates_text c.args.group.now old new (Some left) updates other) same) c.put_in.ensures.stays
