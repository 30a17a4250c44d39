use Rattle.std.proofs.Common.{◌≡◌, List, ℕ, subst, Some}
use Rattle.std.specs.Prelude.{string_bytes}
use Rattle.std.proofs.lemmas.Map.Text.{btree_map_updates_text}
use Rattle.desk.proofs.ConsumersLemmas.{PutsGroup, puts_of, first_name}
use Rattle.desk.proofs.groups.put_first.Goals as goal

pub returns-in-Ok-insert-clause-puts : goal.returns-in-Ok-insert-clause-puts
returns-in-Ok-insert-clause-puts c =
    let old = c.args.groups.now in
    let new = c.insert.new.self in
    let group = c.args.group.now in
    let name = string_bytes c.args.name in
    let left = c.put_in.new.names in
    let outer = subst (λ (g : List ℕ). PutsGroup old g (Some left) new) c.in-Ok.ensures.ok
    (λ other. btree_map_updates_text (string_bytes c.in-Ok.group) old new (Some left) c.in-Ok-insert.ensures.updates other) in
    puts_of old new group name (Some c.args.instance) (Some left) outer
    (first_name old group c.new-names.result name (Some c.args.instance) (Some left) c.new-names.ensures.empty c.requires.none c.in_default-put_in.ensures.puts)
