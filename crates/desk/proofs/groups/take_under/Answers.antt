use Rattle.std.specs.Prelude.{None, List, ℕ}
use Rattle.std.proofs.Common.{sym}
use Rattle.rest_calls.specs.Views.{key_in}
use Rattle.std.proofs.lemmas.Map.Text.{btree_map_updates_text}
use Rattle.desk.proofs.ConsumersLemmas.{puts_same, same_of}
use Rattle.desk.proofs.groups.take_under.Goals as goal

pub returns-then-take_name : goal.returns-then-take_name
returns-then-take_name c =
    let old = c.args.groups.now in
    let mid = c.take_name.new.groups in
    let new = c.remove.new.self in
    let group = c.args.group.now in
    record {
      puts = puts_same old mid new (key_in group c.args.name.now) None c.take_name.ensures.puts
          (same_of mid new group None (λ other. btree_map_updates_text group mid new None c.remove.ensures.updates other)
          (λ name. sym (c.take_name.ensures.empty c.if-take_name.true name)));
    }
