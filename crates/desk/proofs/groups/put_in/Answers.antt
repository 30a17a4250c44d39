use Rattle.std.specs.Prelude.{Some, string_bytes}
use Rattle.std.proofs.lemmas.Map.Text.{btree_map_updates_text}
use Rattle.desk.proofs.groups.put_in.Goals as goal

pub returns-in-Ok-clause-puts : goal.returns-in-Ok-clause-puts
returns-in-Ok-clause-puts c = λ other. btree_map_updates_text (string_bytes c.args.name) c.args.names.now c.insert.new.self (Some c.args.instance) c.in-Ok.ensures.updates other
