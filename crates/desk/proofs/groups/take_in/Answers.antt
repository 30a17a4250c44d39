use Rattle.std.specs.Prelude.{None}
use Rattle.std.proofs.lemmas.Map.Text.{btree_map_updates_text}
use Rattle.desk.proofs.ConsumersLemmas.{no_names}
use Rattle.desk.proofs.groups.take_in.Goals as goal

pub returns-clause-puts : goal.returns-clause-puts
returns-clause-puts c = λ other. btree_map_updates_text c.args.name.now c.args.names.now c.remove.new.self None c.remove.ensures.updates other

pub returns-clause-empty : goal.returns-clause-empty
returns-clause-empty c = λ is. no_names c.remove.new.self (c.is_empty.ensures.0 is)
