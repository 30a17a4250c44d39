use Rattle.std.proofs.Common.{None}
use Rattle.std.proofs.lemmas.Map.Text.{btree_map_updates_text}
use Rattle.schema_table.proofs.schemas.drop_place.Goals as goal

pub returns : goal.returns
returns c = btree_map_updates_text c.args.text.now c.args.places.now c.remove.new.self None c.remove.ensures.updates
