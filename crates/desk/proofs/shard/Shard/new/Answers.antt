use Rattle.std.proofs.Common.{refl}
use Rattle.desk.proofs.Creating.{world_of_nobody}
use Rattle.desk.proofs.shard.Shard.new.Goals as goal

pub returns-clause-instances : goal.returns-clause-instances
returns-clause-instances g c = world_of_nobody c.new.result 0 c.new.ensures.nobody refl
