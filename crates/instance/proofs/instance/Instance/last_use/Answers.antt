use Rattle.std.proofs.Common.{subst}
use Rattle.model.specs.state.World.{IsConsumer}
use Rattle.instance.specs.Views.{Live}
use Rattle.instance.proofs.instance.Instance.last_use.Goals as goal

pub returns-clause-sound : goal.returns-clause-sound
returns-clause-sound c = subst (λ (l : Live). IsConsumer l.consumer) c.self.view_is c.self.invariant.sound
