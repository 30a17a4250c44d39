use Rattle.model.proofs.Pins.{buffered_first}
use Rattle.model.proofs.pinned.buffers_are_pinned.Goals as goal

pub returns-clause-order : goal.returns-clause-order
returns-clause-order c = buffered_first
