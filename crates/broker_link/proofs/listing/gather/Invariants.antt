use Rattle.std.proofs.Common.{take}
use Rattle.std.specs.Prelude.{All, option_map}
use Rattle.model.specs.state.Log.{shape_of}
use Rattle.broker_link.specs.Made.{ArePlans}
use Rattle.broker_link.specs.Stored.{log_of}
use Rattle.broker_link.specs.Infos.{AreOnNodeOne, Gathered}
use Rattle.broker_link.proofs.listing.gather.Given as goal

abbrev pub invariant-loop-topic : goal.invariant-loop-topic
invariant-loop-topic l = record {
  nodes : All AreOnNodeOne l.infos.items;
  gathered : ArePlans (shape_of (log_of l.topics)) → Gathered (option_map (λ t. t.now) l.name) (take l.topic-index l.topics) l.infos.items;
}
