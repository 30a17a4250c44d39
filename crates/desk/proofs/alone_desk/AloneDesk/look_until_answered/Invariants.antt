use Rattle.desk.specs.Step.{no_expiry}
use Rattle.desk.specs.Runs.{stood}
use Rattle.broker_link.specs.Stands.{Goes}
use Rattle.std.proofs.Common.{◌≡◌, ◌<◌, ◌+◌, ◌-◌, ◌*◌, ◌^◌}
use Rattle.model.specs.state.Log.{IsLog}
use Rattle.rest_calls.specs.Views.{asked_of}
use Rattle.desk.specs.Shelf.{world_in}
use Rattle.desk.proofs.Looking.{Looked}
use Rattle.desk.proofs.alone_desk.AloneDesk.look_until_answered.Given as goal

abbrev pub invariant-loop-reply : goal.invariant-loop-reply
invariant-loop-reply g l = record {
  looked : (g.L.Link.stand l.fn.self.shard.link).tells → IsLog (g.L.Link.stand l.fn.self.shard.link).log
      → Looked no_expiry 0 (g.L.Link.stand l.fn.self.shard.link).plain (g.C.Clock.tells l.fn.clock) (asked_of l.fn.call)
      (stood (world_in l.fn.self.shard.instances l.fn.self.shard.last) (g.L.Link.stand l.fn.self.shard.link) (g.C.Clock.hand l.fn.clock))
      l.round
      (stood (world_in l.self.shard.instances l.self.shard.last) (g.L.Link.stand l.self.shard.link) (g.C.Clock.hand l.clock));
  few : 10 * l.round < 2 ^ 32 + 10;
  names_given : l.self.names_given ≡ l.fn.self.names_given;
  advertise : l.self.shard.advertise ≡ l.fn.self.shard.advertise;
  goes : Goes (g.L.Link.stand l.fn.self.shard.link) (g.L.Link.stand l.self.shard.link);
  ticking : g.C.Clock.tells l.fn.clock → g.C.Clock.tells l.clock;
}

abbrev pub decreases-loop-reply : goal.decreases-loop-reply
decreases-loop-reply g l = 2 ^ 32 - l.round
