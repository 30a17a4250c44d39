use Rattle.std.proofs.Common.{◌≡◌, ◌≤◌, List, ℕ, Some, false}
use Rattle.proxy_cli.specs.Causes.{SinkGoes}
use Rattle.proxy_cli.specs.Served.{DeskGoes, ExchangesAll, IsKnown}
use Rattle.proxy_cli.proofs.Progress.{Progress}
use Rattle.proxy_cli.proofs.session.serve_stream.Given as goal

abbrev pub invariant-loop-count : goal.invariant-loop-count
invariant-loop-count g l = record {
  fresh : l.connection.continued ≡ false;
  goes : DeskGoes g.L.Link.stand g.C.Clock.tells l.fn.desk l.fn.clock l.desk l.clock;
  progress : IsKnown g.L.Link.stand l.fn.desk → (input : List ℕ) → g.S.Source.left l.fn.source ≡ Some input
      → Progress g.S.Source.left g.S.Source.asked l.fn.source l.source (ExchangesAll g.L.Link.stand g.C.Clock.tells g.C.Clock.hand l.fn.desk l.fn.clock l.desk l.clock) input (g.K.Sink.held l.fn.sink) (g.K.Sink.held l.sink) l.count l.connection;
  counts : (g.S.Source.faults l.fn.source ≤ g.S.Source.faults l.source) × SinkGoes g.K.Sink.faults g.K.Sink.stalls l.fn.sink l.sink;
}
