use Rattle.std.proofs.Common.{◌≡◌, take, map, length}
use Rattle.std.specs.List.{All}
use Rattle.model.specs.state.Log.{IsLog}
use Rattle.broker_link.specs.Fetching.{edge_view}
use Rattle.instance.specs.Gathering.{AreTold, EdgesTold, IsLowIf}
use Rattle.instance.specs.Passing.{Passes}
use Rattle.broker_link.specs.Places.{place_of}
use Rattle.instance.proofs.resets.tell_edges.Given as goal

abbrev pub invariant-loop-i : goal.invariant-loop-i
invariant-loop-i g l = record {
  passes : Passes (g.L.Link.stand l.fn.link) (g.L.Link.stand l.link);
  long : length l.told ≡ l.i;
  are : AreTold (take l.i l.fetched) l.told;
  low : All IsLowIf l.told;
  told : (g.L.Link.stand l.fn.link).tells → IsLog (g.L.Link.stand l.fn.link).log → EdgesTold (edge_view l.edge) (g.L.Link.stand l.fn.link).log (map place_of (take l.i l.places)) l.told (g.L.Link.stand l.link).log;
}
