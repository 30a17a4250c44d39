use Rattle.std.proofs.Common.{◌≡◌, ◌<◌, ◌^◌, length}
use Rattle.std.specs.List.{All}
use Rattle.broker_link.specs.Infos.{IsOnNodeOne}
use Rattle.broker_link.specs.Metadata.{NumberedFrom}
use Rattle.broker_link.proofs.listing.make_parts.Given as goal

abbrev pub invariant-loop-number : goal.invariant-loop-number
invariant-loop-number l = record {
  count : length l.parts ≡ l.number;
  nodes : All IsOnNodeOne l.parts;
  numbers : l.count < 2 ^ 31 → NumberedFrom 0 l.parts;
}
