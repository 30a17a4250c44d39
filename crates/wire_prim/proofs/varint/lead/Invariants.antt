use Rattle.std.proofs.Common.{◌≡◌, ◌+◌, drop}
use Rattle.wire_prim.specs.Varint.{lead}
use Rattle.wire_prim.proofs.varint.lead.Given as goal

abbrev pub invariant-loop-index : goal.invariant-loop-index
invariant-loop-index l = lead l.front ≡ l.index + lead (drop l.index l.front)
