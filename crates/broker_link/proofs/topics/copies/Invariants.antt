use Rattle.std.proofs.Common.{◌≡◌, take}
use Rattle.broker_link.proofs.topics.copies.Given as goal

abbrev pub invariant-loop-one : goal.invariant-loop-one
invariant-loop-one l = l.rows.items ≡ take l.one-index l.records
