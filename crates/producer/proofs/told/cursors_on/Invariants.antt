use Rattle.std.proofs.Common.{◌≡◌, take, map}
use Rattle.producer.specs.Groups.{cursor_of}
use Rattle.producer.proofs.told.cursors_on.Given as goal

abbrev pub invariant-loop-one : goal.invariant-loop-one
invariant-loop-one l = l.cursors.items ≡ map cursor_of (take l.one-index l.placed)
