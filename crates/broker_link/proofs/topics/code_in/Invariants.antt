use Rattle.std.proofs.Common.{◌≡◌, drop}
use Rattle.broker_link.specs.Produced.{first_code}
use Rattle.broker_link.proofs.topics.code_in.Given as goal

abbrev pub invariant-loop-one : goal.invariant-loop-one
invariant-loop-one l = first_code l.placed ≡ first_code (drop l.one-index l.placed)
