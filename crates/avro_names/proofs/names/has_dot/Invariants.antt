use Rattle.std.proofs.Common.{◌≡◌, drop}
use Rattle.avro_names.specs.Names.{has_dot}
use Rattle.avro_names.proofs.names.has_dot.Given as goal

abbrev pub invariant-loop-byte : goal.invariant-loop-byte
invariant-loop-byte l = has_dot l.name ≡ has_dot (drop l.byte-index l.name)
