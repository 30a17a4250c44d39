use Rattle.std.proofs.Common.{◌≡◌, drop}
use Rattle.avro_names.specs.Names.{is_tail}
use Rattle.avro_names.proofs.names.is_tail.Given as goal

abbrev pub invariant-loop-byte : goal.invariant-loop-byte
invariant-loop-byte l = is_tail l.name ≡ is_tail (drop l.byte-index l.name)
