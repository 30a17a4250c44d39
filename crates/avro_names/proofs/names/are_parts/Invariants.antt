use Rattle.std.proofs.Common.{◌≡◌, drop, cond}
use Rattle.avro_names.specs.Names.{are_parts, are_more_parts}
use Rattle.avro_names.proofs.names.are_parts.Given as goal

abbrev pub invariant-loop-byte : goal.invariant-loop-byte
invariant-loop-byte l = are_parts l.name ≡ cond l.begins (are_parts (drop l.byte-index l.name)) (are_more_parts (drop l.byte-index l.name))
