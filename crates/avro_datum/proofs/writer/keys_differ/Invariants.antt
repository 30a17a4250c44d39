use Rattle.std.proofs.Common.{drop}
use Rattle.avro_datum.proofs.KeyLemmas.{KeysSeen}
use Rattle.avro_datum.proofs.writer.keys_differ.Given as goal

abbrev pub invariant-loop-entry : goal.invariant-loop-entry
invariant-loop-entry l = KeysSeen l.keys l.entries (drop l.entry-index l.entries)
