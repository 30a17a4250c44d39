use Rattle.wire_prim.proofs.Readback.{string_reads}
use Rattle.wire_prim.proofs.put.put_string.Goals as goal

pub returns-clause-reads : goal.returns-clause-reads
returns-clause-reads c = string_reads c.args.value.now c.requires c.utf8.value
