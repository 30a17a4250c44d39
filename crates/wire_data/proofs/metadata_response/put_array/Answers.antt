use Rattle.std.proofs.Common.{arith}
use Rattle.wire_data.proofs.Topics.{counted, counted_fits}
use Rattle.wire_data.proofs.metadata_response.put_array.Goals as goal

pub returns-clause-ok : goal.returns-clause-ok
returns-clause-ok c = counted c.args.topics.now _ _ _ _ (omega arith) c.in_ok-put_count.ensures.ok c.in_ok-put_topics.ensures.ok

pub returns-clause-fits : goal.returns-clause-fits
returns-clause-fits c = counted_fits c.args.topics.now (omega arith) c.in_ok-put_topics.ensures.fits
