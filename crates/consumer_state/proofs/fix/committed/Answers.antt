use Rattle.std.proofs.Common.{rules}
use Rattle.consumer_state.proofs.Sorting.{rising_apart}
use Rattle.consumer_state.proofs.fix.committed.Goals as goal

pub committed-requires : goal.committed-requires
committed-requires g c = record { some = search rules; apart = rising_apart c.args.news.now c.requires }
