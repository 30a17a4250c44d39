use Rattle.producer.proofs.FourLemmas.{four_on}
use Rattle.producer.proofs.partition.behind_four.Goals as goal

pub returns : goal.returns
returns c rest = four_on c.args.hash c.args.four.now rest _ _ c.told-four c.from_le_bytes.ensures c.mixed.ensures
