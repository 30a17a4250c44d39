use Rattle.model.proofs.Readings.{read_by_one_is_legal}
use Rattle.model.proofs.ReadingReplies.{read_by_one_replies}
use Rattle.model.proofs.examples.reading_one_by_one_is_legal.Goals as goal

pub returns-clause-legal : goal.returns-clause-legal
returns-clause-legal c = read_by_one_is_legal

pub returns-clause-replies : goal.returns-clause-replies
returns-clause-replies c = read_by_one_replies
