use Rattle.model.proofs.Readings.{read_from_the_end_is_legal}
use Rattle.model.proofs.ReadingReplies.{read_from_the_end_replies}
use Rattle.model.proofs.examples.reading_from_the_end_is_legal.Goals as goal

pub returns-clause-legal : goal.returns-clause-legal
returns-clause-legal c = read_from_the_end_is_legal

pub returns-clause-replies : goal.returns-clause-replies
returns-clause-replies c = read_from_the_end_replies
