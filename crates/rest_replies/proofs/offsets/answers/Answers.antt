use Rattle.std.proofs.Common.{◌∙◌}
use Rattle.std.specs.Prelude.{map}
use Rattle.rest_replies.specs.Answer.{placed_of}
use Rattle.rest_replies.proofs.OffsetsLemmas.{says_produced}
use Rattle.rest_replies.proofs.offsets.answers.Goals as goal

pub returns-in-Ok : goal.returns-in-Ok
returns-in-Ok c = says_produced (map placed_of c.args.told.now) c.from_string.result (c.from_string.ensures ∙ c.in-Ok.ensures)
