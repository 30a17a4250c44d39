use Rattle.std.proofs.Common.{List, Result, subst, sym}
use Rattle.std.specs.Prelude.{map}
use Rattle.rest_replies.specs.Answer.{placed_of}
use Rattle.rest_replies.specs.declared.answer.Told.{Told}
use Rattle.rest_replies.specs.declared.answer.ProduceNo.{ProduceNo}
use Rattle.rest_replies.specs.Offsets.{SaysAnswer, SaysProduced}
use Rattle.rest_replies.proofs.offsets.reply_to.Goals as goal

pub returns-in-Ok : goal.returns-in-Ok
returns-in-Ok c =
    subst (λ (r : Result (List Told) ProduceNo). SaysAnswer r c.answers.result) (sym c.in-Ok.is)
    (subst (λ (told : List Told). SaysProduced (map placed_of told) c.answers.result) c.as_slice.ensures c.answers.ensures)
