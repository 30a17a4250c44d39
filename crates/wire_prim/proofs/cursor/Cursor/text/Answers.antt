use Rattle.std.specs.Int.{w32}
use Rattle.std.proofs.lemmas.Int.{to_z-of_z}
use Rattle.wire_prim.proofs.BehindLemmas.{text_read, text_refused}
use Rattle.wire_prim.proofs.cursor.Cursor.text.Goals as goal

pub returns-in-Ok-clause-answer : goal.returns-in-Ok-clause-answer
returns-in-Ok-clause-answer c =
    let sized = c.in_ok-piece.ensures in
    rw (← c.copy-ahead.ensures) (text_read c.args.size _ _ _ c.in_ok-piece.piece.now (to_z-of_z w32 c.args.size c.ranges.size) sized.answer sized.value.1 sized.value.0.left c.in-Ok.ensures.cases.1)

pub returns-in-Err-clause-answer : goal.returns-in-Err-clause-answer
returns-in-Err-clause-answer c =
    let sized = c.in_ok-piece.ensures in
    rw (← c.copy-ahead.ensures) (text_refused c.args.size _ _ _ c.in_ok-piece.piece.now (to_z-of_z w32 c.args.size c.ranges.size) sized.answer sized.value.1 sized.value.0.left c.in-Err.ensures.cases.0)
