use Rattle.std.proofs.Common.{ap, arith, ◌≡◌, length}
use Rattle.wire_prim.specs.Reading.{Reading}
use Rattle.wire_layout.proofs.Refusals.{not_read, left_over}
use Rattle.wire_data.specs.MetadataResponse.{stored_response, stored_response_laid}
use Rattle.wire_data.proofs.Topics.{told_refused, told_read}
use Rattle.wire_data.proofs.metadata_response.MetadataResponse.read_placed.Goals as goal

pub returns-in-Err-clause-read : goal.returns-in-Err-clause-read
returns-in-Err-clause-read c =
    let start = ap (λ (r : Reading). r.left) c.new-cursor.ensures in
    rw (c.refusal_at.ensures, c.refusal_of.ensures) (told_refused c.args.bytes.now _ (not_read stored_response stored_response_laid c.args.bytes.now _ c.in-Err.cause (rw start at c.in-Err.ensures.answer)))

pub returns-then-left-eq0-clause-read : goal.returns-then-left-eq0-clause-read
returns-then-left-eq0-clause-read c =
    let start = ap (λ (r : Reading). r.left) c.new-cursor.ensures in
    let none : length c.response.new.cursor.left ≡ 0 = omega arith in
    rw (← start) (told_read c.in-Ok.message _ _ c.in-Ok.ensures.value c.in-Ok.ensures.answer none)

pub returns-else-left-eq0-clause-read : goal.returns-else-left-eq0-clause-read
returns-else-left-eq0-clause-read c =
    let start = ap (λ (r : Reading). r.left) c.new-cursor.ensures in
    rw c.refusal_at-else-left-eq0.ensures (told_refused c.args.bytes.now _ (left_over stored_response stored_response_laid c.args.bytes.now _ _ (rw start at c.in-Ok.ensures.answer) c.left-left.ensures c.if-left-eq0.false))
