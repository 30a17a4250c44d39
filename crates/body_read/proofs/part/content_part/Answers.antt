use Rattle.std.proofs.Common.{arith, ap, sym, ◌∙◌, ◌+◌, ◌≤◌, ◌≡◌, Some, true}
use Rattle.http_head.specs.Fields.{max_body}
use Rattle.body_read.specs.Chunks.{after_content}
use Rattle.body_read.specs.Found.{ended_of}
use Rattle.body_read.proofs.ChunkParts.{chunk_at}
use Rattle.body_read.proofs.part.content_part.Goals as goal

pub returns-in-Some-true : goal.returns-in-Some-true
returns-in-Some-true c =
    let line = c.requires.line in
    let fits : c.args.sum + c.args.size ≤ max_body = omega (arith, c.if-size-sum.false, c.requires.sum) in
    let ended : ended_of (after_content c.behind.result.now) ≡ Some true = sym c.is_ended.ensures ∙ c.in-Some-true.is ∙ ap (λ b. Some b) c.in-Some-true.field-0-test in
    chunk_at c.args.bytes.now c.args.len c.args.size c.args.sum line.2 line.3 line.4 c.requires.some fits
    (sym (ap (λ l. ended_of (after_content l)) c.behind.ensures) ∙ ended)
