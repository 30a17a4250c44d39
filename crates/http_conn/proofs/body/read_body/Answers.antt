use Rattle.std.proofs.Common.{subst, drop}
use Rattle.http_head.specs.declared.fields.Framing.{Framing}
use Rattle.body_read.specs.Chunks.{Outcome}
use Rattle.body_read.specs.Body.{BodyIs}
use Rattle.http_conn.proofs.body.read_body.Goals as goal

pub returns-in-Chunks-clause-prompt : goal.returns-in-Chunks-clause-prompt
returns-in-Chunks-clause-prompt g c = λ body rest is.
    c.read_chunks.ensures.prompt body rest (subst (λ (f : Framing). BodyIs f (drop c.args.head.spans.len c.args.held.now) (Outcome.Whole body rest)) c.in-Chunks.is is)
