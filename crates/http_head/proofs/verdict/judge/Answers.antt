use Rattle.std.proofs.Common.{◌≢◌, ap, Err, inr, refl}
use Rattle.httparse.specs.Grammar.{NeverHasRequest}
use Rattle.httparse.specs.declared.Error.TheVariants.{TooManyHeaders}
use Rattle.http_head.proofs.JudgeLemmas.{never_too_many}
use Rattle.http_head.proofs.HeadLemmas.{never_none}
use Rattle.http_head.proofs.verdict.judge.Goals as goal

pub returns-then-ends_in_target : goal.returns-then-ends_in_target
returns-then-ends_in_target c =
    let room : c.in-Err.field-0 ≢ TooManyHeaders = λ many.
    never_too_many c.args.buf.now _ c.requires.short c.requires.room (c.in-Err.ensures.too_many (ap (λ e. Err e) many)) in
    let never : NeverHasRequest c.args.buf.now = c.in-Err.ensures.invalid room in
    (never_none c.args.buf.now never, inr (c.if-ends_in_target.ensures.ends refl))

pub returns-else-ends_in_target : goal.returns-else-ends_in_target
returns-else-ends_in_target c =
    let room : c.in-Err.field-0 ≢ TooManyHeaders = λ many.
    never_too_many c.args.buf.now _ c.requires.short c.requires.room (c.in-Err.ensures.too_many (ap (λ e. Err e) many)) in
    let never : NeverHasRequest c.args.buf.now = c.in-Err.ensures.invalid room in
    (never, c.if-ends_in_target.ensures.only refl)
