use Rattle.std.proofs.Common.{◌≢◌, ap, Err}
use Rattle.httparse.specs.declared.Error.TheVariants.{TooManyHeaders}
use Rattle.body_read.proofs.ChunkParts.{never_too_many}
use Rattle.body_read.proofs.trailers.parse_trailers.Goals as goal

pub returns-in-Err : goal.returns-in-Err
returns-in-Err c =
    let room : c.in-Err.field-0 ≢ TooManyHeaders = λ many.
    never_too_many c.args.bytes.now _ c.requires.short c.requires.room (c.in-Err.ensures.too_many (ap (λ e. Err e) many)) in
    c.in-Err.ensures.invalid room
