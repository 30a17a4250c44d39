use Rattle.std.proofs.Common.{nat_abs, ap, ◌∙◌}
use Rattle.std.specs.Int.{w32, w64}
use Rattle.std.proofs.lemmas.Int.{to_z-of_z}
use Rattle.record_batch.specs.Seen.{seen}
use Rattle.record_batch.proofs.RecordLemmas.{body_gives, pos_of}
use Rattle.record_batch.proofs.record.body_of.Goals as goal

pub returns-in-Ok-clause-gives : goal.returns-in-Ok-clause-gives
returns-in-Ok-clause-gives c =
    let part = c.in-Ok.ensures.value in
    let size = to_z-of_z w32 c.args.size c.ranges.size in
    let gives = rw (to_z-of_z w64 c.args.base c.ranges.base, to_z-of_z w64 c.args.low c.ranges.low) at c.body.ensures.gives in
    let test = rw size at c.if-size-lt0.false in
    body_gives seen c.body.result c.args.place c.args.base c.args.low c.args.size (nat_abs c.args.size) _ _ _ _ (pos_of c.args.size test) part.0 (part.1 ∙ ap nat_abs size) part.2 gives
