use Rattle.std.proofs.Common.{◌+◌, arith}
use Rattle.http_head.specs.Fields.{max_body}
use Rattle.http_head.proofs.FieldLemmas.{value_more}
use Rattle.http_head.proofs.fields.value_of.Goals as goal

pub loop-b-preserved : goal.loop-b-preserved
loop-b-preserved c =
    let m = value_more c.args.digits.now c.loop-b.b-index (max_body + 1) c.requires c.loop-b-test.true in
    let i = c.loop-b.invariant in
    omega (arith, m, i)
