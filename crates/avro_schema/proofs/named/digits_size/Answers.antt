use Rattle.std.proofs.Common.{◌<◌, arith}
use Rattle.json_token.specs.Integer.{decimal}
use Rattle.avro_schema.proofs.SizeLemmas.{digits_grow, too_big}
use Rattle.avro_schema.proofs.named.digits_size.Goals as goal

pub returns-then-size-gt1048576 : goal.returns-then-size-gt1048576
returns-then-size-gt1048576 c =
    let grown = digits_grow c.args.text.now c.loop-digit.digit-index c.loop-digit.size c.loop-digit-test.true c.loop-digit.invariant.size in
    let from = c.from.ensures in
    let big : 1048576 < decimal c.args.text.now = omega arith in
    too_big c.args.text.now (omega arith) big
