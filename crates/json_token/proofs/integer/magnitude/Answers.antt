use Rattle.std.proofs.Common.{arith}
use Rattle.json_token.proofs.Digits.{digit_more, digits_small}
use Rattle.json_token.proofs.integer.magnitude.Goals as goal

pub overflow_mul-value : goal.overflow_mul-value
overflow_mul-value c = omega (arith, digit_more c.loop-digit.value c.loop-digit.digit-index c.loop-digit.invariant.1 (omega arith))

pub overflow_add-value : goal.overflow_add-value
overflow_add-value c = omega (arith, digit_more c.loop-digit.value c.loop-digit.digit-index c.loop-digit.invariant.1 (omega arith))

pub returns-clause-small : goal.returns-clause-small
returns-clause-small c = digits_small c.loop-digit.value c.loop-digit.digit-index c.loop-digit.invariant.1 (omega arith)
