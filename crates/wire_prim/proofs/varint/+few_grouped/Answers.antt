use Rattle.std.proofs.Common.{ℕ, ◌<◌, ◌^◌, arith, length-take, length-drop}
use Rattle.wire_prim.proofs.VarintLemmas.{eight_groups}
use Rattle.wire_prim.proofs.varint.+few_grouped.Goals as goal

pub overflow_mul-result : goal.overflow_mul-result
overflow_mul-result t c =
    let small : c.few_grouped.result < 2 ^ 56 = eight_groups _ _ (omega (arith, length-take {A = ℕ}, length-drop {A = ℕ})) c.few_grouped.ensures.bound in
    omega arith

pub overflow_add-result : goal.overflow_add-result
overflow_add-result t c =
    let small : c.few_grouped.result < 2 ^ 56 = eight_groups _ _ (omega (arith, length-take {A = ℕ}, length-drop {A = ℕ})) c.few_grouped.ensures.bound in
    omega arith
