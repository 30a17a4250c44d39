use Rattle.std.proofs.Common.{ℕ, ◌<◌, ◌^◌, arith, length-take, length-drop}
use Rattle.wire_prim.proofs.VarintLemmas.{nine_groups}
use Rattle.wire_prim.proofs.varint.+grouped.Goals as goal

pub overflow_mul-result : goal.overflow_mul-result
overflow_mul-result t c =
    let small : c.grouped.result < 2 ^ 64 = nine_groups _ _ (omega (arith, length-take {A = ℕ}, length-drop {A = ℕ})) c.grouped.ensures.bound in
    omega arith

pub overflow_add-result : goal.overflow_add-result
overflow_add-result t c =
    let small : c.grouped.result < 2 ^ 64 = nine_groups _ _ (omega (arith, length-take {A = ℕ}, length-drop {A = ℕ})) c.grouped.ensures.bound in
    omega arith
