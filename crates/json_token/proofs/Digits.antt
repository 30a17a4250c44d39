-- At most 38 decimal digits stay below 10 ^ 38.
use Rattle.std.proofs.Common.{ℕ, zero, suc, ◌+◌, ◌*◌, ◌^◌, ◌<◌, ◌≤◌, arith, pow-suc}
use Rattle.std.proofs.Math.Nat.{pow-le-pow_right}

powers_rise : (i : ℕ) → i ≤ 38 → 10 ^ i ≤ 10 ^ 38
powers_rise i l = let some : zero < 10 = omega arith in pow-le-pow_right some l

pub digit_more : (v i : ℕ) → v < 10 ^ i → i < 38 → v * 10 + 9 < 10 ^ 38
digit_more v i h l = omega (arith, pow-suc 10 i, powers_rise (suc i) l)

pub digits_small : (v i : ℕ) → v < 10 ^ i → i ≤ 38 → v < 10 ^ 38
digits_small v i h l = omega (arith, powers_rise i l)
