-- Four bytes at a time.
use Rattle.std.proofs.Common.{◌≡◌, ◌∙◌, ℕ, List, [], ◌∷◌, ◌++◌, ◌+◌, ◌*◌, length, get_or, ap, arith}
use Rattle.std.specs.Prelude.{bit_xor}
use Rattle.model.specs.state.Hashes.{mixed, murmur_on, times}

pub four_on : (h : ℕ) (four rest : List ℕ) (k m : ℕ) → length four ≡ 4
    → k ≡ get_or four 0 0 + get_or four 1 0 * 256 + get_or four 2 0 * 65536 + get_or four 3 0 * 16777216 → m ≡ mixed k
    → murmur_on (bit_xor (times h 1540483477) m) rest ≡ murmur_on h (four ++ rest)
four_on h (a ∷ b ∷ c ∷ d ∷ []) rest k m long is got =
    ap (λ w. murmur_on (bit_xor (times h 1540483477) w) rest) (got ∙ ap mixed same)
  where
    same : k ≡ a + 256 * b + 65536 * c + 16777216 * d
    same = omega (arith, is)
four_on h four rest k m long is got = absurd (omega arith)
