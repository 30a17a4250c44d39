-- What a read puts behind the bytes that are held, and what then still comes.
use Rattle.std.proofs.Common.{◌≡◌, ℕ, ◌+◌, List, ◌++◌, length, take, drop, ap, subst, ◌∙◌}
use Rattle.std.proofs.Math.Seq.{take-append_seam}
use Rattle.gate_io.proofs.Known.{take-add}

-- the front of a list that something follows
pub seam : (n m : ℕ) (xs ys : List ℕ) → length xs ≡ n → take m (take n (xs ++ ys)) ≡ take m xs
seam n m xs ys long = ap (take m) (subst (λ (k : ℕ). take k (xs ++ ys) ≡ xs) long (take-append_seam xs ys))

-- what was read at a place stands behind the bytes before it
pub piece_behind : (old after : List ℕ) (count : ℕ) → take (length old) after ≡ old
    → take (length old + count) after ≡ old ++ take count (drop (length old) after)
piece_behind old after count front = take-add (length old) count after ∙ ap (λ (l : List ℕ). l ++ take count (drop (length old) after)) front
