-- From items read in turn, to the place in the batch that each stands at.
use Rattle.std.proofs.Common.{◌≡◌, ℕ, ◌+◌, ◌≤◌, List, length, drop, ℤ, refl, ap, ◌∙◌, arith}
use Rattle.std.proofs.lemmas.List.{drop-drop, length-drop}
use Rattle.wire_prim.specs.Reading.{Reading}
use Rattle.record_batch.specs.Read.{after}
use Rattle.record_batch.specs.Batch.{Fields}

-- so many bytes have been read
pub record At (whole : Reading) (k : ℕ) (now : Reading) : Type 0 where
  pub place : now.place ≡ whole.place + k
  pub left : now.left ≡ drop k whole.left

pub at_start : (whole : Reading) → At whole 0 whole
at_start whole = record { place = omega arith; left = refl }

pub at_after : (whole old new : Reading) (k n : ℕ) → At whole k old → new ≡ after n old → At whole (k + n) new
at_after whole old new k n so_far is = record {
  place = ap (λ (r : Reading). r.place) is ∙ omega (arith, so_far.place);
  left = ap (λ (r : Reading). r.left) is ∙ ap (drop n) so_far.left ∙ drop-drop n k whole.left;
}

-- where the magic, the checksum and what it is of stand
pub at_21 : (whole at8 at16 at17 at21 : Reading) → at8 ≡ after 8 whole → at16 ≡ after 8 at8 → at17 ≡ after 1 at16 → at21 ≡ after 4 at17 → At whole 16 at16 × At whole 17 at17 × At whole 21 at21
at_21 whole at8 at16 at17 at21 one two three four =
    let so_far = at_after whole _ _ 8 8 (at_after whole _ _ 0 8 (at_start whole) one) two in
    let then_magic = at_after whole _ _ 16 1 so_far three in
    (so_far, then_magic, at_after whole _ _ 17 4 then_magic four)

-- what a batch has behind so many bytes
pub still_there : (whole now : Reading) (k n : ℕ) → At whole k now → k + n ≤ length whole.left → n ≤ length now.left
still_there whole now k n so_far enough = rw (so_far.left, length-drop) (omega (arith, enough))

abbrev pub the_fields : ℤ → ℤ → ℕ → List ℕ → ℕ → ℤ → Fields
the_fields base magic crc summed attributes count = record { base = base; magic = magic; crc = crc; summed = summed; attributes = attributes; count = count }

pub fields_same : (base base' magic magic' : ℤ) (crc crc' : ℕ) (summed summed' : List ℕ) (attributes attributes' : ℕ) (count count' : ℤ)
    → base ≡ base' → magic ≡ magic' → crc ≡ crc' → summed ≡ summed' → attributes ≡ attributes' → count ≡ count'
    → the_fields base magic crc summed attributes count ≡ the_fields base' magic' crc' summed' attributes' count'
fields_same base base' magic magic' crc crc' summed summed' attributes attributes' count count' a b c d e f = cc
