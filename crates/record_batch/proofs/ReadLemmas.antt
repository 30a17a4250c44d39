-- From what a cursor's readers answer, to what the bytes give.
use Rattle.std.proofs.Common.{◌≡◌, ℕ, ◌+◌, ◌-◌, List, length, Ok, Err, refl, ap, ◌∙◌, arith, length-append}
use Rattle.wire_prim.specs.declared.error.PrimNo.{PrimNo}
use Rattle.wire_prim.specs.Reading.{Reading, Takes}
use Rattle.wire_prim.specs.Behind.{Behind}
use Rattle.record_batch.specs.Read.{item}

-- a reading is its place and what is left
pub reading_is : (new : Reading) (place : ℕ) (left : List ℕ) → place ≡ new.place → left ≡ new.left → record { place = place; left = left } ≡ new
reading_is new place left same same' = ap (λ p. record { place = p; left = left }) same ∙ ap (λ l. record { place = new.place; left = l }) same'

pub item_read : {A : Type 0} (seen : List ℕ → A) (old new : Reading) (run : List ℕ) (behind : Behind) → Takes run old new → behind ≡ Ok new.left
    → item seen old behind ≡ Ok (seen old.left, new)
item_read seen old new run behind taken is =
    let size : length old.left ≡ length run + length new.left = ap length taken.left ∙ length-append run new.left in
    let place : old.place + (length old.left - length new.left) ≡ new.place = omega (arith, taken.place) in
    ap (item seen old) is ∙ ap (λ r. Ok (seen old.left, r)) (reading_is new _ _ place refl)

pub item_bad : {A : Type 0} (seen : List ℕ → A) (old : Reading) (behind : Behind) (cause : PrimNo) → behind ≡ Err cause → item seen old behind ≡ Err old.place
item_bad seen old behind cause is = ap (item seen old) is
