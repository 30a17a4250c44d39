-- From an item that is read whole or not at all, to where the cursor stands.
use Rattle.std.proofs.Common.{◌≡◌, refl, Result, Ok, Err, OnErr, ap, ◌⊎◌, inl, inr}
use Rattle.wire_prim.specs.declared.error.PrimNo.{PrimNo}
use Rattle.wire_prim.specs.declared.error.PrimNo.TheVariants.{Want}
use Rattle.wire_prim.specs.Reading.{Reading}
use Rattle.wire_prim.specs.Behind.{Behind, Answers}
use Rattle.wire_layout.specs.Layout.{ReachesOrWants, placed}

-- an item that doesn't read leaves the cursor at it
pub stops : (item : Behind) (cause : PrimNo) (old new : Reading) → new ≡ old → (cause ≡ Want) ⊎ (item ≡ Err cause) → (cause ≡ Want) ⊎ (placed item old.left ≡ Err (cause, new.left))
stops item cause old new stays (inl want) = inl want
stops item cause old new stays (inr is) = inr (rw (is, stays) refl)

-- an item that takes no memory is read or leaves the cursor at it
pub reaches : {T : Type 0} (result : Result T PrimNo) (item : Behind) (old new : Reading) → Answers result item new.left → OnErr result (new ≡ old) → ReachesOrWants result (placed item old.left) new.left
reaches (Ok value) item old new is stays = ap (λ b. placed b old.left) is
reaches (Err cause) item old new is stays = inr (rw (is, stays) refl)
