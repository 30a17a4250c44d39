-- From a batch's fields, to its rows or its fault.
use Rattle.std.proofs.Common.{◌≡◌, ℕ, suc, ◌+◌, ◌-◌, ◌<◌, [], length, take, drop, ℤ, pos, negsuc, nat_abs, None, Some, Ok, Err, true, false, refl, sym, ap, ◌∙◌, arith}
use Rattle.std.specs.Prelude.{int_lt}
use Rattle.std.proofs.lemmas.Bool.{true≢false}
use Rattle.std.proofs.lemmas.Bool.Decides.{leb_tells}
use Rattle.std.proofs.Math.Seq.{take-append_seam, drop-append_seam}
use Rattle.record_batch.proofs.ReadLemmas.{reading_is}
use Rattle.wire_prim.specs.Reading.{Reading}
use Rattle.record_batch.specs.declared.fault.BatchFault.TheVariants.{BadRecord}
use Rattle.record_batch.specs.Record.{records_at}
use Rattle.record_batch.specs.Batch.{Fields, fields_of, fault_of, unless, rows_of, named, batch_at, batches_at, frame_at, joined, IsFramed}

-- a batch without a fault in its fields
pub batch_plain : (at : Reading) (fields : Fields) → fields ≡ fields_of at.left → fault_of fields ≡ None
    → batch_at at ≡ rows_of (at.place + 57) fields.count fields.base (record { place = at.place + 61; left = drop 61 at.left })
unfolding batch_at
batch_plain at fields is none =
    let end : Reading = record { place = at.place + 61; left = drop 61 at.left } in
    ap (λ (f : Fields). unless (fault_of f) (rows_of (at.place + 57) f.count f.base end)) (sym is) ∙ ap (λ o. unless o (rows_of (at.place + 57) fields.count fields.base end)) none

pub rows_below : (place : ℕ) (count base : ℤ) (at : Reading) → int_lt count (pos 0) ≡ true → rows_of place count base at ≡ Err (BadRecord place)
rows_below place (pos n) base at test = absurd (grind (arith, leb_tells))
rows_below place (negsuc n) base at test = refl

pub rows_counted : (place : ℕ) (count base : ℤ) (at : Reading) → int_lt count (pos 0) ≡ false → rows_of place count base at ≡ named (records_at (nat_abs count) base (pos 0) at)
rows_counted place (pos n) base at test = refl
rows_counted place (negsuc n) base at test = absurd (true≢false test)

pub batch_below : (at : Reading) (fields : Fields) → fields ≡ fields_of at.left → fault_of fields ≡ None → int_lt fields.count (pos 0) ≡ true → batch_at at ≡ Err (BadRecord (at.place + 57))
batch_below at fields is none test = batch_plain at fields is none ∙ rows_below (at.place + 57) fields.count fields.base (record { place = at.place + 61; left = drop 61 at.left }) test

pub batch_counted : (at : Reading) (fields : Fields) → fields ≡ fields_of at.left → fault_of fields ≡ None → int_lt fields.count (pos 0) ≡ false
    → batch_at at ≡ named (records_at (nat_abs fields.count) fields.base (pos 0) (record { place = at.place + 61; left = drop 61 at.left }))
batch_counted at fields is none test = batch_plain at fields is none ∙ rows_counted (at.place + 57) fields.count fields.base (record { place = at.place + 61; left = drop 61 at.left }) test

-- the part that the next batch has
pub next_framed : (n counter : ℕ) (at new part : Reading) → counter < n → IsFramed (Ok (Some part)) (frame_at at) at new
    → batches_at (n - counter) at ≡ joined (batch_at part) (batches_at (n - (counter + 1)) new)
next_framed n counter at new part left is =
    let size = is.0 in
    let taken = is.5 in
    let one : n - counter ≡ suc (n - (counter + 1)) = omega arith in
    let front : take size at.left ≡ part.left = ap (λ m. take m at.left) (sym is.3) ∙ ap (take (length part.left)) taken.left ∙ take-append_seam part.left new.left in
    let back : drop size at.left ≡ new.left = ap (λ m. drop m at.left) (sym is.3) ∙ ap (drop (length part.left)) taken.left ∙ drop-append_seam part.left new.left in
    let whole : record { place = at.place; left = take size at.left } ≡ part = reading_is part _ _ (sym is.4) front in
    let end : record { place = at.place + size; left = drop size at.left } ≡ new = reading_is new _ _ (omega (arith, taken.place, is.3)) back in
    ap (λ k. batches_at k at) one ∙ rw (is.1, whole, end) refl

pub none_framed : (n counter : ℕ) (at : Reading) → counter < n → frame_at at ≡ Ok None → batches_at (n - counter) at ≡ Ok []
none_framed n counter at left is = let one : n - counter ≡ suc (n - (counter + 1)) = omega arith in ap (λ k. batches_at k at) one ∙ rw is refl

pub bad_framed : (n counter : ℕ) (at : Reading) (place : ℕ) → counter < n → frame_at at ≡ Err place → batches_at (n - counter) at ≡ Err (BadRecord place)
bad_framed n counter at place left is = let one : n - counter ≡ suc (n - (counter + 1)) = omega arith in ap (λ k. batches_at k at) one ∙ rw is refl
