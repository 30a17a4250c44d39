-- From the items that were read or written in turn, to the row.
use Rattle.std.proofs.Common.{◌≡◌, ℕ, ℤ, List, ◌++◌, to_z, of_z, sym, ap, ◌∙◌, arith, append_assoc, length-append}
use Rattle.std.specs.Int.{w8, w16, w32, w64}
use Rattle.std.proofs.lemmas.Int.{to_z-of_z}
use Rattle.wire_prim.specs.Reading.{Reading, Takes}
use Rattle.wire_layout.specs.Layout.{int8, int16, int32, int64}

infixr 5 ◌▷◌
-- an item was read, and the others behind it
pub ◌▷◌ : {item others : List ℕ} {start middle end : Reading} → Takes item start middle → Takes others middle end → Takes (item ++ others) start end
◌▷◌ {item = item} {others = others} {end = end} one more = record {
  left = one.left ∙ ap (λ l. item ++ l) more.left ∙ sym (append_assoc item others end.left);
  place = omega (arith, one.place, more.place, length-append item others);
}

-- an integer of a type stays itself there
pub kept8 : (value : ℤ) → int8.fits value → to_z w8 (of_z w8 value) ≡ value
unfolding int8
kept8 value fits = to_z-of_z w8 value fits

pub kept16 : (value : ℤ) → int16.fits value → to_z w16 (of_z w16 value) ≡ value
unfolding int16
kept16 value fits = to_z-of_z w16 value fits

pub kept32 : (value : ℤ) → int32.fits value → to_z w32 (of_z w32 value) ≡ value
unfolding int32
kept32 value fits = to_z-of_z w32 value fits

pub kept64 : (value : ℤ) → int64.fits value → to_z w64 (of_z w64 value) ≡ value
unfolding int64
kept64 value fits = to_z-of_z w64 value fits
