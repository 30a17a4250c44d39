-- From a version and the fields behind it, to the whole value.
use Rattle.std.proofs.Common.{◌≡◌, ℕ, ℤ, pos, negsuc, ◌≤ℤ◌, List, [], ◌∷◌, ◌++◌, length, Ok, FitsSigned, refl, sym, ap, ◌∙◌, arith}
use Rattle.std.specs.Int.{w16}
use Rattle.wire_prim.specs.Item.{int16_bytes}
use Rattle.wire_prim.specs.Behind.{behind_int16, int16_at}
use Rattle.wire_prim.proofs.Readback.{int16_once}
use Rattle.wire_layout.specs.Layout.{Layout, without_place}
use Rattle.wire_layout.specs.Laid.{IsLaid}
use Rattle.wire_group.specs.Versioned.{IsVersionedRead}

pub empty_is : (rest : List ℕ) → length rest ≡ 0 → rest ≡ []
empty_is [] none = refl
empty_is (x ∷ xs) none = absurd (omega arith)

pub versioned_read : {M : Type 0} (layout : Layout M) → IsLaid layout → (whole left rest : List ℕ) (version : ℤ) (m : M) → FitsSigned w16 version → pos 0 ≤ℤ version
    → whole ≡ int16_bytes version ++ left → behind_int16 whole ≡ Ok left → version ≡ int16_at whole
    → left ≡ layout.spelling m ++ rest → layout.fits m → layout.behind left ≡ Ok rest → (version ≡ pos 0 → rest ≡ []) → IsVersionedRead layout whole (Ok m)
versioned_read layout laid whole left rest (negsuc k) m small above front behind seen is fits ends none = absurd (omega arith)
versioned_read layout laid whole left rest (pos n) m small above front behind seen is fits ends none = record {
  value = record {
    version = n;
    further = rest;
    small = small.sfits;
    bytes = front ∙ ap (λ l. int16_bytes (pos n) ++ l) is;
    none = λ zero. none (ap pos zero);
  };
  fits = fits;
  answer = (rest, rw (behind, sym seen) (ap without_place ends), λ zero. none (seen ∙ zero));
  exact = λ other fits' spells.
      let small' : FitsSigned w16 (pos spells.version) = record { sfits = spells.small } in
      let same = sym front ∙ spells.bytes in
      let sizes = int16_once (pos n) (pos spells.version) left (layout.spelling other ++ spells.further) small small' same in
      (laid.once m other rest spells.further fits fits' (sym is ∙ sizes.1)).0;
}
