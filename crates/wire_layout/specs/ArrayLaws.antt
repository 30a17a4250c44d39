-- From an item that is laid out well, to arrays of it.
use Rattle.std.proofs.Common.{◌≡◌, ℕ, ◌<◌, ◌^◌, List, [], ◌∷◌, ◌++◌, length, Ok, pos, negsuc, Option, None, Some, FitsSigned, refl, sym, ap, ◌∙◌, arith, append_assoc}
use Rattle.std.specs.Int.{w32}
use Rattle.wire_prim.specs.Item.{int32_bytes, count_item}
use Rattle.wire_prim.specs.Behind.{behind_count, behind_nullable_count, count_at, nullable_count_at}
use Rattle.wire_prim.proofs.Readback.{behind_append, int32_at_front, same_front, int32_once, count_once}
use Rattle.wire_layout.specs.Layout.{Layout, Reach, placed, next, behind_many, behind_some, spelled, each, array_bytes, array, nullable_array, IsArray}
use Rattle.wire_layout.specs.Laid.{IsLaid}

many_back : {T : Type 0} (item : Layout T) (laid : IsLaid item) (items : List T) (rest : List ℕ) → each item.fits items
    → behind_many (length items) item.behind (spelled item.spelling items ++ rest) ≡ Ok rest
many_back item laid [] rest fits = refl
many_back item laid (x ∷ xs) rest fits =
    rw (append_assoc, laid.back x fits.0) (many_back item laid xs rest fits.1)

many_once : {T : Type 0} (item : Layout T) (laid : IsLaid item) (a b : List T) (r s : List ℕ) → length a ≡ length b → each item.fits a → each item.fits b
    → spelled item.spelling a ++ r ≡ spelled item.spelling b ++ s → (a ≡ b) × (r ≡ s)
many_once item laid [] [] r s size fits fits' same = (refl, same)
many_once item laid [] (y ∷ ys) r s size fits fits' same = absurd (omega arith)
many_once item laid (x ∷ xs) [] r s size fits fits' same = absurd (omega arith)
many_once item laid (x ∷ xs) (y ∷ ys) r s size fits fits' same =
    let first = laid.once x y (spelled item.spelling xs ++ r) (spelled item.spelling ys ++ s) fits.0 fits'.0
    (sym (append_assoc (item.spelling x) (spelled item.spelling xs) r) ∙ same ∙ append_assoc (item.spelling y) (spelled item.spelling ys) s) in
    let others = many_once item laid xs ys r s (omega arith) fits.1 fits'.1 first.1 in
    let whole : x ∷ xs ≡ y ∷ ys = cc (first.0, others.0) in
    (whole, others.1)

fits32 : (n : ℕ) → n < 2 ^ 31 → FitsSigned w32 (pos n)
fits32 n small = record { sfits = small }

null32 : FitsSigned w32 (negsuc 0)
null32 = record { sfits = omega arith }

-- how far the values behind a count reach
counted : (n : ℕ) (rest : List ℕ) (body : ℕ → List ℕ → Reach) → n < 2 ^ 31
    → next (placed (behind_count (int32_bytes (pos n) ++ rest)) (int32_bytes (pos n) ++ rest)) (body (count_at (int32_bytes (pos n) ++ rest))) ≡ body n rest
counted n rest body few = rw (behind_append (int32_bytes (pos n)) rest, int32_at_front (pos n) rest (fits32 n few)) refl

some_counted : (n : ℕ) (rest : List ℕ) (body : Option ℕ → List ℕ → Reach) → n < 2 ^ 31
    → next (placed (behind_nullable_count (int32_bytes (pos n) ++ rest)) (int32_bytes (pos n) ++ rest)) (body (nullable_count_at (int32_bytes (pos n) ++ rest))) ≡ body (Some n) rest
some_counted n rest body few = rw (behind_append (int32_bytes (pos n)) rest, int32_at_front (pos n) rest (fits32 n few)) refl

none_counted : (rest : List ℕ) (body : Option ℕ → List ℕ → Reach)
    → next (placed (behind_nullable_count (int32_bytes (negsuc 0) ++ rest)) (int32_bytes (negsuc 0) ++ rest)) (body (nullable_count_at (int32_bytes (negsuc 0) ++ rest))) ≡ body None rest
none_counted rest body = rw (behind_append (int32_bytes (negsuc 0)) rest) refl

array_once : {T : Type 0} (item : Layout T) (laid : IsLaid item) (a b : List T) (r s : List ℕ) → IsArray item.fits a → IsArray item.fits b
    → array_bytes item.spelling a ++ r ≡ array_bytes item.spelling b ++ s → (a ≡ b) × (r ≡ s)
array_once item laid a b r s fits fits' same =
    let counts = count_once (length a) (length b) (spelled item.spelling a ++ r) (spelled item.spelling b ++ s) fits.few fits'.few
    (sym (append_assoc (count_item (length a)) (spelled item.spelling a) r) ∙ same ∙ append_assoc (count_item (length b)) (spelled item.spelling b) s) in
    many_once item laid a b r s counts.0 fits.each fits'.each counts.1

pub array_laid : {T : Type 0} (item : Layout T) → IsLaid item → IsLaid (array item)
unfolding array
array_laid item laid = record {
  back = λ items fits rest.
      let moved = append_assoc (count_item (length items)) (spelled item.spelling items) rest in
      rw moved (counted (length items) (spelled item.spelling items ++ rest) (λ n left. behind_many n item.behind left) fits.few ∙ many_back item laid items rest fits.each);
  once = array_once item laid;
}

nullable_back : {T : Type 0} (item : Layout T) (laid : IsLaid item) (items : Option (List T)) (rest : List ℕ) → (nullable_array item).fits items
    → (nullable_array item).behind ((nullable_array item).spelling items ++ rest) ≡ Ok rest
unfolding nullable_array
nullable_back item laid None rest fits = none_counted rest (λ n left. behind_some n item.behind left)
nullable_back item laid (Some items) rest fits =
    let moved = append_assoc (count_item (length items)) (spelled item.spelling items) rest in
    rw moved (some_counted (length items) (spelled item.spelling items ++ rest) (λ n left. behind_some n item.behind left) fits.few ∙ many_back item laid items rest fits.each)

-- null is told apart from what is there by the length
no_null : (n : ℕ) (r s : List ℕ) → n < 2 ^ 31 → int32_bytes (negsuc 0) ++ r ≡ int32_bytes (pos n) ++ s → ⊥
no_null n r s small same = let sizes = int32_once (negsuc 0) (pos n) r s null32 (fits32 n small) same in cc sizes.0

nullable_once : {T : Type 0} (item : Layout T) (laid : IsLaid item) (a b : Option (List T)) (r s : List ℕ) → (nullable_array item).fits a → (nullable_array item).fits b
    → (nullable_array item).spelling a ++ r ≡ (nullable_array item).spelling b ++ s → (a ≡ b) × (r ≡ s)
unfolding nullable_array
nullable_once item laid None None r s fits fits' same = (refl, (same_front (int32_bytes (negsuc 0)) (int32_bytes (negsuc 0)) r s refl same).1)
nullable_once item laid None (Some b) r s fits fits' same = absurd (no_null (length b) r (spelled item.spelling b ++ s) fits'.few (same ∙ append_assoc (count_item (length b)) (spelled item.spelling b) s))
nullable_once item laid (Some a) None r s fits fits' same = absurd (no_null (length a) s (spelled item.spelling a ++ r) fits.few (sym same ∙ append_assoc (count_item (length a)) (spelled item.spelling a) r))
nullable_once item laid (Some a) (Some b) r s fits fits' same = let both = array_once item laid a b r s fits fits' same in (ap (λ x. Some x) both.0, both.1)

pub nullable_array_laid : {T : Type 0} (item : Layout T) → IsLaid item → IsLaid (nullable_array item)
unfolding nullable_array
nullable_array_laid item laid = record {
  back = λ items fits rest. nullable_back item laid items rest fits;
  once = nullable_once item laid;
}
