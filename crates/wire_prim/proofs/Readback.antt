-- From a spelling with anything behind it, back to its value and to what follows.
use Rattle.std.proofs.Common.{◌≡◌, ℕ, ◌<◌, ◌^◌, List, ◌++◌, length, take, drop, Ok, ℤ, pos, negsuc, to_z, true, nat_le, None, Some, FitsSigned, refl, sym, ap, ◌∙◌, arith, length-append, append_assoc}
use Rattle.std.specs.Int.{w16, w32, w64, from_be_bytes, cast_unsigned}
use Rattle.std.specs.Option.{ForSome}
use Rattle.std.specs.Str.{IsUtf8}
use Rattle.std.proofs.Math.Facts.{Fits-of_z}
use Rattle.std.proofs.Math.Seq.{take-append_seam, drop-append_seam}
use Rattle.std.proofs.lemmas.Bool.Decides.{leb_tells}
use Rattle.std.proofs.lemmas.Int.{to_z-of_z}
use Rattle.std.proofs.lemmas.Nat.{from_be_bytes-to_be_bytes_2, from_be_bytes-to_be_bytes_4, from_be_bytes-to_be_bytes_8}
use Rattle.std.proofs.lemmas.Str.{is_utf8-from_IsUtf8}
use Rattle.wire_prim.specs.Behind.{behind_bytes, behind_int16, behind_int32, behind_string, behind_nullable_string, behind_bytes_item, behind_nullable_bytes, behind_count, behind_nullable_count, behind_text, behind_nullable_text, behind_sized, behind_nullable, behind_size, behind_nullable_size, int16_at, int32_at, next, Behind}
use Rattle.wire_prim.specs.Item.{int16_bytes, int32_bytes, int64_bytes, string_item, nullable_string_item, bytes_item, nullable_bytes_item, count_item, nullable_count_item}
use Rattle.wire_prim.specs.Laws.{ReadsBack, HasOneReading}

pub behind_append : (xs rest : List ℕ) → behind_bytes (length xs) (xs ++ rest) ≡ Ok rest
behind_append xs rest =
    let enough : nat_le (length xs) (length (xs ++ rest)) ≡ true = grind (arith, leb_tells, length-append xs rest) in
    rw (enough, drop-append_seam) refl

pub int16_at_front : (value : ℤ) (rest : List ℕ) → FitsSigned w16 value → int16_at (int16_bytes value ++ rest) ≡ value
int16_at_front value rest fits = ap (λ n. to_z w16 n) (from_be_bytes-to_be_bytes_2 (cast_unsigned w16 value) (Fits-of_z fits).fits) ∙ to_z-of_z w16 value fits

pub int32_at_front : (value : ℤ) (rest : List ℕ) → FitsSigned w32 value → int32_at (int32_bytes value ++ rest) ≡ value
int32_at_front value rest fits = ap (λ n. to_z w32 n) (from_be_bytes-to_be_bytes_4 (cast_unsigned w32 value) (Fits-of_z fits).fits) ∙ to_z-of_z w32 value fits

-- equal lists whose fronts are equally long have equal fronts and equal rests
pub same_front : (a b r s : List ℕ) → length a ≡ length b → a ++ r ≡ b ++ s → (a ≡ b) × (r ≡ s)
same_front a b r s size same = (
  sym (take-append_seam a r) ∙ ap (λ n. take n (a ++ r)) size ∙ ap (take (length b)) same ∙ take-append_seam b s,
  sym (drop-append_seam a r) ∙ ap (λ n. drop n (a ++ r)) size ∙ ap (drop (length b)) same ∙ drop-append_seam b s,
)

fits16 : (n : ℕ) → n < 2 ^ 15 → FitsSigned w16 (pos n)
fits16 n small = record { sfits = small }

null16 : FitsSigned w16 (negsuc 0)
null16 = record { sfits = omega arith }

fits32 : (n : ℕ) → n < 2 ^ 31 → FitsSigned w32 (pos n)
fits32 n small = record { sfits = small }

null32 : FitsSigned w32 (negsuc 0)
null32 = record { sfits = omega arith }

-- what follows a length that is there
sized16 : (bytes rest : List ℕ) (size : ℤ) (body : ℤ → List ℕ → Behind) (end : Behind) → bytes ≡ int16_bytes size ++ rest → FitsSigned w16 size → body size rest ≡ end
    → next (behind_int16 bytes) (body (int16_at bytes)) ≡ end
sized16 bytes rest size body end is fits ends =
    let front : behind_int16 bytes ≡ Ok rest = ap behind_int16 is ∙ behind_append (int16_bytes size) rest in
    let seen : int16_at bytes ≡ size = ap int16_at is ∙ int16_at_front size rest fits in
    rw (front, seen) ends

sized32 : (bytes rest : List ℕ) (size : ℤ) (body : ℤ → List ℕ → Behind) (end : Behind) → bytes ≡ int32_bytes size ++ rest → FitsSigned w32 size → body size rest ≡ end
    → next (behind_int32 bytes) (body (int32_at bytes)) ≡ end
sized32 bytes rest size body end is fits ends =
    let front : behind_int32 bytes ≡ Ok rest = ap behind_int32 is ∙ behind_append (int32_bytes size) rest in
    let seen : int32_at bytes ≡ size = ap int32_at is ∙ int32_at_front size rest fits in
    rw (front, seen) ends

pub text_reads : (text rest : List ℕ) → IsUtf8 text → behind_text (pos (length text)) (text ++ rest) ≡ Ok rest
text_reads text rest utf8 = rw (behind_append text rest, take-append_seam, is_utf8-from_IsUtf8 text utf8) refl

pub string_reads : (text : List ℕ) → length text < 2 ^ 15 → IsUtf8 text → ReadsBack (string_item text) behind_string
string_reads text small utf8 rest =
    sized16 _ (text ++ rest) (pos (length text)) behind_text _ (append_assoc (int16_bytes (pos (length text))) text rest) (fits16 _ small) (text_reads text rest utf8)

pub null_string_reads : ReadsBack (nullable_string_item None) behind_nullable_string
null_string_reads rest = sized16 _ rest (negsuc 0) behind_nullable_text _ refl null16 refl

pub some_string_reads : (text : List ℕ) → length text < 2 ^ 15 → IsUtf8 text → ReadsBack (string_item text) behind_nullable_string
some_string_reads text small utf8 rest =
    sized16 _ (text ++ rest) (pos (length text)) behind_nullable_text _ (append_assoc (int16_bytes (pos (length text))) text rest) (fits16 _ small) (text_reads text rest utf8)

pub bytes_reads : (piece : List ℕ) → length piece < 2 ^ 31 → ReadsBack (bytes_item piece) behind_bytes_item
bytes_reads piece small rest =
    sized32 _ (piece ++ rest) (pos (length piece)) behind_sized _ (append_assoc (int32_bytes (pos (length piece))) piece rest) (fits32 _ small) (behind_append piece rest)

pub null_bytes_reads : ReadsBack (nullable_bytes_item None) behind_nullable_bytes
null_bytes_reads rest = sized32 _ rest (negsuc 0) behind_nullable _ refl null32 refl

pub some_bytes_reads : (piece : List ℕ) → length piece < 2 ^ 31 → ReadsBack (bytes_item piece) behind_nullable_bytes
some_bytes_reads piece small rest =
    sized32 _ (piece ++ rest) (pos (length piece)) behind_nullable _ (append_assoc (int32_bytes (pos (length piece))) piece rest) (fits32 _ small) (behind_append piece rest)

pub count_reads : (count : ℕ) → count < 2 ^ 31 → ReadsBack (count_item count) behind_count
count_reads count small rest = sized32 _ rest (pos count) behind_size _ refl (fits32 count small) refl

pub null_count_reads : ReadsBack (nullable_count_item None) behind_nullable_count
null_count_reads rest = sized32 _ rest (negsuc 0) behind_nullable_size _ refl null32 refl

pub some_count_reads : (count : ℕ) → count < 2 ^ 31 → ReadsBack (count_item count) behind_nullable_count
some_count_reads count small rest = sized32 _ rest (pos count) behind_nullable_size _ refl (fits32 count small) refl

-- the length at the front is the same, and so is what stands behind it
same_size16 : (a b : ℤ) (r s : List ℕ) → FitsSigned w16 a → FitsSigned w16 b → int16_bytes a ++ r ≡ int16_bytes b ++ s → (a ≡ b) × (r ≡ s)
same_size16 a b r s fits fits' same = (sym (int16_at_front a r fits) ∙ ap int16_at same ∙ int16_at_front b s fits', (same_front (int16_bytes a) (int16_bytes b) r s refl same).1)

same_size32 : (a b : ℤ) (r s : List ℕ) → FitsSigned w32 a → FitsSigned w32 b → int32_bytes a ++ r ≡ int32_bytes b ++ s → (a ≡ b) × (r ≡ s)
same_size32 a b r s fits fits' same = (sym (int32_at_front a r fits) ∙ ap int32_at same ∙ int32_at_front b s fits', (same_front (int32_bytes a) (int32_bytes b) r s refl same).1)

pub int16_once : HasOneReading (FitsSigned w16) int16_bytes
int16_once a b r s fits fits' same = same_size16 a b r s fits fits' same

pub int32_once : HasOneReading (FitsSigned w32) int32_bytes
int32_once a b r s fits fits' same = same_size32 a b r s fits fits' same

pub int64_once : HasOneReading (FitsSigned w64) int64_bytes
int64_once a b r s fits fits' same =
    let both = same_front (int64_bytes a) (int64_bytes b) r s refl same in
    let value = λ (z : ℤ) (fits : FitsSigned w64 z). ap (λ n. to_z w64 n) (from_be_bytes-to_be_bytes_8 (cast_unsigned w64 z) (Fits-of_z fits).fits) ∙ to_z-of_z w64 z fits in
    (sym (value a fits) ∙ ap (λ bytes. to_z w64 (from_be_bytes w64 bytes)) both.0 ∙ value b fits', both.1)

pub string_once : HasOneReading (λ text. length text < 2 ^ 15) string_item
string_once a b r s small small' same =
    let sizes = same_size16 (pos (length a)) (pos (length b)) (a ++ r) (b ++ s) (fits16 _ small) (fits16 _ small')
    (sym (append_assoc (int16_bytes (pos (length a))) a r) ∙ same ∙ append_assoc (int16_bytes (pos (length b))) b s) in
    let size : length a ≡ length b = cc sizes.0 in
    same_front a b r s size sizes.1

pub bytes_once : HasOneReading (λ piece. length piece < 2 ^ 31) bytes_item
bytes_once a b r s small small' same =
    let sizes = same_size32 (pos (length a)) (pos (length b)) (a ++ r) (b ++ s) (fits32 _ small) (fits32 _ small')
    (sym (append_assoc (int32_bytes (pos (length a))) a r) ∙ same ∙ append_assoc (int32_bytes (pos (length b))) b s) in
    let size : length a ≡ length b = cc sizes.0 in
    same_front a b r s size sizes.1

pub count_once : HasOneReading (λ count. count < 2 ^ 31) count_item
count_once a b r s small small' same =
    let sizes = same_size32 (pos a) (pos b) r s (fits32 a small) (fits32 b small') same in
    let size : a ≡ b = cc sizes.0 in
    (size, sizes.1)

-- null is told apart from what is there by the length
no_null16 : (n : ℕ) (r s : List ℕ) → n < 2 ^ 15 → int16_bytes (negsuc 0) ++ r ≡ int16_bytes (pos n) ++ s → ⊥
no_null16 n r s small same = let sizes = same_size16 (negsuc 0) (pos n) r s null16 (fits16 n small) same in cc sizes.0

no_null32 : (n : ℕ) (r s : List ℕ) → n < 2 ^ 31 → int32_bytes (negsuc 0) ++ r ≡ int32_bytes (pos n) ++ s → ⊥
no_null32 n r s small same = let sizes = same_size32 (negsuc 0) (pos n) r s null32 (fits32 n small) same in cc sizes.0

pub nullable_string_once : HasOneReading (λ text. ForSome text (λ t. length t < 2 ^ 15)) nullable_string_item
nullable_string_once None None r s small small' same = (refl, (same_front (int16_bytes (negsuc 0)) (int16_bytes (negsuc 0)) r s refl same).1)
nullable_string_once None (Some b) r s small small' same = absurd (no_null16 (length b) r (b ++ s) (small' b refl) (same ∙ append_assoc (int16_bytes (pos (length b))) b s))
nullable_string_once (Some a) None r s small small' same = absurd (no_null16 (length a) s (a ++ r) (small a refl) (sym same ∙ append_assoc (int16_bytes (pos (length a))) a r))
nullable_string_once (Some a) (Some b) r s small small' same = let both = string_once a b r s (small a refl) (small' b refl) same in (ap (λ t. Some t) both.0, both.1)

pub nullable_bytes_once : HasOneReading (λ piece. ForSome piece (λ p. length p < 2 ^ 31)) nullable_bytes_item
nullable_bytes_once None None r s small small' same = (refl, (same_front (int32_bytes (negsuc 0)) (int32_bytes (negsuc 0)) r s refl same).1)
nullable_bytes_once None (Some b) r s small small' same = absurd (no_null32 (length b) r (b ++ s) (small' b refl) (same ∙ append_assoc (int32_bytes (pos (length b))) b s))
nullable_bytes_once (Some a) None r s small small' same = absurd (no_null32 (length a) s (a ++ r) (small a refl) (sym same ∙ append_assoc (int32_bytes (pos (length a))) a r))
nullable_bytes_once (Some a) (Some b) r s small small' same = let both = bytes_once a b r s (small a refl) (small' b refl) same in (ap (λ p. Some p) both.0, both.1)

pub nullable_count_once : HasOneReading (λ count. ForSome count (λ n. n < 2 ^ 31)) nullable_count_item
nullable_count_once None None r s small small' same = (refl, (same_front (int32_bytes (negsuc 0)) (int32_bytes (negsuc 0)) r s refl same).1)
nullable_count_once None (Some b) r s small small' same = absurd (no_null32 b r s (small' b refl) same)
nullable_count_once (Some a) None r s small small' same = absurd (no_null32 a s r (small a refl) (sym same))
nullable_count_once (Some a) (Some b) r s small small' same = let both = count_once a b r s (small a refl) (small' b refl) same in (ap (λ n. Some n) both.0, both.1)
