-- Each item of a message reads back before anything, and no two values of it share a spelling.
use Rattle.std.proofs.Common.{◌≡◌, ℕ, ℤ, ◌<◌, ◌^◌, List, ◌++◌, length, Ok, Option, None, Some, FitsSigned, to_z, refl, sym, ap, ◌∙◌, subst, arith}
use Rattle.std.specs.Int.{w8, cast_unsigned}
use Rattle.std.specs.Option.{ForSome}
use Rattle.std.specs.Prelude.{slice_index}
use Rattle.std.proofs.Math.Facts.{Fits-of_z}
use Rattle.std.proofs.lemmas.Int.{to_z-of_z}
use Rattle.wire_prim.specs.Item.{int8_bytes, int16_bytes, int32_bytes, int64_bytes}
use Rattle.wire_prim.specs.Behind.{Behind, int8_at}
use Rattle.wire_prim.proofs.Readback.{behind_append, same_front, int16_once, int32_once, int64_once, string_reads, string_once, null_string_reads, some_string_reads, nullable_string_once, bytes_reads, bytes_once, null_bytes_reads, some_bytes_reads, nullable_bytes_once}
use Rattle.wire_layout.specs.Layout.{placed, int8, int16, int32, int64, string, nullable_string, bytes, nullable_bytes, IsString, unless_null}
use Rattle.wire_layout.specs.Laid.{IsLaid}

-- an item that reads does so with its place
reads : {item : Behind} (left : List ℕ) {rest : List ℕ} → item ≡ Ok rest → placed item left ≡ Ok rest
reads left is = ap (λ b. placed b left) is

int8_at_front : (value : ℤ) (rest : List ℕ) → FitsSigned w8 value → int8_at (int8_bytes value ++ rest) ≡ value
int8_at_front value rest fits =
    let small : cast_unsigned w8 value < 2 ^ 8 = (Fits-of_z fits).fits in
    let kept : slice_index (int8_bytes value ++ rest) 0 ≡ cast_unsigned w8 value = omega arith in
    ap (λ n. to_z w8 n) kept ∙ to_z-of_z w8 value fits

int8_once : (a b : ℤ) (r s : List ℕ) → FitsSigned w8 a → FitsSigned w8 b → int8_bytes a ++ r ≡ int8_bytes b ++ s → (a ≡ b) × (r ≡ s)
int8_once a b r s fits fits' same =
    let both = same_front (int8_bytes a) (int8_bytes b) r s refl same in
    (sym (int8_at_front a r fits) ∙ ap int8_at same ∙ int8_at_front b s fits', both.1)

pub int8_laid : IsLaid int8
unfolding int8
int8_laid = record { back = λ m fits rest. reads _ (behind_append (int8_bytes m) rest); once = int8_once }

pub int16_laid : IsLaid int16
unfolding int16
int16_laid = record { back = λ m fits rest. reads _ (behind_append (int16_bytes m) rest); once = int16_once }

pub int32_laid : IsLaid int32
unfolding int32
int32_laid = record { back = λ m fits rest. reads _ (behind_append (int32_bytes m) rest); once = int32_once }

pub int64_laid : IsLaid int64
unfolding int64
int64_laid = record { back = λ m fits rest. reads _ (behind_append (int64_bytes m) rest); once = int64_once }

pub string_laid : IsLaid string
unfolding string
string_laid = record {
  back = λ m fits rest. reads _ (string_reads m fits.short fits.utf8 rest);
  once = λ a b r s fits fits'. string_once a b r s fits.short fits'.short;
}

short_text : (text : Option (List ℕ)) → unless_null IsString text → ForSome text (λ t. length t < 2 ^ 15)
short_text None fits = λ t is. absurd (cc is)
short_text (Some text) fits = λ t is. let same : text ≡ t = cc is in subst (λ (x : List ℕ). length x < 2 ^ 15) same fits.short

pub nullable_string_laid : IsLaid nullable_string
unfolding nullable_string
nullable_string_laid = record {
  back = elim [ None ↦ λ fits rest. reads _ (null_string_reads rest) | Some text ↦ λ fits rest. reads _ (some_string_reads text fits.short fits.utf8 rest) ];
  once = λ a b r s fits fits'. nullable_string_once a b r s (short_text a fits) (short_text b fits');
}

pub bytes_laid : IsLaid bytes
unfolding bytes
bytes_laid = record { back = λ m fits rest. reads _ (bytes_reads m fits rest); once = bytes_once }

short_piece : (piece : Option (List ℕ)) → unless_null (λ (p : List ℕ). length p < 2 ^ 31) piece → ForSome piece (λ p. length p < 2 ^ 31)
short_piece None fits = λ p is. absurd (cc is)
short_piece (Some piece) fits = λ p is. let same : piece ≡ p = cc is in subst (λ (x : List ℕ). length x < 2 ^ 31) same fits

pub nullable_bytes_laid : IsLaid nullable_bytes
unfolding nullable_bytes
nullable_bytes_laid = record {
  back = elim [ None ↦ λ fits rest. reads _ (null_bytes_reads rest) | Some piece ↦ λ fits rest. reads _ (some_bytes_reads piece fits rest) ];
  once = λ a b r s fits fits'. nullable_bytes_once a b r s (short_piece a fits) (short_piece b fits');
}
