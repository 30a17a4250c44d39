-- What the writer prints for a text and for an integer is that text and that integer.
use Rattle.std.proofs.Common.{◌≡◌, ℕ, ◌<◌, List, [], ◌∷◌, true, ℤ, Some, refl, subst, arith}
use Rattle.std.proofs.lemmas.Bool.{and_from}
use Rattle.std.proofs.lemmas.Str.{IsUtf8-from_is_utf8, is_utf8-from_IsUtf8, chars-encodes}
use Rattle.std.specs.Prelude.{FitsSigned}
use Rattle.std.specs.Int.{w64}
use Rattle.std.specs.Fmt.{signed_decimal}
use Rattle.std.specs.List.{AllByRecursion}
use Rattle.std.specs.Str.{chars, is_utf8, encode_utf8_all}
use Rattle.json.specs.Print.{escape}
use Rattle.json_token.specs.Chars.{IsChars, content}
use Rattle.json_token.specs.Integer.{integer_of}
use Rattle.json_token.specs.Number.{IsNumber}
use Rattle.avro_datum.proofs.GlyphChars.{encodes_is}
use Rattle.avro_datum.proofs.GlyphNumbers.{signed_is}
use lib.Utf8.{scalars, low_scalar}

pub escape_is : (s : List ℕ) → is_utf8 s ≡ true → IsChars (escape s) × (content (escape s) ≡ s)
escape_is s h =
    let u = IsUtf8-from_is_utf8 s h in
    let P : List ℕ → Type 0 = λ t. IsChars (escape t) × (content (escape t) ≡ t) in
    subst P u.1.1 (encodes_is u.0 u.1.0)

pub number_is : (n : ℤ) → FitsSigned w64 n → IsNumber (signed_decimal n) × (integer_of (signed_decimal n) ≡ Some n)
number_is n h = signed_is n h.sfits

scalars_below : (bs : List ℕ) → AllByRecursion (λ c. c < 256) bs → scalars bs ≡ true
scalars_below [] h = refl
scalars_below (b ∷ bs) h = and_from _ _ (low_scalar b (omega arith)) (scalars_below bs h.1)

-- numbers below 256 are code points, and their UTF-8 spells them
pub points_is : (bs : List ℕ) → AllByRecursion (λ c. c < 256) bs → (is_utf8 (encode_utf8_all bs) ≡ true) × (chars (encode_utf8_all bs) ≡ bs)
points_is bs h = let s = scalars_below bs h in (is_utf8-from_IsUtf8 _ (bs, (s, refl)), chars-encodes bs s)
