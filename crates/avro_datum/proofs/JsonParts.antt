-- From the parts of a JSON value to its levels and its tokens, and from these to its text.
use Rattle.std.proofs.Common.{◌≡◌, ℕ, zero, suc, ◌+◌, List, [], ◌∷◌, ◌++◌, refl, sym, subst, arith}
use Rattle.json_span.specs.Json.{Json, tokens, IsWithin}
use Rattle.json_token.specs.Tokens.{Token, Laid, AreTokens}
use Rattle.json_span.specs.Text.{compact, IsText}
use Rattle.json_span.proofs.Lookups.{laid_compact}
use Rattle.avro_schema.proofs.GoodReading.{within_more}

pub within_above : (more levels all : ℕ) (j : Json) → all ≡ more + levels → IsWithin levels j → IsWithin all j
within_above zero levels all j e w = let same : levels ≡ all = omega arith in let P : ℕ → Type 0 = λ n. IsWithin n j in subst P same w
within_above (suc more) levels all j e w =
    let next : suc (more + levels) ≡ all = omega arith in
    let P : ℕ → Type 0 = λ n. IsWithin n j in
    subst P next (within_more (more + levels) j (within_above more levels (more + levels) j refl w))

pub both_tokens : (ts us : List Token) → AreTokens ts → AreTokens us → AreTokens (ts ++ us)
both_tokens [] us h k = k
both_tokens (t ∷ ts) us h k = (h.0, both_tokens ts us h.1 k)

-- the text without white space
pub compact_is_text : (levels : ℕ) (bytes : List ℕ) (j : Json) → bytes ≡ compact j → IsWithin levels j → AreTokens (tokens j) → IsText levels bytes j
compact_is_text levels bytes j e w v = let P : List ℕ → Type 0 = λ x. Laid (tokens j) x in (w, subst P (sym e) (laid_compact (tokens j) v))
