-- From whether decoded bytes are UTF-8 to the name that they are.
use Rattle.std.proofs.Common.{◌≡◌, List, ℕ, Bool, true, false, Some, None, refl, IsUtf8}
use Rattle.std.specs.Prelude.{if◌then◌else◌, ◌&&◌}
use Rattle.std.specs.Str.{is_utf8}
use Rattle.std.proofs.lemmas.Str.{IsUtf8-from_is_utf8, is_utf8-from_IsUtf8}
use Rattle.rest_routes.specs.Parameter.{is_short, short_text}

untaken : (b s : Bool) (text : List ℕ) → (b ≡ true → ⊥) → None ≡ (if b && s then Some text else None)
untaken true s text differs = absurd (differs refl)
untaken false s text differs = refl

-- bytes that are no UTF-8 are no name
pub not_text : (text : List ℕ) → (IsUtf8 text → ⊥) → None ≡ short_text text
not_text text differs = untaken (is_utf8 text) (is_short text) text (λ e. differs (IsUtf8-from_is_utf8 text e))

taken : (b s : Bool) (text : List ℕ) → b ≡ true → s ≡ true → Some text ≡ (if b && s then Some text else None)
taken true true text b s = refl
taken true false text b s = absurd cc
taken false s2 text b s = absurd cc

-- text of 1 to 249 bytes is a name
pub is_text : (text : List ℕ) → IsUtf8 text → is_short text ≡ true → Some text ≡ short_text text
is_text text utf8 short = taken (is_utf8 text) (is_short text) text (is_utf8-from_IsUtf8 text utf8) short

dropped : (b s : Bool) (text : List ℕ) → s ≡ false → None ≡ (if b && s then Some text else None)
dropped true false text s = refl
dropped false s2 text s = refl
dropped true true text s = absurd cc

-- text of another length is none
pub not_short : (text : List ℕ) → is_short text ≡ false → None ≡ short_text text
not_short text long = dropped (is_utf8 text) (is_short text) text long
