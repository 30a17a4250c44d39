-- From what was read of a datum's parts, to what is read of it.
use Rattle.std.proofs.Common.{◌≡◌, ℕ, List, Ok, false, inr, refl, sym, ap, ◌∙◌}
use Rattle.std.specs.Str.{is_utf8, IsUtf8}
use Rattle.std.proofs.lemmas.Bool.{false_from_ne_true}
use Rattle.std.proofs.lemmas.Str.{is_utf8-from_IsUtf8, IsUtf8-from_is_utf8}
use Rattle.avro_value.specs.declared.error.AvroNo.TheVariants.{BadUtf8}
use Rattle.avro_codec.specs.Reading.{Place, Read, sized_at, text_at, utf8}
use Rattle.avro_value.specs.Steps.{◌>>=◌, Fails}

pub text_read : (k : ℕ) (p : Place) (piece text : List ℕ) (q : Place) → sized_at k p ≡ Ok (piece, q) → text ≡ piece → IsUtf8 piece → text_at k p ≡ Ok (text, q)
unfolding text_at
text_read k p piece text q sized same is =
    ap (λ (r : Read (List ℕ)). r >>= utf8) sized ∙ rw (is_utf8-from_IsUtf8 piece is) (ap (λ (x : List ℕ). Ok (x, q)) (sym same))

pub text_unread : (k : ℕ) (p : Place) (piece : List ℕ) (q : Place) → sized_at k p ≡ Ok (piece, q) → (IsUtf8 piece → ⊥) → Fails BadUtf8 (text_at k p)
unfolding text_at
text_unread k p piece q sized not =
    let bad : is_utf8 piece ≡ false = false_from_ne_true (is_utf8 piece) (λ is. not (IsUtf8-from_is_utf8 piece is)) in
    inr (ap (λ (r : Read (List ℕ)). r >>= utf8) sized ∙ rw bad refl)
