-- From how many bytes there are, to where an item ends.
use Rattle.std.proofs.Common.{◌≡◌, ℕ, ◌-◌, ◌<◌, ◌≤◌, List, ◌++◌, length, take, drop, Ok, Err, ℤ, pos, false, refl, ap, ◌∙◌, subst, arith, length-drop}
use Rattle.std.proofs.Math.Seq.{take-length, take-append_seam}
use Rattle.std.specs.Str.{IsUtf8, is_utf8}
use Rattle.std.proofs.lemmas.Bool.{false_from_ne_true}
use Rattle.std.proofs.lemmas.Bool.Decides.{leb_tells}
use Rattle.std.proofs.lemmas.Str.{is_utf8-from_IsUtf8, IsUtf8-from_is_utf8}
use Rattle.wire_prim.specs.declared.error.PrimNo.TheVariants.{Short, BadUtf8}
use Rattle.wire_prim.specs.Behind.{behind_bytes, behind_sized, behind_text}

-- the slice from a place on
pub rest_is : (n : ℕ) (bytes : List ℕ) → take (length bytes - n) (drop n bytes) ≡ drop n bytes
rest_is n bytes = subst (λ k. take k (drop n bytes) ≡ drop n bytes) (length-drop n bytes) (take-length (drop n bytes))

pub behind_short : (n : ℕ) (left rest : List ℕ) → rest ≡ left → length rest < n → behind_bytes n left ≡ Err Short
behind_short n left rest is below = grind (arith, leb_tells)

pub behind_enough : (n : ℕ) (left rest : List ℕ) → rest ≡ left → n ≤ length rest → behind_bytes n left ≡ Ok (take (length rest - n) (drop n rest))
behind_enough n left rest is above = grind (arith, leb_tells, rest_is)

-- a text that was read
pub text_read : (size seen : ℤ) (left rest piece : List ℕ) → seen ≡ size → behind_sized seen left ≡ Ok rest → seen ≡ pos (length piece) → left ≡ piece ++ rest → IsUtf8 piece
    → behind_text size left ≡ Ok rest
text_read size seen left rest piece same sized is front utf8 =
    let sized' : behind_bytes (length piece) left ≡ Ok rest = rw is at sized in
    let whole : take (length piece) left ≡ piece = ap (take (length piece)) front ∙ take-append_seam piece rest in
    rw (← same, is, sized', whole, is_utf8-from_IsUtf8 piece utf8) refl

-- a text that is none
pub text_refused : (size seen : ℤ) (left rest piece : List ℕ) → seen ≡ size → behind_sized seen left ≡ Ok rest → seen ≡ pos (length piece) → left ≡ piece ++ rest → ¬ IsUtf8 piece
    → behind_text size left ≡ Err BadUtf8
text_refused size seen left rest piece same sized is front bad =
    let sized' : behind_bytes (length piece) left ≡ Ok rest = rw is at sized in
    let whole : take (length piece) left ≡ piece = ap (take (length piece)) front ∙ take-append_seam piece rest in
    let no_text : is_utf8 piece ≡ false = false_from_ne_true (is_utf8 piece) (λ yes. bad (IsUtf8-from_is_utf8 piece yes)) in
    rw (← same, is, sized', whole, no_text) refl
