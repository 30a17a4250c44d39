-- The bytes of a key tell its group from its instance, since no byte of a word is zero.
use Rattle.std.proofs.Common.{◌≡◌, ℕ, ◌==◌, ◌&&◌, Bool, true, List, [], ◌∷◌, ◌++◌, refl, ap, ◌∙◌, arith, nat_le}
use Rattle.std.specs.Prelude.{not}
use Rattle.std.specs.List.{list_all}
use Rattle.std.proofs.lemmas.Bool.Decides.{nat_tests}
use Rattle.model.specs.state.World.{Key, key_bytes}
use Rattle.model.specs.state.Names.{is_word, IsKey}

-- a byte that a word may have
abbrev is_letter : ℕ → Bool
is_letter x = nat_le 32 x && not (x == 127)

record Halves (xs ys us vs : List ℕ) : Type 0 where
  pub left : xs ≡ us
  pub right : ys ≡ vs

halves : (xs ys us vs : List ℕ) → list_all is_letter xs ≡ true → list_all is_letter us ≡ true → xs ++ 0 ∷ ys ≡ us ++ 0 ∷ vs → Halves xs ys us vs
halves [] ys [] vs p q e = record { left = refl; right = cc e }
halves [] ys (u ∷ us) vs p q e =
    let zero_is : 0 ≡ u = cc e in
    let letter : is_letter u ≡ true = grind arith in
    absurd (grind (arith, nat_tests))
halves (x ∷ xs) ys [] vs p q e =
    let is_zero : x ≡ 0 = cc e in
    let letter : is_letter x ≡ true = grind arith in
    absurd (grind (arith, nat_tests))
halves (x ∷ xs) ys (u ∷ us) vs p q e =
    let head : x ≡ u = cc e in
    let tail : xs ++ 0 ∷ ys ≡ us ++ 0 ∷ vs = cc e in
    let rest : Halves xs ys us vs = halves xs ys us vs (grind arith) (grind arith) tail in
    record { left = ap (λ z. z ∷ xs) head ∙ ap (λ zs. u ∷ zs) rest.left; right = rest.right }

letters : (bytes : List ℕ) → is_word bytes ≡ true → list_all is_letter bytes ≡ true
letters bytes is = grind arith

pub keys_apart : (j k : Key) → IsKey j → IsKey k → key_bytes j ≡ key_bytes k → j ≡ k
keys_apart j k well well2 same =
    let h : Halves j.group j.instance k.group k.instance = halves j.group j.instance k.group k.instance (letters j.group well.group) (letters k.group well2.group) same in
    λ i. record { group = h.left i; instance = h.right i }
