-- What a target that is served asks for is text.
use Rattle.std.proofs.Common.{◌≡◌, ℕ, ◌<◌, Bool, true, false, List, [], ◌∷◌, drop, refl, arith, codes}
use Rattle.std.specs.Prelude.{◌&&◌, All, IsUtf8, if◌then◌else◌}
use Rattle.std.specs.List.{list_all, position_or_len}
use Rattle.std.proofs.lemmas.Bool.Decides.{nat_tests}
use Rattle.std.proofs.lemmas.List.Elements.{All-nil, All-cons, All-drop}
use Rattle.std.proofs.lemmas.Str.{IsUtf8-from_ascii}
use Rattle.std.proofs.lemmas.Str.Ascii.{IsAscii-from_all}
use Rattle.http_head.specs.Asked.{is_plain, begins_with, is_served, ends_authority, behind_authority, or_slash, asked_in}

-- the bytes are ASCII
abbrev pub ArePlain : List ℕ → Type 0
ArePlain bytes = All (λ b. b < 128) bytes

both : (a b : Bool) → (a && b) ≡ true → (a ≡ true) × (b ≡ true)
both true true is = (refl, refl)
both true false is = absurd (cc is)
both false true is = absurd (cc is)
both false false is = absurd (cc is)

plain_byte : (b : ℕ) → is_plain b ≡ true → b < 128
plain_byte b is = grind (arith, nat_tests)

plain_all : (bytes : List ℕ) → list_all is_plain bytes ≡ true → ArePlain bytes
plain_all [] is = All-nil (λ b. b < 128)
plain_all (b ∷ bytes) is =
    let parts = both (is_plain b) (list_all is_plain bytes) is in
    All-cons (λ b. b < 128) b bytes (plain_byte b parts.0) (plain_all bytes parts.1)

plain_or_slash : (bytes : List ℕ) → ArePlain bytes → ArePlain (or_slash bytes)
plain_or_slash [] are = All-cons (λ b. b < 128) 47 [] (omega arith) (All-nil (λ b. b < 128))
plain_or_slash (b ∷ bytes) are = are

plain_asked : (target : List ℕ) → ArePlain target → ArePlain (asked_in target)
unfolding asked_in
plain_asked target are = go (begins_with (codes "http://") target)
  where
    go : (t : Bool) → ArePlain (if t then or_slash (behind_authority (drop 7 target)) else target)
    go true =
        let rest : ArePlain (drop 7 target) = All-drop (λ b. b < 128) 7 target are in
        plain_or_slash (behind_authority (drop 7 target)) (All-drop (λ b. b < 128) (position_or_len ends_authority (drop 7 target)) (drop 7 target) rest)
    go false = are

pub asked_is_text : (target : List ℕ) → is_served target ≡ true → IsUtf8 (asked_in target)
asked_is_text target served =
    let parts = both (list_all is_plain target) _ served in
    IsUtf8-from_ascii (asked_in target) (IsAscii-from_all (asked_in target) (plain_asked target (plain_all target parts.0)))
