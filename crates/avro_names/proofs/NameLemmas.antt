-- From where the last dot stands to a name's namespace and last part, and from a name's parts to its bytes below 128.
use Rattle.std.proofs.Common.{◌≡◌, ℕ, zero, suc, ◌-◌, ◌<◌, ◌≤◌, List, [], ◌∷◌, length, get_or, take, drop, Bool, true, false, cond, ◌==◌, ◌&&◌, ◌||◌, refl, sym, ap, ◌∙◌, subst, arith, eq-eqb}
use Rattle.std.specs.Str.{IsAscii, IsUtf8}
use Rattle.std.proofs.lemmas.Str.{IsUtf8-from_ascii, IsAscii-take, IsAscii-drop}
use Rattle.std.proofs.lemmas.Str.Ascii.{IsAscii-nil, IsAscii-cons}
use Rattle.std.proofs.lemmas.Bool.Decides.{nat_tests}
use Rattle.avro_names.specs.Names.{is_letter, is_letter_or_digit, has_dot, are_parts, are_more_parts, namespace_of, last_part}

letter_small : (b : ℕ) → is_letter b ≡ true → b < 128
letter_small b h = grind (arith, nat_tests)

letter_or_digit_small : (b : ℕ) → is_letter_or_digit b ≡ true → b < 128
letter_or_digit_small b h = grind (arith, nat_tests)

dot_small : (b : ℕ) → (b == 46) ≡ true → b < 128
dot_small b h = grind (arith, nat_tests)

pub and_first : (a b : Bool) → (a && b) ≡ true → a ≡ true
and_first true b h = refl
and_first false b h = h

pub and_second : (a b : Bool) → (a && b) ≡ true → b ≡ true
and_second true b h = h
and_second false b h = absurd cc

more_behind : (b : ℕ) (bs : List ℕ) (t : Bool) → (b == 46) ≡ t → (are_parts bs ≡ true → IsAscii bs) → (are_more_parts bs ≡ true → IsAscii bs)
    → cond t (are_parts bs) (is_letter_or_digit b && are_more_parts bs) ≡ true → IsAscii (b ∷ bs)
more_behind b bs true e parts more h = IsAscii-cons b bs (dot_small b e) (parts h)
more_behind b bs false e parts more h = IsAscii-cons b bs (letter_or_digit_small b (and_first _ _ h)) (more (and_second _ _ h))

both_ascii : (bs : List ℕ) → (are_parts bs ≡ true → IsAscii bs) × (are_more_parts bs ≡ true → IsAscii bs)
both_ascii [] = (λ h. absurd cc, λ h. IsAscii-nil)
both_ascii (b ∷ bs) =
    let rest = both_ascii bs in
    (λ h. IsAscii-cons b bs (letter_small b (and_first _ _ h)) (rest.1 (and_second _ _ h)), λ h. more_behind b bs (b == 46) refl rest.0 rest.1 h)

parts_ascii : (bs : List ℕ) → are_parts bs ≡ true → IsAscii bs
parts_ascii bs h = (both_ascii bs).0 h

pub front_utf8 : (bs : List ℕ) (n : ℕ) → are_parts bs ≡ true → IsUtf8 (take n bs)
front_utf8 bs n h = IsUtf8-from_ascii (take n bs) (IsAscii-take bs n (parts_ascii bs h))

pub rest_utf8 : (bs : List ℕ) (m n : ℕ) → are_parts bs ≡ true → IsUtf8 (take m (drop n bs))
rest_utf8 bs m n h = IsUtf8-from_ascii (take m (drop n bs)) (IsAscii-take (drop n bs) m (IsAscii-drop bs n (parts_ascii bs h)))

-- ---- the last dot

pub or_false_first : (a b : Bool) → (a || b) ≡ false → a ≡ false
or_false_first false b h = refl
or_false_first true b h = h

pub or_false_second : (a b : Bool) → (a || b) ≡ false → b ≡ false
or_false_second false b h = h
or_false_second true b h = absurd cc

or_true : (a : Bool) → (a || true) ≡ true
or_true true = refl
or_true false = refl

dot_at : (bs : List ℕ) (p : ℕ) → p < length bs → get_or bs p 0 ≡ 46 → has_dot bs ≡ true
dot_at [] p lt e = absurd (omega arith)
dot_at (b ∷ bs) zero lt e = ap (λ x. x || has_dot bs) (eq-eqb b 46 e)
dot_at (b ∷ bs) (suc p) lt e = ap (λ x. (b == 46) || x) (dot_at bs p (omega arith) e) ∙ or_true (b == 46)

pub last_split : (bs : List ℕ) (p : ℕ) → p < length bs → get_or bs p 0 ≡ 46 → has_dot (drop (suc p) bs) ≡ false → (namespace_of bs ≡ take p bs) × (last_part bs ≡ drop (suc p) bs)
last_split [] p lt e h = absurd (omega arith)
last_split (b ∷ bs) zero lt e h =
    (ap (λ x. cond x (b ∷ namespace_of bs) []) h, ap (λ x. cond x (last_part bs) (cond (b == 46) bs (b ∷ bs))) h ∙ ap (λ x. cond x bs (b ∷ bs)) (eq-eqb b 46 e))
last_split (b ∷ bs) (suc p) lt e h =
    let more = dot_at bs p (omega arith) e in
    let rest = last_split bs p (omega arith) e h in
    (ap (λ x. cond x (b ∷ namespace_of bs) []) more ∙ ap (λ x. b ∷ x) rest.0, ap (λ x. cond x (last_part bs) (cond (b == 46) bs (b ∷ bs))) more ∙ rest.1)

pub no_dot : (bs : List ℕ) → has_dot bs ≡ false → (namespace_of bs ≡ []) × (last_part bs ≡ bs)
no_dot [] h = (refl, refl)
no_dot (b ∷ bs) h =
    let here = or_false_first _ _ h in
    let rest = or_false_second _ _ h in
    (ap (λ x. cond x (b ∷ namespace_of bs) []) rest, ap (λ x. cond x (last_part bs) (cond (b == 46) bs (b ∷ bs))) rest ∙ ap (λ x. cond x bs (b ∷ bs)) here)

pub last_split_at : (bs : List ℕ) (n : ℕ) → 0 < n → n ≤ length bs → get_or bs (n - 1) 0 ≡ 46 → has_dot (drop n bs) ≡ false → (namespace_of bs ≡ take (n - 1) bs) × (last_part bs ≡ drop n bs)
last_split_at bs n some inside e h =
    let place : suc (n - 1) ≡ n = omega arith in
    let P : ℕ → Type 0 = λ m. (namespace_of bs ≡ take (n - 1) bs) × (last_part bs ≡ drop m bs) in
    subst P place (last_split bs (n - 1) (omega arith) e (ap (λ m. has_dot (drop m bs)) place ∙ h))

pub no_dot_at : (bs : List ℕ) (n : ℕ) → n ≤ 0 → has_dot (drop n bs) ≡ false → (namespace_of bs ≡ []) × (last_part bs ≡ bs)
no_dot_at bs n low h = let zero_is : n ≡ 0 = omega arith in no_dot bs (sym (ap (λ m. has_dot (drop m bs)) zero_is) ∙ h)
