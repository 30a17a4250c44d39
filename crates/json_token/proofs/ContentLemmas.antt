-- What the characters of a string stand for is UTF-8.
use Rattle.std.proofs.Common.{◌≡◌, ℕ, zero, suc, ◌+◌, ◌*◌, ◌<◌, ◌≤◌, ◌⊎◌, inl, inr, List, [], ◌∷◌, ◌++◌, length, Bool, true, false, cond, ◌==◌, Some, refl, sym, ap, ◌∙◌, subst, append_assoc, arith}
use Rattle.std.specs.Str.{IsUtf8}
use Rattle.std.specs.Char.{digit_value, encode_utf8}
use Rattle.std.proofs.lemmas.Str.{IsUtf8-append, IsUtf8-nil, IsUtf8-encode}
use Rattle.std.proofs.lemmas.Bool.Decides.{nat_tests}
use Rattle.std.proofs.lemmas.List.{append-nil}
use lib.Utf8.{scalar}
use Rattle.json_token.specs.Chars.{Leads, next_inside, after_plain, within, goes, is_hex, is_d, is_c_to_f, is_8_to_b, is_short, IsChars, content, content_behind, backslash, letter_u, high, short_escape, code_unit, pair_of, is_high, char_bytes}
use Rattle.json_token.specs.declared.chars.Inside.{Inside}
use Rattle.json_token.specs.declared.chars.Inside.TheVariants.{Plain, Tail1, Tail2, Tail3, AfterE0, AfterEd, AfterF0, AfterF4, Escape, Unit4, Unit3, Unit2, Unit1, UnitD, High2, High1, LowSlash, LowU, LowD, LowC}
use Rattle.json_token.proofs.Escapes.{content_nil}
use Rattle.json_token.proofs.Utf8Lemmas.{Pending, step_pending, chosen, gone, utf8_along, push_ascii, test_eq}

-- no escape has begun
abbrev is_raw : Inside → Bool
is_raw Plain = true
is_raw Tail1 = true
is_raw Tail2 = true
is_raw Tail3 = true
is_raw AfterE0 = true
is_raw AfterEd = true
is_raw AfterF0 = true
is_raw AfterF4 = true
is_raw Escape = false
is_raw Unit4 = false
is_raw Unit3 = false
is_raw Unit2 = false
is_raw Unit1 = false
is_raw UnitD = false
is_raw High2 = false
is_raw High1 = false
is_raw LowSlash = false
is_raw LowU = false
is_raw LowD = false
is_raw LowC = false

raw_gone : (t : Bool) (q r : Inside) → is_raw q ≡ true → goes t q ≡ Some r → is_raw r ≡ true
raw_gone t q r h e = ap is_raw (sym (gone t q r e).1) ∙ h

raw_plain : (r : Inside) (b : ℕ) → (b == 92) ≡ false → after_plain b ≡ Some r → is_raw r ≡ true
raw_plain r b n e = grind (arith, nat_tests)

-- a byte that is no backslash begins no escape
raw_next : (m r : Inside) (b : ℕ) → is_raw m ≡ true → (b == 92) ≡ false → next_inside m b ≡ Some r → is_raw r ≡ true
unfolding next_inside
raw_next Plain r b h n e = raw_plain r b n e
raw_next Tail1 r b h n e = raw_gone _ Plain r refl e
raw_next Tail2 r b h n e = raw_gone _ Tail1 r refl e
raw_next Tail3 r b h n e = raw_gone _ Tail2 r refl e
raw_next AfterE0 r b h n e = raw_gone _ Tail1 r refl e
raw_next AfterEd r b h n e = raw_gone _ Tail1 r refl e
raw_next AfterF0 r b h n e = raw_gone _ Tail2 r refl e
raw_next AfterF4 r b h n e = raw_gone _ Tail2 r refl e
raw_next Escape r b h n e = absurd cc
raw_next Unit4 r b h n e = absurd cc
raw_next Unit3 r b h n e = absurd cc
raw_next Unit2 r b h n e = absurd cc
raw_next Unit1 r b h n e = absurd cc
raw_next UnitD r b h n e = absurd cc
raw_next High2 r b h n e = absurd cc
raw_next High1 r b h n e = absurd cc
raw_next LowSlash r b h n e = absurd cc
raw_next LowU r b h n e = absurd cc
raw_next LowD r b h n e = absurd cc
raw_next LowC r b h n e = absurd cc

no_backslash_goes : (least most b : ℕ) (q r : Inside) → 128 ≤ least → goes (within least most b) q ≡ Some r → (b == 92) ≡ false
no_backslash_goes least most b q r l e = past least most b l (gone (within least most b) q r e).0
  where
    past : (least most b : ℕ) → 128 ≤ least → within least most b ≡ true → (b == 92) ≡ false
    past least most b l e = grind (arith, nat_tests)

-- a backslash comes only where a character may
backslash_at : (m r : Inside) (b : ℕ) → is_raw m ≡ true → (b == 92) ≡ true → next_inside m b ≡ Some r → (m ≡ Plain) × (r ≡ Escape)
unfolding next_inside
backslash_at Plain r b h t e = (refl, slash r b t e)
  where
    slash : (r : Inside) (b : ℕ) → (b == 92) ≡ true → after_plain b ≡ Some r → r ≡ Escape
    slash r b t e = let k = test_eq b 92 t in let f : after_plain 92 ≡ Some r = ap after_plain (sym k) ∙ e in cc
backslash_at Tail1 r b h t e = absurd (let n = no_backslash_goes _ _ b _ r (omega arith) e in cc)
backslash_at Tail2 r b h t e = absurd (let n = no_backslash_goes _ _ b _ r (omega arith) e in cc)
backslash_at Tail3 r b h t e = absurd (let n = no_backslash_goes _ _ b _ r (omega arith) e in cc)
backslash_at AfterE0 r b h t e = absurd (let n = no_backslash_goes _ _ b _ r (omega arith) e in cc)
backslash_at AfterEd r b h t e = absurd (let n = no_backslash_goes _ _ b _ r (omega arith) e in cc)
backslash_at AfterF0 r b h t e = absurd (let n = no_backslash_goes _ _ b _ r (omega arith) e in cc)
backslash_at AfterF4 r b h t e = absurd (let n = no_backslash_goes _ _ b _ r (omega arith) e in cc)
backslash_at Escape r b h t e = absurd cc
backslash_at Unit4 r b h t e = absurd cc
backslash_at Unit3 r b h t e = absurd cc
backslash_at Unit2 r b h t e = absurd cc
backslash_at Unit1 r b h t e = absurd cc
backslash_at UnitD r b h t e = absurd cc
backslash_at High2 r b h t e = absurd cc
backslash_at High1 r b h t e = absurd cc
backslash_at LowSlash r b h t e = absurd cc
backslash_at LowU r b h t e = absurd cc
backslash_at LowD r b h t e = absurd cc
backslash_at LowC r b h t e = absurd cc

-- ---- hexadecimal digits

hex_value : (b : ℕ) → is_hex b ≡ true → digit_value b ≤ 15
hex_value b e = grind (arith, nat_tests)

d_value : (b : ℕ) → is_d b ≡ true → digit_value b ≡ 13
d_value b e = grind (arith, nat_tests)

no_d_value : (b : ℕ) → is_hex b ≡ true → is_d b ≡ false → digit_value b ≡ 13 → ⊥
no_d_value b e n f = grind (arith, nat_tests)

low_value : (b : ℕ) → within 48 55 b ≡ true → digit_value b ≤ 7
low_value b e = grind (arith, nat_tests)

high_value : (b : ℕ) → is_8_to_b b ≡ true → (8 ≤ digit_value b) × (digit_value b ≤ 11)
high_value b e = (grind (arith, nat_tests), grind (arith, nat_tests))

below_high : (u : ℕ) → u < 55296 → is_high u ≡ false
below_high u h = grind (arith, nat_tests)

above_high : (u : ℕ) → 56319 < u → is_high u ≡ false
above_high u h = grind (arith, nat_tests)

between_high : (u : ℕ) → 55296 ≤ u → u ≤ 56319 → is_high u ≡ true
between_high u h k = grind (arith, nat_tests)

other_unit : (v w x y : ℕ) → (v ≡ 13 → ⊥) → v ≤ 15 → w ≤ 15 → x ≤ 15 → y ≤ 15 → is_high (v * 4096 + w * 256 + x * 16 + y) ≡ false
other_unit v w x y n a b c d = side (leb_cases v)
  where
    leb_cases : (v : ℕ) → (v ≤ 12) ⊎ (13 ≤ v)
    leb_cases v = grind (arith, nat_tests)

    side : (v ≤ 12) ⊎ (13 ≤ v) → is_high (v * 4096 + w * 256 + x * 16 + y) ≡ false
    side (inl h) = below_high (v * 4096 + w * 256 + x * 16 + y) (omega arith)
    side (inr h) = above_high (v * 4096 + w * 256 + x * 16 + y) (omega arith)

low_unit : (v w x y : ℕ) → v ≡ 13 → w ≤ 7 → x ≤ 15 → y ≤ 15 → is_high (v * 4096 + w * 256 + x * 16 + y) ≡ false
low_unit v w x y e b c d = below_high (v * 4096 + w * 256 + x * 16 + y) (omega arith)

high_unit : (v w x y : ℕ) → v ≡ 13 → 8 ≤ w → w ≤ 11 → x ≤ 15 → y ≤ 15 → is_high (v * 4096 + w * 256 + x * 16 + y) ≡ true
high_unit v w x y e a b c d = between_high (v * 4096 + w * 256 + x * 16 + y) (omega arith) (omega arith)

-- the bytes of a character are UTF-8, and so are none
char_bytes_utf8 : (c : ℕ) → IsUtf8 (char_bytes c)
char_bytes_utf8 c = pick (scalar c) refl
  where
    pick : (t : Bool) → scalar c ≡ t → IsUtf8 (cond t (encode_utf8 c) [])
    pick true e = IsUtf8-encode c e
    pick false e = IsUtf8-nil

-- ---- along the bytes

passes : (t : Bool) (q r : Inside) (s : List ℕ) → goes t q ≡ Some r → Leads r s Plain → (t ≡ true) × Leads q s Plain
passes t q r s e l = let g = gone t q r e in let P : Inside → Type 0 = λ x. Leads x s Plain in (g.0, subst P (sym g.1) l)

-- the last two digits of a unit
record Digits (s : List ℕ) : Type 0 where
  c : ℕ
  d : ℕ
  rest : List ℕ
  is : s ≡ c ∷ (d ∷ rest)
  third : digit_value c ≤ 15
  fourth : digit_value d ≤ 15
  leads : Leads Plain rest Plain

two_digits : (s : List ℕ) → Leads Unit2 s Plain → Digits s
unfolding next_inside
two_digits [] l = absurd cc
two_digits (c ∷ []) l = let x = passes (is_hex c) Unit1 l.0 [] l.1 l.2 in let z : Unit1 ≡ Plain = x.1 in absurd cc
two_digits (c ∷ (d ∷ rest)) l =
    let x = passes (is_hex c) Unit1 l.0 (d ∷ rest) l.1 l.2 in
    let m = x.1 in
    let y = passes (is_hex d) Plain m.0 rest m.1 m.2 in
    record { c = c; d = d; rest = rest; is = refl; third = hex_value c x.0; fourth = hex_value d y.0; leads = y.1 }

-- what comes behind n bytes at most
abbrev Shorter : ℕ → Type 0
Shorter n = (p s : List ℕ) → length s ≤ n → IsUtf8 p → Leads Plain s Plain → IsUtf8 (p ++ content s)

joined : (p x rest tail : List ℕ) → tail ≡ x ++ rest → IsUtf8 ((p ++ x) ++ rest) → IsUtf8 (p ++ tail)
joined p x rest tail e h = utf8_along _ _ (append_assoc p x rest ∙ ap (λ y. p ++ y) (sym e)) h

-- a unit that is no first one of a pair
unit_single : (n : ℕ) (p : List ℕ) (a b c d : ℕ) (s : List ℕ) → Shorter n → length s ≤ n → IsUtf8 p → is_high (code_unit a b c d) ≡ false → Leads Plain s Plain → IsUtf8 (p ++ content_behind letter_u (a ∷ (b ∷ (c ∷ (d ∷ s)))))
unfolding content_behind
unit_single n p a b c d s rec k h f l =
    let u = code_unit a b c d in
    joined p (char_bytes u) (content s) _ (ap (λ t. cond t (content_behind (high u) s) (char_bytes u ++ content s)) f)
    (rec (p ++ char_bytes u) s k (IsUtf8-append p (char_bytes u) h (char_bytes_utf8 u)) l)

pair_bytes : (n : ℕ) (p : List ℕ) (a b c d u v : ℕ) (t : List ℕ) → Shorter n → length t ≤ n → IsUtf8 p → is_high (code_unit a b c d) ≡ true → (e f : ℕ) (s : List ℕ) → s ≡ (u ∷ (v ∷ (e ∷ (f ∷ t)))) → (rest : List ℕ) → (x y : ℕ) → t ≡ x ∷ (y ∷ rest) → Leads Plain rest Plain → IsUtf8 (p ++ content_behind letter_u (a ∷ (b ∷ (c ∷ (d ∷ s)))))
unfolding content_behind
pair_bytes n p a b c d u v t rec k h g e f s i rest x y j l =
    let w = code_unit a b c d in
    let z = char_bytes (pair_of w (code_unit e f x y)) in
    let same : s ≡ (u ∷ (v ∷ (e ∷ (f ∷ (x ∷ (y ∷ rest)))))) = i ∙ ap (λ r. u ∷ (v ∷ (e ∷ (f ∷ r)))) j in
    let short : length rest ≤ n = let m = ap length j in omega arith in
    joined p z (content rest) _ (ap (λ r. cond r (content_behind (high w) s) (char_bytes w ++ content s)) g ∙ ap (content_behind (high w)) same)
    (rec (p ++ z) rest short (IsUtf8-append p z h (char_bytes_utf8 (pair_of w (code_unit e f x y)))) l)

-- the second unit of a pair, behind the first
pair : (n : ℕ) (p : List ℕ) (a b c d : ℕ) (s : List ℕ) → Shorter n → length s ≤ n → IsUtf8 p → is_high (code_unit a b c d) ≡ true → Leads LowSlash s Plain → IsUtf8 (p ++ content_behind letter_u (a ∷ (b ∷ (c ∷ (d ∷ s)))))
unfolding next_inside
pair n p a b c d [] rec k h g l = absurd cc
pair n p a b c d (u ∷ []) rec k h g l = let x = passes (u == 92) LowU l.0 [] l.1 l.2 in let z : LowU ≡ Plain = x.1 in absurd cc
pair n p a b c d (u ∷ (v ∷ [])) rec k h g l =
    let x = passes (u == 92) LowU l.0 (v ∷ []) l.1 l.2 in
    let m = x.1 in
    let y = passes (v == 117) LowD m.0 [] m.1 m.2 in
    let z : LowD ≡ Plain = y.1 in absurd cc
pair n p a b c d (u ∷ (v ∷ (e ∷ []))) rec k h g l =
    let x = passes (u == 92) LowU l.0 (v ∷ (e ∷ [])) l.1 l.2 in
    let m = x.1 in
    let y = passes (v == 117) LowD m.0 (e ∷ []) m.1 m.2 in
    let o = y.1 in
    let w = passes (is_d e) LowC o.0 [] o.1 o.2 in
    let z : LowC ≡ Plain = w.1 in absurd cc
pair n p a b c d (u ∷ (v ∷ (e ∷ (f ∷ t)))) rec k h g l =
    let x = passes (u == 92) LowU l.0 (v ∷ (e ∷ (f ∷ t))) l.1 l.2 in
    let m = x.1 in
    let y = passes (v == 117) LowD m.0 (e ∷ (f ∷ t)) m.1 m.2 in
    let o = y.1 in
    let w = passes (is_d e) LowC o.0 (f ∷ t) o.1 o.2 in
    let q = w.1 in
    let r = passes (is_c_to_f f) Unit2 q.0 t q.1 q.2 in
    let two = two_digits t r.1 in
    pair_bytes n p a b c d u v t rec (omega arith) h g e f _ refl two.rest two.c two.d two.is two.leads

-- the unit behind `\u`
unit : (n : ℕ) (p s : List ℕ) → Shorter n → length s ≤ n → IsUtf8 p → Leads Unit4 s Plain → IsUtf8 (p ++ content_behind letter_u s)
unfolding next_inside
unit n p [] rec k h l = absurd cc
unit n p (a ∷ []) rec k h l = absurd (none (chosen _ _ _ l.0 l.1) l.2)
  where
    none : ((is_d a ≡ true) × (Some UnitD ≡ Some l.0)) ⊎ ((is_d a ≡ false) × (goes (is_hex a) Unit3 ≡ Some l.0)) → l.0 ≡ Plain → ⊥
    none (inl w) e = let f = w.1 in cc
    none (inr w) e = let f : Unit3 ≡ l.0 = (gone (is_hex a) Unit3 l.0 w.1).1 in cc
unit n p (a ∷ (b ∷ s)) rec k h l = first (chosen _ _ _ l.0 l.1)
  where
    moved : (q : Inside) → q ≡ l.0 → Leads q (b ∷ s) Plain
    moved q e = let P : Inside → Type 0 = λ x. Leads x (b ∷ s) Plain in subst P (sym e) l.2

    single : (t : List ℕ) → s ≡ t → (two : Digits t) → ((c d : ℕ) → digit_value c ≤ 15 → digit_value d ≤ 15 → is_high (code_unit a b c d) ≡ false) → IsUtf8 (p ++ content_behind letter_u (a ∷ (b ∷ s)))
    single t e two f =
        let same : s ≡ two.c ∷ (two.d ∷ two.rest) = e ∙ two.is in
        let P : List ℕ → Type 0 = λ x. IsUtf8 (p ++ content_behind letter_u (a ∷ (b ∷ x))) in
        subst P (sym same) (unit_single n p a b two.c two.d two.rest rec (let m = ap length same in omega arith) h (f two.c two.d two.third two.fourth) two.leads)

    hexed : (o : (r : Inside) × (goes (is_hex b) Unit2 ≡ Some r) × Leads r s Plain) → is_hex a ≡ true → is_d a ≡ false → IsUtf8 (p ++ content_behind letter_u (a ∷ (b ∷ s)))
    hexed o e f = let x = passes (is_hex b) Unit2 o.0 s o.1 o.2 in single s refl (two_digits s x.1) (λ c d i j. other_unit (digit_value a) (digit_value b) (digit_value c) (digit_value d) (no_d_value a e f) (hex_value a e) (hex_value b x.0) i j)

    second : (r : Inside) → Leads r s Plain → is_d a ≡ true → ((within 48 55 b ≡ true) × (Some Unit2 ≡ Some r)) ⊎ ((within 48 55 b ≡ false) × (goes (is_8_to_b b) High2 ≡ Some r)) → IsUtf8 (p ++ content_behind letter_u (a ∷ (b ∷ s)))
    second r m t (inl w) =
        let e : Unit2 ≡ r = let f = w.1 in cc in
        let P : Inside → Type 0 = λ x. Leads x s Plain in
        single s refl (two_digits s (subst P (sym e) m)) (λ c d i j. low_unit (digit_value a) (digit_value b) (digit_value c) (digit_value d) (d_value a t) (low_value b w.0) i j)
    second r m t (inr w) = let x = passes (is_8_to_b b) High2 r s w.1 m in highs s refl x.1 (high_value b x.0)
      where
        highs : (y : List ℕ) → s ≡ y → Leads High2 y Plain → (8 ≤ digit_value b) × (digit_value b ≤ 11) → IsUtf8 (p ++ content_behind letter_u (a ∷ (b ∷ s)))
        highs [] e l v = absurd cc
        highs (c ∷ []) e l v = let x = passes (is_hex c) High1 l.0 [] l.1 l.2 in let z : High1 ≡ Plain = x.1 in absurd cc
        highs (c ∷ (d ∷ rest)) e l v =
            let x = passes (is_hex c) High1 l.0 (d ∷ rest) l.1 l.2 in
            let o = x.1 in
            let y = passes (is_hex d) LowSlash o.0 rest o.1 o.2 in
            let P : List ℕ → Type 0 = λ x. IsUtf8 (p ++ content_behind letter_u (a ∷ (b ∷ x))) in
            subst P (sym e) (pair n p a b c d rest rec (let m = ap length e in omega arith) h (high_unit (digit_value a) (digit_value b) (digit_value c) (digit_value d) (d_value a t) v.0 v.1 (hex_value c x.0) (hex_value d y.0)) y.1)

    first : ((is_d a ≡ true) × (Some UnitD ≡ Some l.0)) ⊎ ((is_d a ≡ false) × (goes (is_hex a) Unit3 ≡ Some l.0)) → IsUtf8 (p ++ content_behind letter_u (a ∷ (b ∷ s)))
    first (inl w) = let e : UnitD ≡ l.0 = let f = w.1 in cc in let m = moved UnitD e in second m.0 m.2 w.0 (chosen _ _ _ m.0 m.1)
    first (inr w) = let g = gone (is_hex a) Unit3 l.0 w.1 in hexed (moved Unit3 g.1) g.0 w.0

short_ascii : (x : ℕ) → is_short x ≡ true → short_escape x < 128
short_ascii x e = grind (arith, nat_tests)

-- what stands behind a backslash
escape : (n : ℕ) (p s : List ℕ) → Shorter n → length s ≤ n → IsUtf8 p → Leads Escape s Plain → IsUtf8 (p ++ content_behind backslash s)
unfolding next_inside content_behind
escape n p [] rec k h l = absurd cc
escape n p (x ∷ s) rec k h l = either (chosen _ _ _ l.0 l.1)
  where
    either : (((x == 117) ≡ true) × (Some Unit4 ≡ Some l.0)) ⊎ (((x == 117) ≡ false) × (goes (is_short x) Plain ≡ Some l.0)) → IsUtf8 (p ++ content_behind backslash (x ∷ s))
    either (inl w) =
        let e : Unit4 ≡ l.0 = let f = w.1 in cc in
        let P : Inside → Type 0 = λ y. Leads y s Plain in
        joined p [] (content_behind letter_u s) _ (ap (λ t. cond t (content_behind letter_u s) (short_escape x ∷ content s)) w.0) (utf8_along _ _ (ap (λ y. y ++ content_behind letter_u s) (sym (append-nil p))) (unit n p s rec (omega arith) h (subst P (sym e) l.2)))
    either (inr w) =
        let y = passes (is_short x) Plain l.0 s w.1 l.2 in
        joined p (short_escape x ∷ []) (content s) _ (ap (λ t. cond t (content_behind letter_u s) (short_escape x ∷ content s)) w.0) (rec (p ++ (short_escape x ∷ [])) s (omega arith) (push_ascii p (short_escape x) h (short_ascii x y.0)) y.1)

-- one byte that begins no escape, or all that one stands for
one_byte : (n : ℕ) (m r : Inside) (p : List ℕ) (b : ℕ) (s : List ℕ) (t : Bool) → (b == 92) ≡ t → Shorter n → length s ≤ n → is_raw m ≡ true → Pending m p → next_inside m b ≡ Some r → Leads r s Plain
    → (is_raw r ≡ true → Pending r (p ++ (b ∷ [])) → IsUtf8 ((p ++ (b ∷ [])) ++ content s)) → IsUtf8 (p ++ content (b ∷ s))
unfolding content_behind
one_byte n m r p b s false e rec k a h f l next = joined p (b ∷ []) (content s) _ (ap (λ t. cond t (content_behind backslash s) (b ∷ content s)) e) (next (raw_next m r b a e f) (step_pending m r p b h f))
one_byte n m r p b s true e rec k a h f l next =
    let w = backslash_at m r b a e f in
    let P : Inside → Type 0 = λ x. Pending x p in
    let Q : Inside → Type 0 = λ x. Leads x s Plain in
    joined p [] (content_behind backslash s) _ (ap (λ t. cond t (content_behind backslash s) (b ∷ content s)) e) (utf8_along _ _ (ap (λ y. y ++ content_behind backslash s) (sym (append-nil p))) (escape n p s rec k (subst P w.0 h) (subst Q w.1 l)))

-- from a place where no escape has begun
along : (n : ℕ) (m : Inside) (p s : List ℕ) → length s ≤ n → is_raw m ≡ true → Pending m p → Leads m s Plain → IsUtf8 (p ++ content s)
along n m p [] k r h l = let P : Inside → Type 0 = λ x. Pending x p in utf8_along _ _ (sym (append-nil p) ∙ ap (λ x. p ++ x) (sym content_nil)) (subst P l h)
along zero m p (b ∷ s) k r h l = absurd (omega arith)
along (suc n) m p (b ∷ s) k r h l = one_byte n m l.0 p b s (b == 92) refl (λ q z i u v. along n Plain q z i refl u v) (omega arith) r h l.1 l.2 (λ a w. along n l.0 (p ++ (b ∷ [])) s (omega arith) a w l.2)

-- what the characters of a string stand for
pub content_utf8 : (s : List ℕ) → IsChars s → IsUtf8 (content s)
content_utf8 s l = along (length s) Plain [] s (omega arith) refl IsUtf8-nil l
