-- The bytes of a string are UTF-8, and so is the text of a value.
use Rattle.std.proofs.Common.{◌≡◌, ℕ, ◌+◌, ◌-◌, ◌*◌, ◌/◌, ◌<◌, ◌≤◌, ◌⊎◌, inl, inr, List, [], ◌∷◌, ◌++◌, Bool, true, false, cond, ltb, Option, Some, None, refl, sym, ap, ◌∙◌, subst, append_assoc, arith}
use Rattle.std.specs.Str.{IsUtf8}
use Rattle.std.specs.Prelude.{nat_lt, ◌==◌}
use Rattle.std.specs.List.{flat_map}
use Rattle.std.proofs.lemmas.Str.{IsUtf8-append, IsUtf8-nil, IsUtf8-encode}
use Rattle.std.proofs.lemmas.Bool.Decides.{nat_tests}
use Rattle.std.proofs.lemmas.List.{append-nil}
use lib.Utf8.{encode, next, scalar, low_scalar}
use Rattle.json_token.specs.Tokens.{Token, begin_array, end_array, begin_object, end_object, comma, colon, null_name, true_name, false_name, numeral, quoted, spelled, IsToken, AreTokens}
use Rattle.json_token.specs.Number.{next_part, is_digit, is_leading, is_mark}
use Rattle.json_token.specs.Number as number
use Rattle.json_token.specs.Chars.{Leads, next_inside, after_plain, after_lead, within, goes, is_hex, is_d, is_c_to_f, is_8_to_b, is_short, IsChars}
use Rattle.json_token.specs.declared.number.Part.{Part}
use Rattle.json_token.specs.declared.number.Part.TheVariants.{Start, Whole, Zero, Digits, Point, Fraction, Mark, Sign, Exponent}
use Rattle.json_token.specs.declared.chars.Inside.{Inside}
use Rattle.json_token.specs.declared.chars.Inside.TheVariants.{Plain, Tail1, Tail2, Tail3, AfterE0, AfterEd, AfterF0, AfterF4, Escape, Unit4, Unit3, Unit2, Unit1, UnitD, High2, High1, LowSlash, LowU, LowD, LowC}

-- a byte behind a first one
pub record Tail (x : ℕ) : Type 0 where
  pub low : 128 ≤ x
  pub high : x < 192

char_utf8 : (c : ℕ) (bs : List ℕ) → scalar c ≡ true → encode c ≡ bs → IsUtf8 bs
char_utf8 c bs s e = let P : List ℕ → Type 0 = λ x. IsUtf8 x in subst P e (IsUtf8-encode c s)

encode_one : (c : ℕ) → c < 128 → encode c ≡ c ∷ []
unfolding encode
encode_one c h = grind (arith, nat_tests)

pub encode_two : (c : ℕ) → 128 ≤ c → c < 2048 → encode c ≡ (192 + c / 64) ∷ (next c ∷ [])
unfolding encode
encode_two c l h = let a : ltb c 128 ≡ false = grind (arith, nat_tests) in let b : ltb c 2048 ≡ true = grind (arith, nat_tests) in rw (a, b) refl

pub encode_three : (c : ℕ) → 2048 ≤ c → c < 65536 → encode c ≡ (224 + c / 4096) ∷ (next (c / 64) ∷ (next c ∷ []))
unfolding encode
encode_three c l h = let a : ltb c 128 ≡ false = grind (arith, nat_tests) in let b : ltb c 2048 ≡ false = grind (arith, nat_tests) in let d : ltb c 65536 ≡ true = grind (arith, nat_tests) in rw (a, b, d) refl

pub encode_four : (c : ℕ) → 65536 ≤ c → encode c ≡ (240 + c / 262144) ∷ (next (c / 4096) ∷ (next (c / 64) ∷ (next c ∷ [])))
unfolding encode
encode_four c l = let a : ltb c 128 ≡ false = grind (arith, nat_tests) in let b : ltb c 2048 ≡ false = grind (arith, nat_tests) in let d : ltb c 65536 ≡ false = grind (arith, nat_tests) in rw (a, b, d) refl

high_scalar : (c : ℕ) → 57344 ≤ c → c < 1114112 → scalar c ≡ true
high_scalar c l h = grind (arith, nat_tests)

ascii : (b : ℕ) → b < 128 → IsUtf8 (b ∷ [])
ascii b h = char_utf8 b _ (low_scalar b (omega arith)) (encode_one b h)

two : (b x : ℕ) → 194 ≤ b → b < 224 → Tail x → IsUtf8 (b ∷ (x ∷ []))
two b x h k t =
    let c = (b - 192) * 64 + (x - 128) in
    let l = t.low in let u = t.high in
    let p : 192 + c / 64 ≡ b = omega arith in
    let q : next c ≡ x = omega arith in
    char_utf8 c _ (low_scalar c (omega arith)) (encode_two c (omega arith) (omega arith) ∙ (λ i. p i ∷ (q i ∷ [])))

three : (b x y : ℕ) → 224 ≤ b → b < 240 → Tail x → Tail y → 2048 ≤ (b - 224) * 4096 + (x - 128) * 64 + (y - 128) → ((b - 224) * 4096 + (x - 128) * 64 + (y - 128) < 55296) ⊎ (57344 ≤ (b - 224) * 4096 + (x - 128) * 64 + (y - 128)) → IsUtf8 (b ∷ (x ∷ (y ∷ [])))
three b x y h k t s m o =
    let c = (b - 224) * 4096 + (x - 128) * 64 + (y - 128) in
    let l = t.low in let u = t.high in let v = s.low in let w = s.high in
    let p : 224 + c / 4096 ≡ b = omega arith in
    let q : next (c / 64) ≡ x = omega arith in
    let r : next c ≡ y = omega arith in
    char_utf8 c _ (pick c o (omega arith)) (encode_three c m (omega arith) ∙ (λ i. p i ∷ (q i ∷ (r i ∷ []))))
  where
    pick : (c : ℕ) → (c < 55296) ⊎ (57344 ≤ c) → c < 1114112 → scalar c ≡ true
    pick c (inl h) k = low_scalar c h
    pick c (inr h) k = high_scalar c h k

four : (b x y z : ℕ) → 240 ≤ b → b < 245 → Tail x → Tail y → Tail z → 16 ≤ (b - 240) * 64 + (x - 128) → (b - 240) * 64 + (x - 128) < 272 → IsUtf8 (b ∷ (x ∷ (y ∷ (z ∷ []))))
four b x y z h k t s n m o =
    let c = (b - 240) * 262144 + (x - 128) * 4096 + (y - 128) * 64 + (z - 128) in
    let l = t.low in let u = t.high in let v = s.low in let w = s.high in let d = n.low in let e = n.high in
    let p : 240 + c / 262144 ≡ b = omega arith in
    let q : next (c / 4096) ≡ x = omega arith in
    let g : c / 64 ≡ (b - 240) * 4096 + (x - 128) * 64 + (y - 128) = omega arith in
    let r : next (c / 64) ≡ y = ap next g ∙ omega arith in
    let f : next c ≡ z = omega arith in
    char_utf8 c _ (high_scalar c (omega arith) (omega arith)) (encode_four c (omega arith) ∙ (λ i. p i ∷ (q i ∷ (r i ∷ (f i ∷ [])))))

-- what the bytes so far want to be UTF-8
abbrev pub Pending : Inside → List ℕ → Type 0
Pending Tail1 p = (x : ℕ) → Tail x → IsUtf8 (p ++ (x ∷ []))
Pending Tail2 p = (x y : ℕ) → Tail x → Tail y → IsUtf8 (p ++ (x ∷ (y ∷ [])))
Pending Tail3 p = (x y z : ℕ) → Tail x → Tail y → Tail z → IsUtf8 (p ++ (x ∷ (y ∷ (z ∷ []))))
Pending AfterE0 p = (x y : ℕ) → 160 ≤ x → Tail x → Tail y → IsUtf8 (p ++ (x ∷ (y ∷ [])))
Pending AfterEd p = (x y : ℕ) → x < 160 → Tail x → Tail y → IsUtf8 (p ++ (x ∷ (y ∷ [])))
Pending AfterF0 p = (x y z : ℕ) → 144 ≤ x → Tail x → Tail y → Tail z → IsUtf8 (p ++ (x ∷ (y ∷ (z ∷ []))))
Pending AfterF4 p = (x y z : ℕ) → x < 144 → Tail x → Tail y → Tail z → IsUtf8 (p ++ (x ∷ (y ∷ (z ∷ []))))
Pending Plain p = IsUtf8 p
Pending Escape p = IsUtf8 p
Pending Unit4 p = IsUtf8 p
Pending Unit3 p = IsUtf8 p
Pending Unit2 p = IsUtf8 p
Pending Unit1 p = IsUtf8 p
Pending UnitD p = IsUtf8 p
Pending High2 p = IsUtf8 p
Pending High1 p = IsUtf8 p
Pending LowSlash p = IsUtf8 p
Pending LowU p = IsUtf8 p
Pending LowD p = IsUtf8 p
Pending LowC p = IsUtf8 p

-- the place that a test leads to
pub chosen : (t : Bool) (x y : Option Inside) (r : Inside) → cond t x y ≡ Some r → ((t ≡ true) × (x ≡ Some r)) ⊎ ((t ≡ false) × (y ≡ Some r))
chosen true x y r e = inl (refl, e)
chosen false x y r e = inr (refl, e)

pub gone : (t : Bool) (to r : Inside) → goes t to ≡ Some r → (t ≡ true) × (to ≡ r)
gone true to r e = (refl, cc)
gone false to r e = absurd cc

to_place : (q r : Inside) (p : List ℕ) → q ≡ r → Pending q p → Pending r p
to_place q r p e h = let P : Inside → Type 0 = λ x. Pending x p in subst P e h

pub utf8_along : (xs ys : List ℕ) → xs ≡ ys → IsUtf8 xs → IsUtf8 ys
utf8_along xs ys e h = let P : List ℕ → Type 0 = λ x. IsUtf8 x in subst P e h

pub push_ascii : (p : List ℕ) (b : ℕ) → IsUtf8 p → b < 128 → IsUtf8 (p ++ (b ∷ []))
push_ascii p b h l = IsUtf8-append p (b ∷ []) h (ascii b l)

tail_of : (b : ℕ) → within 128 191 b ≡ true → Tail b
tail_of b e = record { low = grind (arith, nat_tests); high = grind (arith, nat_tests) }

hex_ascii : (b : ℕ) → is_hex b ≡ true → b < 128
hex_ascii b e = grind (arith, nat_tests)

regroup : (p : List ℕ) (b : ℕ) (more : List ℕ) → IsUtf8 (p ++ (b ∷ more)) → IsUtf8 ((p ++ (b ∷ [])) ++ more)
regroup p b more h = utf8_along _ _ (sym (append_assoc p (b ∷ []) more)) h

test_lt : (b n : ℕ) → nat_lt b n ≡ true → b < n
test_lt b n e = grind (arith, nat_tests)

test_ge : (b n : ℕ) → nat_lt b n ≡ false → n ≤ b
test_ge b n e = grind (arith, nat_tests)

pub test_eq : (b n : ℕ) → (b == n) ≡ true → b ≡ n
test_eq b n e = grind (arith, nat_tests)

test_ne : (b n : ℕ) → (b == n) ≡ false → b ≡ n → ⊥
test_ne b n e f = grind (arith, nat_tests)

lead_pending : (p : List ℕ) (b : ℕ) (r : Inside) → IsUtf8 p → after_lead b ≡ Some r → Pending r (p ++ (b ∷ []))
lead_pending p b r h e = at194 (chosen _ _ _ r e)
  where
    char : (cs : List ℕ) → IsUtf8 (b ∷ cs) → IsUtf8 ((p ++ (b ∷ [])) ++ cs)
    char cs u = regroup p b cs (IsUtf8-append p (b ∷ cs) h u)

    at244 : 244 ≤ b → ((b == 244) ≡ true) × (Some AfterF4 ≡ Some r) ⊎ ((b == 244) ≡ false) × (None ≡ Some r) → Pending r (p ++ (b ∷ []))
    at244 l (inl w) = let q : AfterF4 ≡ r = let f = w.1 in cc in let m = test_eq b 244 w.0 in to_place AfterF4 r _ q (λ x y z k s u v. char (x ∷ (y ∷ (z ∷ []))) (four b x y z (omega arith) (omega arith) s u v (let m2 = s.low in omega arith) (let m2 = s.high in omega arith)))
    at244 l (inr w) = let f = w.1 in absurd cc

    lt244 : 241 ≤ b → (nat_lt b 244 ≡ true) × (Some Tail3 ≡ Some r) ⊎ (nat_lt b 244 ≡ false) × (cond (b == 244) (Some AfterF4) None ≡ Some r) → Pending r (p ++ (b ∷ []))
    lt244 l (inl w) = let q : Tail3 ≡ r = let f = w.1 in cc in let m = test_lt b 244 w.0 in to_place Tail3 r _ q (λ x y z s u v. char (x ∷ (y ∷ (z ∷ []))) (four b x y z (omega arith) (omega arith) s u v (let m2 = s.low in omega arith) (let m2 = s.high in omega arith)))
    lt244 l (inr w) = at244 (test_ge b 244 w.0) (chosen _ _ _ r w.1)

    at240 : 240 ≤ b → ((b == 240) ≡ true) × (Some AfterF0 ≡ Some r) ⊎ ((b == 240) ≡ false) × (cond (nat_lt b 244) (Some Tail3) (cond (b == 244) (Some AfterF4) None) ≡ Some r) → Pending r (p ++ (b ∷ []))
    at240 l (inl w) = let q : AfterF0 ≡ r = let f = w.1 in cc in let m = test_eq b 240 w.0 in to_place AfterF0 r _ q (λ x y z k s u v. char (x ∷ (y ∷ (z ∷ []))) (four b x y z (omega arith) (omega arith) s u v (omega arith) (let m2 = s.high in omega arith)))
    at240 l (inr w) = let m = test_ne b 240 w.0 in lt244 (omega arith) (chosen _ _ _ r w.1)

    lt240 : 225 ≤ b → (b ≡ 237 → ⊥) → (nat_lt b 240 ≡ true) × (Some Tail2 ≡ Some r) ⊎ (nat_lt b 240 ≡ false) × (cond (b == 240) (Some AfterF0) (cond (nat_lt b 244) (Some Tail3) (cond (b == 244) (Some AfterF4) None)) ≡ Some r) → Pending r (p ++ (b ∷ []))
    lt240 l n (inl w) = let q : Tail2 ≡ r = let f = w.1 in cc in let m = test_lt b 240 w.0 in to_place Tail2 r _ q (λ x y s u. char (x ∷ (y ∷ [])) (three b x y (omega arith) (omega arith) s u (omega arith) (side x y s u)))
      where
        side : (x y : ℕ) → Tail x → Tail y → ((b - 224) * 4096 + (x - 128) * 64 + (y - 128) < 55296) ⊎ (57344 ≤ (b - 224) * 4096 + (x - 128) * 64 + (y - 128))
        side x y s u = pick (nat_lt b 237) refl
          where
            pick : (t : Bool) → nat_lt b 237 ≡ t → ((b - 224) * 4096 + (x - 128) * 64 + (y - 128) < 55296) ⊎ (57344 ≤ (b - 224) * 4096 + (x - 128) * 64 + (y - 128))
            pick true e = let m = test_lt b 237 e in let i = s.high in let j = u.high in inl (omega arith)
            pick false e = let m = test_ge b 237 e in inr (omega arith)
    lt240 l n (inr w) = at240 (test_ge b 240 w.0) (chosen _ _ _ r w.1)

    at237 : 225 ≤ b → ((b == 237) ≡ true) × (Some AfterEd ≡ Some r) ⊎ ((b == 237) ≡ false) × (cond (nat_lt b 240) (Some Tail2) (cond (b == 240) (Some AfterF0) (cond (nat_lt b 244) (Some Tail3) (cond (b == 244) (Some AfterF4) None))) ≡ Some r) → Pending r (p ++ (b ∷ []))
    at237 l (inl w) = let q : AfterEd ≡ r = let f = w.1 in cc in let m = test_eq b 237 w.0 in to_place AfterEd r _ q (λ x y k s u. let i = s.low in let j = u.high in char (x ∷ (y ∷ [])) (three b x y (omega arith) (omega arith) s u (omega arith) (inl (omega arith))))
    at237 l (inr w) = lt240 l (test_ne b 237 w.0) (chosen _ _ _ r w.1)

    at224 : 224 ≤ b → ((b == 224) ≡ true) × (Some AfterE0 ≡ Some r) ⊎ ((b == 224) ≡ false) × (cond (b == 237) (Some AfterEd) (cond (nat_lt b 240) (Some Tail2) (cond (b == 240) (Some AfterF0) (cond (nat_lt b 244) (Some Tail3) (cond (b == 244) (Some AfterF4) None)))) ≡ Some r) → Pending r (p ++ (b ∷ []))
    at224 l (inl w) = let q : AfterE0 ≡ r = let f = w.1 in cc in let m = test_eq b 224 w.0 in to_place AfterE0 r _ q (λ x y k s u. let i = s.high in let j = u.high in char (x ∷ (y ∷ [])) (three b x y (omega arith) (omega arith) s u (omega arith) (inl (omega arith))))
    at224 l (inr w) = let m = test_ne b 224 w.0 in at237 (omega arith) (chosen _ _ _ r w.1)

    at224lt : 194 ≤ b → (nat_lt b 224 ≡ true) × (Some Tail1 ≡ Some r) ⊎ (nat_lt b 224 ≡ false) × (cond (b == 224) (Some AfterE0) (cond (b == 237) (Some AfterEd) (cond (nat_lt b 240) (Some Tail2) (cond (b == 240) (Some AfterF0) (cond (nat_lt b 244) (Some Tail3) (cond (b == 244) (Some AfterF4) None))))) ≡ Some r) → Pending r (p ++ (b ∷ []))
    at224lt l (inl w) = let q : Tail1 ≡ r = let f = w.1 in cc in to_place Tail1 r _ q (λ x s. char (x ∷ []) (two b x l (test_lt b 224 w.0) s))
    at224lt l (inr w) = at224 (test_ge b 224 w.0) (chosen _ _ _ r w.1)

    at194 : (nat_lt b 194 ≡ true) × (None ≡ Some r) ⊎ (nat_lt b 194 ≡ false) × (cond (nat_lt b 224) (Some Tail1) (cond (b == 224) (Some AfterE0) (cond (b == 237) (Some AfterEd) (cond (nat_lt b 240) (Some Tail2) (cond (b == 240) (Some AfterF0) (cond (nat_lt b 244) (Some Tail3) (cond (b == 244) (Some AfterF4) None)))))) ≡ Some r) → Pending r (p ++ (b ∷ []))
    at194 (inl w) = let f = w.1 in absurd cc
    at194 (inr w) = at224lt (test_ge b 194 w.0) (chosen _ _ _ r w.1)

plain_pending : (p : List ℕ) (b : ℕ) (r : Inside) → IsUtf8 p → after_plain b ≡ Some r → Pending r (p ++ (b ∷ []))
plain_pending p b r h e = control (chosen _ _ _ r e)
  where
    wide : 128 ≤ b → after_lead b ≡ Some r → Pending r (p ++ (b ∷ []))
    wide l f = lead_pending p b r h f

    narrow : (nat_lt b 128 ≡ true) × (Some Plain ≡ Some r) ⊎ (nat_lt b 128 ≡ false) × (after_lead b ≡ Some r) → Pending r (p ++ (b ∷ []))
    narrow (inl w) = let q : Plain ≡ r = let f = w.1 in cc in to_place Plain r _ q (push_ascii p b h (test_lt b 128 w.0))
    narrow (inr w) = wide (test_ge b 128 w.0) w.1

    slash : ((b == 92) ≡ true) × (Some Escape ≡ Some r) ⊎ ((b == 92) ≡ false) × (cond (nat_lt b 128) (Some Plain) (after_lead b) ≡ Some r) → Pending r (p ++ (b ∷ []))
    slash (inl w) = let q : Escape ≡ r = let f = w.1 in cc in let m = test_eq b 92 w.0 in to_place Escape r _ q (push_ascii p b h (omega arith))
    slash (inr w) = narrow (chosen _ _ _ r w.1)

    quote : ((b == 34) ≡ true) × (None ≡ Some r) ⊎ ((b == 34) ≡ false) × (cond (b == 92) (Some Escape) (cond (nat_lt b 128) (Some Plain) (after_lead b)) ≡ Some r) → Pending r (p ++ (b ∷ []))
    quote (inl w) = let f = w.1 in absurd cc
    quote (inr w) = slash (chosen _ _ _ r w.1)

    control : (nat_lt b 32 ≡ true) × (None ≡ Some r) ⊎ (nat_lt b 32 ≡ false) × (cond (b == 34) None (cond (b == 92) (Some Escape) (cond (nat_lt b 128) (Some Plain) (after_lead b))) ≡ Some r) → Pending r (p ++ (b ∷ []))
    control (inl w) = let f = w.1 in absurd cc
    control (inr w) = quote (chosen _ _ _ r w.1)

-- an ASCII byte leads to a place where the bytes so far are UTF-8
narrow_step : (p : List ℕ) (b : ℕ) (t : Bool) (q r : Inside) → IsUtf8 p → goes t q ≡ Some r → (t ≡ true → b < 128) → (IsUtf8 (p ++ (b ∷ [])) → Pending q (p ++ (b ∷ []))) → Pending r (p ++ (b ∷ []))
narrow_step p b t q r h e l f = let g = gone t q r e in to_place q r _ g.1 (f (push_ascii p b h (l g.0)))

pub step_pending : (m r : Inside) (p : List ℕ) (b : ℕ) → Pending m p → next_inside m b ≡ Some r → Pending r (p ++ (b ∷ []))
unfolding next_inside
step_pending Plain r p b h e = plain_pending p b r h e
step_pending Tail1 r p b h e = let g = gone _ Plain r e in to_place Plain r _ g.1 (h b (tail_of b g.0))
step_pending Tail2 r p b h e = let g = gone _ Tail1 r e in to_place Tail1 r _ g.1 (λ x s. regroup p b (x ∷ []) (h b x (tail_of b g.0) s))
step_pending Tail3 r p b h e = let g = gone _ Tail2 r e in to_place Tail2 r _ g.1 (λ x y s t. regroup p b (x ∷ (y ∷ [])) (h b x y (tail_of b g.0) s t))
step_pending AfterE0 r p b h e = let g = gone _ Tail1 r e in to_place Tail1 r _ g.1 (λ x s. regroup p b (x ∷ []) (h b x (low160 b g.0) (tail160 b g.0) s))
  where
    low160 : (b : ℕ) → within 160 191 b ≡ true → 160 ≤ b
    low160 b e = grind (arith, nat_tests)

    tail160 : (b : ℕ) → within 160 191 b ≡ true → Tail b
    tail160 b e = record { low = grind (arith, nat_tests); high = grind (arith, nat_tests) }
step_pending AfterEd r p b h e = let g = gone _ Tail1 r e in to_place Tail1 r _ g.1 (λ x s. regroup p b (x ∷ []) (h b x (high160 b g.0) (tail159 b g.0) s))
  where
    high160 : (b : ℕ) → within 128 159 b ≡ true → b < 160
    high160 b e = grind (arith, nat_tests)

    tail159 : (b : ℕ) → within 128 159 b ≡ true → Tail b
    tail159 b e = record { low = grind (arith, nat_tests); high = grind (arith, nat_tests) }
step_pending AfterF0 r p b h e = let g = gone _ Tail2 r e in to_place Tail2 r _ g.1 (λ x y s t. regroup p b (x ∷ (y ∷ [])) (h b x y (low144 b g.0) (tail144 b g.0) s t))
  where
    low144 : (b : ℕ) → within 144 191 b ≡ true → 144 ≤ b
    low144 b e = grind (arith, nat_tests)

    tail144 : (b : ℕ) → within 144 191 b ≡ true → Tail b
    tail144 b e = record { low = grind (arith, nat_tests); high = grind (arith, nat_tests) }
step_pending AfterF4 r p b h e = let g = gone _ Tail2 r e in to_place Tail2 r _ g.1 (λ x y s t. regroup p b (x ∷ (y ∷ [])) (h b x y (high144 b g.0) (tail143 b g.0) s t))
  where
    high144 : (b : ℕ) → within 128 143 b ≡ true → b < 144
    high144 b e = grind (arith, nat_tests)

    tail143 : (b : ℕ) → within 128 143 b ≡ true → Tail b
    tail143 b e = record { low = grind (arith, nat_tests); high = grind (arith, nat_tests) }
step_pending Escape r p b h e = behind (chosen _ _ _ r e)
  where
    short_ascii : (b : ℕ) → is_short b ≡ true → b < 128
    short_ascii b e = grind (arith, nat_tests)

    behind : ((b == 117) ≡ true) × (Some Unit4 ≡ Some r) ⊎ ((b == 117) ≡ false) × (goes (is_short b) Plain ≡ Some r) → Pending r (p ++ (b ∷ []))
    behind (inl w) = let q : Unit4 ≡ r = let f = w.1 in cc in let m = test_eq b 117 w.0 in to_place Unit4 r _ q (push_ascii p b h (omega arith))
    behind (inr w) = narrow_step p b (is_short b) Plain r h w.1 (short_ascii b) (λ u. u)
step_pending Unit4 r p b h e = digit (chosen _ _ _ r e)
  where
    d_ascii : (b : ℕ) → is_d b ≡ true → b < 128
    d_ascii b e = grind (arith, nat_tests)

    digit : (is_d b ≡ true) × (Some UnitD ≡ Some r) ⊎ (is_d b ≡ false) × (goes (is_hex b) Unit3 ≡ Some r) → Pending r (p ++ (b ∷ []))
    digit (inl w) = let q : UnitD ≡ r = let f = w.1 in cc in to_place UnitD r _ q (push_ascii p b h (d_ascii b w.0))
    digit (inr w) = narrow_step p b (is_hex b) Unit3 r h w.1 (hex_ascii b) (λ u. u)
step_pending Unit3 r p b h e = narrow_step p b (is_hex b) Unit2 r h e (hex_ascii b) (λ u. u)
step_pending Unit2 r p b h e = narrow_step p b (is_hex b) Unit1 r h e (hex_ascii b) (λ u. u)
step_pending Unit1 r p b h e = narrow_step p b (is_hex b) Plain r h e (hex_ascii b) (λ u. u)
step_pending UnitD r p b h e = digit (chosen _ _ _ r e)
  where
    low_ascii : (b : ℕ) → within 48 55 b ≡ true → b < 128
    low_ascii b e = grind (arith, nat_tests)

    high_ascii : (b : ℕ) → is_8_to_b b ≡ true → b < 128
    high_ascii b e = grind (arith, nat_tests)

    digit : (within 48 55 b ≡ true) × (Some Unit2 ≡ Some r) ⊎ (within 48 55 b ≡ false) × (goes (is_8_to_b b) High2 ≡ Some r) → Pending r (p ++ (b ∷ []))
    digit (inl w) = let q : Unit2 ≡ r = let f = w.1 in cc in to_place Unit2 r _ q (push_ascii p b h (low_ascii b w.0))
    digit (inr w) = narrow_step p b (is_8_to_b b) High2 r h w.1 (high_ascii b) (λ u. u)
step_pending High2 r p b h e = narrow_step p b (is_hex b) High1 r h e (hex_ascii b) (λ u. u)
step_pending High1 r p b h e = narrow_step p b (is_hex b) LowSlash r h e (hex_ascii b) (λ u. u)
step_pending LowSlash r p b h e = narrow_step p b (b == 92) LowU r h e (λ t. let m = test_eq b 92 t in omega arith) (λ u. u)
step_pending LowU r p b h e = narrow_step p b (b == 117) LowD r h e (λ t. let m = test_eq b 117 t in omega arith) (λ u. u)
step_pending LowD r p b h e = narrow_step p b (is_d b) LowC r h e (d_ascii b) (λ u. u)
  where
    d_ascii : (b : ℕ) → is_d b ≡ true → b < 128
    d_ascii b e = grind (arith, nat_tests)
step_pending LowC r p b h e = narrow_step p b (is_c_to_f b) Unit2 r h e (c_ascii b) (λ u. u)
  where
    c_ascii : (b : ℕ) → is_c_to_f b ≡ true → b < 128
    c_ascii b e = grind (arith, nat_tests)

leads_pending : (m r : Inside) (p s : List ℕ) → Pending m p → Leads m s r → Pending r (p ++ s)
leads_pending m r p [] h l = let P : List ℕ → Type 0 = λ x. Pending r x in subst P (sym (append-nil p)) (to_place m r p l h)
leads_pending m r p (b ∷ s) h l = let P : List ℕ → Type 0 = λ x. Pending r x in
    subst P (append_assoc p (b ∷ []) s) (leads_pending l.0 r (p ++ (b ∷ [])) s (step_pending m l.0 p b h l.1) l.2)

-- the bytes of a string are UTF-8
pub chars_utf8 : (s : List ℕ) → IsChars s → IsUtf8 s
chars_utf8 s l = leads_pending Plain Plain [] s IsUtf8-nil l

part_ascii : (m r : Part) (b : ℕ) → next_part m b ≡ Some r → b < 128
unfolding next_part
part_ascii Start r b e = grind (arith, nat_tests)
part_ascii Whole r b e = grind (arith, nat_tests)
part_ascii Zero r b e = grind (arith, nat_tests)
part_ascii Digits r b e = grind (arith, nat_tests)
part_ascii Point r b e = grind (arith, nat_tests)
part_ascii Fraction r b e = grind (arith, nat_tests)
part_ascii Mark r b e = grind (arith, nat_tests)
part_ascii Sign r b e = grind (arith, nat_tests)
part_ascii Exponent r b e = grind (arith, nat_tests)

number_utf8 : (m r : Part) (s : List ℕ) → number.Leads m s r → IsUtf8 s
number_utf8 m r [] l = IsUtf8-nil
number_utf8 m r (b ∷ s) l = IsUtf8-append (b ∷ []) s (ascii b (part_ascii m l.0 b l.1)) (number_utf8 l.0 r s l.2)

word : (b : ℕ) (s : List ℕ) → b < 128 → IsUtf8 s → IsUtf8 (b ∷ s)
word b s l h = IsUtf8-append (b ∷ []) s (ascii b l) h

token_utf8 : (t : Token) → IsToken t → IsUtf8 (spelled t)
token_utf8 begin_array i = ascii 91 (omega arith)
token_utf8 end_array i = ascii 93 (omega arith)
token_utf8 begin_object i = ascii 123 (omega arith)
token_utf8 end_object i = ascii 125 (omega arith)
token_utf8 comma i = ascii 44 (omega arith)
token_utf8 colon i = ascii 58 (omega arith)
token_utf8 null_name i = word 110 _ (omega arith) (word 117 _ (omega arith) (word 108 _ (omega arith) (ascii 108 (omega arith))))
token_utf8 true_name i = word 116 _ (omega arith) (word 114 _ (omega arith) (word 117 _ (omega arith) (ascii 101 (omega arith))))
token_utf8 false_name i = word 102 _ (omega arith) (word 97 _ (omega arith) (word 108 _ (omega arith) (word 115 _ (omega arith) (ascii 101 (omega arith)))))
token_utf8 (numeral s) i = number_utf8 Start i.0 s i.1
token_utf8 (quoted s) i = word 34 (s ++ (34 ∷ [])) (omega arith) (IsUtf8-append s (34 ∷ []) (chars_utf8 s i) (ascii 34 (omega arith)))

-- the text of tokens is UTF-8
pub tokens_utf8 : (ts : List Token) → AreTokens ts → IsUtf8 (flat_map spelled ts)
tokens_utf8 [] h = IsUtf8-nil
tokens_utf8 (t ∷ ts) h = IsUtf8-append (spelled t) (flat_map spelled ts) (token_utf8 t h.0) (tokens_utf8 ts h.1)
