-- What the writer prints for a character is characters of a string of JSON, and they stand for its bytes.
use Rattle.std.proofs.Common.{◌≡◌, ℕ, ◌+◌, ◌/◌, ◌%◌, ◌<◌, ◌≤◌, ◌≢◌, ◌⊎◌, List, [], ◌∷◌, ◌++◌, Bool, true, false, cond, ◌==◌, nat_lt, inl, inr, refl, sym, ap, ap₂, ◌∙◌, subst, arith, append_assoc, append-nil}
use Rattle.std.proofs.lemmas.Bool.{cases_lt, ne_eqb, and_parts}
use Rattle.std.proofs.lemmas.Bool.Decides.{nat_tests}
use Rattle.std.proofs.lemmas.Grind.{flat_map-append}
use Rattle.std.proofs.lemmas.Str.{encode_ascii, digit_value-digit_char}
use Rattle.std.specs.Char.{digit_char}
use Rattle.std.specs.Int.{IsInRange}
use Rattle.std.specs.List.{AllByRecursion}
use Rattle.json.specs.Print.{escape_letter, escape_byte, escape}
use Rattle.json_token.specs.Chars.{IsChars, next_inside, after_plain, within, is_hex, is_short, is_high, short_escape, code_unit, char_bytes, content, content_behind}
use Rattle.json_token.proofs.Escapes.{content_nil}
use Rattle.json_span.proofs.Spelling.{chars_join}
use Rattle.json_token.proofs.Utf8Lemmas.{encode_two, encode_three, encode_four}
use lib.Utf8.{scalar, scalars, encode, encodes, next, low_scalar, scalar_cases}

-- the characters s stand for the bytes
record StandsFor (s bytes : List ℕ) : Type 0 where
  leads : IsChars s
  means : (rest : List ℕ) → content (s ++ rest) ≡ bytes ++ content rest

picked : {A : Type 0} (t : Bool) (x y : A) → t ≡ true → cond t x y ≡ x
picked t x y e = ap (λ t. cond t x y) e

passed : {A : Type 0} (t : Bool) (x y : A) → t ≡ false → cond t x y ≡ y
passed t x y e = ap (λ t. cond t x y) e

-- ---- ASCII

plain_means : (x : ℕ) (rest : List ℕ) → x ≢ 92 → content (x ∷ rest) ≡ x ∷ content rest
unfolding content_behind
plain_means x rest n = rw (ne_eqb x 92 n) refl

lead_plain : (x : ℕ) → escape_letter x ≡ 0 → 32 ≤ x → x < 128 → after_plain x ≡ after_plain 32
lead_plain x e low high = grind (arith, nat_tests)

no_backslash : (x : ℕ) → escape_letter x ≡ 0 → x ≢ 92
no_backslash x e i = grind (arith, nat_tests)

plain_stands : (x : ℕ) → escape_letter x ≡ 0 → 32 ≤ x → x < 128 → StandsFor (x ∷ []) (x ∷ [])
unfolding next_inside
plain_stands x e low high = record { leads = (_, lead_plain x e low high, refl); means = λ rest. plain_means x rest (no_backslash x e) }

-- a backslash and a letter
short : (l x : ℕ) → is_short l ≡ true → (l == 117) ≡ false → short_escape l ≡ x → StandsFor (92 ∷ (l ∷ [])) (x ∷ [])
unfolding next_inside content_behind
short l x s n e = record { leads = (_, refl, (_, passed _ _ _ n ∙ picked _ _ _ s, refl)); means = λ rest. rw (n, e) refl }

hex_digit : (d : ℕ) → d < 16 → is_hex (digit_char d) ≡ true
hex_digit d h = grind (arith, nat_tests)

unit_is : (x : ℕ) → x < 32 → code_unit 48 48 (digit_char (x / 16)) (digit_char (x % 16)) ≡ x
unit_is x h = omega (arith, digit_value-digit_char (x / 16) (omega arith), digit_value-digit_char (x % 16) (omega arith))

char_is : (x : ℕ) → x < 128 → char_bytes x ≡ x ∷ []
char_is x h = rw (low_scalar x (omega arith)) (encode_ascii x h)

-- \u and four digits
abbrev control : ℕ → List ℕ
control x = 92 ∷ (117 ∷ (48 ∷ (48 ∷ (digit_char (x / 16) ∷ (digit_char (x % 16) ∷ [])))))

control_stands : (x : ℕ) → x < 32 → StandsFor (control x) (x ∷ [])
unfolding next_inside content_behind
control_stands x h =
    let a = hex_digit (x / 16) (omega arith) in
    let b = hex_digit (x % 16) (omega arith) in
    let low : is_high x ≡ false = grind (arith, nat_tests) in
    record {
      leads = (_, refl, (_, refl, (_, refl, (_, refl, (_, picked _ _ _ a, (_, picked _ _ _ b, refl))))));
      means = λ rest. rw (unit_is x h, low, char_is x (omega arith)) refl;
    }

-- the escape by a letter
abbrev letter : ℕ → List ℕ
letter x = 92 ∷ (escape_letter x ∷ [])

letter_stands : (x : ℕ) → 0 < escape_letter x → StandsFor (letter x) (x ∷ [])
letter_stands x h = short (escape_letter x) x (grind (arith, nat_tests)) (grind (arith, nat_tests)) (grind (arith, nat_tests))

byte_stands : (x : ℕ) → x < 128 → StandsFor (escape_byte x) (x ∷ [])
unfolding escape_byte
byte_stands x h = pick (nat_lt 0 (escape_letter x)) (nat_lt x 32) refl refl
  where
    pick : (s t : Bool) → nat_lt 0 (escape_letter x) ≡ s → nat_lt x 32 ≡ t → StandsFor (cond s (letter x) (cond t (control x) (x ∷ []))) (x ∷ [])
    pick true t e f = letter_stands x (grind (arith, nat_tests))
    pick false true e f = control_stands x (grind (arith, nat_tests))
    pick false false e f = plain_stands x (grind (arith, nat_tests)) (grind (arith, nat_tests)) h

-- ---- past ASCII, where nothing is escaped

high_plain : (x : ℕ) → 128 ≤ x → escape_byte x ≡ x ∷ []
unfolding escape_byte
high_plain x h = grind (arith, nat_tests)

abbrev AreHigh : List ℕ → Type 0
AreHigh s = AllByRecursion (λ x. 128 ≤ x) s

high_escape : (s : List ℕ) → AreHigh s → escape s ≡ s
high_escape [] h = refl
high_escape (x ∷ s) h = ap₂ (λ (a b : List ℕ). a ++ b) (high_plain x h.0) (high_escape s h.1)

high_means : (s rest : List ℕ) → AreHigh s → content (s ++ rest) ≡ s ++ content rest
high_means [] rest h = refl
high_means (x ∷ s) rest h = plain_means x (s ++ rest) (λ e. omega arith) ∙ ap (λ l. x ∷ l) (high_means s rest h.1)

high_stands : (s : List ℕ) → AreHigh s → IsChars s → StandsFor (escape s) s
high_stands s h l = subst (λ e. StandsFor e s) (sym (high_escape s h)) (record { leads = l; means = λ rest. high_means s rest h })

-- first bytes of characters past ASCII: each of a range leads where one of it does
lead_two : (b : ℕ) → IsInRange 194 223 b → after_plain b ≡ after_plain 194
lead_two b h = let low = h.0 in let high = h.1 in grind (arith, nat_tests)

lead_three : (b : ℕ) → IsInRange 225 239 b → b ≢ 237 → after_plain b ≡ after_plain 225
lead_three b h n = let low = h.0 in let high = h.1 in grind (arith, nat_tests)

lead_four : (b : ℕ) → IsInRange 241 243 b → after_plain b ≡ after_plain 241
lead_four b h = let low = h.0 in let high = h.1 in grind (arith, nat_tests)

within_is : (low high x : ℕ) → IsInRange low high x → within low high x ≡ true
within_is low high x h = let l = h.0 in let u = h.1 in grind (arith, nat_tests)

tail_is : (n : ℕ) → IsInRange 128 191 (next n)
tail_is n = (omega arith, omega arith)

-- characters of two, three and four bytes, by their first byte
two : (b x : ℕ) → IsInRange 194 223 b → IsInRange 128 191 x → IsChars (b ∷ (x ∷ []))
unfolding next_inside
two b x h i = (_, lead_two b h, (_, picked _ _ _ (within_is _ _ x i), refl))

first_of_three : (x y : ℕ) → IsInRange 160 191 x → IsInRange 128 191 y → IsChars (224 ∷ (x ∷ (y ∷ [])))
unfolding next_inside
first_of_three x y i j = (_, refl, (_, picked _ _ _ (within_is _ _ x i), (_, picked _ _ _ (within_is _ _ y j), refl)))

-- the surrogates would come next
before_surrogates : (x y : ℕ) → IsInRange 128 159 x → IsInRange 128 191 y → IsChars (237 ∷ (x ∷ (y ∷ [])))
unfolding next_inside
before_surrogates x y i j = (_, refl, (_, picked _ _ _ (within_is _ _ x i), (_, picked _ _ _ (within_is _ _ y j), refl)))

three : (b x y : ℕ) → IsInRange 225 239 b → b ≢ 237 → IsInRange 128 191 x → IsInRange 128 191 y → IsChars (b ∷ (x ∷ (y ∷ [])))
unfolding next_inside
three b x y h n i j = (_, lead_three b h n, (_, picked _ _ _ (within_is _ _ x i), (_, picked _ _ _ (within_is _ _ y j), refl)))

first_of_four : (x y z : ℕ) → IsInRange 144 191 x → IsInRange 128 191 y → IsInRange 128 191 z → IsChars (240 ∷ (x ∷ (y ∷ (z ∷ []))))
unfolding next_inside
first_of_four x y z i j k = (_, refl, (_, picked _ _ _ (within_is _ _ x i), (_, picked _ _ _ (within_is _ _ y j), (_, picked _ _ _ (within_is _ _ z k), refl))))

last_of_four : (x y z : ℕ) → IsInRange 128 143 x → IsInRange 128 191 y → IsInRange 128 191 z → IsChars (244 ∷ (x ∷ (y ∷ (z ∷ []))))
unfolding next_inside
last_of_four x y z i j k = (_, refl, (_, picked _ _ _ (within_is _ _ x i), (_, picked _ _ _ (within_is _ _ y j), (_, picked _ _ _ (within_is _ _ z k), refl))))

four : (b x y z : ℕ) → IsInRange 241 243 b → IsInRange 128 191 x → IsInRange 128 191 y → IsInRange 128 191 z → IsChars (b ∷ (x ∷ (y ∷ (z ∷ []))))
unfolding next_inside
four b x y z h i j k = (_, lead_four b h, (_, picked _ _ _ (within_is _ _ x i), (_, picked _ _ _ (within_is _ _ y j), (_, picked _ _ _ (within_is _ _ z k), refl))))

-- the bytes of a character
abbrev two_of : ℕ → List ℕ
two_of c = (192 + c / 64) ∷ (next c ∷ [])

abbrev three_of : ℕ → List ℕ
three_of c = (224 + c / 4096) ∷ (next (c / 64) ∷ (next c ∷ []))

abbrev four_of : ℕ → List ℕ
four_of c = (240 + c / 262144) ∷ (next (c / 4096) ∷ (next (c / 64) ∷ (next c ∷ [])))

two_chars : (c : ℕ) → 128 ≤ c → c < 2048 → IsChars (two_of c)
two_chars c low high = two (192 + c / 64) (next c) (omega arith, omega arith) (tail_is c)

three_chars : (c : ℕ) → 2048 ≤ c → c < 65536 → (c < 55296) ⊎ (57344 ≤ c) → IsChars (three_of c)
three_chars c low high side = pick (cases_lt c 4096) (cases_lt c 53248) side
  where
    inner : 4096 ≤ c → (c / 4096 ≡ 13 → ⊥) → IsChars (three_of c)
    inner l n = three (224 + c / 4096) (next (c / 64)) (next c) (omega arith, omega arith) (λ e. n (omega arith)) (tail_is (c / 64)) (tail_is c)

    pick : (c < 4096) ⊎ (4096 ≤ c) → (c < 53248) ⊎ (53248 ≤ c) → (c < 55296) ⊎ (57344 ≤ c) → IsChars (three_of c)
    pick (inl l) m n = let e : 224 + c / 4096 ≡ 224 = omega arith in rw e (first_of_three (next (c / 64)) (next c) (omega arith, omega arith) (tail_is c))
    pick (inr l) (inl m) n = inner l (λ e. omega arith)
    pick (inr l) (inr m) (inl n) = let e : 224 + c / 4096 ≡ 237 = omega arith in rw e (before_surrogates (next (c / 64)) (next c) (omega arith, omega arith) (tail_is c))
    pick (inr l) (inr m) (inr n) = inner l (λ e. omega arith)

four_chars : (c : ℕ) → 65536 ≤ c → c < 1114112 → IsChars (four_of c)
four_chars c low high = pick (cases_lt c 262144) (cases_lt c 1048576)
  where
    pick : (c < 262144) ⊎ (262144 ≤ c) → (c < 1048576) ⊎ (1048576 ≤ c) → IsChars (four_of c)
    pick (inl l) m = let e : 240 + c / 262144 ≡ 240 = omega arith in rw e (first_of_four (next (c / 4096)) (next (c / 64)) (next c) (omega arith, omega arith) (tail_is (c / 64)) (tail_is c))
    pick (inr l) (inl m) = four (240 + c / 262144) (next (c / 4096)) (next (c / 64)) (next c) (omega arith, omega arith) (tail_is (c / 4096)) (tail_is (c / 64)) (tail_is c)
    pick (inr l) (inr m) = let e : 240 + c / 262144 ≡ 244 = omega arith in rw e (last_of_four (next (c / 4096)) (next (c / 64)) (next c) (omega arith, omega arith) (tail_is (c / 64)) (tail_is c))

-- what has only bytes past ASCII is printed as it is
high_char : (c : ℕ) (s : List ℕ) → encode c ≡ s → AreHigh s → IsChars s → StandsFor (escape (encode c)) (encode c)
high_char c s e h l = subst (λ x. StandsFor (escape x) x) (sym e) (high_stands s h l)

char_stands : (c : ℕ) → scalar c ≡ true → StandsFor (escape (encode c)) (encode c)
char_stands c s = pick (cases_lt c 128) (cases_lt c 2048) (cases_lt c 65536) (scalar_cases c s)
  where
    pick : (c < 128) ⊎ (128 ≤ c) → (c < 2048) ⊎ (2048 ≤ c) → (c < 65536) ⊎ (65536 ≤ c) → (c < 55296) ⊎ ((57344 ≤ c) × (c < 1114112)) → StandsFor (escape (encode c)) (encode c)
    pick (inl one) l m n = rw (encode_ascii c one, append-nil) (byte_stands c one)
    pick (inr k) (inl l) m n = high_char c _ (encode_two c k l) (omega arith, (omega arith, tt)) (two_chars c k l)
    pick (inr k) (inr l) (inl m) (inl n) = high_char c _ (encode_three c l m) (omega arith, (omega arith, (omega arith, tt))) (three_chars c l m (inl n))
    pick (inr k) (inr l) (inl m) (inr n) = high_char c _ (encode_three c l m) (omega arith, (omega arith, (omega arith, tt))) (three_chars c l m (inr n.0))
    pick (inr k) (inr l) (inr m) (inl n) = absurd (omega arith)
    pick (inr k) (inr l) (inr m) (inr n) = high_char c _ (encode_four c m) (omega arith, (omega arith, (omega arith, (omega arith, tt)))) (four_chars c m n.1)

-- ---- texts

join : (s t a b : List ℕ) → StandsFor s a → StandsFor t b → StandsFor (s ++ t) (a ++ b)
join s t a b h k = record {
  leads = chars_join _ _ _ s t h.leads k.leads;
  means = λ rest. ap content (append_assoc s t rest) ∙ (h.means (t ++ rest) ∙ (ap (λ l. a ++ l) (k.means rest) ∙ sym (append_assoc a b (content rest))));
}

all_stand : (cs : List ℕ) → scalars cs ≡ true → StandsFor (escape (encodes cs)) (encodes cs)
all_stand [] e = record { leads = refl; means = λ rest. refl }
all_stand (c ∷ cs) e =
    let p = and_parts _ _ e in
    subst (λ s. StandsFor s (encode c ++ encodes cs)) (sym (flat_map-append escape_byte (encode c) (encodes cs))) (join _ _ _ _ (char_stands c p.0) (all_stand cs p.1))

pub encodes_is : (cs : List ℕ) → scalars cs ≡ true → IsChars (escape (encodes cs)) × (content (escape (encodes cs)) ≡ encodes cs)
encodes_is cs e =
    let h = all_stand cs e in
    (h.leads, ap content (sym (append-nil (escape (encodes cs)))) ∙ (h.means [] ∙ (ap (λ l. encodes cs ++ l) content_nil ∙ append-nil (encodes cs))))
