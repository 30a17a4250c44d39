-- From the tokens that may follow to the bytes that may: white space, and one token at the front.
use Rattle.std.proofs.Common.{◌≡◌, ℕ, List, [], ◌∷◌, ◌++◌, true, false, cond, ◌||◌, ◌==◌, Some, refl, sym, ap, ◌∙◌, arith}
use Rattle.std.proofs.lemmas.Bool.Decides.{nat_tests}
use Rattle.std.proofs.lemmas.Bool.{false≢true}
use Rattle.json_span.specs.Json.{Json}
use Rattle.json_token.specs.Tokens.{Token, begin_array, end_array, begin_object, end_object, comma, colon, null_name, true_name, false_name, numeral, quoted, is_blank, spelled, IsToken, Laid}
use Rattle.json_token.specs.Number.{IsNumber, next_part, is_digit, is_leading, after_minus}
use Rattle.json_token.specs.Number as number
use Rattle.json_span.specs.Reading.{Bytes}
use Rattle.json_token.specs.declared.number.Part.{Part}
use Rattle.json_token.specs.declared.number.Part.TheVariants.{Start}

-- a number's first byte stands for all of them
abbrev pub class : ℕ → ℕ
class b = cond ((b == 45) || is_digit b) 48 b

abbrev pub code : Token → ℕ
code begin_array = 91
code end_array = 93
code begin_object = 123
code end_object = 125
code comma = 44
code colon = 58
code null_name = 110
code true_name = 116
code false_name = 102
code (numeral s) = 48
code (quoted s) = 34

abbrev payload : Token → List ℕ
payload (numeral s) = s
payload (quoted s) = s
payload begin_array = []
payload end_array = []
payload begin_object = []
payload end_object = []
payload comma = []
payload colon = []
payload null_name = []
payload true_name = []
payload false_name = []

abbrev pub decode : ℕ → List ℕ → Token
decode c s =
    cond (c == 91) begin_array (cond (c == 93) end_array (cond (c == 123) begin_object (cond (c == 125) end_object (cond (c == 44) comma (cond (c == 58) colon
    (cond (c == 110) null_name (cond (c == 116) true_name (cond (c == 102) false_name (cond (c == 48) (numeral s) (quoted s))))))))))

decode-code : (t : Token) → decode (code t) (payload t) ≡ t
decode-code begin_array = refl
decode-code end_array = refl
decode-code begin_object = refl
decode-code end_object = refl
decode-code comma = refl
decode-code colon = refl
decode-code null_name = refl
decode-code true_name = refl
decode-code false_name = refl
decode-code (numeral s) = refl
decode-code (quoted s) = refl

-- the token of that class
pub token_by_code : (t : Token) (c : ℕ) → code t ≡ c → (s : List ℕ) × (t ≡ decode c s)
token_by_code t c e = (payload t, sym (decode-code t) ∙ ap (λ n. decode n (payload t)) e)

start_class : (b : ℕ) (r : Part) → next_part Start b ≡ Some r → class b ≡ 48
unfolding next_part
start_class b r e = grind (arith, nat_tests)

pub blank_class : (b : ℕ) → is_blank b ≡ true → class b ≡ b
blank_class b e = grind (arith, nat_tests)

-- a token begins with a byte of its class
pub token_begins : (t : Token) → IsToken t → (b : ℕ) × (s : List ℕ) × (spelled t ≡ b ∷ s) × (class b ≡ code t)
token_begins begin_array i = (91, [], refl, refl)
token_begins end_array i = (93, [], refl, refl)
token_begins begin_object i = (123, [], refl, refl)
token_begins end_object i = (125, [], refl, refl)
token_begins comma i = (44, [], refl, refl)
token_begins colon i = (58, [], refl, refl)
token_begins null_name i = (110, _, refl, refl)
token_begins true_name i = (116, _, refl, refl)
token_begins false_name i = (102, _, refl, refl)
token_begins (quoted s) i = (34, _, refl, refl)
token_begins (numeral []) (q, l, e) = absurd (false≢true (ap number.may_end l ∙ e))
token_begins (numeral (b ∷ s)) (q, l, e) = (b, s, refl, start_class b l.0 l.1)

-- no token's class is that of white space
code_no_blank : (t : Token) (b : ℕ) → class b ≡ code t → is_blank b ≡ true → ⊥
code_no_blank begin_array b e h = grind (arith, nat_tests)
code_no_blank end_array b e h = grind (arith, nat_tests)
code_no_blank begin_object b e h = grind (arith, nat_tests)
code_no_blank end_object b e h = grind (arith, nat_tests)
code_no_blank comma b e h = grind (arith, nat_tests)
code_no_blank colon b e h = grind (arith, nat_tests)
code_no_blank null_name b e h = grind (arith, nat_tests)
code_no_blank true_name b e h = grind (arith, nat_tests)
code_no_blank false_name b e h = grind (arith, nat_tests)
code_no_blank (numeral s) b e h = grind (arith, nat_tests)
code_no_blank (quoted s) b e h = grind (arith, nat_tests)

pub Laid-blank : (ts : List Token) (b : ℕ) (w : List ℕ) → is_blank b ≡ true → Laid ts (b ∷ w) → Laid ts w
Laid-blank [] b w e l = l.1
Laid-blank (t ∷ ts) b w e ([], more, areb, split, i, l) =
    let f = token_begins t i in
    let same : b ≡ f.0 = let at : b ∷ w ≡ f.0 ∷ (f.1 ++ more) = split ∙ ap (λ x. x ++ more) f.2 in cc in
    absurd (code_no_blank t b (ap class same ∙ f.3) e)
Laid-blank (t ∷ ts) b w e (x ∷ blanks, more, areb, split, i, l) = (blanks, more, areb.1, cc, i, l)

pub blank-Laid : (ts : List Token) (b : ℕ) (w : List ℕ) → is_blank b ≡ true → Laid ts w → Laid ts (b ∷ w)
blank-Laid [] b w e l = (e, l)
blank-Laid (t ∷ ts) b w e (blanks, more, areb, split, i, l) = (b ∷ blanks, more, (e, areb), ap (λ x. b ∷ x) split, i, l)

-- the token at the front of bytes that begin with no white space
pub record Front (R : List Token → Json → Type 0) (bytes : List ℕ) (j : Json) : Type 0 where
  pub t : Token
  pub ts : List Token
  pub more : List ℕ
  pub ahead : R (t ∷ ts) j
  pub valid : IsToken t
  pub split : bytes ≡ spelled t ++ more
  pub laid : Laid ts more

pub Front-Bytes : (R : List Token → Json → Type 0) (b : ℕ) (w : List ℕ) (j : Json) → is_blank b ≡ false → Bytes R (b ∷ w) j → Front R (b ∷ w) j
Front-Bytes R b w j n v = from v.ts v.ahead v.laid
  where
    from : (ts : List Token) → R ts j → Laid ts (b ∷ w) → Front R (b ∷ w) j
    from [] a l = absurd (false≢true (sym n ∙ l.0))
    from (t ∷ ts) a ([], more, areb, split, i, l) = record { t = t; ts = ts; more = more; ahead = a; valid = i; split = split; laid = l }
    from (t ∷ ts) a (x ∷ blanks, more, areb, split, i, l) = let same : b ≡ x = cc in absurd (false≢true (sym n ∙ (ap is_blank same ∙ areb.0)))

pub Front-code : (R : List Token → Json → Type 0) (b : ℕ) (w : List ℕ) (j : Json) → (v : Front R (b ∷ w) j) → code v.t ≡ class b
Front-code R b w j v =
    let f = token_begins v.t v.valid in
    let same : b ≡ f.0 = let at : b ∷ w ≡ f.0 ∷ (f.1 ++ v.more) = v.split ∙ ap (λ x. x ++ v.more) f.2 in cc in
    sym (ap class same ∙ f.3)

-- a token at the front may be put before what follows it
pub token-Bytes : (R : List Token → Json → Type 0) (t : Token) (w : List ℕ) (j : Json) → IsToken t → Bytes (λ ts. R (t ∷ ts)) w j → Bytes R (spelled t ++ w) j
token-Bytes R t w j i v = record { ts = t ∷ v.ts; ahead = v.ahead; laid = ([], w, tt, refl, i, v.laid) }
