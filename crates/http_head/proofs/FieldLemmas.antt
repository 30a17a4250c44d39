-- The values of a name, field by field, and the digits of a size.
use Rattle.std.proofs.Common.{◌≡◌, ℕ, ◌+◌, ◌-◌, ◌*◌, ◌<◌, min, Bool, true, false, List, [], ◌∷◌, ◌++◌, length, take, get_or, map, refl, ap, sym, ◌∙◌, arith, append_assoc, inl, inr}
use Rattle.std.specs.Prelude.{filter, ◌⊎◌, ◌||◌, Result, Ok, Err, not, nat_lt, if◌then◌else◌}
use Rattle.std.specs.List.{list_all}
use Rattle.std.specs.Str.Parse.{digits_value}
use Rattle.std.specs.Char.{digit_value, is_ascii_digit}
use Rattle.std.proofs.lemmas.List.{take_more, map-append}
use Rattle.std.proofs.lemmas.List.Elements.{filter-append}
use Rattle.std.proofs.lemmas.List.Folds.{list_all_at, list_any-append}
use Rattle.std.proofs.lemmas.Int.Digits.{digits_value_push}
use Rattle.httparse.specs.declared.spans.HeaderSpan.{HeaderSpan}
use Rattle.httparse.specs.Spans.{header_bytes}
use Rattle.std.proofs.Common.{Some, codes}
use Rattle.std.specs.List.{list_any}
use Rattle.http_head.specs.Asked.{is_served}
use Rattle.http_head.specs.Fields.{values_of, is_named, joined_from, frame_of, max_fields, is_hosted}
use Rattle.http_head.specs.Parts.{JoinedIs}
use Rattle.http_head.specs.declared.fields.Framing.{Framing}

-- a digit's value
pub digit_of : (c : ℕ) → is_ascii_digit c ≡ true → digit_value c ≡ c - 48
digit_of c is = grind arith

-- a test passes or fails
pub test_or : (b : Bool) → (b ≡ true) ⊎ (b ≡ false)
test_or true = inl refl
test_or false = inr refl

-- each byte of digits is one
pub digit_at : (xs : List ℕ) (i : ℕ) → list_all is_ascii_digit xs ≡ true → i < length xs → is_ascii_digit (get_or xs i 0) ≡ true
digit_at xs i all below =
    elim (test_or (is_ascii_digit (get_or xs i 0))) [
      | inl passes ↦ passes
      | inr fails ↦ let no : list_all is_ascii_digit xs ≡ false = list_all_at is_ascii_digit xs i 0 below fails in cc
    ]

-- the value up to a limit, with one digit more
pub value_more : (xs : List ℕ) (i limit : ℕ) → list_all is_ascii_digit xs ≡ true → i < length xs
    → min (digits_value 10 (take (i + 1) xs)) limit ≡ min (min (digits_value 10 (take i xs)) limit * 10 + (get_or xs i 0 - 48)) limit
value_more xs i limit all below =
    let e : digits_value 10 (take (i + 1) xs) ≡ digits_value 10 (take i xs) * 10 + digit_value (get_or xs i 0) =
    ap (digits_value 10) (take_more xs i 0 below) ∙ digits_value_push 10 (take i xs) (get_or xs i 0) in
    let d : digit_value (get_or xs i 0) ≡ get_or xs i 0 - 48 = digit_of (get_or xs i 0) (digit_at xs i all below) in
    grind arith

-- the values of a name in two lists of fields
pub values_of-append : (name : List ℕ) (xs ys : List (List ℕ × List ℕ)) → values_of name (xs ++ ys) ≡ values_of name xs ++ values_of name ys
values_of-append name xs ys =
    ap (map (λ (f : List ℕ × List ℕ). f.1)) (filter-append (is_named name) xs ys)
    ∙ map-append (λ (f : List ℕ × List ℕ). f.1) (filter (is_named name) xs) (filter (is_named name) ys)

-- the values of a name, with one header more
pub values_more : (name buf : List ℕ) (headers : List HeaderSpan) (i : ℕ) (d : HeaderSpan) → i < length headers
    → values_of name (map (header_bytes buf) (take (i + 1) headers))
    ≡ values_of name (map (header_bytes buf) (take i headers)) ++ values_of name (header_bytes buf (get_or headers i d) ∷ [])
values_more name buf headers i d below =
    ap (λ hs. values_of name (map (header_bytes buf) hs)) (take_more headers i d below)
    ∙ ap (values_of name) (map-append (header_bytes buf) (take i headers) (get_or headers i d ∷ []))
    ∙ values_of-append name (map (header_bytes buf) (take i headers)) (header_bytes buf (get_or headers i d) ∷ [])

-- one value more is joined behind a comma
pub joined_from-more : (v : List ℕ) (vs : List (List ℕ)) (w : List ℕ) → joined_from v (vs ++ w ∷ []) ≡ joined_from v vs ++ (codes "," ++ w)
joined_from-more v [] w = refl
joined_from-more v (x ∷ vs) w = joined_from-more (v ++ (codes "," ++ x)) vs w

pub first_value : (values : List (List ℕ)) (text w new : List ℕ) → JoinedIs values false text → new ≡ text ++ w → JoinedIs (values ++ w ∷ []) true new
first_value [] text w new is grown = let e : w ≡ new = cc in ap (λ (l : List ℕ). Some l) e
first_value (v ∷ vs) text w new is grown = absurd (cc)

pub next_value : (values : List (List ℕ)) (text w new : List ℕ) → JoinedIs values true text → new ≡ (text ++ codes ",") ++ w → JoinedIs (values ++ w ∷ []) true new
next_value [] text w new is grown = absurd (cc)
next_value (v ∷ vs) text w new is grown =
    let e : joined_from v vs ≡ text = cc in
    ap (λ (l : List ℕ). Some l) (joined_from-more v vs w ∙ ap (λ (l : List ℕ). l ++ (codes "," ++ w)) e ∙ sym (append_assoc text (codes ",") w) ∙ sym grown)

-- one value more, whether one was found before or not
pub value_joined : (found : Bool) (values : List (List ℕ)) (text w new : List ℕ) → JoinedIs values found text
    → (found ≡ false → new ≡ text ++ w) → (found ≡ true → new ≡ (text ++ codes ",") ++ w) → JoinedIs (values ++ w ∷ []) true new
value_joined false values text w new is first more = first_value values text w new is (first refl)
value_joined true values text w new is first more = next_value values text w new is (more refl)

-- the codings of a name, with one header more
pub codings_more : (p : List ℕ → Bool) (name buf : List ℕ) (headers : List HeaderSpan) (i : ℕ) (d : HeaderSpan) → i < length headers
    → list_any p (values_of name (map (header_bytes buf) (take (i + 1) headers)))
    ≡ (list_any p (values_of name (map (header_bytes buf) (take i headers))) || list_any p (values_of name (header_bytes buf (get_or headers i d) ∷ [])))
codings_more p name buf headers i d below =
    ap (list_any p) (values_more name buf headers i d below)
    ∙ list_any-append p (values_of name (map (header_bytes buf) (take i headers))) (values_of name (header_bytes buf (get_or headers i d) ∷ []))

-- a size behind three tests says that the third was passed
third_passed : (a b c : Bool) (rest : Result Framing ℕ) (size : Framing) → (if a then Err 431 else if not b then Err 400 else if not c then Err 400 else rest) ≡ Ok size → c ≡ true
third_passed a b true rest size is = refl
third_passed true b false rest size is = absurd (cc is)
third_passed false true false rest size is = absurd (cc is)
third_passed false false false rest size is = absurd (cc is)

-- the target of a head that isn't refused is one that is served
pub framed_target : (minor : ℕ) (target : List ℕ) (fields : List (List ℕ × List ℕ)) (size : Framing) → frame_of minor target fields ≡ Ok size → is_served target ≡ true
unfolding frame_of
framed_target minor target fields size is = third_passed (nat_lt max_fields (length fields)) (is_hosted minor fields) (is_served target) _ size is
