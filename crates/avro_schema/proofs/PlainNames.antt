-- A name stands in a JSON text as it is: it has no byte that JSON escapes, and isn't the name of a primitive type.
use Rattle.std.proofs.Common.{◌≡◌, ℕ, List, [], ◌∷◌, Bool, true, false, cond, not, ◌==◌, ◌&&◌, ◌||◌, Option, Some, None, refl, sym, ap, ◌∙◌, arith}
use Rattle.std.specs.Prelude.{codes, nat_lt}
use Rattle.std.specs.Str.{bytes_eq}
use Rattle.std.proofs.lemmas.Slice.Eq.{bytes_eq-Decides}
use Rattle.std.proofs.lemmas.Bool.Decides.{nat_tests}
use Rattle.json_token.specs.Chars.{content, content_behind, anything, backslash, next_inside, after_lead, IsChars}
use Rattle.avro_names.specs.Names.{is_letter, is_letter_or_digit, has_dot, is_tail, is_part, are_parts, are_more_parts, last_part, is_primitive, is_definable}
use Rattle.avro_names.proofs.NameLemmas.{and_first, and_second, no_dot}

-- a byte that stands for itself between quotes
abbrev pub is_plain_byte : ℕ → Bool
is_plain_byte b = not (nat_lt b 32) && (not (b == 34) && (not (b == 92) && nat_lt b 128))

abbrev pub is_plain_text : List ℕ → Bool
is_plain_text [] = true
is_plain_text (b ∷ bs) = is_plain_byte b && is_plain_text bs

and_true : (a b : Bool) → a ≡ true → b ≡ true → (a && b) ≡ true
and_true true b p q = q
and_true false b p q = absurd cc

letter_plain : (b : ℕ) → is_letter b ≡ true → is_plain_byte b ≡ true
letter_plain b h = grind (arith, nat_tests)

letter_or_digit_plain : (b : ℕ) → is_letter_or_digit b ≡ true → is_plain_byte b ≡ true
letter_or_digit_plain b h = grind (arith, nat_tests)

dot_plain : (b : ℕ) → (b == 46) ≡ true → is_plain_byte b ≡ true
dot_plain b h = grind (arith, nat_tests)

more_plain : (b : ℕ) (bs : List ℕ) (t : Bool) → (b == 46) ≡ t → (are_parts bs ≡ true → is_plain_text bs ≡ true) → (are_more_parts bs ≡ true → is_plain_text bs ≡ true)
    → cond t (are_parts bs) (is_letter_or_digit b && are_more_parts bs) ≡ true → is_plain_text (b ∷ bs) ≡ true
more_plain b bs true e parts more h = and_true _ _ (dot_plain b e) (parts h)
more_plain b bs false e parts more h = and_true _ _ (letter_or_digit_plain b (and_first _ _ h)) (more (and_second _ _ h))

both_plain : (bs : List ℕ) → (are_parts bs ≡ true → is_plain_text bs ≡ true) × (are_more_parts bs ≡ true → is_plain_text bs ≡ true)
both_plain [] = (λ h. absurd cc, λ h. refl)
both_plain (b ∷ bs) =
    let rest = both_plain bs in
    (λ h. and_true _ _ (letter_plain b (and_first _ _ h)) (rest.1 (and_second _ _ h)), λ h. more_plain b bs (b == 46) refl rest.0 rest.1 h)

tail_plain : (bs : List ℕ) → is_tail bs ≡ true → is_plain_text bs ≡ true
tail_plain [] h = refl
tail_plain (b ∷ bs) h = and_true _ _ (letter_or_digit_plain b (and_first _ _ h)) (tail_plain bs (and_second _ _ h))

pub part_plain : (name : List ℕ) → is_part name ≡ true → is_plain_text name ≡ true
part_plain [] h = refl
part_plain (b ∷ bs) h = and_true _ _ (letter_plain b (and_first _ _ h)) (tail_plain bs (and_second _ _ h))

pub definable_plain : (name : List ℕ) → is_definable name ≡ true → is_plain_text name ≡ true
unfolding is_definable
definable_plain name h = (both_plain name).0 (and_first _ _ h)

-- ---- in JSON

plain_next : {X : Type 0} (plain escape : X) (a b c d : Bool) (lead : Option X) → (not a && (not b && (not c && d))) ≡ true → cond a None (cond b None (cond c (Some escape) (cond d (Some plain) lead))) ≡ Some plain
plain_next plain escape true b c d lead h = absurd cc
plain_next plain escape false true c d lead h = absurd cc
plain_next plain escape false false true d lead h = absurd cc
plain_next plain escape false false false false lead h = absurd cc
plain_next plain escape false false false true lead h = refl

pub plain_chars : (s : List ℕ) → is_plain_text s ≡ true → IsChars s
unfolding next_inside
plain_chars [] h = refl
plain_chars (b ∷ bs) h = (_, plain_next _ _ (nat_lt b 32) (b == 34) (b == 92) (nat_lt b 128) (after_lead b) (and_first _ _ h), plain_chars bs (and_second _ _ h))

no_escape : (a b c d : Bool) → (not a && (not b && (not c && d))) ≡ true → c ≡ false
no_escape true b c d h = absurd cc
no_escape false true c d h = absurd cc
no_escape false false true d h = absurd cc
no_escape false false false d h = refl

pub plain_content : (s : List ℕ) → is_plain_text s ≡ true → content s ≡ s
unfolding content_behind
plain_content [] h = refl
plain_content (b ∷ bs) h =
    let rest = plain_content bs (and_second _ _ h) in
    let plain = no_escape (nat_lt b 32) (b == 34) (b == 92) (nat_lt b 128) (and_first _ _ h) in
    ap (λ t. cond t (content_behind backslash bs) (b ∷ content_behind anything bs)) plain ∙ ap (λ x. b ∷ x) rest

-- ---- primitives

pub same_bytes : (a b : List ℕ) → bytes_eq a b ≡ true → a ≡ b
same_bytes a b h = (bytes_eq-Decides a b).0 h

dotless_by : (name word : List ℕ) (t rest : Bool) → bytes_eq name word ≡ t → has_dot word ≡ false → (rest ≡ true → has_dot name ≡ false) → (t || rest) ≡ true → has_dot name ≡ false
dotless_by name word true rest e w r h = ap has_dot (same_bytes name word e) ∙ w
dotless_by name word false rest e w r h = r h

-- a test whose words have no dot
dotless : (name word : List ℕ) (rest : Bool) → has_dot word ≡ false → (rest ≡ true → has_dot name ≡ false) → (bytes_eq name word || rest) ≡ true → has_dot name ≡ false
dotless name word rest w r h = dotless_by name word (bytes_eq name word) rest refl w r h

primitive_dotless : (name : List ℕ) → is_primitive name ≡ true → has_dot name ≡ false
primitive_dotless name h =
    dotless name (codes "null") _ refl
    (dotless name (codes "boolean") _ refl
    (dotless name (codes "int") _ refl
    (dotless name (codes "long") _ refl
    (dotless name (codes "bytes") _ refl
    (dotless name (codes "string") _ refl
    (dotless name (codes "float") _ refl (λ e. ap has_dot (same_bytes name (codes "double") e)))))))) h

not_true : (a : Bool) → not a ≡ true → a ≡ false
not_true true h = absurd cc
not_true false h = refl

not_primitive_by : (name : List ℕ) (t : Bool) → is_primitive name ≡ t → is_primitive (last_part name) ≡ false → is_primitive name ≡ false
not_primitive_by name false e h = e
not_primitive_by name true e h = ap is_primitive (sym (no_dot name (primitive_dotless name e)).1) ∙ h

pub not_primitive : (name : List ℕ) → is_definable name ≡ true → is_primitive name ≡ false
unfolding is_definable
not_primitive name h = not_primitive_by name (is_primitive name) refl (not_true _ (and_first _ _ (and_second _ _ h)))
