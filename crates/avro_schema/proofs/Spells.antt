-- A canonical form is a JSON text of its value.
use Rattle.std.proofs.Common.{◌≡◌, ℕ, List, [], ◌∷◌, ◌++◌, Bool, true, false, refl, ap, ◌∙◌, subst, append_assoc, arith}
use Rattle.std.specs.Prelude.{codes}
use Rattle.std.specs.List.{flat_map}
use Rattle.std.proofs.lemmas.List.{append-nil}
use Rattle.std.proofs.lemmas.Grind.{flat_map-append}
use Rattle.json_span.specs.Json.{object, no_members, member, tokens, item_tokens, more_item_tokens}
use Rattle.json_token.specs.Tokens.{Token, end_object, spelled, Laid, AreTokens}
use Rattle.avro_schema.specs.Types.{AvroType, Branches, Fields, null, boolean, int, long, bytes, string, array, map, union, fixed, enum_, record_, named, no_branches, branch, no_fields, field, branch_name}
use Rattle.avro_schema.specs.Canonical.{quote, canonical_form, symbol_list, more_symbols, branch_list, more_branches, field_list, more_fields}
use Rattle.avro_schema.proofs.PlainNames.{plain_chars, part_plain, definable_plain}
use Rattle.avro_schema.proofs.Numerals.{decimal_number}
use Rattle.avro_schema.proofs.Again.{json_of, branches_json, fields_json, symbols_json, named_text, Good, GoodSymbols, GoodBranches, GoodFields}

-- the bytes of these tokens
abbrev spell : List Token → List ℕ
spell ts = flat_map spelled ts

spell-append : (xs ys : List Token) → spell (xs ++ ys) ≡ spell xs ++ spell ys
spell-append xs ys = flat_map-append spelled xs ys

more_symbols_spelled : (ss : List (List ℕ)) → spell (more_item_tokens (symbols_json ss)) ++ codes "}" ≡ more_symbols ss
more_symbols_spelled [] = refl
more_symbols_spelled (s ∷ ss) = ap (λ x. codes "," ++ x) (append_assoc (quote s) (spell (more_item_tokens (symbols_json ss))) (codes "}") ∙ ap (λ x. quote s ++ x) (more_symbols_spelled ss))

symbols_spelled : (ss : List (List ℕ)) → spell (item_tokens (symbols_json ss)) ++ codes "}" ≡ symbol_list ss
symbols_spelled [] = refl
symbols_spelled (s ∷ ss) = append_assoc (quote s) (spell (more_item_tokens (symbols_json ss))) (codes "}") ∙ ap (λ x. quote s ++ x) (more_symbols_spelled ss)

-- one field, and what stands behind it
field_spelled : (name : List ℕ) (t : AvroType) (rest : List Token) (more : List ℕ) → spell (tokens (json_of t)) ≡ canonical_form t → spell rest ++ codes "}" ≡ more
    → spell (tokens (object (named_text name (member (codes "type") (json_of t) no_members))) ++ rest) ++ codes "}" ≡ codes "{\"name\":" ++ (quote name ++ (codes ",\"type\":" ++ (canonical_form t ++ (codes "}" ++ more))))
field_spelled name t rest more one e =
    let J = tokens (json_of t) in
    let inner : spell ((J ++ (end_object ∷ [])) ++ rest) ++ codes "}" ≡ canonical_form t ++ (codes "}" ++ more) =
    ap (λ x. x ++ codes "}") (spell-append (J ++ (end_object ∷ [])) rest ∙ ap (λ x. x ++ spell rest) (spell-append J (end_object ∷ []) ∙ ap (λ x. x ++ codes "}") one))
    ∙ append_assoc (canonical_form t ++ codes "}") (spell rest) (codes "}") ∙ append_assoc (canonical_form t) (codes "}") (spell rest ++ codes "}") ∙ ap (λ x. canonical_form t ++ (codes "}" ++ x)) e in
    ap (λ x. codes "{\"name\":" ++ x)
    (append_assoc (quote name) (codes ",\"type\":" ++ spell ((J ++ (end_object ∷ [])) ++ rest)) (codes "}") ∙ ap (λ x. quote name ++ (codes ",\"type\":" ++ x)) inner)

mutual
  spells : (t : AvroType) → spell (tokens (json_of t)) ≡ canonical_form t
  spells null = refl
  spells boolean = refl
  spells int = refl
  spells long = refl
  spells bytes = refl
  spells string = refl
  spells (array t) = ap (λ x. codes "{\"type\":\"array\",\"items\":" ++ x) (spell-append (tokens (json_of t)) (end_object ∷ []) ∙ ap (λ x. x ++ codes "}") (spells t))
  spells (map t) = ap (λ x. codes "{\"type\":\"map\",\"values\":" ++ x) (spell-append (tokens (json_of t)) (end_object ∷ []) ∙ ap (λ x. x ++ codes "}") (spells t))
  spells (union bs) = ap (λ x. codes "[" ++ x) (branches_spelled bs)
  spells (fixed name size) = refl
  spells (enum_ name ss) =
      ap (λ x. codes "{\"name\":" ++ (quote name ++ (codes ",\"type\":\"enum\",\"symbols\":[" ++ x))) (spell-append (item_tokens (symbols_json ss)) (end_object ∷ []) ∙ symbols_spelled ss)
  spells (record_ name fs) =
      ap (λ x. codes "{\"name\":" ++ (quote name ++ (codes ",\"type\":\"record\",\"fields\":[" ++ x))) (spell-append (item_tokens (fields_json fs)) (end_object ∷ []) ∙ fields_spelled fs)
  spells (named name) = append-nil (quote name)

  branches_spelled : (bs : Branches) → spell (item_tokens (branches_json bs)) ≡ branch_list bs
  branches_spelled no_branches = refl
  branches_spelled (branch t bs) =
      spell-append (tokens (json_of t)) (more_item_tokens (branches_json bs)) ∙ ap (λ x. x ++ spell (more_item_tokens (branches_json bs))) (spells t) ∙ ap (λ x. canonical_form t ++ x) (more_branches_spelled bs)

  more_branches_spelled : (bs : Branches) → spell (more_item_tokens (branches_json bs)) ≡ more_branches bs
  more_branches_spelled no_branches = refl
  more_branches_spelled (branch t bs) =
      ap (λ x. codes "," ++ x) (spell-append (tokens (json_of t)) (more_item_tokens (branches_json bs)) ∙ ap (λ x. x ++ spell (more_item_tokens (branches_json bs))) (spells t) ∙ ap (λ x. canonical_form t ++ x) (more_branches_spelled bs))

  fields_spelled : (fs : Fields) → spell (item_tokens (fields_json fs)) ++ codes "}" ≡ field_list fs
  fields_spelled no_fields = refl
  fields_spelled (field name t fs) = field_spelled name t (more_item_tokens (fields_json fs)) (more_fields fs) (spells t) (more_fields_spelled fs)

  more_fields_spelled : (fs : Fields) → spell (more_item_tokens (fields_json fs)) ++ codes "}" ≡ more_fields fs
  more_fields_spelled no_fields = refl
  more_fields_spelled (field name t fs) = ap (λ x. codes "," ++ x) (field_spelled name t (more_item_tokens (fields_json fs)) (more_fields fs) (spells t) (more_fields_spelled fs))

-- ---- each token is of its grammar

are_append : (xs ys : List Token) → AreTokens xs → AreTokens ys → AreTokens (xs ++ ys)
are_append [] ys a b = b
are_append (x ∷ xs) ys a b = (a.0, are_append xs ys a.1 b)

symbols_tokens : (seen ss : List (List ℕ)) → GoodSymbols seen ss → AreTokens (more_item_tokens (symbols_json ss))
symbols_tokens seen [] g = (tt, tt)
symbols_tokens seen (s ∷ ss) g = (tt, (plain_chars s (part_plain s g.0), symbols_tokens (seen ++ (s ∷ [])) ss g.2))

symbol_tokens : (seen ss : List (List ℕ)) → GoodSymbols seen ss → AreTokens (item_tokens (symbols_json ss))
symbol_tokens seen [] g = (tt, tt)
symbol_tokens seen (s ∷ ss) g = (plain_chars s (part_plain s g.0), symbols_tokens (seen ++ (s ∷ [])) ss g.2)

mutual
  are_tokens : (n : ℕ) (u : Bool) (names : List (List ℕ)) (t : AvroType) (now : List (List ℕ)) → Good n u names t now → AreTokens (tokens (json_of t))
  are_tokens n u names null now g = (plain_chars (codes "null") refl, tt)
  are_tokens n u names boolean now g = (plain_chars (codes "boolean") refl, tt)
  are_tokens n u names int now g = (plain_chars (codes "int") refl, tt)
  are_tokens n u names long now g = (plain_chars (codes "long") refl, tt)
  are_tokens n u names bytes now g = (plain_chars (codes "bytes") refl, tt)
  are_tokens n u names string now g = (plain_chars (codes "string") refl, tt)
  are_tokens n u names (array t) now g =
      (tt, (plain_chars (codes "type") refl, (tt, (plain_chars (codes "array") refl, (tt, (plain_chars (codes "items") refl, (tt, are_append (tokens (json_of t)) (end_object ∷ []) (are_tokens g.0 false names t now g.2) (tt, tt))))))))
  are_tokens n u names (map t) now g =
      (tt, (plain_chars (codes "type") refl, (tt, (plain_chars (codes "map") refl, (tt, (plain_chars (codes "values") refl, (tt, are_append (tokens (json_of t)) (end_object ∷ []) (are_tokens g.0 false names t now g.2) (tt, tt))))))))
  are_tokens n u names (union bs) now g = (tt, branch_tokens g.0 names [] bs now g.3)
  are_tokens n u names (fixed name size) now g =
      (tt, (plain_chars (codes "name") refl, (tt, (plain_chars name (definable_plain name g.2.good), (tt, (plain_chars (codes "type") refl, (tt, (plain_chars (codes "fixed") refl, (tt, (plain_chars (codes "size") refl, (tt, ((decimal_number size (let h = g.3 in omega arith)), (tt, tt)))))))))))))
  are_tokens n u names (enum_ name ss) now g =
      (tt, (plain_chars (codes "name") refl, (tt, (plain_chars name (definable_plain name g.2.good), (tt, (plain_chars (codes "type") refl, (tt, (plain_chars (codes "enum") refl, (tt, (plain_chars (codes "symbols") refl, (tt, (tt, are_append (item_tokens (symbols_json ss)) (end_object ∷ []) (symbol_tokens [] ss g.3) (tt, tt)))))))))))))
  are_tokens n u names (record_ name fs) now g =
      (tt, (plain_chars (codes "name") refl, (tt, (plain_chars name (definable_plain name g.2.good), (tt, (plain_chars (codes "type") refl, (tt, (plain_chars (codes "record") refl, (tt, (plain_chars (codes "fields") refl, (tt, (tt, are_append (item_tokens (fields_json fs)) (end_object ∷ []) (field_tokens g.0 (names ++ (name ∷ [])) [] fs now g.3) (tt, tt)))))))))))))
  are_tokens n u names (named name) now g = (plain_chars name (definable_plain name g.1), tt)

  branch_tokens : (m : ℕ) (names seen : List (List ℕ)) (bs : Branches) (now : List (List ℕ)) → GoodBranches m names seen bs now → AreTokens (item_tokens (branches_json bs))
  branch_tokens m names seen no_branches now g = (tt, tt)
  branch_tokens m names seen (branch t bs) now g = are_append (tokens (json_of t)) (more_item_tokens (branches_json bs)) (are_tokens m true names t g.0 g.1) (more_branch_tokens m g.0 (seen ++ (branch_name t ∷ [])) bs now g.3)

  more_branch_tokens : (m : ℕ) (names seen : List (List ℕ)) (bs : Branches) (now : List (List ℕ)) → GoodBranches m names seen bs now → AreTokens (more_item_tokens (branches_json bs))
  more_branch_tokens m names seen no_branches now g = (tt, tt)
  more_branch_tokens m names seen (branch t bs) now g = (tt, are_append (tokens (json_of t)) (more_item_tokens (branches_json bs)) (are_tokens m true names t g.0 g.1) (more_branch_tokens m g.0 (seen ++ (branch_name t ∷ [])) bs now g.3))

  field_tokens : (m : ℕ) (names seen : List (List ℕ)) (fs : Fields) (now : List (List ℕ)) → GoodFields m names seen fs now → AreTokens (item_tokens (fields_json fs))
  field_tokens m names seen no_fields now g = (tt, tt)
  field_tokens m names seen (field name t fs) now g =
      (tt, (plain_chars (codes "name") refl, (tt, (plain_chars name (part_plain name g.1), (tt, (plain_chars (codes "type") refl, (tt, are_append (tokens (json_of t) ++ (end_object ∷ [])) (more_item_tokens (fields_json fs)) (are_append (tokens (json_of t)) (end_object ∷ []) (are_tokens m false names t g.0 g.3) (tt, tt)) (more_field_tokens m g.0 (seen ++ (name ∷ [])) fs now g.4))))))))

  more_field_tokens : (m : ℕ) (names seen : List (List ℕ)) (fs : Fields) (now : List (List ℕ)) → GoodFields m names seen fs now → AreTokens (more_item_tokens (fields_json fs))
  more_field_tokens m names seen no_fields now g = (tt, tt)
  more_field_tokens m names seen (field name t fs) now g =
      (tt, (tt, (plain_chars (codes "name") refl, (tt, (plain_chars name (part_plain name g.1), (tt, (plain_chars (codes "type") refl, (tt, are_append (tokens (json_of t) ++ (end_object ∷ [])) (more_item_tokens (fields_json fs)) (are_append (tokens (json_of t)) (end_object ∷ []) (are_tokens m false names t g.0 g.3) (tt, tt)) (more_field_tokens m g.0 (seen ++ (name ∷ [])) fs now g.4)))))))))

laid : (ts : List Token) → AreTokens ts → Laid ts (spell ts)
laid [] h = tt
laid (t ∷ ts) h = ([], spell ts, tt, refl, h.0, laid ts h.1)

pub form_laid : (n : ℕ) (u : Bool) (names : List (List ℕ)) (t : AvroType) (now : List (List ℕ)) → Good n u names t now → Laid (tokens (json_of t)) (canonical_form t)
form_laid n u names t now g = let P : List ℕ → Type 0 = λ bs. Laid (tokens (json_of t)) bs in subst P (spells t) (laid (tokens (json_of t)) (are_tokens n u names t now g))
