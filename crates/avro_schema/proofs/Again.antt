-- The JSON value of a canonical form, and what it is read as.
use Rattle.std.proofs.Common.{◌≡◌, ℕ, zero, suc, ◌≤◌, List, [], ◌∷◌, ◌++◌, Bool, true, false, cond, Some, Ok, Err, refl, sym, ap, ◌∙◌}
use Rattle.std.specs.Prelude.{codes, decimal}
use Rattle.std.specs.Str.{bytes_eq}
use Rattle.json_span.specs.Json.{Json, Items, Members, text, number, array as list, object, no_items, item, no_members, member}
use Rattle.json_token.specs.Chars.{content, content_behind}
use Rattle.avro_schema.specs.Types.{AvroType, Branches, Fields, null, boolean, int, long, bytes, string, array, map, union, fixed, enum_, record_, named, no_branches, branch, no_fields, field, branch_name}
use Rattle.avro_names.specs.Names.{is_part, is_float, is_definable, namespace_of}
use Rattle.avro_schema.specs.Reading.{Read, Outcome, Reader, FieldType, reads, known, type_by_name, digits_size, field_read, fields_read, branch_read, branches_read, object_by_word, reader}
use Rattle.avro_names.specs.Outcomes.{next}
use Rattle.avro_names.specs.NameList.{is_among}
use Rattle.avro_names.specs.MemberNames.{new_name, defined_name, part_name, symbols_read}
use Rattle.avro_names.specs.declared.error.SchemaNo.TheVariants.{BadType, UnknownName, Redefined, BadName, Float}
use Rattle.avro_schema.proofs.Numerals.{size_again}
use Rattle.avro_names.proofs.Outcomes.{next_ok}
use Rattle.avro_names.proofs.NameLemmas.{or_false_first, or_false_second}
use Rattle.avro_schema.proofs.PlainNames.{plain_content, part_plain, definable_plain, not_primitive}

abbrev pub named_text : List ℕ → Members → Members
named_text name ms = member (codes "name") (text name) ms

abbrev pub symbols_json : List (List ℕ) → Items
symbols_json [] = no_items
symbols_json (s ∷ ss) = item (text s) (symbols_json ss)

abbrev mutual
  pub json_of : AvroType → Json
  json_of null = text (codes "null")
  json_of boolean = text (codes "boolean")
  json_of int = text (codes "int")
  json_of long = text (codes "long")
  json_of bytes = text (codes "bytes")
  json_of string = text (codes "string")
  json_of (array t) = object (member (codes "type") (text (codes "array")) (member (codes "items") (json_of t) no_members))
  json_of (map t) = object (member (codes "type") (text (codes "map")) (member (codes "values") (json_of t) no_members))
  json_of (union bs) = list (branches_json bs)
  json_of (fixed name size) = object (named_text name (member (codes "type") (text (codes "fixed")) (member (codes "size") (number (decimal size)) no_members)))
  json_of (enum_ name symbols) = object (named_text name (member (codes "type") (text (codes "enum")) (member (codes "symbols") (list (symbols_json symbols)) no_members)))
  json_of (record_ name fs) = object (named_text name (member (codes "type") (text (codes "record")) (member (codes "fields") (list (fields_json fs)) no_members)))
  json_of (named name) = text name

  pub branches_json : Branches → Items
  branches_json no_branches = no_items
  branches_json (branch t bs) = item (json_of t) (branches_json bs)

  pub fields_json : Fields → Items
  fields_json no_fields = no_items
  fields_json (field name t fs) = item (object (named_text name (member (codes "type") (json_of t) no_members))) (fields_json fs)

-- ---- types that read in a canonical form, with so many levels, inside a union or not, after these names, before those

pub record IsNew (names : List (List ℕ)) (name : List ℕ) : Type 0 where
  pub new : is_among name names ≡ false
  pub good : is_definable name ≡ true

abbrev pub GoodSymbols : List (List ℕ) → List (List ℕ) → Type 0
GoodSymbols seen [] = Unit {0}
GoodSymbols seen (s ∷ ss) = (is_part s ≡ true) × (is_among s seen ≡ false) × GoodSymbols (seen ++ (s ∷ [])) ss

abbrev mutual
  pub Good : ℕ → Bool → List (List ℕ) → AvroType → List (List ℕ) → Type 0
  Good n u names null now = now ≡ names
  Good n u names boolean now = now ≡ names
  Good n u names int now = now ≡ names
  Good n u names long now = now ≡ names
  Good n u names bytes now = now ≡ names
  Good n u names string now = now ≡ names
  Good n u names (array t) now = (m : ℕ) × (n ≡ suc m) × Good m false names t now
  Good n u names (map t) now = (m : ℕ) × (n ≡ suc m) × Good m false names t now
  Good n u names (union bs) now = (m : ℕ) × (n ≡ suc m) × (u ≡ false) × GoodBranches m names [] bs now
  Good n u names (fixed name size) now = (m : ℕ) × (n ≡ suc m) × IsNew names name × (size ≤ 1048576) × (now ≡ names ++ (name ∷ []))
  Good n u names (enum_ name symbols) now = (m : ℕ) × (n ≡ suc m) × IsNew names name × GoodSymbols [] symbols × (now ≡ names ++ (name ∷ []))
  Good n u names (record_ name fs) now = (m : ℕ) × (n ≡ suc m) × IsNew names name × GoodFields m (names ++ (name ∷ [])) [] fs now
  Good n u names (named name) now = (is_among name names ≡ true) × (is_definable name ≡ true) × (now ≡ names)

  pub GoodBranches : ℕ → List (List ℕ) → List (List ℕ) → Branches → List (List ℕ) → Type 0
  GoodBranches m names seen no_branches now = now ≡ names
  GoodBranches m names seen (branch t bs) now = (mid : List (List ℕ)) × Good m true names t mid × (is_among (branch_name t) seen ≡ false) × GoodBranches m mid (seen ++ (branch_name t ∷ [])) bs now

  pub GoodFields : ℕ → List (List ℕ) → List (List ℕ) → Fields → List (List ℕ) → Type 0
  GoodFields m names seen no_fields now = now ≡ names
  GoodFields m names seen (field name t fs) now = (mid : List (List ℕ)) × (is_part name ≡ true) × (is_among name seen ≡ false) × Good m false names t mid × GoodFields m mid (seen ++ (name ∷ [])) fs now

-- ---- texts

by_text : (n : ℕ) (u : Bool) (names : List (List ℕ)) (ns s : List ℕ) → reader true n u names ns (text s) ≡ type_by_name true names ns (content s)
unfolding reader
by_text zero u names ns s = refl
by_text (suc n) u names ns s = refl

skip : {T : Type 0} (t : Bool) (x o : T) → t ≡ false → cond t x o ≡ o
skip t x o h = ap (λ b. cond b x o) h

known_again : (names : List (List ℕ)) (ns name : List ℕ) → is_among name names ≡ true → is_definable name ≡ true → type_by_name true names ns name ≡ reads (named name) names
unfolding type_by_name
known_again names ns name among good =
    let p = not_primitive name good in
    let a = or_false_first (bytes_eq name (codes "null")) _ p in
    let p1 = or_false_second (bytes_eq name (codes "null")) _ p in
    let b = or_false_first (bytes_eq name (codes "boolean")) _ p1 in
    let p2 = or_false_second (bytes_eq name (codes "boolean")) _ p1 in
    let c = or_false_first (bytes_eq name (codes "int")) _ p2 in
    let p3 = or_false_second (bytes_eq name (codes "int")) _ p2 in
    let d = or_false_first (bytes_eq name (codes "long")) _ p3 in
    let p4 = or_false_second (bytes_eq name (codes "long")) _ p3 in
    let e = or_false_first (bytes_eq name (codes "bytes")) _ p4 in
    let p5 = or_false_second (bytes_eq name (codes "bytes")) _ p4 in
    let f = or_false_first (bytes_eq name (codes "string")) _ p5 in
    let p6 : is_float name ≡ false = or_false_second (bytes_eq name (codes "string")) _ p5 in
    skip (bytes_eq name (codes "null")) (reads null names) _ a ∙ skip (bytes_eq name (codes "boolean")) (reads boolean names) _ b ∙ skip (bytes_eq name (codes "int")) (reads int names) _ c
    ∙ skip (bytes_eq name (codes "long")) (reads long names) _ d ∙ skip (bytes_eq name (codes "bytes")) (reads bytes names) _ e ∙ skip (bytes_eq name (codes "string")) (reads string names) _ f
    ∙ skip (is_float name) (Err Float) (known names name) p6 ∙ ap (λ t. cond t (reads (named name) names) (Err UnknownName)) among

-- ---- what the reader does at each value of a canonical form

primitive_again : (n : ℕ) (u : Bool) (names : List (List ℕ)) (ns s : List ℕ) (t : AvroType) → content s ≡ s → type_by_name true names ns s ≡ reads t names → reader true n u names ns (text s) ≡ reads t names
primitive_again n u names ns s t plain is = by_text n u names ns s ∙ ap (λ x. type_by_name true names ns x) plain ∙ is

at_null : (names : List (List ℕ)) (ns : List ℕ) → type_by_name true names ns (codes "null") ≡ reads null names
unfolding type_by_name
at_null names ns = refl

at_boolean : (names : List (List ℕ)) (ns : List ℕ) → type_by_name true names ns (codes "boolean") ≡ reads boolean names
unfolding type_by_name
at_boolean names ns = refl

at_int : (names : List (List ℕ)) (ns : List ℕ) → type_by_name true names ns (codes "int") ≡ reads int names
unfolding type_by_name
at_int names ns = refl

at_long : (names : List (List ℕ)) (ns : List ℕ) → type_by_name true names ns (codes "long") ≡ reads long names
unfolding type_by_name
at_long names ns = refl

at_bytes : (names : List (List ℕ)) (ns : List ℕ) → type_by_name true names ns (codes "bytes") ≡ reads bytes names
unfolding type_by_name
at_bytes names ns = refl

at_string : (names : List (List ℕ)) (ns : List ℕ) → type_by_name true names ns (codes "string") ≡ reads string names
unfolding type_by_name
at_string names ns = refl

at_array : (m : ℕ) (u : Bool) (names : List (List ℕ)) (ns : List ℕ) (t : AvroType) → reader true (suc m) u names ns (json_of (array t)) ≡ next (reader true m false names ns (json_of t)) (λ x. reads (array x.value) x.names)
unfolding reader object_by_word content_behind
at_array m u names ns t = refl

at_map : (m : ℕ) (u : Bool) (names : List (List ℕ)) (ns : List ℕ) (t : AvroType) → reader true (suc m) u names ns (json_of (map t)) ≡ next (reader true m false names ns (json_of t)) (λ x. reads (map x.value) x.names)
unfolding reader object_by_word content_behind
at_map m u names ns t = refl

at_union : (m : ℕ) (names : List (List ℕ)) (ns : List ℕ) (bs : Branches) → reader true (suc m) false names ns (json_of (union bs)) ≡ next (branches_read (reader true m) names ns [] (branches_json bs)) (λ x. reads (union x.value) x.names)
unfolding reader
at_union m names ns bs = refl

at_fixed : (m : ℕ) (u : Bool) (names : List (List ℕ)) (ns name : List ℕ) (size : ℕ) → reader true (suc m) u names ns (json_of (fixed name size)) ≡ next (new_name names (content name)) (λ x. next (digits_size (decimal size)) (λ k. reads (fixed x k) (names ++ (x ∷ []))))
unfolding reader object_by_word defined_name content_behind
at_fixed m u names ns name size = refl

at_enum : (m : ℕ) (u : Bool) (names : List (List ℕ)) (ns name : List ℕ) (ss : List (List ℕ)) → reader true (suc m) u names ns (json_of (enum_ name ss)) ≡ next (new_name names (content name)) (λ x. next (symbols_read [] (symbols_json ss)) (λ k. reads (enum_ x k) (names ++ (x ∷ []))))
unfolding reader object_by_word defined_name content_behind
at_enum m u names ns name ss = refl

at_record : (m : ℕ) (u : Bool) (names : List (List ℕ)) (ns name : List ℕ) (fs : Fields)
    → reader true (suc m) u names ns (json_of (record_ name fs)) ≡ next (new_name names (content name)) (λ x. next (fields_read (reader true m) (names ++ (x ∷ [])) (namespace_of x) [] (fields_json fs)) (λ r. reads (record_ x r.value) r.names))
unfolding reader object_by_word defined_name content_behind
at_record m u names ns name fs = refl

at_field : (below : Reader) (names : List (List ℕ)) (ns : List ℕ) (seen : List (List ℕ)) (name : List ℕ) (t : AvroType)
    → field_read below names ns seen (object (named_text name (member (codes "type") (json_of t) no_members))) ≡ next (part_name seen (Some (text name))) (λ x. next (below false names ns (json_of t)) (λ r. Ok (record { value = record { name = x; type = r.value }; names = r.names })))
unfolding content_behind
at_field below names ns seen name t = refl

-- ---- and so it reads again

new_again : (names : List (List ℕ)) (name : List ℕ) → IsNew names name → new_name names (content name) ≡ Ok name
new_again names name n =
    ap (λ x. new_name names x) (plain_content name (definable_plain name n.good)) ∙ ap (λ t. cond t (Err Redefined) (cond (is_definable name) (Ok name) (Err BadName))) n.new ∙ ap (λ t. cond t (Ok name) (Err BadName)) n.good

part_again : (seen : List (List ℕ)) (name : List ℕ) → is_part name ≡ true → is_among name seen ≡ false → part_name seen (Some (text name)) ≡ Ok name
part_again seen name good new =
    ap (λ x. cond (is_part x) (cond (is_among x seen) (Err BadType) (Ok x)) (Err BadName)) (plain_content name (part_plain name good))
    ∙ ap (λ t. cond t (cond (is_among name seen) (Err BadType) (Ok name)) (Err BadName)) good ∙ ap (λ t. cond t (Err BadType) (Ok name)) new

symbols_again : (seen ss : List (List ℕ)) → GoodSymbols seen ss → symbols_read seen (symbols_json ss) ≡ Ok ss
symbols_again seen [] g = refl
symbols_again seen (s ∷ ss) g =
    next_ok (part_name seen (Some (text s))) s (λ name. next (symbols_read (seen ++ (name ∷ [])) (symbols_json ss)) (λ rest. Ok (name ∷ rest))) (part_again seen s g.0 g.1)
    ∙ ap (λ o. next o (λ rest. Ok (s ∷ rest))) (symbols_again (seen ++ (s ∷ [])) ss g.2)

names_along : (t : AvroType) (names now : List (List ℕ)) → now ≡ names → reads t names ≡ Ok (record { value = t; names = now })
names_along t names now e = ap (λ ns. reads t ns) (sym e)

level : (n m : ℕ) (u : Bool) (names : List (List ℕ)) (ns : List ℕ) (j : Json) (o : Outcome AvroType) → n ≡ suc m → reader true (suc m) u names ns j ≡ o → reader true n u names ns j ≡ o
level n m u names ns j o e h = ap (λ k. reader true k u names ns j) e ∙ h

mutual
  pub again : (n : ℕ) (u : Bool) (names : List (List ℕ)) (ns : List ℕ) (t : AvroType) (now : List (List ℕ)) → Good n u names t now → reader true n u names ns (json_of t) ≡ Ok (record { value = t; names = now })
  again n u names ns null now g = primitive_again n u names ns (codes "null") null (plain_content (codes "null") refl) (at_null names ns) ∙ names_along null names now g
  again n u names ns boolean now g = primitive_again n u names ns (codes "boolean") boolean (plain_content (codes "boolean") refl) (at_boolean names ns) ∙ names_along boolean names now g
  again n u names ns int now g = primitive_again n u names ns (codes "int") int (plain_content (codes "int") refl) (at_int names ns) ∙ names_along int names now g
  again n u names ns long now g = primitive_again n u names ns (codes "long") long (plain_content (codes "long") refl) (at_long names ns) ∙ names_along long names now g
  again n u names ns bytes now g = primitive_again n u names ns (codes "bytes") bytes (plain_content (codes "bytes") refl) (at_bytes names ns) ∙ names_along bytes names now g
  again n u names ns string now g = primitive_again n u names ns (codes "string") string (plain_content (codes "string") refl) (at_string names ns) ∙ names_along string names now g
  again n u names ns (array t) now g =
      level n g.0 u names ns (json_of (array t)) _ g.1 (at_array g.0 u names ns t ∙ ap (λ o. next o (λ (x : Read AvroType). reads (array x.value) x.names)) (again g.0 false names ns t now g.2))
  again n u names ns (map t) now g =
      level n g.0 u names ns (json_of (map t)) _ g.1 (at_map g.0 u names ns t ∙ ap (λ o. next o (λ (x : Read AvroType). reads (map x.value) x.names)) (again g.0 false names ns t now g.2))
  again n u names ns (union bs) now g =
      ap (λ b. reader true n b names ns (json_of (union bs))) g.2
      ∙ level n g.0 false names ns (json_of (union bs)) _ g.1 (at_union g.0 names ns bs ∙ ap (λ o. next o (λ (x : Read Branches). reads (union x.value) x.names)) (branches_again g.0 names ns [] bs now g.3))
  again n u names ns (fixed name size) now g =
      level n g.0 u names ns (json_of (fixed name size)) _ g.1
      (at_fixed g.0 u names ns name size ∙ next_ok (new_name names (content name)) name (λ x. next (digits_size (decimal size)) (λ k. reads (fixed x k) (names ++ (x ∷ [])))) (new_again names name g.2)
      ∙ ap (λ o. next o (λ k. reads (fixed name k) (names ++ (name ∷ [])))) (size_again size g.3) ∙ names_along (fixed name size) (names ++ (name ∷ [])) now g.4)
  again n u names ns (enum_ name ss) now g =
      level n g.0 u names ns (json_of (enum_ name ss)) _ g.1
      (at_enum g.0 u names ns name ss ∙ next_ok (new_name names (content name)) name (λ x. next (symbols_read [] (symbols_json ss)) (λ k. reads (enum_ x k) (names ++ (x ∷ [])))) (new_again names name g.2)
      ∙ ap (λ o. next o (λ k. reads (enum_ name k) (names ++ (name ∷ [])))) (symbols_again [] ss g.3) ∙ names_along (enum_ name ss) (names ++ (name ∷ [])) now g.4)
  again n u names ns (record_ name fs) now g =
      level n g.0 u names ns (json_of (record_ name fs)) _ g.1
      (at_record g.0 u names ns name fs
      ∙ next_ok (new_name names (content name)) name (λ x. next (fields_read (reader true g.0) (names ++ (x ∷ [])) (namespace_of x) [] (fields_json fs)) (λ (r : Read Fields). reads (record_ x r.value) r.names)) (new_again names name g.2)
      ∙ ap (λ o. next o (λ (r : Read Fields). reads (record_ name r.value) r.names)) (fields_again g.0 (names ++ (name ∷ [])) (namespace_of name) [] fs now g.3))
  again n u names ns (named name) now g =
      primitive_again n u names ns name (named name) (plain_content name (definable_plain name g.1)) (known_again names ns name g.0 g.1) ∙ names_along (named name) names now g.2

  pub branches_again : (m : ℕ) (names : List (List ℕ)) (ns : List ℕ) (seen : List (List ℕ)) (bs : Branches) (now : List (List ℕ)) → GoodBranches m names seen bs now
      → branches_read (reader true m) names ns seen (branches_json bs) ≡ Ok (record { value = bs; names = now })
  branches_again m names ns seen no_branches now g = ap (λ x. Ok (record { value = no_branches; names = x })) (sym g)
  branches_again m names ns seen (branch t bs) now g =
      let rest : Read AvroType → Outcome Branches = λ x. next (branches_read (reader true m) x.names ns (seen ++ (branch_name x.value ∷ [])) (branches_json bs)) (λ r. Ok (record { value = branch x.value r.value; names = r.names })) in
      let one : branch_read (reader true m) names ns seen (json_of t) ≡ Ok (record { value = t; names = g.0 }) =
      next_ok (reader true m true names ns (json_of t)) (record { value = t; names = g.0 }) (λ x. cond (is_among (branch_name x.value) seen) (Err BadType) (Ok x)) (again m true names ns t g.0 g.1)
      ∙ ap (λ b. cond b (Err BadType) (Ok (record { value = t; names = g.0 }))) g.2 in
      next_ok (branch_read (reader true m) names ns seen (json_of t)) (record { value = t; names = g.0 }) rest one
      ∙ ap (λ o. next o (λ (r : Read Branches). Ok (record { value = branch t r.value; names = r.names }))) (branches_again m g.0 ns (seen ++ (branch_name t ∷ [])) bs now g.3)

  pub fields_again : (m : ℕ) (names : List (List ℕ)) (ns : List ℕ) (seen : List (List ℕ)) (fs : Fields) (now : List (List ℕ)) → GoodFields m names seen fs now
      → fields_read (reader true m) names ns seen (fields_json fs) ≡ Ok (record { value = fs; names = now })
  fields_again m names ns seen no_fields now g = ap (λ x. Ok (record { value = no_fields; names = x })) (sym g)
  fields_again m names ns seen (field name t fs) now g =
      let f : FieldType = record { name = name; type = t } in
      let rest : Read FieldType → Outcome Fields = λ x. next (fields_read (reader true m) x.names ns (seen ++ (x.value.name ∷ [])) (fields_json fs)) (λ r. Ok (record { value = field x.value.name x.value.type r.value; names = r.names })) in
      let typed : List ℕ → Outcome FieldType = λ x. next (reader true m false names ns (json_of t)) (λ r. Ok (record { value = record { name = x; type = r.value }; names = r.names })) in
      let one : field_read (reader true m) names ns seen (object (named_text name (member (codes "type") (json_of t) no_members))) ≡ Ok (record { value = f; names = g.0 }) =
      at_field (reader true m) names ns seen name t ∙ next_ok (part_name seen (Some (text name))) name typed (part_again seen name g.1 g.2)
      ∙ ap (λ o. next o (λ (r : Read AvroType). Ok (record { value = record { name = name; type = r.value }; names = r.names }))) (again m false names ns t g.0 g.3) in
      next_ok (field_read (reader true m) names ns seen (object (named_text name (member (codes "type") (json_of t) no_members)))) (record { value = f; names = g.0 }) rest one
      ∙ ap (λ o. next o (λ (r : Read Fields). Ok (record { value = field name t r.value; names = r.names }))) (fields_again m g.0 ns (seen ++ (name ∷ [])) fs now g.4)
