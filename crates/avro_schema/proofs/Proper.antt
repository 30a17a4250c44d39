-- Reading a value never answers that a text is no JSON.
use Rattle.std.proofs.Common.{◌≡◌, ℕ, zero, suc, List, [], ◌∷◌, ◌++◌, length, Bool, true, false, cond, ◌||◌, ◌&&◌, Option, Some, None, Result, Ok, Err, ap}
use Rattle.std.specs.Prelude.{codes, nat_le}
use Rattle.std.specs.Str.{bytes_eq}
use Rattle.json_span.specs.Json.{Json, Items, Members, null, boolean, number, text, array, object, no_items, item}
use Rattle.json_token.specs.Chars.{content}
use Rattle.json_token.specs.Integer.{decimal}
use Rattle.avro_schema.specs.Types as types
use Rattle.avro_schema.specs.Types.{AvroType, Fields, Branches, branch, field, branch_name}
use Rattle.avro_schema.specs.Canonical.{canonical_form}
use Rattle.avro_names.specs.Names.{is_part, is_float, is_definable, has_dot, namespace_of}
use Rattle.avro_schema.specs.Reading.{Outcome, Reader, reads, known, type_by_name, are_digits, digits_size, size_of, part_type, field_read, fields_read, fields_of, branch_read, branches_read, union_read, object_by_word, object_read, one_level, no_level, reader, short_enough, schema_of}
use Rattle.avro_names.specs.Outcomes.{next}
use Rattle.avro_names.specs.NameList.{is_among}
use Rattle.avro_names.specs.MemberNames.{full_name, name_in, given_name, new_name, defined_name, part_name, symbols_read, symbols_of}
use Rattle.json_span.specs.Parts.{last_member}
use Rattle.avro_names.specs.declared.error.SchemaNo.{SchemaNo}
use Rattle.avro_names.specs.declared.error.SchemaNo.TheVariants.{NotJson, BadType, UnknownName, Redefined, BadName, Float, TooLong}

abbrev pub IsProper : {T : Type 0} → Result T SchemaNo → Type 0
IsProper o = o ≡ Err NotJson → ⊥

next_proper : {S T : Type 0} (r : Result S SchemaNo) (f : S → Result T SchemaNo) → IsProper r → ((x : S) → IsProper (f x)) → IsProper (next r f)
next_proper (Ok x) f r p = p x
next_proper (Err e) f r p = λ h. r (let same : e ≡ NotJson = cc in ap (λ x. Err x) same)

cond_proper : {T : Type 0} (t : Bool) (a b : Result T SchemaNo) → IsProper a → IsProper b → IsProper (cond t a b)
cond_proper true a b p q = p
cond_proper false a b p q = q

ok_proper : {T : Type 0} (x : T) → IsProper (Ok x)
ok_proper x = λ h. cc

err_proper : {T : Type 0} (e : SchemaNo) → (e ≡ NotJson → ⊥) → IsProper {T = T} (Err e)
err_proper e p = λ h. p cc

reads_or : (t : Bool) (u : AvroType) (names : List (List ℕ)) (o : Outcome AvroType) → IsProper o → IsProper (cond t (reads u names) o)
reads_or t u names o p = cond_proper t (reads u names) o (ok_proper (record { value = u; names = names })) p

name_proper : (canonical : Bool) (names : List (List ℕ)) (namespace name : List ℕ) → IsProper (type_by_name canonical names namespace name)
unfolding type_by_name
name_proper canonical names namespace name =
    let full = full_name canonical namespace name in
    let a = reads_or (is_among full names) (types.named full) names (Err UnknownName) (err_proper UnknownName (λ h. cc)) in
    let b = cond_proper (is_float name) (Err Float) (known names full) (err_proper Float (λ h. cc)) a in
    let c = reads_or (bytes_eq name (codes "string")) types.string names _ b in
    let d = reads_or (bytes_eq name (codes "bytes")) types.bytes names _ c in
    let e = reads_or (bytes_eq name (codes "long")) types.long names _ d in
    let f = reads_or (bytes_eq name (codes "int")) types.int names _ e in
    let g = reads_or (bytes_eq name (codes "boolean")) types.boolean names _ f in
    reads_or (bytes_eq name (codes "null")) types.null names _ g

name_in_proper : (enclosing name : List ℕ) (o : Option Json) → IsProper (name_in enclosing name o)
name_in_proper enclosing name None = ok_proper _
name_in_proper enclosing name (Some null) = λ h. cc
name_in_proper enclosing name (Some (boolean b)) = λ h. cc
name_in_proper enclosing name (Some (number s)) = λ h. cc
name_in_proper enclosing name (Some (text s)) = ok_proper _
name_in_proper enclosing name (Some (array js)) = λ h. cc
name_in_proper enclosing name (Some (object ms)) = λ h. cc

given_proper : (canonical : Bool) (enclosing : List ℕ) (o n : Option Json) → IsProper (given_name canonical enclosing o n)
given_proper canonical enclosing None n = λ h. cc
given_proper canonical enclosing (Some null) n = λ h. cc
given_proper canonical enclosing (Some (boolean b)) n = λ h. cc
given_proper canonical enclosing (Some (number s)) n = λ h. cc
given_proper canonical enclosing (Some (text s)) n = cond_proper (canonical || has_dot (content s)) (Ok (content s)) (name_in enclosing (content s) n) (ok_proper _) (name_in_proper enclosing (content s) n)
given_proper canonical enclosing (Some (array js)) n = λ h. cc
given_proper canonical enclosing (Some (object ms)) n = λ h. cc

defined_proper : (canonical : Bool) (names : List (List ℕ)) (enclosing : List ℕ) (ms : Members) → IsProper (defined_name canonical names enclosing ms)
unfolding defined_name
defined_proper canonical names enclosing ms =
    next_proper (given_name canonical enclosing (last_member (codes "name") ms) (last_member (codes "namespace") ms)) (new_name names) (given_proper canonical enclosing (last_member (codes "name") ms) (last_member (codes "namespace") ms))
    (λ name. cond_proper (is_among name names) (Err Redefined) (cond (is_definable name) (Ok name) (Err BadName)) (λ h. cc) (cond_proper (is_definable name) (Ok name) (Err BadName) (ok_proper _) (λ h. cc)))

part_proper : (seen : List (List ℕ)) (o : Option Json) → IsProper (part_name seen o)
part_proper seen None = λ h. cc
part_proper seen (Some null) = λ h. cc
part_proper seen (Some (boolean b)) = λ h. cc
part_proper seen (Some (number s)) = λ h. cc
part_proper seen (Some (text s)) = cond_proper (is_part (content s)) (cond (is_among (content s) seen) (Err BadType) (Ok (content s))) (Err BadName) (cond_proper (is_among (content s) seen) (Err BadType) (Ok (content s)) (λ h. cc) (ok_proper _)) (λ h. cc)
part_proper seen (Some (array js)) = λ h. cc
part_proper seen (Some (object ms)) = λ h. cc

symbols_proper : (seen : List (List ℕ)) (js : Items) → IsProper (symbols_read seen js)
symbols_proper seen no_items = ok_proper _
symbols_proper seen (item j js) =
    next_proper (part_name seen (Some j)) (λ name. next (symbols_read (seen ++ (name ∷ [])) js) (λ rest. Ok (name ∷ rest))) (part_proper seen (Some j))
    (λ name. next_proper (symbols_read (seen ++ (name ∷ [])) js) (λ rest. Ok (name ∷ rest)) (symbols_proper (seen ++ (name ∷ [])) js) (λ rest. ok_proper _))

symbols_of_proper : (o : Option Json) → IsProper (symbols_of o)
symbols_of_proper None = λ h. cc
symbols_of_proper (Some null) = λ h. cc
symbols_of_proper (Some (boolean b)) = λ h. cc
symbols_of_proper (Some (number s)) = λ h. cc
symbols_of_proper (Some (text s)) = λ h. cc
symbols_of_proper (Some (array js)) = symbols_proper [] js
symbols_of_proper (Some (object ms)) = λ h. cc

digits_proper : (s : List ℕ) → IsProper (digits_size s)
digits_proper [] = λ h. cc
digits_proper (b ∷ bs) = cond_proper (are_digits (b ∷ bs) && nat_le (decimal (b ∷ bs)) 1048576) (Ok (decimal (b ∷ bs))) (Err BadType) (ok_proper _) (λ h. cc)

size_proper : (o : Option Json) → IsProper (size_of o)
size_proper None = λ h. cc
size_proper (Some null) = λ h. cc
size_proper (Some (boolean b)) = λ h. cc
size_proper (Some (number s)) = digits_proper s
size_proper (Some (text s)) = digits_proper (content s)
size_proper (Some (array js)) = λ h. cc
size_proper (Some (object ms)) = λ h. cc

module _ (canonical : Bool) (below : Reader) (proper : (u : Bool) (names : List (List ℕ)) (namespace : List ℕ) (j : Json) → IsProper (below u names namespace j)) where
  part_type_proper : (names : List (List ℕ)) (namespace : List ℕ) (o : Option Json) → IsProper (part_type below names namespace o)
  part_type_proper names namespace None = λ h. cc
  part_type_proper names namespace (Some j) = proper false names namespace j

  field_proper : (names : List (List ℕ)) (namespace : List ℕ) (seen : List (List ℕ)) (j : Json) → IsProper (field_read below names namespace seen j)
  field_proper names namespace seen null = λ h. cc
  field_proper names namespace seen (boolean b) = λ h. cc
  field_proper names namespace seen (number s) = λ h. cc
  field_proper names namespace seen (text s) = λ h. cc
  field_proper names namespace seen (array js) = λ h. cc
  field_proper names namespace seen (object ms) =
      next_proper (part_name seen (last_member (codes "name") ms)) _ (part_proper seen (last_member (codes "name") ms))
      (λ name. next_proper (part_type below names namespace (last_member (codes "type") ms)) _ (part_type_proper names namespace (last_member (codes "type") ms)) (λ t. ok_proper _))

  fields_proper : (names : List (List ℕ)) (namespace : List ℕ) (seen : List (List ℕ)) (js : Items) → IsProper (fields_read below names namespace seen js)
  fields_proper names namespace seen no_items = ok_proper _
  fields_proper names namespace seen (item j js) =
      next_proper (field_read below names namespace seen j) _ (field_proper names namespace seen j)
      (λ f. next_proper (fields_read below f.names namespace (seen ++ (f.value.name ∷ [])) js) _ (fields_proper f.names namespace (seen ++ (f.value.name ∷ [])) js) (λ r. ok_proper _))

  fields_of_proper : (names : List (List ℕ)) (namespace : List ℕ) (o : Option Json) → IsProper (fields_of below names namespace o)
  fields_of_proper names namespace None = λ h. cc
  fields_of_proper names namespace (Some null) = λ h. cc
  fields_of_proper names namespace (Some (boolean b)) = λ h. cc
  fields_of_proper names namespace (Some (number s)) = λ h. cc
  fields_of_proper names namespace (Some (text s)) = λ h. cc
  fields_of_proper names namespace (Some (array js)) = fields_proper names namespace [] js
  fields_of_proper names namespace (Some (object ms)) = λ h. cc

  branches_proper : (names : List (List ℕ)) (namespace : List ℕ) (seen : List (List ℕ)) (js : Items) → IsProper (branches_read below names namespace seen js)
  branches_proper names namespace seen no_items = ok_proper _
  branches_proper names namespace seen (item j js) =
      next_proper (branch_read below names namespace seen j) _
      (next_proper (below true names namespace j) _ (proper true names namespace j) (λ t. cond_proper (is_among (branch_name t.value) seen) (Err BadType) (Ok t) (λ h. cc) (ok_proper t)))
      (λ t. next_proper (branches_read below t.names namespace (seen ++ (branch_name t.value ∷ [])) js) _ (branches_proper t.names namespace (seen ++ (branch_name t.value ∷ [])) js) (λ r. ok_proper _))

  word_proper : (names : List (List ℕ)) (namespace : List ℕ) (ms : Members) (word : List ℕ) → IsProper (object_by_word canonical below names namespace ms word)
  unfolding object_by_word
  word_proper names namespace ms word =
      cond_proper (bytes_eq word (codes "record")) _ _
      (next_proper (defined_name canonical names namespace ms) _ (defined_proper canonical names namespace ms)
      (λ name. next_proper (fields_of below (names ++ (name ∷ [])) (namespace_of name) (last_member (codes "fields") ms)) _ (fields_of_proper (names ++ (name ∷ [])) (namespace_of name) (last_member (codes "fields") ms)) (λ fs. ok_proper _)))
      (cond_proper (bytes_eq word (codes "enum")) _ _
      (next_proper (defined_name canonical names namespace ms) _ (defined_proper canonical names namespace ms)
      (λ name. next_proper (symbols_of (last_member (codes "symbols") ms)) _ (symbols_of_proper (last_member (codes "symbols") ms)) (λ ss. ok_proper _)))
      (cond_proper (bytes_eq word (codes "array")) _ _
      (next_proper (part_type below names namespace (last_member (codes "items") ms)) _ (part_type_proper names namespace (last_member (codes "items") ms)) (λ t. ok_proper _))
      (cond_proper (bytes_eq word (codes "map")) _ _
      (next_proper (part_type below names namespace (last_member (codes "values") ms)) _ (part_type_proper names namespace (last_member (codes "values") ms)) (λ t. ok_proper _))
      (cond_proper (bytes_eq word (codes "fixed")) _ _
      (next_proper (defined_name canonical names namespace ms) _ (defined_proper canonical names namespace ms)
      (λ name. next_proper (size_of (last_member (codes "size") ms)) _ (size_proper (last_member (codes "size") ms)) (λ s. ok_proper _)))
      (name_proper canonical names namespace word)))))

  object_proper : (u : Bool) (names : List (List ℕ)) (namespace : List ℕ) (ms : Members) (o : Option Json) → IsProper (object_read canonical below u names namespace ms o)
  object_proper u names namespace ms None = λ h. cc
  object_proper u names namespace ms (Some null) = proper u names namespace null
  object_proper u names namespace ms (Some (boolean b)) = proper u names namespace (boolean b)
  object_proper u names namespace ms (Some (number s)) = proper u names namespace (number s)
  object_proper u names namespace ms (Some (text s)) = word_proper names namespace ms (content s)
  object_proper u names namespace ms (Some (array js)) = proper u names namespace (array js)
  object_proper u names namespace ms (Some (object xs)) = proper u names namespace (object xs)

  level_proper : (u : Bool) (names : List (List ℕ)) (namespace : List ℕ) (j : Json) → IsProper (one_level canonical below u names namespace j)
  level_proper u names namespace null = λ h. cc
  level_proper u names namespace (boolean b) = λ h. cc
  level_proper u names namespace (number s) = λ h. cc
  level_proper u names namespace (text s) = name_proper canonical names namespace (content s)
  level_proper u names namespace (array js) =
      cond_proper u (Err BadType) (union_read below names namespace js) (λ h. cc) (next_proper (branches_read below names namespace [] js) _ (branches_proper names namespace [] js) (λ bs. ok_proper _))
  level_proper u names namespace (object ms) = object_proper u names namespace ms (last_member (codes "type") ms)

no_level_proper : (canonical u : Bool) (names : List (List ℕ)) (namespace : List ℕ) (j : Json) → IsProper (no_level canonical u names namespace j)
no_level_proper canonical u names namespace null = λ h. cc
no_level_proper canonical u names namespace (boolean b) = λ h. cc
no_level_proper canonical u names namespace (number s) = λ h. cc
no_level_proper canonical u names namespace (text s) = name_proper canonical names namespace (content s)
no_level_proper canonical true names namespace (array js) = λ h. cc
no_level_proper canonical false names namespace (array js) = λ h. cc
no_level_proper canonical u names namespace (object ms) = λ h. cc

reader_proper : (canonical : Bool) (levels : ℕ) (u : Bool) (names : List (List ℕ)) (namespace : List ℕ) (j : Json) → IsProper (reader canonical levels u names namespace j)
unfolding reader
reader_proper canonical zero u names namespace j = no_level_proper canonical u names namespace j
reader_proper canonical (suc levels) u names namespace j = level_proper canonical (reader canonical levels) (reader_proper canonical levels) u names namespace j

pub schema_proper : (canonical : Bool) (j : Json) → IsProper (schema_of canonical j)
unfolding schema_of
schema_proper canonical j = next_proper (reader canonical 64 false [] [] j) (λ t. short_enough t.value) (reader_proper canonical 64 false [] [] j) (λ t. cond_proper (nat_le (length (canonical_form t.value)) 65536) (Ok t.value) (Err TooLong) (ok_proper t.value) (err_proper TooLong (λ h. cc)))
