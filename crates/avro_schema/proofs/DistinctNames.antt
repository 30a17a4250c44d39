-- From the names of a schema to those of what its names stand for.
use Rattle.std.proofs.Common.{ℕ, List, [], ◌∷◌, ◌++◌, Bool, true, false, cond}
use Rattle.std.specs.Str.{bytes_eq}
use Rattle.avro_schema.specs.Types.{AvroType, Branches, Fields, Defined, null, boolean, int, long, bytes, string, array, map, union, fixed, enum_, record_, named, no_branches, branch, no_fields, field, definitions, branch_definitions, field_definitions, definition_or, resolved}
use Rattle.avro_schema.specs.Distinct.{HasNames, BranchesHaveNames, FieldsHaveNames}

abbrev EachHasNames : List Defined → Type 0
EachHasNames [] = Unit {0}
EachHasNames (d ∷ ds) = HasNames d.type × EachHasNames ds

both_have : (xs ys : List Defined) → EachHasNames xs → EachHasNames ys → EachHasNames (xs ++ ys)
both_have [] ys h k = k
both_have (x ∷ xs) ys h k = (h.0, both_have xs ys h.1 k)

mutual
  definitions_have : (t : AvroType) → HasNames t → EachHasNames (definitions t)
  definitions_have null h = tt
  definitions_have boolean h = tt
  definitions_have int h = tt
  definitions_have long h = tt
  definitions_have bytes h = tt
  definitions_have string h = tt
  definitions_have (array t) h = definitions_have t h
  definitions_have (map t) h = definitions_have t h
  definitions_have (union bs) h = branches_have bs h.1
  definitions_have (fixed name size) h = (tt, tt)
  definitions_have (enum_ name symbols) h = (h, tt)
  definitions_have (record_ name fs) h = (h, fields_have fs h.1)
  definitions_have (named name) h = tt

  branches_have : (bs : Branches) → BranchesHaveNames bs → EachHasNames (branch_definitions bs)
  branches_have no_branches h = tt
  branches_have (branch t bs) h = both_have (definitions t) (branch_definitions bs) (definitions_have t h.0) (branches_have bs h.1)

  fields_have : (fs : Fields) → FieldsHaveNames fs → EachHasNames (field_definitions fs)
  fields_have no_fields h = tt
  fields_have (field name t fs) h = both_have (definitions t) (field_definitions fs) (definitions_have t h.0) (fields_have fs h.1)

either_has : (test : Bool) (t u : AvroType) → HasNames t → HasNames u → HasNames (cond test t u)
either_has true t u h k = h
either_has false t u h k = k

definition_has : (t : AvroType) (name : List ℕ) (ds : List Defined) → HasNames t → EachHasNames ds → HasNames (definition_or t name ds)
definition_has t name [] h k = h
definition_has t name (d ∷ ds) h k = either_has (bytes_eq d.name name) d.type (definition_or t name ds) k.0 (definition_has t name ds h k.1)

-- a type of the schema stands for one whose names are distinct too
pub resolved_has_names : (whole t : AvroType) → HasNames whole → HasNames t → HasNames (resolved whole t)
resolved_has_names whole null w h = tt
resolved_has_names whole boolean w h = tt
resolved_has_names whole int w h = tt
resolved_has_names whole long w h = tt
resolved_has_names whole bytes w h = tt
resolved_has_names whole string w h = tt
resolved_has_names whole (array t) w h = h
resolved_has_names whole (map t) w h = h
resolved_has_names whole (union bs) w h = h
resolved_has_names whole (fixed name size) w h = tt
resolved_has_names whole (enum_ name symbols) w h = h
resolved_has_names whole (record_ name fs) w h = h
resolved_has_names whole (named name) w h = definition_has (named name) name (definitions whole) tt (definitions_have whole w)
