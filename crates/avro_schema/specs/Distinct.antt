-- The names that differ in a schema: those of a union's branches, an enum's symbols and a record's fields (Apache Avro 1.11
-- specification, "Complex Types").
use Rattle.std.specs.Prelude.{◌≡◌, ℕ, List, [], ◌∷◌, true, false, ⊤}
use Rattle.std.specs.Str.{is_utf8}
use Rattle.avro_schema.specs.Types.{AvroType, Branches, Fields, null, boolean, int, long, bytes, string, array, map, union, fixed, enum_, record_, named, no_branches, branch, no_fields, field, branch_name}
use Rattle.avro_names.specs.NameList.{is_among}

-- the names of a union's branches
abbrev pub branch_names : Branches → List (List ℕ)
branch_names no_branches = []
branch_names (branch t bs) = branch_name t ∷ branch_names bs

-- the names of a record's fields
abbrev pub field_names : Fields → List (List ℕ)
field_names no_fields = []
field_names (field name t fs) = name ∷ field_names fs

-- each name is UTF-8, and none is there twice
abbrev pub AreDistinct : List (List ℕ) → Type 0
AreDistinct [] = ⊤
AreDistinct (n ∷ ns) = (is_utf8 n ≡ true) × (is_among n ns ≡ false) × AreDistinct ns

-- in each union, enum and record of the type the names are distinct
abbrev mutual
  pub HasNames : AvroType → Type 0
  HasNames null = ⊤
  HasNames boolean = ⊤
  HasNames int = ⊤
  HasNames long = ⊤
  HasNames bytes = ⊤
  HasNames string = ⊤
  HasNames (array t) = HasNames t
  HasNames (map t) = HasNames t
  HasNames (union bs) = AreDistinct (branch_names bs) × BranchesHaveNames bs
  HasNames (fixed name size) = ⊤
  HasNames (enum_ name symbols) = AreDistinct symbols
  HasNames (record_ name fs) = AreDistinct (field_names fs) × FieldsHaveNames fs
  HasNames (named name) = ⊤

  pub BranchesHaveNames : Branches → Type 0
  BranchesHaveNames no_branches = ⊤
  BranchesHaveNames (branch t bs) = HasNames t × BranchesHaveNames bs

  pub FieldsHaveNames : Fields → Type 0
  FieldsHaveNames no_fields = ⊤
  FieldsHaveNames (field name t fs) = HasNames t × FieldsHaveNames fs
