-- A schema as a finite tree (Apache Avro 1.11 specification, "Schema Declaration"): a type that was defined before stands
-- as its fullname.
use Rattle.std.specs.Prelude.{ℕ, List, [], ◌∷◌, ◌++◌, cond, codes, bytes_eq}

mutual
  pub data AvroType : Type 0 where
    null : AvroType
    boolean : AvroType
    int : AvroType
    long : AvroType
    bytes : AvroType
    string : AvroType
    array : AvroType → AvroType
    map : AvroType → AvroType
    union : Branches → AvroType
    -- a fullname and a size
    fixed : List ℕ → ℕ → AvroType
    -- a fullname and the symbols
    enum_ : List ℕ → List (List ℕ) → AvroType
    -- a fullname and the fields
    record_ : List ℕ → Fields → AvroType
    -- the fullname of a type that was defined before
    named : List ℕ → AvroType

  pub data Branches : Type 0 where
    no_branches : Branches
    branch : AvroType → Branches → Branches

  -- each field has a name and a type
  pub data Fields : Type 0 where
    no_fields : Fields
    field : List ℕ → AvroType → Fields → Fields

-- a fullname and the type that it stands for
pub record Defined : Type 0 where
  pub name : List ℕ
  pub type : AvroType

-- the types that a schema defines, in reading order
abbrev mutual
  pub definitions : AvroType → List Defined
  definitions null = []
  definitions boolean = []
  definitions int = []
  definitions long = []
  definitions bytes = []
  definitions string = []
  definitions (array t) = definitions t
  definitions (map t) = definitions t
  definitions (union bs) = branch_definitions bs
  definitions (fixed name size) = record { name = name; type = fixed name size } ∷ []
  definitions (enum_ name symbols) = record { name = name; type = enum_ name symbols } ∷ []
  definitions (record_ name fs) = record { name = name; type = record_ name fs } ∷ field_definitions fs
  definitions (named name) = []

  pub branch_definitions : Branches → List Defined
  branch_definitions no_branches = []
  branch_definitions (branch t bs) = definitions t ++ branch_definitions bs

  pub field_definitions : Fields → List Defined
  field_definitions no_fields = []
  field_definitions (field name t fs) = definitions t ++ field_definitions fs

-- the type that was defined by this fullname, or else this one
abbrev pub definition_or : AvroType → List ℕ → List Defined → AvroType
definition_or t name [] = t
definition_or t name (d ∷ ds) = cond (bytes_eq d.name name) d.type (definition_or t name ds)

-- the type that a type of the schema stands for: itself, or the one that was defined by its name
abbrev pub resolved : AvroType → AvroType → AvroType
resolved whole (named name) = definition_or (named name) name (definitions whole)
resolved whole t = t

-- the name of a union's branch in Avro's JSON encoding
abbrev pub branch_name : AvroType → List ℕ
branch_name null = codes "null"
branch_name boolean = codes "boolean"
branch_name int = codes "int"
branch_name long = codes "long"
branch_name bytes = codes "bytes"
branch_name string = codes "string"
branch_name (array t) = codes "array"
branch_name (map t) = codes "map"
branch_name (union bs) = codes "union"
branch_name (fixed name size) = name
branch_name (enum_ name symbols) = name
branch_name (record_ name fs) = name
branch_name (named name) = name
