-- What the nodes of a schema stand for.
use Rattle.std.specs.Prelude.{◌≡◌, ℕ, List, [], ◌∷◌, slice_get, Some, ⊤}
use Rattle.avro_schema.specs.Types.{AvroType, Branches, Fields, null, boolean, int, long, bytes, string, array, map, union, fixed, enum_, record_, named, no_branches, branch, no_fields, field, resolved}
use Rattle.avro_schema.specs.Forms.{type_at, types_of}
use Rattle.avro_schema.specs.declared.parts.Form.{Form}
use Rattle.avro_schema.specs.declared.parts.Field.{Field}
use Rattle.avro_schema.specs.declared.schema.Kind.{Kind}
use Rattle.avro_schema.specs.declared.schema.Kind.TheVariants as kinds

-- what contracts see of a schema: its nodes, each of which stands for a type, and the node of the whole
pub record SchemaValue : Type 0 where
  pub nodes : List Form
  pub root : ℕ

-- the schema tree
abbrev pub tree_of : SchemaValue → AvroType
tree_of s = type_at (types_of s.nodes) s.root

-- the node stands for the type, which may be a reference
abbrev pub Stands : SchemaValue → ℕ → AvroType → Type 0
Stands s node t = slice_get (types_of s.nodes) node ≡ Some t

-- the schema has the node
abbrev pub HasNode : SchemaValue → ℕ → Type 0
HasNode s node = (t : AvroType) × Stands s node t

-- the node stands for this type, or for a reference to it
abbrev pub Resolves : SchemaValue → ℕ → AvroType → Type 0
Resolves s node u = (t : AvroType) × Stands s node t × (resolved (tree_of s) t ≡ u)

-- these nodes stand for the branches, in order
abbrev pub StandForBranches : SchemaValue → List ℕ → Branches → Type 0
StandForBranches s [] no_branches = ⊤
StandForBranches s [] (branch t bs) = ⊥
StandForBranches s (k ∷ ks) no_branches = ⊥
StandForBranches s (k ∷ ks) (branch t bs) = Stands s k t × StandForBranches s ks bs

-- these fields have the names, and their nodes stand for the types, in order
abbrev pub StandForFields : SchemaValue → List Field → Fields → Type 0
StandForFields s [] no_fields = ⊤
StandForFields s [] (field name t fs) = ⊥
StandForFields s (v ∷ vs) no_fields = ⊥
StandForFields s (v ∷ vs) (field name t fs) = (v.name ≡ name) × Stands s v.node t × StandForFields s vs fs

-- what a type is that is no reference
abbrev pub IsKindOf : SchemaValue → AvroType → Kind → Type 0
IsKindOf s null kind = kind ≡ kinds.Null
IsKindOf s boolean kind = kind ≡ kinds.Boolean
IsKindOf s int kind = kind ≡ kinds.Int
IsKindOf s long kind = kind ≡ kinds.Long
IsKindOf s bytes kind = kind ≡ kinds.Bytes
IsKindOf s string kind = kind ≡ kinds.Text
IsKindOf s (array t) kind = (k : ℕ) × (kind ≡ kinds.Array k) × Stands s k t
IsKindOf s (map t) kind = (k : ℕ) × (kind ≡ kinds.Map k) × Stands s k t
IsKindOf s (union bs) kind = kind ≡ kinds.Union
IsKindOf s (fixed name size) kind = kind ≡ kinds.Fixed size
IsKindOf s (enum_ name symbols) kind = kind ≡ kinds.Enum
IsKindOf s (record_ name fs) kind = kind ≡ kinds.Record
IsKindOf s (named name) kind = ⊥

-- the node resolves to a type of that kind
abbrev pub IsOfKind : SchemaValue → ℕ → Kind → Type 0
IsOfKind s node kinds.Null = Resolves s node null
IsOfKind s node kinds.Boolean = Resolves s node boolean
IsOfKind s node kinds.Int = Resolves s node int
IsOfKind s node kinds.Long = Resolves s node long
IsOfKind s node kinds.Bytes = Resolves s node bytes
IsOfKind s node kinds.Text = Resolves s node string
IsOfKind s node (kinds.Array k) = (t : AvroType) × Resolves s node (array t) × Stands s k t
IsOfKind s node (kinds.Map k) = (t : AvroType) × Resolves s node (map t) × Stands s k t
IsOfKind s node kinds.Union = (bs : Branches) × Resolves s node (union bs)
IsOfKind s node (kinds.Fixed size) = (name : List ℕ) × Resolves s node (fixed name size)
IsOfKind s node kinds.Enum = (name : List ℕ) × (symbols : List (List ℕ)) × Resolves s node (enum_ name symbols)
IsOfKind s node kinds.Record = (name : List ℕ) × (fs : Fields) × Resolves s node (record_ name fs)
