-- How the nodes that a schema keeps make the types that they stand for. Only private clauses cite it.
use Rattle.std.specs.Prelude.{◌≡◌, ℕ, suc, ◌<◌, List, [], ◌∷◌, ◌++◌, length, slice_get, slice_index_or, All, Bool, true, false, Some, ⊤}
use Rattle.avro_schema.specs.Types.{AvroType, Branches, Fields, null, boolean, int, long, bytes, string, array, map, union, fixed, enum_, record_, named, no_branches, branch, no_fields, field, resolved, branch_name}
use Rattle.avro_schema.specs.Canonical.{canonical_form}
use Rattle.avro_schema.specs.Reading.{ReadsAs}
use Rattle.avro_schema.specs.declared.parts.Form.{Form}
use Rattle.avro_schema.specs.declared.parts.Form.TheVariants.{Null, Boolean, Int, Long, Bytes, Text, Array, Map, Union, Fixed, Enum, Record, Named}
use Rattle.avro_schema.specs.declared.parts.Field.{Field}
use Rattle.avro_names.specs.declared.definitions.Definition.{Definition}

-- the type at a node
abbrev pub type_at : List AvroType → ℕ → AvroType
type_at ts k = slice_index_or ts k null

abbrev pub branches_at : List AvroType → List ℕ → Branches
branches_at ts [] = no_branches
branches_at ts (k ∷ ks) = branch (type_at ts k) (branches_at ts ks)

abbrev pub fields_at : List AvroType → List Field → Fields
fields_at ts [] = no_fields
fields_at ts (f ∷ fs) = field f.name (type_at ts f.node) (fields_at ts fs)

-- the type of a node, by those of its parts
abbrev pub type_of : List AvroType → Form → AvroType
type_of ts Null = null
type_of ts Boolean = boolean
type_of ts Int = int
type_of ts Long = long
type_of ts Bytes = bytes
type_of ts Text = string
type_of ts (Array k) = array (type_at ts k)
type_of ts (Map k) = map (type_at ts k)
type_of ts (Union v names) = union (branches_at ts v.items)
type_of ts (Fixed name size) = fixed name size
type_of ts (Enum name v) = enum_ name v
type_of ts (Record name v) = record_ name (fields_at ts v.items)
type_of ts (Named name d) = named name

-- the types of these nodes behind those of the nodes before them
abbrev pub types_behind : List AvroType → List Form → List AvroType
types_behind ts [] = ts
types_behind ts (f ∷ fs) = types_behind (ts ++ (type_of ts f ∷ [])) fs

-- the type that each node stands for
unfoldable pub types_of : List Form → List AvroType
types_of fs = types_behind [] fs

-- the node's parts are before it
abbrev pub AreBefore : ℕ → Form → Type 0
AreBefore k Null = ⊤
AreBefore k Boolean = ⊤
AreBefore k Int = ⊤
AreBefore k Long = ⊤
AreBefore k Bytes = ⊤
AreBefore k Text = ⊤
AreBefore k (Array c) = c < k
AreBefore k (Map c) = c < k
AreBefore k (Union v names) = All (λ c. c < k) v.items
AreBefore k (Fixed name size) = ⊤
AreBefore k (Enum name v) = ⊤
AreBefore k (Record name v) = All (λ f. f.node < k) v.items
AreBefore k (Named name d) = ⊤

-- each node's parts are before it
abbrev pub EachBefore : ℕ → List Form → Type 0
EachBefore k [] = ⊤
EachBefore k (f ∷ fs) = AreBefore k f × EachBefore (suc k) fs

-- the names of branches by their nodes
abbrev pub names_of_branches : List AvroType → List ℕ → List (List ℕ)
names_of_branches ts [] = []
names_of_branches ts (k ∷ ks) = branch_name (type_at ts k) ∷ names_of_branches ts ks

-- a union keeps the names of its branches
abbrev pub IsNamed : List AvroType → Form → Type 0
IsNamed ts (Union v names) = names ≡ names_of_branches ts v.items
IsNamed ts Null = ⊤
IsNamed ts Boolean = ⊤
IsNamed ts Int = ⊤
IsNamed ts Long = ⊤
IsNamed ts Bytes = ⊤
IsNamed ts Text = ⊤
IsNamed ts (Array c) = ⊤
IsNamed ts (Map c) = ⊤
IsNamed ts (Fixed name size) = ⊤
IsNamed ts (Enum name v) = ⊤
IsNamed ts (Record name v) = ⊤
IsNamed ts (Named name d) = ⊤

-- each union keeps the names of its branches
abbrev pub EachNamed : List Form → Type 0
EachNamed fs = (k : ℕ) (f : Form) → slice_get fs k ≡ Some f → IsNamed (types_of fs) f

-- the form isn't that of a reference
abbrev pub is_plain : Form → Bool
is_plain (Named name d) = false
is_plain f = true

-- a reference's number is that of the type that its name was given to
pub record Leads (nodes : List Form) (definitions : List Definition) (root : ℕ) (name : List ℕ) (d : ℕ) : Type 0 where
  pub x : Definition
  pub is : slice_get definitions d ≡ Some x
  pub f : Form
  pub at : slice_get nodes x.node ≡ Some f
  pub plain : is_plain f ≡ true
  pub type : resolved (type_at (types_of nodes) root) (named name) ≡ type_of (types_of nodes) f

-- the parts are those of a schema that was read
pub record IsSchema (nodes : List Form) (definitions : List Definition) (root : ℕ) : Type 0 where
  pub inside : root < length nodes
  pub before : EachBefore 0 nodes
  pub named : EachNamed nodes
  pub leads : (k : ℕ) (name : List ℕ) (d : ℕ) → slice_get nodes k ≡ Some (Named name d) → Leads nodes definitions root name d
  pub again : ReadsAs true (canonical_form (type_at (types_of nodes) root)) (type_at (types_of nodes) root)

-- the form of the node that a node resolves to
pub record IsFormOf (nodes : List Form) (root : ℕ) (k : ℕ) (f : Form) : Type 0 where
  pub plain : is_plain f ≡ true
  pub at : ℕ
  pub is : slice_get nodes at ≡ Some f
  pub type : resolved (type_at (types_of nodes) root) (type_at (types_of nodes) k) ≡ type_of (types_of nodes) f
