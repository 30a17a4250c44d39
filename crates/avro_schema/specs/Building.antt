-- How reading grows the nodes and the definitions of a schema. Only private clauses cite it.
use Rattle.std.specs.Prelude.{◌≡◌, ℕ, zero, suc, ◌<◌, List, [], ◌∷◌, ◌++◌, length, slice_get, All, Bool, true, false, cond, codes, bytes_eq, Option, Some, None, Result, Ok, Err, ◌⊎◌, ⊤}
use Rattle.json_span.specs.Json.{Json, Items, Members, text, array, object}
use Rattle.json_span.specs.Nodes.{Stands, StandForMembers, StandForItems}
use Rattle.json_span.specs.declared.tree.Tree.{Tree}
use Rattle.json_span.specs.declared.tree.Member.{Member}
use Rattle.avro_schema.specs.Types.{AvroType, Branches, Fields, Defined, no_branches, branch, no_fields, field, definitions, field_definitions, branch_definitions}
use Rattle.avro_schema.specs.Reading.{Outcome, Reader, FieldType, fields_read, branches_read, short_enough, ReadsAs}
use Rattle.avro_names.specs.Outcomes.{Why}
use Rattle.avro_schema.specs.Canonical.{canonical_form}
use Rattle.avro_schema.specs.Nodes.{SchemaValue}
use Rattle.avro_schema.specs.Refusals.{Answers}
use Rattle.avro_names.specs.Names.{are_parts}
use Rattle.avro_names.specs.Definitions.{names_in, FirstNamed, defined_at}
use Rattle.avro_schema.specs.Forms.{branches_at, fields_at, types_of, EachBefore, EachNamed, names_of_branches}
use Rattle.avro_schema.specs.declared.parts.Form.{Form}
use Rattle.avro_schema.specs.declared.parts.Form.TheVariants.{Null, Boolean, Int, Long, Bytes, Text, Named}
use Rattle.avro_schema.specs.declared.parts.Field.{Field}
use Rattle.avro_names.specs.declared.definitions.Definition.{Definition}
use Rattle.avro_schema.specs.declared.parts.Parts.{Parts}
use Rattle.avro_names.specs.declared.error.SchemaNo.{SchemaNo}
use Rattle.avro_names.specs.declared.error.SchemaNo.TheVariants.{Want}

-- the fullnames defined so far
abbrev pub names_of : Parts → List (List ℕ)
names_of p = names_in p.definitions

-- each node's parts are before it, each union keeps the names of its branches, and each reference leads to the first definition of
-- its name
pub record IsBuilt (p : Parts) : Type 0 where
  pub before : EachBefore 0 p.nodes.items
  pub named : EachNamed p.nodes.items
  pub leads : (k : ℕ) (name : List ℕ) (d : ℕ) → slice_get p.nodes.items k ≡ Some (Named name d) → FirstNamed p.definitions name d

-- the definitions are those of these types
abbrev pub DefinesIn : List AvroType → List Definition → List Defined → Type 0
DefinesIn ts [] [] = ⊤
DefinesIn ts [] (d ∷ ds) = ⊥
DefinesIn ts (x ∷ xs) [] = ⊥
DefinesIn ts (x ∷ xs) (d ∷ ds) = (x.name ≡ d.name) × (slice_get ts x.node ≡ Some d.type) × DefinesIn ts xs ds

-- nodes and definitions were added, the definitions of these types
pub record Grows (old new : Parts) (ds : List Defined) : Type 0 where
  pub more : List Form
  pub nodes_are : new.nodes.items ≡ old.nodes.items ++ more
  pub made : List Definition
  pub definitions_are : new.definitions ≡ old.definitions ++ made
  pub define : DefinesIn (types_of new.nodes.items) made ds
  pub built : IsBuilt new

-- the outcome is a type, and node k was made of it
pub record Makes (o : Outcome AvroType) (old new : Parts) (k : ℕ) : Type 0 where
  pub t : AvroType
  pub is : o ≡ Ok (record { value = t; names = names_of new })
  pub stands : slice_get (types_of new.nodes.items) k ≡ Some t
  pub grows : Grows old new (definitions t)

-- what the reading of a type answers
abbrev pub Tells : Outcome AvroType → Parts → Parts → Result ℕ SchemaNo → Type 0
Tells o old new (Ok k) = Makes o old new k
Tells o old new (Err e) = Why o e

-- what a function without parts answers
abbrev pub Gives : {T : Type 0} → Result T SchemaNo → Result T SchemaNo → Type 0
Gives o (Ok x) = o ≡ Ok x
Gives o (Err e) = Why o e

-- the outcome is a list of fields, and these were made of it
pub record MakesFields (o : Outcome Fields) (old new : Parts) (vs : List Field) : Type 0 where
  pub is : o ≡ Ok (record { value = fields_at (types_of new.nodes.items) vs; names = names_of new })
  pub inside : All (λ v. v.node < length new.nodes.items) vs
  pub grows : Grows old new (field_definitions (fields_at (types_of new.nodes.items) vs))

abbrev pub names_of_fields : List Field → List (List ℕ)
names_of_fields [] = []
names_of_fields (v ∷ vs) = v.name ∷ names_of_fields vs

-- the fields, in front of those that the outcome has
abbrev pub behind_fields : Fields → Fields → Fields
behind_fields no_fields rest = rest
behind_fields (field name t fs) rest = field name t (behind_fields fs rest)

abbrev pub in_front : {T : Type 0} → (T → T) → Outcome T → Outcome T
in_front f (Ok r) = Ok (record { value = f r.value; names = r.names })
in_front f (Err e) = Err e

-- the outcome is one field more, and it was made
pub record MakesField (o : Outcome FieldType) (old new : Parts) (vs vs_now : List Field) : Type 0 where
  pub f : FieldType
  pub is : o ≡ Ok (record { value = f; names = names_of new })
  pub node : ℕ
  pub stands : slice_get (types_of new.nodes.items) node ≡ Some f.type
  pub grows : Grows old new (definitions f.type)
  pub more : vs_now ≡ vs ++ ((record { name = f.name; node = node }) ∷ [])

-- these fields were made of the items so far, and the outcome goes on with the rest
pub record FieldsSoFar (tree : Tree) (below : Reader) (namespace : List ℕ) (js : Items) (old new : Parts) (rest : List ℕ) (vs : List Field) : Type 0 where
  pub left : Items
  pub stand : StandForItems tree rest left
  pub is : fields_read below (names_of old) namespace [] js ≡ in_front (behind_fields (fields_at (types_of new.nodes.items) vs)) (fields_read below (names_of new) namespace (names_of_fields vs) left)
  pub inside : All (λ v. v.node < length new.nodes.items) vs
  pub grows : Grows old new (field_definitions (fields_at (types_of new.nodes.items) vs))

abbrev pub behind_branches : Branches → Branches → Branches
behind_branches no_branches rest = rest
behind_branches (branch t bs) rest = branch t (behind_branches bs rest)

-- the outcome is one branch more, and it was made
pub record MakesBranch (o : Outcome AvroType) (old new : Parts) (ks ks_now : List ℕ) : Type 0 where
  pub node : ℕ
  pub makes : Makes o old new node
  pub more : ks_now ≡ ks ++ (node ∷ [])

-- these branches were made of the items so far, and the outcome goes on with the rest
pub record BranchesSoFar (tree : Tree) (below : Reader) (namespace : List ℕ) (js : Items) (old new : Parts) (rest : List ℕ) (ks : List ℕ) : Type 0 where
  pub left : Items
  pub stand : StandForItems tree rest left
  pub is : branches_read below (names_of old) namespace [] js
      ≡ in_front (behind_branches (branches_at (types_of new.nodes.items) ks)) (branches_read below (names_of new) namespace (names_of_branches (types_of new.nodes.items) ks) left)
  pub inside : All (λ k. k < length new.nodes.items) ks
  pub grows : Grows old new (branch_definitions (branches_at (types_of new.nodes.items) ks))

-- node k was made of the form, and the definition has it
pub record Finishes (old new : Parts) (d : ℕ) (f : Form) (k : ℕ) : Type 0 where
  pub place : k ≡ length old.nodes.items
  pub nodes : new.nodes.items ≡ old.nodes.items ++ (f ∷ [])
  pub definitions : new.definitions ≡ defined_at old.definitions d k

-- the outcome is the fullname, and it is that of a definition whose node is to come
pub record NamesNew (o : Result (List ℕ) SchemaNo) (old new : Parts) (name : List ℕ) (d : ℕ) : Type 0 where
  pub is : o ≡ Ok name
  pub place : d ≡ length old.definitions
  pub definitions : new.definitions ≡ old.definitions ++ ((record { name = name; node = 0 }) ∷ [])
  pub nodes : new.nodes.items ≡ old.nodes.items
  pub parts : are_parts name ≡ true

-- the value is an object
abbrev pub IsObject : Json → Bool → Type 0
IsObject j true = (ms : Members) × (j ≡ object ms)
IsObject j false = (ms : Members) → j ≡ object ms → ⊥

-- the form of the primitive type of this name
unfoldable pub primitive_form : List ℕ → Option Form
primitive_form name =
    cond (bytes_eq name (codes "null")) (Some Null) (cond (bytes_eq name (codes "boolean")) (Some Boolean) (cond (bytes_eq name (codes "int")) (Some Int)
    (cond (bytes_eq name (codes "long")) (Some Long) (cond (bytes_eq name (codes "bytes")) (Some Bytes) (cond (bytes_eq name (codes "string")) (Some Text) None)))))

-- these parts are those of a whole schema
pub record Finished (p : Parts) (root : ℕ) (t : AvroType) : Type 0 where
  pub built : IsBuilt p
  pub stands : slice_get (types_of p.nodes.items) root ≡ Some t
  pub define : DefinesIn (types_of p.nodes.items) p.definitions (definitions t)

-- where it is short enough, the canonical form reads as the type
abbrev pub FormReads : AvroType → Type 0
FormReads t = short_enough t ≡ Ok t → ReadsAs true (canonical_form t) t

-- the schema, where its canonical form is short enough
abbrev pub Ends : AvroType → Result SchemaValue SchemaNo → Type 0
Ends t r = Answers (short_enough t) r
