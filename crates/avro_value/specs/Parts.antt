-- What looking up the parts of a JSON value gives, by the nodes that stand for them.
use Rattle.std.specs.Prelude.{ℕ, ◌≡◌, List, [], ◌∷◌, Option, Some, None, Result, Ok, Err, if◌then◌else◌}
use Rattle.std.specs.Str.{bytes_eq}
use Rattle.avro_schema.specs.Types as schema
use Rattle.avro_schema.specs.Types.{AvroType, Fields}
use Rattle.avro_schema.specs.Nodes as types
use Rattle.avro_schema.specs.Nodes.{SchemaValue}
use Rattle.json_span.specs.Json.{Json}
use Rattle.json_span.specs.Nodes as values
use Rattle.json_span.specs.declared.tree.Tree.{Tree}
use Rattle.json_span.specs.declared.tree.Member.{Member}
use Rattle.avro_value.specs.declared.error.AvroNo.{AvroNo}
use Rattle.avro_value.specs.declared.json_pick.Part.{Part}
use Rattle.avro_value.specs.declared.json_pick.Choice.{Choice}
use Rattle.avro_value.specs.Steps.{Fails}
use Rattle.avro_value.specs.Reading.{Labelled}

-- the answer, seen by view, is what is read
abbrev pub Gives : {X Y : Type 0} → (X → Y) → Result X AvroNo → Result Y AvroNo → Type 0
Gives view (Ok x) read = read ≡ Ok (view x)
Gives view (Err e) read = Fails e read

-- the answer stands for what is read
abbrev pub Finds : {X Y : Type 0} → (X → Y → Type 0) → Result X AvroNo → Result Y AvroNo → Type 0
Finds {X} {Y} StandsFor (Ok x) read = (y : Y) × (read ≡ Ok y) × StandsFor x y
Finds StandsFor (Err e) read = Fails e read

-- the names of members in order
abbrev pub names_in : List Member → List (List ℕ)
names_in [] = []
names_in (m ∷ ms) = m.name ∷ names_in ms

-- the second, unless there is a first
abbrev pub or_else : {A : Type 0} → Option A → Option A → Option A
or_else (Some x) other = Some x
or_else None other = other

-- the node of the last member of this name
abbrev pub last_in : List ℕ → List Member → Option ℕ
last_in name [] = None
last_in name (m ∷ ms) = or_else (last_in name ms) (if bytes_eq m.name name then Some m.node else None)

-- a part's nodes stand for its type and its value
pub record IsPart (s : SchemaValue) (t : Tree) (p : Part) (u : AvroType) (j : Json) : Type 0 where
  pub place : types.Stands s p.place u
  pub node : values.Stands t p.node j

-- these parts stand for the fields and their values, in order
abbrev pub AreParts : SchemaValue → Tree → List Part → Fields → List Json → Type 0
AreParts s t [] ts js = (ts ≡ schema.no_fields) × (js ≡ [])
AreParts s t (p ∷ ps) ts js = (name : List ℕ) × (u : AvroType) × (more : Fields) × (j : Json) × (rest : List Json)
    × (ts ≡ schema.field name u more) × (js ≡ j ∷ rest) × IsPart s t p u j × AreParts s t ps more rest

-- the choice stands for the branch and its value
pub record IsChoice (s : SchemaValue) (t : Tree) (c : Choice) (x : Labelled) : Type 0 where
  pub index : x.place ≡ c.index
  pub part : IsPart s t c.part x.type x.inner
