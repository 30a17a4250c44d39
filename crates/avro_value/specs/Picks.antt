-- The parts of a type as nodes of a schema.
use Rattle.std.specs.Prelude.{ℕ, ◌≡◌, List, Option, Some, None, Bool, true, false}
use Rattle.avro_schema.specs.declared.schema.Kind.{Kind}
use Rattle.avro_schema.specs.declared.schema.Kind.TheVariants as kinds
use Rattle.avro_schema.specs.Types.{AvroType, Fields}
use Rattle.avro_schema.specs.declared.parts.Field.{Field}
use Rattle.avro_schema.specs.Nodes.{SchemaValue, Stands, StandForFields}

-- the node stands for the type, where there is one
abbrev pub Picks : SchemaValue → Option ℕ → Option AvroType → Type 0
Picks s None o = o ≡ None
Picks s (Some k) o = (u : AvroType) × (o ≡ Some u) × Stands s k u

-- the fields stand for those of the type, where there are some
abbrev pub PicksFields : SchemaValue → Option (List Field) → Option Fields → Type 0
PicksFields s None o = o ≡ None
PicksFields s (Some fs) o = (ts : Fields) × (o ≡ Some ts) × StandForFields s fs ts

-- a kind whose values have parts
abbrev pub is_nesting : Kind → Bool
is_nesting (kinds.Array k) = true
is_nesting (kinds.Map k) = true
is_nesting kinds.Union = true
is_nesting kinds.Record = true
is_nesting kind = false
