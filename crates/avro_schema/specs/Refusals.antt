-- Why a text is no schema that is read.
use Rattle.std.specs.Prelude.{◌≡◌, ℕ, List, Bool, Result, Ok, Err, ◌⊎◌, ⊤}
use Rattle.json_span.specs.Json.{Json}
use Rattle.json_span.specs.Text.{IsText}
use Rattle.json_span.specs.Refusals.{max_levels, IsBadByte, IsCut, IsTooDeep}
use Rattle.avro_schema.specs.Types.{AvroType}
use Rattle.avro_schema.specs.Nodes.{SchemaValue, tree_of}
use Rattle.avro_schema.specs.Reading.{schema_of}
use Rattle.avro_names.specs.declared.error.SchemaNo.{SchemaNo}
use Rattle.avro_names.specs.declared.error.SchemaNo.TheVariants.{NotJson, BadType, UnknownName, Redefined, BadName, Float, TooDeep, TooLong, Want}

-- the bytes are a JSON text of a value that is refused as a schema
abbrev pub IsRefused : Bool → List ℕ → SchemaNo → Type 0
IsRefused canonical bytes e = (j : Json) × IsText max_levels bytes j × (schema_of canonical j ≡ Err e)

-- no JSON text goes on at some byte, or behind the last
abbrev pub IsNotJson : List ℕ → Type 0
IsNotJson bytes = ((place : ℕ) × IsBadByte bytes place) ⊎ IsCut bytes

-- the cause of each refusal; want of memory is free
abbrev pub Refuses : Bool → List ℕ → SchemaNo → Type 0
Refuses canonical bytes NotJson = IsNotJson bytes
Refuses canonical bytes TooDeep = ((place : ℕ) × IsTooDeep bytes place) ⊎ IsRefused canonical bytes TooDeep
Refuses canonical bytes BadType = IsRefused canonical bytes BadType
Refuses canonical bytes UnknownName = IsRefused canonical bytes UnknownName
Refuses canonical bytes Redefined = IsRefused canonical bytes Redefined
Refuses canonical bytes BadName = IsRefused canonical bytes BadName
Refuses canonical bytes Float = IsRefused canonical bytes Float
Refuses canonical bytes TooLong = IsRefused canonical bytes TooLong
Refuses canonical bytes Want = ⊤

-- why a text is no JSON text that is read
abbrev pub NoTree : List ℕ → SchemaNo → Type 0
NoTree bytes NotJson = IsNotJson bytes
NoTree bytes TooDeep = (place : ℕ) × IsTooDeep bytes place
NoTree bytes Want = ⊤
NoTree bytes e = ⊥

-- the answer is this schema or this refusal, or want of memory
abbrev pub Answers : Result AvroType SchemaNo → Result SchemaValue SchemaNo → Type 0
Answers (Ok t) (Ok s) = tree_of s ≡ t
Answers (Ok t) (Err e) = e ≡ Want
Answers (Err e) (Ok s) = ⊥
Answers (Err e) (Err f) = (f ≡ e) ⊎ (f ≡ Want)
