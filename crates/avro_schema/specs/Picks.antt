-- What a form says on its own. Only private clauses cite it.
use Rattle.std.specs.Prelude.{ℕ, List, [], codes}
use Rattle.avro_schema.specs.declared.parts.Form.{Form}
use Rattle.avro_schema.specs.declared.parts.Form.TheVariants.{Null, Boolean, Int, Long, Bytes, Text, Array, Map, Union, Fixed, Enum, Record, Named}
use Rattle.avro_schema.specs.declared.parts.Field.{Field}
use Rattle.avro_schema.specs.declared.schema.Kind.{Kind}
use Rattle.avro_schema.specs.declared.schema.Kind.TheVariants as kinds

-- the kind of a form that is no reference
abbrev pub kind_in : Form → Kind
kind_in Null = kinds.Null
kind_in Boolean = kinds.Boolean
kind_in Int = kinds.Int
kind_in Long = kinds.Long
kind_in Bytes = kinds.Bytes
kind_in Text = kinds.Text
kind_in (Array k) = kinds.Array k
kind_in (Map k) = kinds.Map k
kind_in (Union v names) = kinds.Union
kind_in (Fixed name size) = kinds.Fixed size
kind_in (Enum name v) = kinds.Enum
kind_in (Record name v) = kinds.Record
kind_in (Named name d) = kinds.Null

abbrev pub branches_in : Form → List ℕ
branches_in (Union v names) = v.items
branches_in f = []

abbrev pub names_in : Form → List (List ℕ)
names_in (Union v names) = names
names_in f = []

abbrev pub symbols_in : Form → List (List ℕ)
symbols_in (Enum name v) = v
symbols_in f = []

abbrev pub fields_in : Form → List Field
fields_in (Record name v) = v.items
fields_in f = []

abbrev pub name_in : Form → List ℕ
name_in Null = codes "null"
name_in Boolean = codes "boolean"
name_in Int = codes "int"
name_in Long = codes "long"
name_in Bytes = codes "bytes"
name_in Text = codes "string"
name_in (Array k) = codes "array"
name_in (Map k) = codes "map"
name_in (Union v names) = codes "union"
name_in (Fixed name size) = name
name_in (Enum name v) = name
name_in (Record name v) = name
name_in (Named name d) = name
