-- A table of schemas: canonical texts, all different. The id of a text is its place, counted from 1.
use Rattle.std.specs.Prelude.{◌≡◌, ℕ, ◌+◌, ◌≤◌, List, [], ◌∷◌, ◌++◌, length, take, slice_get, Some, true}
use Rattle.std.specs.List.{AllByRecursion}
use Rattle.avro_schema.specs.Types.{AvroType}
use Rattle.avro_schema.specs.Canonical.{canonical_form}
use Rattle.avro_schema.specs.Reading.{ReadsAs}
use Rattle.schema_keeper.specs.declared.row.SchemaRow.{SchemaRow}
use Rattle.schema_keeper.specs.Keeper.{Begins, row_of}

-- the text has the id
abbrev pub HasId : List (List ℕ) → ℕ → List ℕ → Type 0
HasId texts id text = (place : ℕ) × (id ≡ place + 1) × (slice_get texts place ≡ Some text)

-- the text isn't among these
abbrev pub Lacks : List (List ℕ) → List ℕ → Type 0
Lacks texts text = (place : ℕ) → slice_get texts place ≡ Some text → ⊥

-- no text stands twice
abbrev pub AreApart : List (List ℕ) → Type 0
AreApart texts = (i j : ℕ) (text : List ℕ) → slice_get texts i ≡ Some text → slice_get texts j ≡ Some text → i ≡ j

-- the text is the canonical form of the schema that it reads as, with every name taken as a fullname
abbrev pub IsForm : List ℕ → AvroType → Type 0
IsForm text t = ReadsAs true text t × (canonical_form t ≡ text)

abbrev pub HasForm : List ℕ → Type 0
HasForm text = (t : AvroType) × IsForm text t

-- the schema has the id
pub record IsSchemaOf (texts : List (List ℕ)) (id : ℕ) (t : AvroType) : Type 0 where
  pub text : List ℕ
  pub at : HasId texts id text
  pub form : IsForm text t

-- ---- rows

-- the rows of texts, whose ids go on behind a number
abbrev pub rows_behind : ℕ → List (List ℕ) → List SchemaRow
rows_behind n [] = []
rows_behind n (t ∷ ts) = row_of (n + 1) t ∷ rows_behind (n + 1) ts

abbrev pub rows_of : List (List ℕ) → List SchemaRow
rows_of texts = rows_behind 0 texts

-- the second list begins with the first
abbrev pub BeginsWith : List SchemaRow → List SchemaRow → Type 0
BeginsWith rows all = take (length rows) all ≡ rows

-- the rows are those of a table
pub record IsTable (all : List SchemaRow) : Type 0 where
  pub texts : List (List ℕ)
  pub rows : all ≡ rows_of texts
  pub apart : AreApart texts
  pub forms : AllByRecursion HasForm texts

-- the row is one that a table may have next
pub record IsNext (texts : List (List ℕ)) (row : SchemaRow) : Type 0 where
  pub id : row.id ≡ length texts + 1
  pub lacks : Lacks texts row.canonical
  pub form : HasForm row.canonical

-- ---- calls

-- the table grew by texts, whose rows are the news
pub record Grew (old new : List (List ℕ)) (before after : List SchemaRow) : Type 0 where
  pub more : List (List ℕ)
  pub texts : new ≡ old ++ more
  pub news : after ≡ before ++ rows_behind (length old) more

-- rows that were loaded are no table, or don't begin with the table's
pub record Unfit (texts : List (List ℕ)) (Told : List SchemaRow → Type 0) : Type 0 where
  pub loaded : List SchemaRow
  pub told : (rows : List SchemaRow) → Told rows → loaded ≡ rows
  pub unfit : IsTable loaded → Begins (rows_of texts) loaded → ⊥

-- the next id would pass the greatest one
pub record IsFull (texts : List (List ℕ)) (text : List ℕ) : Type 0 where
  pub lacks : Lacks texts text
  pub most : 2147483647 ≤ length texts

-- all rows that are told now begin with rows that were told before
abbrev pub ToldOn : (List SchemaRow → Type 0) → (List SchemaRow → Type 0) → Type 0
ToldOn Before Now = (rows : List SchemaRow) → Now rows → (old : List SchemaRow) × Before old × Begins old rows
