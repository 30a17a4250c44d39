-- Which JSON value a value of a type is (Apache Avro 1.11 specification, "JSON Encoding").
use Rattle.std.specs.Prelude.{ℕ, ◌≡◌, ◌<◌, ◌^◌, ◌⊎◌, List, [], ◌∷◌, length, Option, Some, None, Bool, true, false, ◌&&◌, not, codes, if◌then◌else◌, FitsSigned}
use Rattle.std.specs.Int.{w32, w64}
use Rattle.std.specs.Str.{bytes_eq, chars}
use Rattle.std.specs.List.{AllByRecursion}
use Rattle.avro_schema.specs.Types as schema
use Rattle.avro_schema.specs.Types.{AvroType, Branches, Fields, resolved}
pub use Rattle.avro_schema.specs.Distinct.{branch_names}
pub use Rattle.avro_names.specs.NameList.{place_of}
use Rattle.json_span.specs.Json as json
use Rattle.json_span.specs.Json.{Json, Items, Members}
use Rattle.json_token.specs.Chars.{content}
use Rattle.json_token.specs.Integer.{integer_of}
use Rattle.json_span.specs.Parts.{last_member}
use Rattle.avro_value.specs.Value.{Value, Values, Entries, null, boolean, int, long, bytes, string, fixed, symbol, branch, fields, items, entries, no_values, value, no_entries, entry}
use Rattle.avro_value.specs.Judging.{is_null, branch_at}

-- the names of members, without escapes
abbrev pub names_of : Members → List (List ℕ)
names_of json.no_members = []
names_of (json.member s j ms) = content s ∷ names_of ms

abbrev pub is_among : List ℕ → List (List ℕ) → Bool
is_among name [] = false
is_among name (n ∷ ns) = if bytes_eq n name then true else is_among name ns

-- no name is there twice
abbrev pub differ : List (List ℕ) → Bool
differ [] = true
differ (n ∷ ns) = not (is_among n ns) && differ ns

-- the text's code points are the bytes
pub record IsPoints (s : List ℕ) (bs : List ℕ) : Type 0 where
  pub points : chars (content s) ≡ bs
  pub small : AllByRecursion (λ c. c < 256) bs

-- how the value of a branch stands in its union: null for itself, another in an object with one member that names the branch
abbrev pub IsLabelled : Branches → AvroType → ℕ → Json → Json → Type 0
IsLabelled ts u n inner j =
    ((is_null u ≡ true) × (place_of (codes "null") (branch_names ts) ≡ Some n) × (j ≡ inner))
    ⊎ ((is_null u ≡ false) × (s : List ℕ) × (place_of (content s) (branch_names ts) ≡ Some n) × (j ≡ json.object (json.member s inner json.no_members)))

-- the JSON value is that of the value, of this type in the whole schema
abbrev mutual
  pub IsJson : AvroType → AvroType → Value → Json → Type 0
  IsJson whole t null j = (resolved whole t ≡ schema.null) × (j ≡ json.null)
  IsJson whole t (boolean b) j = (resolved whole t ≡ schema.boolean) × (j ≡ json.boolean b)
  IsJson whole t (int n) j = (resolved whole t ≡ schema.int) × (s : List ℕ) × (j ≡ json.number s) × (integer_of s ≡ Some n) × FitsSigned w32 n
  IsJson whole t (long n) j = (resolved whole t ≡ schema.long) × (s : List ℕ) × (j ≡ json.number s) × (integer_of s ≡ Some n) × FitsSigned w64 n
  IsJson whole t (bytes piece) j = (resolved whole t ≡ schema.bytes) × (s : List ℕ) × (j ≡ json.text s) × IsPoints s piece
  IsJson whole t (string piece) j = (resolved whole t ≡ schema.string) × (s : List ℕ) × (j ≡ json.text s) × (content s ≡ piece)
  IsJson whole t (fixed piece) j = (name : List ℕ) × (resolved whole t ≡ schema.fixed name (length piece)) × (s : List ℕ) × (j ≡ json.text s) × IsPoints s piece
  IsJson whole t (symbol n) j = (name : List ℕ) × (symbols : List (List ℕ)) × (resolved whole t ≡ schema.enum_ name symbols)
      × (s : List ℕ) × (j ≡ json.text s) × (place_of (content s) symbols ≡ Some n) × (n < 2 ^ 32)
  IsJson whole t (branch n v) j = (ts : Branches) × (resolved whole t ≡ schema.union ts) × (u : AvroType) × (branch_at ts n ≡ Some u) × (n < 2 ^ 32)
      × (inner : Json) × IsLabelled ts u n inner j × IsJson whole u v inner
  IsJson whole t (fields vs) j = (name : List ℕ) × (ts : Fields) × (resolved whole t ≡ schema.record_ name ts) × (ms : Members) × (j ≡ json.object ms) × AreFields whole ts vs ms
  IsJson whole t (items vs) j = (u : AvroType) × (resolved whole t ≡ schema.array u) × (js : Items) × (j ≡ json.array js) × AreItems whole u vs js
  IsJson whole t (entries es) j = (u : AvroType) × (resolved whole t ≡ schema.map u) × (ms : Members) × (j ≡ json.object ms) × (differ (names_of ms) ≡ true) × AreEntries whole u es ms

  -- each field is the last member of its name; other members don't matter
  pub AreFields : AvroType → Fields → Values → Members → Type 0
  AreFields whole ts no_values ms = ts ≡ schema.no_fields
  AreFields whole ts (value v vs) ms = (name : List ℕ) × (t : AvroType) × (more : Fields) × (ts ≡ schema.field name t more)
      × (j : Json) × (last_member name ms ≡ Some j) × IsJson whole t v j × AreFields whole more vs ms

  -- each item in order
  pub AreItems : AvroType → AvroType → Values → Items → Type 0
  AreItems whole t no_values js = js ≡ json.no_items
  AreItems whole t (value v vs) js = (j : Json) × (more : Items) × (js ≡ json.item j more) × IsJson whole t v j × AreItems whole t vs more

  -- each entry in order
  pub AreEntries : AvroType → AvroType → Entries → Members → Type 0
  AreEntries whole t no_entries ms = ms ≡ json.no_members
  AreEntries whole t (entry key v es) ms = (s : List ℕ) × (j : Json) × (more : Members) × (ms ≡ json.member s j more) × (content s ≡ key) × IsJson whole t v j × AreEntries whole t es more
