-- Reading a datum from a JSON value, with the first node in preorder that isn't of its schema.
use Rattle.std.specs.Prelude.{ℕ, zero, suc, ℤ, ◌≡◌, ◌^◌, List, [], ◌∷◌, length, Option, Some, None, Result, Ok, Err, Bool, true, false, ◌&&◌, ◌==◌, nat_lt, not, codes, if◌then◌else◌}
use Rattle.std.specs.List.{list_all}
use Rattle.std.specs.Str.{chars}
use Rattle.avro_schema.specs.Types as schema
use Rattle.avro_schema.specs.Types.{AvroType, Branches, Fields, resolved}
use Rattle.json_span.specs.Json as json
use Rattle.json_span.specs.Json.{Json, Items, Members}
use Rattle.json_token.specs.Chars.{content}
use Rattle.json_token.specs.Integer.{integer_of}
use Rattle.json_token.specs.Number.{is_digit}
use Rattle.avro_value.specs.declared.error.AvroNo.{AvroNo}
use Rattle.avro_value.specs.declared.error.AvroNo.TheVariants.{Mismatch, Range, TooDeep, TooMany}
use Rattle.avro_value.specs.Steps.{◌>>=◌, Fails}
use Rattle.avro_value.specs.Value.{Value, Entry, null, boolean, int, long, bytes, string, fixed, symbol, branch, fields, items, entries, values_of, entries_of, max_levels, max_nodes}
use Rattle.avro_value.specs.Judging.{is_null, branch_at, is_below}
use Rattle.json_span.specs.Parts.{last_member}
use Rattle.avro_value.specs.Encoding.{place_of, branch_names, names_of, differ}

-- what was read and the number of the node behind it, or why nothing was
abbrev pub Read : Type 0 → Type 0
Read A = Result (A × ℕ) AvroNo

-- how the value of a type is read, from the number of its node
abbrev pub Reader : Type 0
Reader = AvroType → Json → ℕ → Read Value

-- digits behind at most one sign
abbrev pub is_whole : List ℕ → Bool
is_whole [] = false
is_whole (b ∷ digits) = if b == 45 then list_all is_digit digits else list_all is_digit (b ∷ digits)

-- an integer of node k from the negative of the bound up to the bound
abbrev pub ranged : ℕ → ℕ → ℤ → Result ℤ AvroNo
ranged k bound n = if is_below bound n then Ok n else Err (Range k)

-- an integer with more digits than are read is out of every range
abbrev pub integer_in : ℕ → ℕ → List ℕ → Option ℤ → Result ℤ AvroNo
integer_in k bound s (Some n) = ranged k bound n
integer_in k bound s None = if is_whole s then Err (Range k) else Err (Mismatch k)

abbrev pub integer_at : ℕ → ℕ → Json → Result ℤ AvroNo
integer_at k bound (json.number s) = integer_in k bound s (integer_of s)
integer_at k bound j = Err (Mismatch k)

abbrev pub flag_at : ℕ → Json → Result Bool AvroNo
flag_at k (json.boolean b) = Ok b
flag_at k j = Err (Mismatch k)

abbrev pub text_at : ℕ → Json → Result (List ℕ) AvroNo
text_at k (json.text s) = Ok (content s)
text_at k j = Err (Mismatch k)

-- a text of code points 0 to 255
abbrev pub points_of : ℕ → List ℕ → Result (List ℕ) AvroNo
points_of k s = if list_all (λ c. nat_lt c 256) (chars s) then Ok (chars s) else Err (Mismatch k)

abbrev pub points_at : ℕ → Json → Result (List ℕ) AvroNo
points_at k j = text_at k j >>= points_of k

abbrev pub sized : ℕ → ℕ → List ℕ → Result (List ℕ) AvroNo
sized k size bs = if length bs == size then Ok bs else Err (Mismatch k)

abbrev pub fixed_at : ℕ → ℕ → Json → Result (List ℕ) AvroNo
fixed_at k size j = points_at k j >>= sized k size

-- a place that is a u32
abbrev pub placed : ℕ → Option ℕ → Result ℕ AvroNo
placed k None = Err (Mismatch k)
placed k (Some n) = if nat_lt n (2 ^ 32) then Ok n else Err (Mismatch k)

abbrev pub symbol_at : ℕ → List (List ℕ) → Json → Result ℕ AvroNo
symbol_at k symbols j = text_at k j >>= λ name. placed k (place_of name symbols)

abbrev pub items_in : ℕ → Json → Result Items AvroNo
items_in k (json.array js) = Ok js
items_in k j = Err (Mismatch k)

abbrev pub members_in : ℕ → Json → Result Members AvroNo
members_in k (json.object ms) = Ok ms
members_in k j = Err (Mismatch k)

-- the members of a map
abbrev pub entries_in : ℕ → Json → Result Members AvroNo
entries_in k j = members_in k j >>= λ ms. if differ (names_of ms) then Ok ms else Err (Mismatch k)

abbrev pub also : {A : Type 0} → Option A → Option (List A) → Option (List A)
also (Some x) (Some xs) = Some (x ∷ xs)
also (Some x) None = None
also None xs = None

-- the last member of each field's name
abbrev pub found : Fields → Members → Option (List Json)
found schema.no_fields ms = Some []
found (schema.field name t ts) ms = also (last_member name ms) (found ts ms)

abbrev pub present : {A : Type 0} → ℕ → Option A → Result A AvroNo
present k None = Err (Mismatch k)
present k (Some x) = Ok x

-- the members of a record, each of which is there
abbrev pub fields_in : ℕ → Fields → Json → Result (List Json) AvroNo
fields_in k ts j = members_in k j >>= λ ms. present k (found ts ms)

-- a branch and the value that stands in the union
pub record Labelled : Type 0 where
  pub place : ℕ
  pub type : AvroType
  pub inner : Json

abbrev pub agree : Bool → Bool → Bool
agree true b = b
agree false b = not b

-- null is a value of the branch of null alone, which has no other
abbrev pub labelled : ℕ → ℕ → Bool → Json → Option AvroType → Result Labelled AvroNo
labelled k n is_bare inner None = Err (Mismatch k)
labelled k n is_bare inner (Some u) = if agree (is_null u) is_bare then Ok (record { place = n; type = u; inner = inner }) else Err (Mismatch k)

abbrev pub branch_by : ℕ → Branches → List ℕ → Bool → Json → Result Labelled AvroNo
branch_by k ts name is_bare inner = placed k (place_of name (branch_names ts)) >>= λ n. labelled k n is_bare inner (branch_at ts n)

-- null, or an object with one member that names a branch
abbrev pub branch_in : ℕ → Branches → Json → Result Labelled AvroNo
branch_in k ts json.null = branch_by k ts (codes "null") true json.null
branch_in k ts (json.object (json.member s inner json.no_members)) = branch_by k ts (content s) false inner
branch_in k ts j = Err (Mismatch k)

abbrev pub items_at : Reader → AvroType → Items → ℕ → Read (List Value)
items_at inner t json.no_items k = Ok ([], k)
items_at inner t (json.item j js) k = inner t j k >>= λ v. items_at inner t js v.1 >>= λ vs. Ok (v.0 ∷ vs.0, vs.1)

abbrev pub entries_at : Reader → AvroType → Members → ℕ → Read (List Entry)
entries_at inner t json.no_members k = Ok ([], k)
entries_at inner t (json.member s j ms) k = inner t j k >>= λ v. entries_at inner t ms v.1 >>= λ es. Ok (record { key = content s; value = v.0 } ∷ es.0, es.1)

abbrev pub fields_at : Reader → Fields → List Json → ℕ → Read (List Value)
fields_at inner schema.no_fields js k = Ok ([], k)
fields_at inner (schema.field name t ts) [] k = Err (Mismatch k)
fields_at inner (schema.field name t ts) (j ∷ js) k = inner t j k >>= λ v. fields_at inner ts js v.1 >>= λ vs. Ok (v.0 ∷ vs.0, vs.1)

-- node k has no parts
abbrev pub leaf : {A : Type 0} → ℕ → (A → Value) → Result A AvroNo → Read Value
leaf k f read = read >>= λ x. Ok (f x, suc k)

abbrev pub giving : {A : Type 0} → (A → Value) → Read A → Read Value
giving f read = read >>= λ x. Ok (f x.0, x.1)

abbrev pub null_at : ℕ → Json → Read Value
null_at k json.null = Ok (null, suc k)
null_at k j = Err (Mismatch k)

-- node k is of this type; the parts have the numbers behind it
abbrev pub body_at : Reader → AvroType → Json → ℕ → Read Value
body_at inner schema.null j k = null_at k j
body_at inner schema.boolean j k = leaf k boolean (flag_at k j)
body_at inner schema.int j k = leaf k int (integer_at k (2 ^ 31) j)
body_at inner schema.long j k = leaf k long (integer_at k (2 ^ 63) j)
body_at inner schema.bytes j k = leaf k bytes (points_at k j)
body_at inner schema.string j k = leaf k string (text_at k j)
body_at inner (schema.fixed name size) j k = leaf k fixed (fixed_at k size j)
body_at inner (schema.enum_ name symbols) j k = leaf k symbol (symbol_at k symbols j)
body_at inner (schema.union ts) j k = branch_in k ts j >>= λ b. giving (branch b.place) (inner b.type b.inner (suc k))
body_at inner (schema.record_ name ts) j k = fields_in k ts j >>= λ js. giving (λ vs. fields (values_of vs)) (fields_at inner ts js (suc k))
body_at inner (schema.array t) j k = items_in k j >>= λ js. giving (λ vs. items (values_of vs)) (items_at inner t js (suc k))
body_at inner (schema.map t) j k = entries_in k j >>= λ ms. giving (λ es. entries (entries_of es)) (entries_at inner t ms (suc k))
body_at inner (schema.named name) j k = Err (Mismatch k)

-- a type whose values have parts
abbrev pub nests : AvroType → Bool
nests (schema.union ts) = true
nests (schema.record_ name ts) = true
nests (schema.array t) = true
nests (schema.map t) = true
nests t = false

-- a node is judged by its level and its number before its JSON value
abbrev pub entered : {A : Type 0} → Bool → ℕ → Result A AvroNo → Result A AvroNo
entered is_too_deep k body = if is_too_deep then Err TooDeep else (if nat_lt k max_nodes then body else Err TooMany)

abbrev pub node_at : Reader → Bool → AvroType → Json → ℕ → Read Value
node_at inner is_deepest u j k = entered (nests u && is_deepest) k (body_at inner u j k)

abbrev pub too_deep : Reader
too_deep t j k = Err TooDeep

-- a value of a type in the whole schema, with so many levels for its parts
unfoldable pub value_at : AvroType → ℕ → Reader
value_at whole zero t j k = node_at too_deep true (resolved whole t) j k
value_at whole (suc levels) t j k = node_at (value_at whole levels) false (resolved whole t) j k

-- how the parts of a value with so many levels are read
abbrev pub below_at : AvroType → ℕ → Reader
below_at whole zero = too_deep
below_at whole (suc levels) = value_at whole levels

-- the datum of the schema that the JSON value is, or the first refusal
unfoldable pub datum_at : AvroType → Json → Result Value AvroNo
datum_at whole j = value_at whole max_levels whole j 0 >>= λ v. Ok v.0

-- the answer, seen by view, is what reading gives, with the number behind it
abbrev pub Reads : {X Y : Type 0} → (X → Y) → Result X AvroNo → Read Y → ℕ → Type 0
Reads view (Ok x) read next = read ≡ Ok (view x, next)
Reads view (Err e) read next = Fails e read
