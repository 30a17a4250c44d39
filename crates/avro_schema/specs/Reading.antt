-- What a JSON value is as a schema (Apache Avro 1.11 specification, "Schema Declaration"), or why it is none: the first
-- cause in reading order. An object is read by its `type`, then its name, then its parts.
use Rattle.std.specs.Prelude.{◌≡◌, ℕ, zero, suc, List, [], ◌∷◌, ◌++◌, length, Bool, true, false, cond, ◌&&◌, nat_le, codes, bytes_eq, Option, Some, None, Result, Ok, Err}
use Rattle.json_span.specs.Json.{Json, Items, Members, number, text, array, object, no_items, item, no_members, member}
use Rattle.json_token.specs.Chars.{content}
use Rattle.json_span.specs.Text.{IsText}
use Rattle.json_span.specs.Refusals.{max_levels}
use Rattle.json_token.specs.Number.{is_digit}
use Rattle.json_token.specs.Integer.{decimal}
use Rattle.json_span.specs.Parts.{last_member}
use Rattle.avro_schema.specs.Types as types
use Rattle.avro_schema.specs.Types.{AvroType, Branches, Fields, no_branches, branch, no_fields, field, branch_name}
use Rattle.avro_names.specs.Names.{is_float, namespace_of}
use Rattle.avro_names.specs.NameList.{is_among}
use Rattle.avro_names.specs.Outcomes.{next}
use Rattle.avro_names.specs.MemberNames.{full_name, defined_name, part_name, symbols_of}
use Rattle.avro_schema.specs.Canonical.{canonical_form}
use Rattle.avro_names.specs.declared.error.SchemaNo.{SchemaNo}
use Rattle.avro_names.specs.declared.error.SchemaNo.TheVariants.{BadType, UnknownName, Float, TooDeep, TooLong}

-- what was read, and the fullnames that are defined then
pub record Read (T : Type 0) : Type 0 where
  pub value : T
  pub names : List (List ℕ)

abbrev pub Outcome : Type 0 → Type 0
Outcome T = Result (Read T) SchemaNo

-- how a value is read: inside a union or not, with the fullnames defined so far, in a namespace
abbrev pub Reader : Type 0
Reader = Bool → List (List ℕ) → List ℕ → Json → Outcome AvroType

-- ---- names

abbrev pub reads : AvroType → List (List ℕ) → Outcome AvroType
reads t names = Ok (record { value = t; names = names })

abbrev pub known : List (List ℕ) → List ℕ → Outcome AvroType
known names name = cond (is_among name names) (reads (types.named name) names) (Err UnknownName)

-- a type by its name: a primitive's, or that of one which was defined before
unfoldable pub type_by_name : Bool → List (List ℕ) → List ℕ → List ℕ → Outcome AvroType
type_by_name canonical names namespace name =
    cond (bytes_eq name (codes "null")) (reads types.null names)
    (cond (bytes_eq name (codes "boolean")) (reads types.boolean names)
    (cond (bytes_eq name (codes "int")) (reads types.int names)
    (cond (bytes_eq name (codes "long")) (reads types.long names)
    (cond (bytes_eq name (codes "bytes")) (reads types.bytes names)
    (cond (bytes_eq name (codes "string")) (reads types.string names)
    (cond (is_float name) (Err Float) (known names (full_name canonical namespace name))))))))

-- ---- named types

abbrev pub are_digits : List ℕ → Bool
are_digits [] = true
are_digits (b ∷ bs) = is_digit b && are_digits bs

-- one digit or more, and a number of at most 1,048,576
abbrev pub digits_size : List ℕ → Result ℕ SchemaNo
digits_size [] = Err BadType
digits_size (b ∷ bs) = cond (are_digits (b ∷ bs) && nat_le (decimal (b ∷ bs)) 1048576) (Ok (decimal (b ∷ bs))) (Err BadType)

abbrev pub size_of : Option Json → Result ℕ SchemaNo
size_of (Some (number s)) = digits_size s
size_of (Some (text s)) = digits_size (content s)
size_of (Some j) = Err BadType
size_of None = Err BadType

-- ---- types with parts

abbrev pub part_type : Reader → List (List ℕ) → List ℕ → Option Json → Outcome AvroType
part_type below names namespace (Some j) = below false names namespace j
part_type below names namespace None = Err BadType

-- a field's name and its type
pub record FieldType : Type 0 where
  pub name : List ℕ
  pub type : AvroType

-- a field, after those before it
abbrev pub field_read : Reader → List (List ℕ) → List ℕ → List (List ℕ) → Json → Outcome FieldType
field_read below names namespace seen (object ms) =
    next (part_name seen (last_member (codes "name") ms)) (λ name. next (part_type below names namespace (last_member (codes "type") ms)) (λ t.
    Ok (record { value = record { name = name; type = t.value }; names = t.names })))
field_read below names namespace seen j = Err BadType

abbrev pub fields_read : Reader → List (List ℕ) → List ℕ → List (List ℕ) → Items → Outcome Fields
fields_read below names namespace seen no_items = Ok (record { value = no_fields; names = names })
fields_read below names namespace seen (item j js) =
    next (field_read below names namespace seen j) (λ f. next (fields_read below f.names namespace (seen ++ (f.value.name ∷ [])) js) (λ rest.
    Ok (record { value = field f.value.name f.value.type rest.value; names = rest.names })))

abbrev pub fields_of : Reader → List (List ℕ) → List ℕ → Option Json → Outcome Fields
fields_of below names namespace (Some (array js)) = fields_read below names namespace [] js
fields_of below names namespace (Some j) = Err BadType
fields_of below names namespace None = Err BadType

-- a branch, which isn't of the kind or the fullname of one before it
abbrev pub branch_read : Reader → List (List ℕ) → List ℕ → List (List ℕ) → Json → Outcome AvroType
branch_read below names namespace seen j = next (below true names namespace j) (λ t. cond (is_among (branch_name t.value) seen) (Err BadType) (Ok t))

abbrev pub branches_read : Reader → List (List ℕ) → List ℕ → List (List ℕ) → Items → Outcome Branches
branches_read below names namespace seen no_items = Ok (record { value = no_branches; names = names })
branches_read below names namespace seen (item j js) =
    next (branch_read below names namespace seen j) (λ t. next (branches_read below t.names namespace (seen ++ (branch_name t.value ∷ [])) js) (λ rest.
    Ok (record { value = branch t.value rest.value; names = rest.names })))

-- ---- a whole value

abbrev pub union_read : Reader → List (List ℕ) → List ℕ → Items → Outcome AvroType
union_read below names namespace js = next (branches_read below names namespace [] js) (λ bs. reads (types.union bs.value) bs.names)

abbrev pub array_read : Reader → List (List ℕ) → List ℕ → Members → Outcome AvroType
array_read below names namespace ms = next (part_type below names namespace (last_member (codes "items") ms)) (λ t. reads (types.array t.value) t.names)

abbrev pub map_read : Reader → List (List ℕ) → List ℕ → Members → Outcome AvroType
map_read below names namespace ms = next (part_type below names namespace (last_member (codes "values") ms)) (λ t. reads (types.map t.value) t.names)

-- a name is defined before the fields are read
abbrev pub record_read : Bool → Reader → List (List ℕ) → List ℕ → Members → Outcome AvroType
record_read canonical below names namespace ms =
    next (defined_name canonical names namespace ms) (λ name.
    next (fields_of below (names ++ (name ∷ [])) (namespace_of name) (last_member (codes "fields") ms)) (λ fs.
    reads (types.record_ name fs.value) fs.names))

abbrev pub enum_read : Bool → List (List ℕ) → List ℕ → Members → Outcome AvroType
enum_read canonical names namespace ms =
    next (defined_name canonical names namespace ms) (λ name. next (symbols_of (last_member (codes "symbols") ms)) (λ symbols.
    reads (types.enum_ name symbols) (names ++ (name ∷ []))))

abbrev pub fixed_read : Bool → List (List ℕ) → List ℕ → Members → Outcome AvroType
fixed_read canonical names namespace ms =
    next (defined_name canonical names namespace ms) (λ name. next (size_of (last_member (codes "size") ms)) (λ size.
    reads (types.fixed name size) (names ++ (name ∷ []))))

-- an object whose `type` is a text
unfoldable pub object_by_word : Bool → Reader → List (List ℕ) → List ℕ → Members → List ℕ → Outcome AvroType
object_by_word canonical below names namespace ms word =
    cond (bytes_eq word (codes "record")) (record_read canonical below names namespace ms)
    (cond (bytes_eq word (codes "enum")) (enum_read canonical names namespace ms)
    (cond (bytes_eq word (codes "array")) (array_read below names namespace ms)
    (cond (bytes_eq word (codes "map")) (map_read below names namespace ms)
    (cond (bytes_eq word (codes "fixed")) (fixed_read canonical names namespace ms)
    (type_by_name canonical names namespace word)))))

abbrev pub object_read : Bool → Reader → Bool → List (List ℕ) → List ℕ → Members → Option Json → Outcome AvroType
object_read canonical below in_union names namespace ms (Some (text s)) = object_by_word canonical below names namespace ms (content s)
object_read canonical below in_union names namespace ms (Some j) = below in_union names namespace j
object_read canonical below in_union names namespace ms None = Err BadType

-- a value where one level more may open
abbrev pub one_level : Bool → Reader → Reader
one_level canonical below in_union names namespace (text s) = type_by_name canonical names namespace (content s)
one_level canonical below in_union names namespace (array js) = cond in_union (Err BadType) (union_read below names namespace js)
one_level canonical below in_union names namespace (object ms) = object_read canonical below in_union names namespace ms (last_member (codes "type") ms)
one_level canonical below in_union names namespace j = Err BadType

-- a value where none may
abbrev pub no_level : Bool → Reader
no_level canonical in_union names namespace (text s) = type_by_name canonical names namespace (content s)
no_level canonical in_union names namespace (array js) = Err (cond in_union BadType TooDeep)
no_level canonical in_union names namespace (object ms) = Err TooDeep
no_level canonical in_union names namespace j = Err BadType

-- a value in which so many levels may open, each by an object or an array that is a type
unfoldable pub reader : Bool → ℕ → Reader
reader canonical zero = no_level canonical
reader canonical (suc levels) = one_level canonical (reader canonical levels)

-- a type whose canonical form is short enough
abbrev pub short_enough : AvroType → Result AvroType SchemaNo
short_enough t = cond (nat_le (length (canonical_form t)) 65536) (Ok t) (Err TooLong)

-- the schema that a JSON value is, or the first cause why it is none; in canonical reading each name is a fullname
unfoldable pub schema_of : Bool → Json → Result AvroType SchemaNo
schema_of canonical j = next (reader canonical 64 false [] [] j) (λ t. short_enough t.value)

-- the bytes are a JSON text of a value that is this schema
abbrev pub ReadsAs : Bool → List ℕ → AvroType → Type 0
ReadsAs canonical bytes t = (j : Json) × IsText max_levels bytes j × (schema_of canonical j ≡ Ok t)
