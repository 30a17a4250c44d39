-- Whether a value is one of a type, with the first node in preorder that isn't.
use Rattle.std.specs.Prelude.{ℕ, zero, suc, ℤ, pos, negsuc, ◌≡◌, ◌^◌, List, length, Option, Some, None, Result, Ok, Err, Bool, true, false, ◌&&◌, ◌==◌, nat_lt, if◌then◌else◌}
use Rattle.std.specs.Str.{is_utf8}
use Rattle.avro_schema.specs.Types as schema
use Rattle.avro_schema.specs.Types.{AvroType, Branches, Fields, resolved}
use Rattle.avro_value.specs.declared.error.AvroNo.{AvroNo}
use Rattle.avro_value.specs.declared.error.AvroNo.TheVariants.{Mismatch, TooDeep, TooMany}
use Rattle.avro_value.specs.Value.{Value, Values, Entries, Entry, null, boolean, int, long, bytes, string, fixed, symbol, branch, fields, items, entries, no_values, value, no_entries, entry, max_levels, max_nodes}
use Rattle.avro_value.specs.Value.{size_of, count_of}
use Rattle.avro_value.specs.Steps.{◌>>=◌, Fails}

-- the number of the node behind a value, or the first refusal
abbrev pub Verdict : Type 0
Verdict = Result ℕ AvroNo

abbrev pub is_null : AvroType → Bool
is_null schema.null = true
is_null t = false

abbrev pub is_boolean : AvroType → Bool
is_boolean schema.boolean = true
is_boolean t = false

abbrev pub is_int : AvroType → Bool
is_int schema.int = true
is_int t = false

abbrev pub is_long : AvroType → Bool
is_long schema.long = true
is_long t = false

abbrev pub is_bytes : AvroType → Bool
is_bytes schema.bytes = true
is_bytes t = false

abbrev pub is_string : AvroType → Bool
is_string schema.string = true
is_string t = false

-- a fixed of this size
abbrev pub is_fixed : AvroType → ℕ → Bool
is_fixed (schema.fixed name size) n = n == size
is_fixed t n = false

-- an enum with a symbol at this place
abbrev pub has_symbol : AvroType → ℕ → Bool
has_symbol (schema.enum_ name symbols) n = nat_lt n (length symbols)
has_symbol t n = false

-- the type of the branch at a place
abbrev pub branch_at : Branches → ℕ → Option AvroType
branch_at schema.no_branches n = None
branch_at (schema.branch t ts) zero = Some t
branch_at (schema.branch t ts) (suc n) = branch_at ts n

-- the branch of a union at a place
abbrev pub branch_in : AvroType → ℕ → Option AvroType
branch_in (schema.union ts) n = if nat_lt n (2 ^ 32) then branch_at ts n else None
branch_in t n = None

abbrev pub number_of : Fields → ℕ
number_of schema.no_fields = 0
number_of (schema.field name t ts) = suc (number_of ts)

-- a record's fields, where they are so many
abbrev pub fields_in : AvroType → ℕ → Option Fields
fields_in (schema.record_ name ts) n = if n == number_of ts then Some ts else None
fields_in t n = None

-- the type of an array's items
abbrev pub items_in : AvroType → ℕ → Option AvroType
items_in (schema.array t) n = if nat_lt n (2 ^ 63) then Some t else None
items_in t n = None

-- the type of a map's values
abbrev pub entries_in : AvroType → ℕ → Option AvroType
entries_in (schema.map t) n = if nat_lt n (2 ^ 63) then Some t else None
entries_in t n = None

-- from its negative up to the bound
abbrev pub is_below : ℕ → ℤ → Bool
is_below bound (pos n) = nat_lt n bound
is_below bound (negsuc n) = nat_lt n bound

abbrev pub matched : ℕ → Bool → Verdict
matched k holds = if holds then Ok (suc k) else Err (Mismatch k)

-- a node without parts
abbrev pub leaf : ℕ → Bool → Verdict
leaf k holds = if nat_lt k max_nodes then matched k holds else Err TooMany

-- the levels below a node with parts
abbrev pub opened : ℕ → ℕ → Verdict
opened zero k = Err TooDeep
opened (suc below) k = if nat_lt k max_nodes then Ok below else Err TooMany

abbrev pub inside : {T A : Type 0} → ℕ → Option T → (T → Result A AvroNo) → Result A AvroNo
inside k None parts = Err (Mismatch k)
inside k (Some t) parts = parts t

-- a node with parts, which have one level less
abbrev pub node : {T A : Type 0} → ℕ → ℕ → Option T → (ℕ → T → Result A AvroNo) → Result A AvroNo
node levels k t parts = opened levels k >>= λ below. inside k t (parts below)

-- the first field's type, and the other fields
abbrev pub first_field : Fields → ℕ → (AvroType → Fields → Verdict) → Verdict
first_field schema.no_fields k parts = Err (Mismatch k)
first_field (schema.field name t more) k parts = parts t more

-- a key is a text whose length is a long
abbrev pub is_key : List ℕ → Bool
is_key key = is_utf8 key && nat_lt (length key) (2 ^ 63)

-- an entry's value, behind its key
abbrev pub keyed : ℕ → List ℕ → Verdict → Verdict
keyed k key parts = if is_key key then parts else Err (Mismatch k)

abbrev mutual
  -- node k is the value, of this type in the whole schema, with so many levels for its parts
  pub judged : AvroType → ℕ → AvroType → ℕ → Value → Verdict
  judged whole levels t k null = leaf k (is_null (resolved whole t))
  judged whole levels t k (boolean b) = leaf k (is_boolean (resolved whole t))
  judged whole levels t k (int n) = leaf k (is_int (resolved whole t) && is_below (2 ^ 31) n)
  judged whole levels t k (long n) = leaf k (is_long (resolved whole t) && is_below (2 ^ 63) n)
  judged whole levels t k (bytes bs) = leaf k (is_bytes (resolved whole t) && nat_lt (length bs) (2 ^ 63))
  judged whole levels t k (string bs) = leaf k (is_string (resolved whole t) && (is_utf8 bs && nat_lt (length bs) (2 ^ 63)))
  judged whole levels t k (fixed bs) = leaf k (is_fixed (resolved whole t) (length bs))
  judged whole levels t k (symbol n) = leaf k (has_symbol (resolved whole t) n && nat_lt n (2 ^ 31))
  judged whole levels t k (branch n v) = node levels k (branch_in (resolved whole t) n) (λ below u. judged whole below u (suc k) v)
  judged whole levels t k (fields vs) = node levels k (fields_in (resolved whole t) (size_of vs)) (λ below ts. judged_fields whole below ts (suc k) vs)
  judged whole levels t k (items vs) = node levels k (items_in (resolved whole t) (size_of vs)) (λ below u. judged_items whole below u (suc k) vs)
  judged whole levels t k (entries es) = node levels k (entries_in (resolved whole t) (count_of es)) (λ below u. judged_entries whole below u (suc k) es)

  pub judged_fields : AvroType → ℕ → Fields → ℕ → Values → Verdict
  judged_fields whole levels ts k no_values = Ok k
  judged_fields whole levels ts k (value v vs) = first_field ts k (λ t more. judged whole levels t k v >>= λ n. judged_fields whole levels more n vs)

  pub judged_items : AvroType → ℕ → AvroType → ℕ → Values → Verdict
  judged_items whole levels t k no_values = Ok k
  judged_items whole levels t k (value v vs) = judged whole levels t k v >>= λ n. judged_items whole levels t n vs

  pub judged_entries : AvroType → ℕ → AvroType → ℕ → Entries → Verdict
  judged_entries whole levels t k no_entries = Ok k
  judged_entries whole levels t k (entry key v es) = keyed k key (judged whole levels t k v) >>= λ n. judged_entries whole levels t n es

abbrev pub judged_entry : AvroType → ℕ → AvroType → ℕ → Entry → Verdict
judged_entry whole levels t k e = keyed k e.key (judged whole levels t k e.value)

-- the first refusal of a datum of the schema, if there is one
unfoldable pub verdict : AvroType → Value → Verdict
verdict whole v = judged whole max_levels whole 0 v

-- the answer is the verdict, unless there was no memory
abbrev pub Judges : Result ℕ AvroNo → Verdict → Type 0
Judges (Ok k) verdict = verdict ≡ Ok k
Judges (Err e) verdict = Fails e verdict
