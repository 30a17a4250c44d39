-- The JSON tokens of a value of a type, with the first node in preorder that isn't of its schema.
use Rattle.std.specs.Prelude.{ℕ, suc, ◌≡◌, ◌^◌, List, [], ◌∷◌, ◌++◌, length, Option, Some, None, Result, Ok, Err, Bool, true, false, ◌&&◌, nat_lt, slice_get, if◌then◌else◌}
use Rattle.std.specs.Str.{encode_utf8_all}
use Rattle.std.specs.Fmt.{signed_decimal}
use Rattle.json.specs.Token as token
use Rattle.json.specs.Token.{Token}
use Rattle.avro_schema.specs.Types as schema
use Rattle.avro_schema.specs.Types.{AvroType, Fields, resolved, branch_name}
use Rattle.avro_value.specs.declared.error.AvroNo.{AvroNo}
use Rattle.avro_value.specs.declared.error.AvroNo.TheVariants.{Mismatch, TooMany}
use Rattle.avro_value.specs.Steps.{◌>>=◌, Fails}
use Rattle.avro_value.specs.Value.{Value, Values, Entries, null, boolean, int, long, bytes, string, fixed, symbol, branch, fields, items, entries, no_values, value, no_entries, entry, size_of, count_of, max_levels, max_nodes}
use Rattle.avro_value.specs.Judging.{is_null, is_boolean, is_int, is_long, is_bytes, is_string, is_fixed, is_below, branch_in, fields_in, items_in, entries_in, node}
use Rattle.avro_value.specs.Encoding.{differ}

-- the tokens and the number of the node behind them, or the first refusal
abbrev pub Shown : Type 0
Shown = Result (List Token × ℕ) AvroNo

abbrev pub matched : ℕ → Bool → List Token → Shown
matched k holds ts = if holds then Ok (ts, suc k) else Err (Mismatch k)

-- a node without parts
abbrev pub leaf : ℕ → Bool → List Token → Shown
leaf k holds ts = if nat_lt k max_nodes then matched k holds ts else Err TooMany

abbrev pub between : Token → Token → Shown → Shown
between first last parts = parts >>= λ x. Ok (first ∷ (x.0 ++ (last ∷ [])), x.1)

-- behind these tokens
abbrev pub behind : List Token → Shown → Shown
behind front parts = parts >>= λ x. Ok (front ++ x.0, x.1)

-- an enum's symbol
abbrev pub symbol_in : AvroType → ℕ → Option (List ℕ)
symbol_in (schema.enum_ name symbols) n = slice_get symbols n
symbol_in t n = None

abbrev pub named : ℕ → Option (List ℕ) → Shown
named k None = leaf k false []
named k (Some name) = leaf k true (token.string name ∷ [])

-- null stands for itself, another value in an object with one member that names the branch
abbrev pub labelled : AvroType → Shown → Shown
labelled t inner = if is_null t then inner else between token.begin_object token.end_object (behind (token.key (branch_name t) ∷ []) inner)

abbrev pub keys_of : Entries → List (List ℕ)
keys_of no_entries = []
keys_of (entry key v es) = key ∷ keys_of es

-- the type of a map's values, where its keys differ
abbrev pub values_in : AvroType → Entries → Option AvroType
values_in t es = if differ (keys_of es) then entries_in t (count_of es) else None

abbrev pub field_shown : Fields → ℕ → (List ℕ → AvroType → Fields → Shown) → Shown
field_shown schema.no_fields k parts = Err (Mismatch k)
field_shown (schema.field name t ts) k parts = parts name t ts

abbrev mutual
  -- node k is the value, of this type in the whole schema, with so many levels for its parts
  pub shown : AvroType → ℕ → AvroType → ℕ → Value → Shown
  shown whole levels t k null = leaf k (is_null (resolved whole t)) (token.null ∷ [])
  shown whole levels t k (boolean b) = leaf k (is_boolean (resolved whole t)) (token.boolean b ∷ [])
  shown whole levels t k (int n) = leaf k (is_int (resolved whole t) && is_below (2 ^ 31) n) (token.number (signed_decimal n) ∷ [])
  shown whole levels t k (long n) = leaf k (is_long (resolved whole t) && is_below (2 ^ 63) n) (token.number (signed_decimal n) ∷ [])
  shown whole levels t k (bytes bs) = leaf k (is_bytes (resolved whole t)) (token.string (encode_utf8_all bs) ∷ [])
  shown whole levels t k (string bs) = leaf k (is_string (resolved whole t)) (token.string bs ∷ [])
  shown whole levels t k (fixed bs) = leaf k (is_fixed (resolved whole t) (length bs)) (token.string (encode_utf8_all bs) ∷ [])
  shown whole levels t k (symbol n) = named k (symbol_in (resolved whole t) n)
  shown whole levels t k (branch n v) = node levels k (branch_in (resolved whole t) n) (λ below u. labelled u (shown whole below u (suc k) v))
  shown whole levels t k (fields vs) = node levels k (fields_in (resolved whole t) (size_of vs)) (λ below ts. between token.begin_object token.end_object (shown_fields whole below ts (suc k) vs))
  shown whole levels t k (items vs) = node levels k (items_in (resolved whole t) (size_of vs)) (λ below u. between token.begin_array token.end_array (shown_items whole below u (suc k) vs))
  shown whole levels t k (entries es) = node levels k (values_in (resolved whole t) es) (λ below u. between token.begin_object token.end_object (shown_entries whole below u (suc k) es))

  -- each field under its name
  pub shown_fields : AvroType → ℕ → Fields → ℕ → Values → Shown
  shown_fields whole levels ts k no_values = Ok ([], k)
  shown_fields whole levels ts k (value v vs) = field_shown ts k (λ name t more. behind (token.key name ∷ []) (shown whole levels t k v) >>= λ x. behind x.0 (shown_fields whole levels more x.1 vs))

  pub shown_items : AvroType → ℕ → AvroType → ℕ → Values → Shown
  shown_items whole levels t k no_values = Ok ([], k)
  shown_items whole levels t k (value v vs) = shown whole levels t k v >>= λ x. behind x.0 (shown_items whole levels t x.1 vs)

  -- each entry under its key
  pub shown_entries : AvroType → ℕ → AvroType → ℕ → Entries → Shown
  shown_entries whole levels t k no_entries = Ok ([], k)
  shown_entries whole levels t k (entry key v es) = behind (token.key key ∷ []) (shown whole levels t k v) >>= λ x. behind x.0 (shown_entries whole levels t x.1 es)

-- the tokens of a datum of the schema, or its first refusal
unfoldable pub tokens_of : AvroType → Value → Result (List Token) AvroNo
tokens_of whole v = shown whole max_levels whole 0 v >>= λ x. Ok x.0

-- the tokens stand behind those before, with the number of the node behind them; or the cause is the first refusal
abbrev pub Shows : Result ℕ AvroNo → Shown → List Token → List Token → Type 0
Shows (Ok next) parts old new = (ts : List Token) × (parts ≡ Ok (ts, next)) × (new ≡ old ++ ts)
Shows (Err e) parts old new = Fails e parts
