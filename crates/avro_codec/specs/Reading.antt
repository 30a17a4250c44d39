-- Reading a datum from left to right, with the first place at which reading stops (Apache Avro 1.11 specification, "Binary Encoding").
use Rattle.std.specs.Prelude.{ℕ, zero, suc, ℤ, pos, negsuc, ◌≡◌, ◌-◌, ◌^◌, List, [], ◌∷◌, ◌++◌, length, take, drop, Option, Some, None, Result, Ok, Err, Bool, true, false, ◌&&◌, ◌==◌, nat_le, nat_lt, if◌then◌else◌}
use Rattle.std.specs.Str.{is_utf8}
use Rattle.wire_prim.specs.declared.error.PrimNo.{PrimNo}
use Rattle.wire_prim.specs.declared.error.PrimNo.TheVariants as item
use Rattle.wire_prim.specs.Behind.{Behind}
use Rattle.wire_prim.specs.Varint.{varint_at, behind_varint, behind_varlong}
use Rattle.avro_schema.specs.Types as schema
use Rattle.avro_schema.specs.Types.{AvroType, Branches, Fields, resolved}
use Rattle.avro_value.specs.declared.error.AvroNo.{AvroNo}
use Rattle.avro_value.specs.declared.error.AvroNo.TheVariants.{Mismatch, Range, Short, Rest, BadUtf8, TooDeep, TooMany, Want}
use Rattle.avro_codec.specs.declared.cursor.Head.{Head}
use Rattle.avro_value.specs.Steps.{◌>>=◌, Fails}
use Rattle.avro_value.specs.Value.{Value, Entry, null, boolean, int, long, bytes, string, fixed, symbol, branch, fields, items, entries, values_of, entries_of, max_levels, max_nodes}
use Rattle.avro_value.specs.Judging.{branch_at}

-- the number of the node that comes next, and the bytes that are left
pub record Place : Type 0 where
  pub next : ℕ
  pub left : List ℕ

-- what was read and the place behind it, or why nothing was
abbrev pub Read : Type 0 → Type 0
Read A = Result (A × Place) AvroNo

abbrev pub behind : ℕ → List ℕ → Place
behind next left = record { next = next; left = left }

-- an integer that node k lacks
abbrev pub stopped : ℕ → PrimNo → AvroNo
stopped k item.Short = Short
stopped k item.TooLong = Range k
stopped k item.BadUtf8 = BadUtf8
stopped k item.Negative = Mismatch k
stopped k item.Want = Want

abbrev pub number : ℕ → ℤ → Place → Behind → Read ℤ
number k n p (Ok rest) = Ok (n, behind p.next rest)
number k n p (Err e) = Err (stopped k e)

-- an int of node k
unfoldable pub int_at : ℕ → Place → Read ℤ
int_at k p = number k (varint_at p.left) p (behind_varint p.left)

-- a long of node k
unfoldable pub long_at : ℕ → Place → Read ℤ
long_at k p = number k (varint_at p.left) p (behind_varlong p.left)

-- so many bytes
abbrev pub run_at : ℕ → Place → Read (List ℕ)
run_at n p = if nat_le n (length p.left) then Ok (take n p.left, behind p.next (drop n p.left)) else Err Short

-- a length of node k isn't below 0
abbrev pub measured : ℕ → ℤ → Place → Read (List ℕ)
measured k (pos n) p = run_at n p
measured k (negsuc n) p = Err (Mismatch k)

-- a long, and so many bytes
unfoldable pub sized_at : ℕ → Place → Read (List ℕ)
sized_at k p = long_at k p >>= λ n. measured k n.0 n.1

abbrev pub utf8 : List ℕ × Place → Read (List ℕ)
utf8 x = if is_utf8 x.0 then Ok x else Err BadUtf8

unfoldable pub text_at : ℕ → Place → Read (List ℕ)
text_at k p = sized_at k p >>= utf8

-- a byte that is 0 or 1
abbrev pub flag_of : ℕ → ℕ → List ℕ → List ℕ → Read Bool
flag_of k next [] left = Err Short
flag_of k next (zero ∷ rest) left = Ok (false, behind next rest)
flag_of k next (suc zero ∷ rest) left = Ok (true, behind next rest)
flag_of k next (suc (suc b) ∷ rest) left = Err (Mismatch k)

unfoldable pub flag_at : ℕ → Place → Read Bool
flag_at k p = flag_of k p.next p.left p.left

-- as many items in turn
unfoldable pub many : {A : Type 0} → ℕ → (Place → Read A) → Place → Read (List A)
many zero one p = Ok ([], p)
many (suc n) one p = one p >>= λ x. many n one x.1 >>= λ xs. Ok (x.0 ∷ xs.0, xs.1)

-- what was read behind these
abbrev pub with_front : {A : Type 0} → List A → Read (List A) → Read (List A)
with_front front read = read >>= λ xs. Ok (front ++ xs.0, xs.1)

-- a negative count is followed by the block's size
abbrev pub head_of : ℕ → ℤ → Place → Read Head
head_of k (pos n) p = Ok (record { count = n; size = None }, p)
head_of k (negsuc n) p = long_at k p >>= λ size. Ok (record { count = suc n; size = Some size.0 }, size.1)

-- how a block of node k begins
unfoldable pub head_at : ℕ → Place → Read Head
head_at k p = long_at k p >>= λ n. head_of k n.0 n.1

-- so many bytes are what the block's size says, if it says one
abbrev pub weighs : Option ℤ → ℕ → Bool
weighs None taken = true
weighs (Some (pos n)) taken = n == taken
weighs (Some (negsuc n)) taken = false

-- the items of a block, whose size is judged behind them
abbrev pub block_at : {A : Type 0} → ℕ → (Place → Read A) → Head → Place → Read (List A)
block_at k one h p = many h.count one p >>= λ xs. if weighs h.size (length p.left - length xs.1.left) then Ok xs else Err (Mismatch k)

-- the items of blocks, each of which has a byte at least, up to a count of 0
unfoldable pub blocks : {A : Type 0} → ℕ → ℕ → (Place → Read A) → Place → Read (List A)
blocks zero k one p = Err Short
blocks (suc most) k one p = head_at k p >>= λ h. if h.0.count == 0 then Ok ([], h.1) else (block_at k one h.0 h.1 >>= λ xs. with_front xs.0 (blocks most k one xs.1))

abbrev pub all_blocks : {A : Type 0} → ℕ → (Place → Read A) → Place → Read (List A)
all_blocks k one p = blocks (suc (length p.left)) k one p

-- how a type's values are read
abbrev pub Reader : Type 0
Reader = AvroType → Place → Read Value

-- an entry of node k: its key as a string, and its value
abbrev pub entry_at : Reader → ℕ → AvroType → Place → Read Entry
entry_at inner k t p = text_at k p >>= λ key. inner t key.1 >>= λ v. Ok (record { key = key.0; value = v.0 }, v.1)

unfoldable pub fields_at : Reader → Fields → Place → Read (List Value)
fields_at inner schema.no_fields p = Ok ([], p)
fields_at inner (schema.field name t ts) p = inner t p >>= λ v. fields_at inner ts v.1 >>= λ vs. Ok (v.0 ∷ vs.0, vs.1)

abbrev pub picked : Reader → ℕ → ℕ → Option AvroType → Place → Read Value
picked inner k n None p = Err (Mismatch k)
picked inner k n (Some t) p = inner t p >>= λ v. Ok (branch n v.0, v.1)

-- the branch of node k
abbrev pub branch_of : Reader → ℕ → Branches → ℤ → Place → Read Value
branch_of inner k ts (pos n) p = if nat_lt n (2 ^ 32) then picked inner k n (branch_at ts n) p else Err (Mismatch k)
branch_of inner k ts (negsuc n) p = Err (Mismatch k)

-- the place of a branch, and its value
abbrev pub union_at : Reader → ℕ → Branches → Place → Read Value
union_at inner k ts p = long_at k p >>= λ n. branch_of inner k ts n.0 n.1

-- the place of a symbol among so many
abbrev pub symbol_of : ℕ → ℕ → ℤ → Place → Read Value
symbol_of k count (pos n) p = if nat_lt n count then Ok (symbol n, p) else Err (Mismatch k)
symbol_of k count (negsuc n) p = Err (Mismatch k)

abbrev pub enum_at : ℕ → ℕ → Place → Read Value
enum_at k count p = int_at k p >>= λ n. symbol_of k count n.0 n.1

abbrev pub giving : {A : Type 0} → (A → Value) → Read A → Read Value
giving f read = read >>= λ x. Ok (f x.0, x.1)

-- the bytes of node k, which is of this type
abbrev pub body_at : Reader → ℕ → AvroType → Place → Read Value
body_at inner k schema.null p = Ok (null, p)
body_at inner k schema.boolean p = giving boolean (flag_at k p)
body_at inner k schema.int p = giving int (int_at k p)
body_at inner k schema.long p = giving long (long_at k p)
body_at inner k schema.bytes p = giving bytes (sized_at k p)
body_at inner k schema.string p = giving string (text_at k p)
body_at inner k (schema.fixed name size) p = giving fixed (run_at size p)
body_at inner k (schema.enum_ name symbols) p = enum_at k (length symbols) p
body_at inner k (schema.union ts) p = union_at inner k ts p
body_at inner k (schema.record_ name ts) p = giving (λ vs. fields (values_of vs)) (fields_at inner ts p)
body_at inner k (schema.array t) p = giving (λ vs. items (values_of vs)) (all_blocks k (inner t) p)
body_at inner k (schema.map t) p = giving (λ es. entries (entries_of es)) (all_blocks k (entry_at inner k t) p)
body_at inner k (schema.named name) p = Err (Mismatch k)

-- a type whose values have parts
abbrev pub nests : AvroType → Bool
nests (schema.union ts) = true
nests (schema.record_ name ts) = true
nests (schema.array t) = true
nests (schema.map t) = true
nests t = false

-- a node is judged by its level and its number before its bytes
abbrev pub entered : Bool → Place → Read ℕ
entered is_too_deep p = if is_too_deep then Err TooDeep else (if nat_lt p.next max_nodes then Ok (p.next, behind (suc p.next) p.left) else Err TooMany)

abbrev pub node_at : Reader → Bool → AvroType → Place → Read Value
node_at inner is_deepest u p = entered (nests u && is_deepest) p >>= λ k. body_at inner k.0 u k.1

abbrev pub too_deep : Reader
too_deep t p = Err TooDeep

-- a value of a type in the whole schema, with so many levels for its parts
unfoldable pub value_at : AvroType → ℕ → Reader
value_at whole zero t p = node_at too_deep true (resolved whole t) p
value_at whole (suc levels) t p = node_at (value_at whole levels) false (resolved whole t) p

-- how the parts of a value with so many levels are read
abbrev pub below_at : AvroType → ℕ → Reader
below_at whole zero = too_deep
below_at whole (suc levels) = value_at whole levels

abbrev pub ended : Value × Place → Result Value AvroNo
ended v = if length v.1.left == 0 then Ok v.0 else Err Rest

-- a datum of the schema, all of the bytes
unfoldable pub datum_at : AvroType → List ℕ → Result Value AvroNo
datum_at whole bs = value_at whole max_levels whole (behind 0 bs) >>= ended

-- the answer, seen by view, is what reading gives, and the place is the one behind it
abbrev pub Reads : {X Y : Type 0} → (X → Y) → Result X AvroNo → Read Y → Place → Type 0
Reads view (Ok x) read now = read ≡ Ok (view x, now)
Reads view (Err e) read now = Fails e read
