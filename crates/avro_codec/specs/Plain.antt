-- The one spelling that is written: shortest varints, and one block (Apache Avro 1.11 specification, "Binary Encoding").
use Rattle.std.specs.Prelude.{ℕ, zero, suc, ℤ, pos, List, [], ◌∷◌, ◌++◌, length, Bool, true, false}
use Rattle.wire_prim.specs.Varint.{varint_bytes, varlong_bytes}
use Rattle.avro_value.specs.Value.{Value, Values, Entries, Entry, null, boolean, int, long, bytes, string, fixed, symbol, branch, fields, items, entries, no_values, value, no_entries, entry, size_of, count_of}

-- false is 0 and true is 1
abbrev pub flag : Bool → ℕ
flag false = 0
flag true = 1

-- the shortest spelling of an int
unfoldable pub int_bytes : ℤ → List ℕ
int_bytes n = varint_bytes n

-- the shortest spelling of a long
unfoldable pub long_bytes : ℤ → List ℕ
long_bytes n = varlong_bytes n

-- a long of how many bytes there are, and the bytes
abbrev pub sized : List ℕ → List ℕ
sized bs = long_bytes (pos (length bs)) ++ bs

-- a block of so many items, and the end; where there are no items, the end alone
abbrev pub one_block : ℕ → List ℕ → List ℕ
one_block zero bs = 0 ∷ []
one_block (suc n) bs = long_bytes (pos (suc n)) ++ (bs ++ (0 ∷ []))

abbrev mutual
  pub plain : Value → List ℕ
  plain null = []
  plain (boolean b) = flag b ∷ []
  plain (int n) = int_bytes n
  plain (long n) = long_bytes n
  plain (bytes bs) = sized bs
  plain (string bs) = sized bs
  plain (fixed bs) = bs
  plain (symbol n) = int_bytes (pos n)
  plain (branch n v) = long_bytes (pos n) ++ plain v
  plain (fields vs) = plain_values vs
  plain (items vs) = one_block (size_of vs) (plain_values vs)
  plain (entries es) = one_block (count_of es) (plain_entries es)

  pub plain_values : Values → List ℕ
  plain_values no_values = []
  plain_values (value v vs) = plain v ++ plain_values vs

  -- an entry's key is a string
  pub plain_entries : Entries → List ℕ
  plain_entries no_entries = []
  plain_entries (entry key v es) = (sized key ++ plain v) ++ plain_entries es

abbrev pub plain_entry : Entry → List ℕ
plain_entry e = sized e.key ++ plain e.value
