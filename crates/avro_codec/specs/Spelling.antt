-- Which bytes spell a value of a type (Apache Avro 1.11 specification, "Binary Encoding").
use Rattle.std.specs.Prelude.{ℕ, suc, ℤ, pos, negsuc, ◌≡◌, ◌<◌, ◌^◌, ◌⊎◌, List, [], ◌∷◌, ◌++◌, length, Some, true, FitsSigned}
use Rattle.std.specs.List.{flat_map, AllByRecursion}
use Rattle.std.specs.Int.{w32, w64}
use Rattle.std.specs.Str.{is_utf8}
use Rattle.wire_prim.specs.Varint.{IsVarint}
use Rattle.avro_schema.specs.Types as schema
use Rattle.avro_schema.specs.Types.{AvroType, Branches, Fields, resolved}
use Rattle.avro_value.specs.Value.{Value, Values, Entries, null, boolean, int, long, bytes, string, fixed, symbol, branch, fields, items, entries, no_values, value, no_entries, entry}
use Rattle.avro_value.specs.Judging.{branch_at}
use Rattle.avro_codec.specs.Plain.{flag}

-- an int: a zigzag varint of at most 5 bytes
pub record IsInt (n : ℤ) (bs : List ℕ) : Type 0 where
  pub spells : IsVarint 5 n bs
  pub fits : FitsSigned w32 n

-- a long: a zigzag varint of at most 10 bytes
pub record IsLong (n : ℤ) (bs : List ℕ) : Type 0 where
  pub spells : IsVarint 10 n bs
  pub fits : FitsSigned w64 n

-- a long of how many bytes there are, and the bytes
pub record IsSized (piece : List ℕ) (bs : List ℕ) : Type 0 where
  pub head : List ℕ
  pub size : IsLong (pos (length piece)) head
  pub is : bs ≡ head ++ piece

-- some of the items of an array or map, behind the bytes that begin them
pub record Block : Type 0 where
  pub head : List ℕ
  pub first : List ℕ
  pub others : List (List ℕ)

abbrev pub joined : List (List ℕ) → List ℕ
joined pieces = flat_map (λ piece. piece) pieces

abbrev pub pieces_of : Block → List (List ℕ)
pieces_of b = b.first ∷ b.others

abbrev pub block_bytes : Block → List ℕ
block_bytes b = b.head ++ joined (pieces_of b)

-- a negative count is followed by the block's size in bytes
pub record IsSizedHead (b : Block) : Type 0 where
  pub count : List ℕ
  pub size : List ℕ
  pub is : b.head ≡ count ++ size
  pub counts : IsLong (negsuc (length b.others)) count
  pub sizes : IsLong (pos (length (joined (pieces_of b)))) size

-- the count of the items, or it negated and the size
abbrev pub IsBlock : Block → Type 0
IsBlock b = IsLong (pos (suc (length b.others))) b.head ⊎ IsSizedHead b

-- every split of the items into blocks, ended by count 0
pub record AreBlocks (pieces : List (List ℕ)) (bs : List ℕ) : Type 0 where
  pub blocks : List Block
  pub end : List ℕ
  pub each : AllByRecursion IsBlock blocks
  pub ends : IsLong (pos 0) end
  pub all : flat_map pieces_of blocks ≡ pieces
  pub is : bs ≡ flat_map block_bytes blocks ++ end

-- the bytes spell the value, of this type in the whole schema
abbrev mutual
  pub IsDatum : AvroType → AvroType → Value → List ℕ → Type 0
  IsDatum whole t null bs = (resolved whole t ≡ schema.null) × (bs ≡ [])
  IsDatum whole t (boolean b) bs = (resolved whole t ≡ schema.boolean) × (bs ≡ flag b ∷ [])
  IsDatum whole t (int n) bs = (resolved whole t ≡ schema.int) × IsInt n bs
  IsDatum whole t (long n) bs = (resolved whole t ≡ schema.long) × IsLong n bs
  IsDatum whole t (bytes piece) bs = (resolved whole t ≡ schema.bytes) × IsSized piece bs
  IsDatum whole t (string piece) bs = (resolved whole t ≡ schema.string) × IsSized piece bs × (is_utf8 piece ≡ true)
  IsDatum whole t (fixed piece) bs = (name : List ℕ) × (resolved whole t ≡ schema.fixed name (length piece)) × (bs ≡ piece)
  IsDatum whole t (symbol n) bs = (name : List ℕ) × (symbols : List (List ℕ)) × (resolved whole t ≡ schema.enum_ name symbols) × (n < length symbols) × IsInt (pos n) bs
  IsDatum whole t (branch n v) bs = (ts : Branches) × (resolved whole t ≡ schema.union ts) × (u : AvroType) × (branch_at ts n ≡ Some u) × (n < 2 ^ 32)
      × (head : List ℕ) × (rest : List ℕ) × (bs ≡ head ++ rest) × IsLong (pos n) head × IsDatum whole u v rest
  IsDatum whole t (fields vs) bs = (name : List ℕ) × (ts : Fields) × (resolved whole t ≡ schema.record_ name ts) × AreFields whole ts vs bs
  IsDatum whole t (items vs) bs = (u : AvroType) × (resolved whole t ≡ schema.array u) × (pieces : List (List ℕ)) × AreItems whole u vs pieces × AreBlocks pieces bs
  IsDatum whole t (entries es) bs = (u : AvroType) × (resolved whole t ≡ schema.map u) × (pieces : List (List ℕ)) × AreEntries whole u es pieces × AreBlocks pieces bs

  -- each field in order
  pub AreFields : AvroType → Fields → Values → List ℕ → Type 0
  AreFields whole ts no_values bs = (ts ≡ schema.no_fields) × (bs ≡ [])
  AreFields whole ts (value v vs) bs = (name : List ℕ) × (t : AvroType) × (more : Fields) × (ts ≡ schema.field name t more)
      × (first : List ℕ) × (rest : List ℕ) × (bs ≡ first ++ rest) × IsDatum whole t v first × AreFields whole more vs rest

  -- each item has a piece
  pub AreItems : AvroType → AvroType → Values → List (List ℕ) → Type 0
  AreItems whole t no_values pieces = pieces ≡ []
  AreItems whole t (value v vs) pieces = (piece : List ℕ) × (more : List (List ℕ)) × (pieces ≡ piece ∷ more) × IsDatum whole t v piece × AreItems whole t vs more

  -- each entry has a piece, its key as a string and its value
  pub AreEntries : AvroType → AvroType → Entries → List (List ℕ) → Type 0
  AreEntries whole t no_entries pieces = pieces ≡ []
  AreEntries whole t (entry key v es) pieces = (name : List ℕ) × (body : List ℕ) × (more : List (List ℕ)) × (pieces ≡ (name ++ body) ∷ more)
      × IsSized key name × (is_utf8 key ≡ true) × IsDatum whole t v body × AreEntries whole t es more
