-- The data of Avro schemas (Apache Avro 1.11 specification, "Data Serialization and Deserialization").
use Rattle.std.specs.Prelude.{ℕ, suc, ℤ, ◌≡◌, ◌+◌, ◌^◌, ◌<◌, ◌≤◌, List, [], ◌∷◌, Bool, true, ⊤}
use Rattle.std.specs.List.{AllByRecursion}
use Rattle.std.specs.Str.{is_utf8}

mutual
  pub data Value : Type 0 where
    null : Value
    boolean : Bool → Value
    int : ℤ → Value
    long : ℤ → Value
    bytes : List ℕ → Value
    string : List ℕ → Value
    fixed : List ℕ → Value
    -- the place of an enum's symbol
    symbol : ℕ → Value
    -- the place of a union's branch, and the value
    branch : ℕ → Value → Value
    -- a record's fields in the order of the schema
    fields : Values → Value
    -- an array
    items : Values → Value
    -- a map
    entries : Entries → Value

  pub data Values : Type 0 where
    no_values : Values
    value : Value → Values → Values

  -- each entry has a key and a value
  pub data Entries : Type 0 where
    no_entries : Entries
    entry : List ℕ → Value → Entries → Entries

-- a key and a value
pub record Entry : Type 0 where
  pub key : List ℕ
  pub value : Value

abbrev pub values_of : List Value → Values
values_of [] = no_values
values_of (v ∷ vs) = value v (values_of vs)

abbrev pub entries_of : List Entry → Entries
entries_of [] = no_entries
entries_of (e ∷ es) = entry e.key e.value (entries_of es)

-- how many values
abbrev pub size_of : Values → ℕ
size_of no_values = 0
size_of (value v vs) = suc (size_of vs)

-- how many entries
abbrev pub count_of : Entries → ℕ
count_of no_entries = 0
count_of (entry key v es) = suc (count_of es)

-- how many nodes a value has, itself among them
abbrev mutual
  pub nodes : Value → ℕ
  nodes null = 1
  nodes (boolean b) = 1
  nodes (int n) = 1
  nodes (long n) = 1
  nodes (bytes bs) = 1
  nodes (string bs) = 1
  nodes (fixed bs) = 1
  nodes (symbol n) = 1
  nodes (branch n v) = 1 + nodes v
  nodes (fields vs) = 1 + nodes_in vs
  nodes (items vs) = 1 + nodes_in vs
  nodes (entries es) = 1 + nodes_among es

  pub nodes_in : Values → ℕ
  nodes_in no_values = 0
  nodes_in (value v vs) = nodes v + nodes_in vs

  pub nodes_among : Entries → ℕ
  nodes_among no_entries = 0
  nodes_among (entry key v es) = nodes v + nodes_among es

-- unions, records, arrays and maps nest at most so many levels deep
abbrev mutual
  pub IsWithin : ℕ → Value → Type 0
  IsWithin levels null = ⊤
  IsWithin levels (boolean b) = ⊤
  IsWithin levels (int n) = ⊤
  IsWithin levels (long n) = ⊤
  IsWithin levels (bytes bs) = ⊤
  IsWithin levels (string bs) = ⊤
  IsWithin levels (fixed bs) = ⊤
  IsWithin levels (symbol n) = ⊤
  IsWithin levels (branch n v) = (below : ℕ) × (levels ≡ suc below) × IsWithin below v
  IsWithin levels (fields vs) = (below : ℕ) × (levels ≡ suc below) × AreWithin below vs
  IsWithin levels (items vs) = (below : ℕ) × (levels ≡ suc below) × AreWithin below vs
  IsWithin levels (entries es) = (below : ℕ) × (levels ≡ suc below) × EntriesWithin below es

  pub AreWithin : ℕ → Values → Type 0
  AreWithin levels no_values = ⊤
  AreWithin levels (value v vs) = IsWithin levels v × AreWithin levels vs

  pub EntriesWithin : ℕ → Entries → Type 0
  EntriesWithin levels no_entries = ⊤
  EntriesWithin levels (entry key v es) = IsWithin levels v × EntriesWithin levels es

abbrev pub max_levels : ℕ
max_levels = 64

abbrev pub max_nodes : ℕ
max_nodes = 1000000

-- the limits of a datum that is read or written
pub record IsSmall (v : Value) : Type 0 where
  pub levels : IsWithin max_levels v
  pub nodes : nodes v ≤ max_nodes

-- what the types of a datum's parts say: strings and keys are UTF-8, bytes are below 256, and the places of symbols are u32s
abbrev mutual
  pub IsTyped : Value → Type 0
  IsTyped null = ⊤
  IsTyped (boolean b) = ⊤
  IsTyped (int n) = ⊤
  IsTyped (long n) = ⊤
  IsTyped (bytes bs) = AllByRecursion (λ b. b < 256) bs
  IsTyped (string bs) = is_utf8 bs ≡ true
  IsTyped (fixed bs) = AllByRecursion (λ b. b < 256) bs
  IsTyped (symbol n) = n < 2 ^ 32
  IsTyped (branch n v) = IsTyped v
  IsTyped (fields vs) = AreTyped vs
  IsTyped (items vs) = AreTyped vs
  IsTyped (entries es) = EntriesTyped es

  pub AreTyped : Values → Type 0
  AreTyped no_values = ⊤
  AreTyped (value v vs) = IsTyped v × AreTyped vs

  pub EntriesTyped : Entries → Type 0
  EntriesTyped no_entries = ⊤
  EntriesTyped (entry key v es) = (is_utf8 key ≡ true) × IsTyped v × EntriesTyped es
