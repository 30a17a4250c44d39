-- The Parsing Canonical Form (Apache Avro 1.11 specification, "Transforming into Parsing Canonical Form").
use Rattle.std.specs.Prelude.{ℕ, List, [], ◌∷◌, ◌++◌, Bool, true, false, codes, decimal}
use Rattle.avro_schema.specs.Types.{AvroType, Branches, Fields, null, boolean, int, long, bytes, string, array, map, union, fixed, enum_, record_, named, no_branches, branch, no_fields, field}

-- a name between quotes
abbrev pub quote : List ℕ → List ℕ
quote name = 34 ∷ (name ++ (34 ∷ []))

-- the rest of an enum's symbols, each behind a comma
abbrev pub more_symbols : List (List ℕ) → List ℕ
more_symbols [] = codes "]}"
more_symbols (s ∷ ss) = codes "," ++ (quote s ++ more_symbols ss)

abbrev pub symbol_list : List (List ℕ) → List ℕ
symbol_list [] = codes "]}"
symbol_list (s ∷ ss) = quote s ++ more_symbols ss

abbrev mutual
  pub canonical_form : AvroType → List ℕ
  canonical_form null = codes "\"null\""
  canonical_form boolean = codes "\"boolean\""
  canonical_form int = codes "\"int\""
  canonical_form long = codes "\"long\""
  canonical_form bytes = codes "\"bytes\""
  canonical_form string = codes "\"string\""
  canonical_form (array t) = codes "{\"type\":\"array\",\"items\":" ++ (canonical_form t ++ codes "}")
  canonical_form (map t) = codes "{\"type\":\"map\",\"values\":" ++ (canonical_form t ++ codes "}")
  canonical_form (union bs) = codes "[" ++ branch_list bs
  canonical_form (fixed name size) = codes "{\"name\":" ++ (quote name ++ (codes ",\"type\":\"fixed\",\"size\":" ++ (decimal size ++ codes "}")))
  canonical_form (enum_ name symbols) = codes "{\"name\":" ++ (quote name ++ (codes ",\"type\":\"enum\",\"symbols\":[" ++ symbol_list symbols))
  canonical_form (record_ name fs) = codes "{\"name\":" ++ (quote name ++ (codes ",\"type\":\"record\",\"fields\":[" ++ field_list fs))
  canonical_form (named name) = quote name

  -- a union's branches up to its end
  pub branch_list : Branches → List ℕ
  branch_list no_branches = codes "]"
  branch_list (branch t bs) = canonical_form t ++ more_branches bs

  pub more_branches : Branches → List ℕ
  more_branches no_branches = codes "]"
  more_branches (branch t bs) = codes "," ++ (canonical_form t ++ more_branches bs)

  -- a record's fields up to its end
  pub field_list : Fields → List ℕ
  field_list no_fields = codes "]}"
  field_list (field name t fs) = codes "{\"name\":" ++ (quote name ++ (codes ",\"type\":" ++ (canonical_form t ++ (codes "}" ++ more_fields fs))))

  pub more_fields : Fields → List ℕ
  more_fields no_fields = codes "]}"
  more_fields (field name t fs) = codes ",{\"name\":" ++ (quote name ++ (codes ",\"type\":" ++ (canonical_form t ++ (codes "}" ++ more_fields fs))))

-- what is written of lists when some are written or none. Only private clauses cite it.
abbrev pub comma_unless : Bool → List ℕ
comma_unless true = []
comma_unless false = codes ","

abbrev pub symbols_behind : Bool → List (List ℕ) → List ℕ
symbols_behind true ss = symbol_list ss
symbols_behind false ss = more_symbols ss

abbrev pub branches_behind : Bool → Branches → List ℕ
branches_behind true bs = branch_list bs
branches_behind false bs = more_branches bs

abbrev pub fields_behind : Bool → Fields → List ℕ
fields_behind true fs = field_list fs
fields_behind false fs = more_fields fs
