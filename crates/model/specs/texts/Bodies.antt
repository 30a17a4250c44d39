-- The parts of reply bodies: Confluent REST Proxy API v2, and RFC 8259 for the texts in them.
use Rattle.std.specs.Prelude.{ℕ, ℤ, pos, negsuc, ◌/◌, ◌%◌, ◌==◌, ◌&&◌, ◌||◌, Bool, true, false, cond, nat_lt, nat_le, codes, decimal, List, [], ◌∷◌, ◌++◌, map, flat_map, Option, Some, None}
use Rattle.std.specs.List.{list_any}
use Rattle.std.specs.Fmt.{signed_decimal, digit_glyph}
use Rattle.json.specs.Print.{quoted}
use Rattle.model.specs.state.Log.{TopicPart}
use Rattle.model.specs.step.Walk.{Place, Item}
use Rattle.model.specs.state.World.{Key, Format}
use Rattle.model.specs.state.Forms.{Showing, Forms}
use Rattle.model.specs.state.Forms.Showing.{Text, Unshown}
use Rattle.model.specs.state.Entry.{Batch, Placed, PartTold}
use Rattle.model.specs.state.Entry.Placed.{Stored, Failed}

-- texts with commas between them
abbrev pub joined : List (List ℕ) → List ℕ
joined [] = []
joined (x ∷ []) = x
joined (x ∷ y ∷ rest) = x ++ (codes "," ++ joined (y ∷ rest))

-- a JSON array of these texts
abbrev pub array : List (List ℕ) → List ℕ
array texts = codes "[" ++ (joined texts ++ codes "]")

-- `true` or `false`
abbrev pub bool_text : Bool → List ℕ
bool_text true = codes "true"
bool_text false = codes "false"

-- a partition as an assignment names it
abbrev pub part_text : TopicPart → List ℕ
part_text at = codes "{\"topic\":" ++ (quoted at.topic ++ (codes ",\"partition\":" ++ (decimal at.partition ++ codes "}")))

-- a committed offset
abbrev pub offset_text : Place → List ℕ
offset_text place =
    let at = place.at in
    codes "{\"topic\":" ++ (quoted at.topic ++ (codes ",\"partition\":" ++ (decimal at.partition ++ (codes ",\"offset\":" ++ (decimal place.position ++ codes ",\"metadata\":\"\"}")))))

-- two node numbers
abbrev pub same_node : ℤ → ℤ → Bool
same_node (pos m) (pos n) = m == n
same_node (negsuc m) (negsuc n) = m == n
same_node _ _ = false

-- a node that has the partition: whether it leads, and whether it is in sync
abbrev pub replica_text : PartTold → ℤ → List ℕ
replica_text part node =
    codes "{\"broker\":" ++ (signed_decimal node ++ (codes ",\"leader\":" ++ (bool_text (same_node node part.leader) ++ (codes ",\"in_sync\":" ++ (bool_text (list_any (same_node node) part.in_sync) ++ codes "}")))))

-- a partition, the node that leads it, and the nodes that have it
abbrev pub told_text : PartTold → List ℕ
told_text part =
    codes "{\"partition\":" ++ (decimal part.number ++ (codes ",\"leader\":" ++ (signed_decimal part.leader ++ (codes ",\"replicas\":" ++ (array (map (replica_text part) part.replicas) ++ codes "}")))))

-- a code that goes away by itself, so that a further try may succeed
abbrev pub is_retriable : ℤ → Bool
is_retriable (pos n) = list_any (λ m. m == n) (2 ∷ 3 ∷ 5 ∷ 6 ∷ 7 ∷ 15 ∷ 16 ∷ [])
is_retriable (negsuc n) = false

-- a record's offset, or its error: 2 where the code is retriable, else 1
abbrev pub placed_text : Placed → List ℕ
placed_text (Stored partition offset) =
    codes "{\"partition\":" ++ (decimal partition ++ (codes ",\"offset\":" ++ (decimal offset ++ codes ",\"error_code\":null,\"error\":null}")))
placed_text (Failed partition code) =
    codes "{\"partition\":" ++ (decimal partition ++ (codes ",\"offset\":null,\"error_code\":" ++ (cond (is_retriable code) (codes "2") (codes "1") ++ (codes ",\"error\":\"broker code " ++ (signed_decimal code ++ codes "\"}")))))

-- a schema's id, or null
abbrev pub id_text : Option ℕ → List ℕ
id_text None = codes "null"
id_text (Some id) = decimal id

-- the text of a key or a value
abbrev pub showing_text : Showing → List ℕ
showing_text (Text text) = text
showing_text (Unshown reason) = []

-- a row that reads, in its form
abbrev pub item_text : Forms → Format → Item → List ℕ
item_text forms format item =
    let at = item.at in
    let row = item.row in
    codes "{\"topic\":" ++ (quoted at.topic ++ (codes ",\"key\":" ++ (showing_text (forms.shows format row.key) ++ (codes ",\"value\":" ++ (showing_text (forms.shows format row.value) ++ (codes ",\"partition\":" ++ (decimal at.partition ++ (codes ",\"offset\":" ++ (decimal row.offset ++ codes "}")))))))))

-- in a path: letters, digits, `-`, `.`, `_` and `~` stand for themselves
abbrev pub is_plain : ℕ → Bool
is_plain x =
    (nat_le 48 x && nat_lt x 58) || ((nat_le 65 x && nat_lt x 91) || ((nat_le 97 x && nat_lt x 123) || ((x == 45) || ((x == 46) || ((x == 95) || (x == 126))))))

-- a byte in a path, percent-encoded where it doesn't stand for itself
abbrev pub path_byte : ℕ → List ℕ
path_byte x = cond (is_plain x) (x ∷ []) (37 ∷ digit_glyph true (x / 16) ∷ digit_glyph true (x % 16) ∷ [])

-- a new instance: its id, and where it is found
abbrev pub made_text : List ℕ → Key → List ℕ
made_text advertise key =
    codes "{\"instance_id\":" ++ (quoted key.instance ++ (codes ",\"base_uri\":" ++ (quoted (codes "http://" ++ (advertise ++ (codes "/consumers/" ++ (flat_map path_byte key.group ++ (codes "/instances/" ++ flat_map path_byte key.instance))))) ++ codes "}")))

-- the answer to a produce: each record's, and the ids of the schemas
abbrev pub answers_text : Batch → List Placed → List ℕ
answers_text batch answers =
    codes "{\"offsets\":" ++ (array (map placed_text answers) ++ (codes ",\"key_schema_id\":" ++ (id_text batch.key_id ++ (codes ",\"value_schema_id\":" ++ (id_text batch.value_id ++ codes "}")))))
