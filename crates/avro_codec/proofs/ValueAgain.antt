-- A spelling of a datum within the limits is read as the datum, and no spelling begins another.
use Rattle.std.proofs.Common.{◌≡◌, ℕ, suc, ◌+◌, ◌^◌, ◌<◌, ◌≤◌, List, [], ◌∷◌, ◌++◌, length, Option, Some, Ok, pos, Bool, true, false, nat_lt, ◌&&◌, ◌==◌, refl, sym, ap, ◌∙◌, subst, arith, append_assoc, length-append, take, lt-ltb}
use Rattle.std.proofs.lemmas.Bool.{ne_eqb}
use Rattle.std.proofs.lemmas.List.{append-nil, take_at}
use Rattle.avro_schema.specs.Types as schema
use Rattle.avro_schema.specs.Types.{AvroType, Branches, Fields, resolved}
use Rattle.avro_value.specs.Value.{Value, Values, Entries, Entry, null, boolean, int, long, bytes, string, fixed, symbol, branch, fields, items, entries, no_values, value, no_entries, entry, values_of, entries_of, nodes, nodes_in, nodes_among, IsWithin, AreWithin, EntriesWithin, IsSmall, max_levels, max_nodes}
use Rattle.avro_codec.specs.Spelling.{IsInt, IsLong, IsDatum, AreFields, AreItems, AreEntries}
use Rattle.avro_value.specs.Judging.{branch_at}
use Rattle.avro_codec.specs.Reading.{Place, Reader, behind, int_at, long_at, fields_at, entry_at, picked, branch_of, union_at, symbol_of, enum_at, body_at, nests, entered, node_at, value_at, below_at, ended, datum_at}
use Rattle.avro_value.specs.Steps.{◌>>=◌}
use Rattle.avro_codec.proofs.DecodeLemmas.{value_is, giving_read, picked_read, entry_read}
use Rattle.avro_codec.proofs.ItemAgain.{int_again, long_again, run_again, sized_again, text_again, flag_again, ReadsEach, all_blocks_again}
use Rattle.avro_value.proofs.StepLemmas.{bind_at, ok_is}

-- ---- a node

-- a node that isn't too deep nor one too many is read by its type
node_again : (whole : AvroType) (levels : ℕ) (t u : AvroType) (next : ℕ) (bs : List ℕ) → resolved whole t ≡ u → (nests u && (levels == 0)) ≡ false → next < max_nodes
    → value_at whole levels t (behind next bs) ≡ body_at (below_at whole levels) next u (behind (suc next) bs)
node_again whole levels t u next bs is room few =
    let test : nat_lt next max_nodes ≡ true = lt-ltb _ _ few in
    let enters : entered (nests u && (levels == 0)) (behind next bs) ≡ Ok (next, behind (suc next) bs) = rw (room, test) refl in
    value_is whole levels t (behind next bs) ∙ ap (λ (x : AvroType). node_at (below_at whole levels) (levels == 0) x (behind next bs)) is
    ∙ bind_at (entered (nests u && (levels == 0)) (behind next bs)) (λ k. body_at (below_at whole levels) k.0 u k.1) (next, behind (suc next) bs) enters

-- a node without parts
leaf_again : (whole : AvroType) (levels : ℕ) (t u : AvroType) (next : ℕ) (v : Value) (bs rest : List ℕ) → resolved whole t ≡ u → nests u ≡ false → next + 1 ≤ max_nodes
    → body_at (below_at whole levels) next u (behind (suc next) bs) ≡ Ok (v, behind (suc next) rest) → value_at whole levels t (behind next bs) ≡ Ok (v, behind (next + 1) rest)
leaf_again whole levels t u next v bs rest is plain few body =
    let one : suc next ≡ next + 1 = omega arith in
    node_again whole levels t u next bs is (ap (λ (b : Bool). b && (levels == 0)) plain) (omega arith) ∙ body ∙ ap (λ (n : ℕ). Ok (v, behind n rest)) one

deep_not : (nest none : Bool) → none ≡ false → (nest && none) ≡ false
deep_not true none is = is
deep_not false none is = refl

-- a node with parts, which have one level less
parts_again : (whole : AvroType) (levels b : ℕ) (t u : AvroType) (next more : ℕ) (v : Value) (bs rest : List ℕ) → resolved whole t ≡ u → levels ≡ suc b → next + (1 + more) ≤ max_nodes
    → body_at (value_at whole b) next u (behind (suc next) bs) ≡ Ok (v, behind (suc next + more) rest) → value_at whole levels t (behind next bs) ≡ Ok (v, behind (next + (1 + more)) rest)
parts_again whole levels b t u next more v bs rest is level few body =
    let room : (nests u && (levels == 0)) ≡ false = deep_not (nests u) (levels == 0) (ne_eqb levels 0 (λ (e : levels ≡ 0). omega arith)) in
    let count : suc next + more ≡ next + (1 + more) = omega arith in
    node_again whole levels t u next bs is room (omega arith) ∙ ap (λ (l : ℕ). body_at (below_at whole l) next u (behind (suc next) bs)) level ∙ body ∙ ap (λ (n : ℕ). Ok (v, behind n rest)) count

-- ---- enums and unions

enum_again : (k next count n : ℕ) (bs rest : List ℕ) → n < count → IsInt (pos n) bs → enum_at k count (behind next (bs ++ rest)) ≡ Ok (symbol n, behind next rest)
enum_again k next count n bs rest small is =
    bind_at (int_at k (behind next (bs ++ rest))) (λ z. symbol_of k count z.0 z.1) (pos n, behind next rest) (int_again k next (pos n) bs rest is) ∙ rw (lt-ltb _ _ small) refl

union_again : (inner : Reader) (k next stop : ℕ) (ts : Branches) (n : ℕ) (u : AvroType) (v : Value) (bs head body rest : List ℕ) → branch_at ts n ≡ Some u → n < 2 ^ 32 → bs ≡ head ++ body → IsLong (pos n) head
    → inner u (behind next (body ++ rest)) ≡ Ok (v, behind stop rest) → union_at inner k ts (behind next (bs ++ rest)) ≡ Ok (branch n v, behind stop rest)
union_again inner k next stop ts n u v bs head body rest at small is head_is reads =
    let regrouped : bs ++ rest ≡ head ++ (body ++ rest) = ap (λ (l : List ℕ). l ++ rest) is ∙ append_assoc head body rest in
    let test : nat_lt n (2 ^ 32) ≡ true = lt-ltb _ _ small in
    ap (λ (l : List ℕ). union_at inner k ts (behind next l)) regrouped
    ∙ bind_at (long_at k (behind next (head ++ (body ++ rest)))) (λ z. branch_of inner k ts z.0 z.1) (pos n, behind next (body ++ rest)) (long_again k next (pos n) head (body ++ rest) head_is)
    ∙ rw test (ap (λ (o : Option AvroType). picked inner k n o (behind next (body ++ rest))) at)
    ∙ picked_read inner k n u (behind next (body ++ rest)) (behind stop rest) v reads

-- ---- the lists of a value's parts

pub list_of : Values → List Value
list_of no_values = []
list_of (value v vs) = v ∷ list_of vs

pub entry_list : Entries → List Entry
entry_list no_entries = []
entry_list (entry key v es) = record { key = key; value = v } ∷ entry_list es

list_back : (vs : Values) → values_of (list_of vs) ≡ vs
unfolding list_of
list_back no_values = refl
list_back (value v vs) = ap (value v) (list_back vs)

entries_back : (es : Entries) → entries_of (entry_list es) ≡ es
unfolding entry_list
entries_back no_entries = refl
entries_back (entry key v es) = ap (entry key v) (entries_back es)

-- ---- one part and those behind it

-- the value is read in front of any bytes
abbrev Again : AvroType → ℕ → Value → Type 0
Again whole levels v = (t : AvroType) (next : ℕ) (bs rest : List ℕ) → IsDatum whole t v bs → IsWithin levels v → next + nodes v ≤ max_nodes → value_at whole levels t (behind next (bs ++ rest)) ≡ Ok (v, behind (next + nodes v) rest)

abbrev FieldsAgain : AvroType → ℕ → Values → Type 0
FieldsAgain whole b vs = (ts : Fields) (next : ℕ) (bs rest : List ℕ) → AreFields whole ts vs bs → AreWithin b vs → next + nodes_in vs ≤ max_nodes → fields_at (value_at whole b) ts (behind next (bs ++ rest)) ≡ Ok (list_of vs, behind (next + nodes_in vs) rest)

abbrev ItemsAgain : AvroType → ℕ → Values → Type 0
ItemsAgain whole b vs = (u : AvroType) (next : ℕ) (pieces : List (List ℕ)) → AreItems whole u vs pieces → AreWithin b vs → next + nodes_in vs ≤ max_nodes → ReadsEach (value_at whole b u) next (list_of vs) pieces (next + nodes_in vs)

abbrev EntriesAgain : AvroType → ℕ → Entries → Type 0
EntriesAgain whole b es = (u : AvroType) (k next : ℕ) (pieces : List (List ℕ)) → AreEntries whole u es pieces → EntriesWithin b es → next + nodes_among es ≤ max_nodes → ReadsEach (entry_at (value_at whole b) k u) next (entry_list es) pieces (next + nodes_among es)

no_fields_again : (whole : AvroType) (b : ℕ) → FieldsAgain whole b no_values
unfolding fields_at list_of
no_fields_again whole b ts next bs rest is within few =
    let none : next ≡ next + 0 = omega arith in
    rw (is.0, is.1) (ap (λ (n : ℕ). Ok ([], behind n rest)) none)

field_again : (whole : AvroType) (b : ℕ) (v : Value) (vs : Values) → Again whole b v → FieldsAgain whole b vs → FieldsAgain whole b (value v vs)
unfolding fields_at list_of
field_again whole b v vs first others ts next bs rest is within few =
    let inner = value_at whole b in
    let t = is.1 in
    let more = is.2 in
    let regrouped : bs ++ rest ≡ is.4 ++ (is.5 ++ rest) = ap (λ (l : List ℕ). l ++ rest) is.6 ∙ append_assoc is.4 is.5 rest in
    let mid = next + nodes v in
    let a = first t next is.4 (is.5 ++ rest) is.7 within.0 (omega arith) in
    let c = others more mid is.5 rest is.8 within.1 (omega arith) in
    let count : mid + nodes_in vs ≡ next + (nodes v + nodes_in vs) = omega arith in
    ap (λ (l : List ℕ). fields_at inner ts (behind next l)) regrouped ∙ ap (λ (x : Fields). fields_at inner x (behind next (is.4 ++ (is.5 ++ rest)))) is.3
    ∙ bind_at (inner t (behind next (is.4 ++ (is.5 ++ rest)))) (λ x. fields_at inner more x.1 >>= λ ws. Ok (x.0 ∷ ws.0, ws.1)) (v, behind mid (is.5 ++ rest)) a
    ∙ bind_at (fields_at inner more (behind mid (is.5 ++ rest))) (λ ws. Ok (v ∷ ws.0, ws.1)) (list_of vs, behind (mid + nodes_in vs) rest) c
    ∙ ap (λ (n : ℕ). Ok (v ∷ list_of vs, behind n rest)) count

no_items_again : (whole : AvroType) (b : ℕ) → ItemsAgain whole b no_values
unfolding list_of
no_items_again whole b u next pieces is within few = (is, omega arith)

item_again : (whole : AvroType) (b : ℕ) (v : Value) (vs : Values) → Again whole b v → ItemsAgain whole b vs → ItemsAgain whole b (value v vs)
unfolding list_of
item_again whole b v vs first others u next pieces is within few =
    let mid = next + nodes v in
    let count : mid + nodes_in vs ≡ next + (nodes v + nodes_in vs) = omega arith in
    (is.0, is.1, is.2, mid, (λ rest. first u next is.0 rest is.3 within.0 (omega arith)), subst (λ (n : ℕ). ReadsEach (value_at whole b u) mid (list_of vs) is.1 n) count (others u mid is.1 is.4 within.1 (omega arith)))

no_entries_again : (whole : AvroType) (b : ℕ) → EntriesAgain whole b no_entries
unfolding entry_list
no_entries_again whole b u k next pieces is within few = (is, omega arith)

entry_again : (whole : AvroType) (b : ℕ) (key : List ℕ) (v : Value) (es : Entries) → Again whole b v → EntriesAgain whole b es → EntriesAgain whole b (entry key v es)
unfolding entry_list
entry_again whole b key v es first others u k next pieces is within few =
    let mid = next + nodes v in
    let inner = value_at whole b in
    let name = is.0 in
    let body = is.1 in
    let count : mid + nodes_among es ≡ next + (nodes v + nodes_among es) = omega arith in
    let one : (rest : List ℕ) → entry_at inner k u (behind next ((name ++ body) ++ rest)) ≡ Ok (record { key = key; value = v }, behind mid rest) =
    λ rest. ap (λ (l : List ℕ). entry_at inner k u (behind next l)) (append_assoc name body rest)
    ∙ entry_read inner k u (behind next (name ++ (body ++ rest))) (behind next (body ++ rest)) (behind mid rest) key v (text_again k next key name (body ++ rest) is.4 is.5) (first u next body rest is.6 within.0 (omega arith)) in
    (name ++ body, is.2, is.3, mid, one, subst (λ (n : ℕ). ReadsEach (entry_at inner k u) mid (entry_list es) is.2 n) count (others u k mid is.2 is.7 within.1 (omega arith)))

-- ---- values

mutual
  pub value_again : (v : Value) (whole : AvroType) (levels : ℕ) → Again whole levels v
  value_again null whole levels t next bs rest is within few =
      ap (λ (l : List ℕ). value_at whole levels t (behind next (l ++ rest))) is.1 ∙ leaf_again whole levels t schema.null next null rest rest is.0 refl few refl
  value_again (boolean b) whole levels t next bs rest is within few =
      leaf_again whole levels t schema.boolean next (boolean b) (bs ++ rest) rest is.0 refl few (giving_read boolean _ b (behind (suc next) rest) (flag_again next (suc next) b bs rest is.1))
  value_again (int n) whole levels t next bs rest is within few =
      leaf_again whole levels t schema.int next (int n) (bs ++ rest) rest is.0 refl few (giving_read int _ n (behind (suc next) rest) (int_again next (suc next) n bs rest is.1))
  value_again (long n) whole levels t next bs rest is within few =
      leaf_again whole levels t schema.long next (long n) (bs ++ rest) rest is.0 refl few (giving_read long _ n (behind (suc next) rest) (long_again next (suc next) n bs rest is.1))
  value_again (bytes piece) whole levels t next bs rest is within few =
      leaf_again whole levels t schema.bytes next (bytes piece) (bs ++ rest) rest is.0 refl few (giving_read bytes _ piece (behind (suc next) rest) (sized_again next (suc next) piece bs rest is.1))
  value_again (string piece) whole levels t next bs rest is within few =
      leaf_again whole levels t schema.string next (string piece) (bs ++ rest) rest is.0 refl few (giving_read string _ piece (behind (suc next) rest) (text_again next (suc next) piece bs rest is.1 is.2))
  value_again (fixed piece) whole levels t next bs rest is within few =
      ap (λ (l : List ℕ). value_at whole levels t (behind next (l ++ rest))) is.2
      ∙ leaf_again whole levels t (schema.fixed is.0 (length piece)) next (fixed piece) (piece ++ rest) rest is.1 refl few (giving_read fixed _ piece (behind (suc next) rest) (run_again (length piece) (suc next) piece rest refl))
  value_again (symbol n) whole levels t next bs rest is within few =
      leaf_again whole levels t (schema.enum_ is.0 is.1) next (symbol n) (bs ++ rest) rest is.2 refl few (enum_again next (suc next) (length is.1) n bs rest is.3 is.4)
  value_again (branch n v) whole levels t next bs rest is within few =
      parts_again whole levels within.0 t (schema.union is.0) next (nodes v) (branch n v) (bs ++ rest) rest is.1 within.1 few
      (union_again (value_at whole within.0) next (suc next) (suc next + nodes v) is.0 n is.2 v bs is.5 is.6 rest is.3 is.4 is.7 is.8 (value_again v whole within.0 is.2 (suc next) is.6 rest is.9 within.2 (omega arith)))
  value_again (fields vs) whole levels t next bs rest is within few =
      parts_again whole levels within.0 t (schema.record_ is.0 is.1) next (nodes_in vs) (fields vs) (bs ++ rest) rest is.2 within.1 few
      (giving_read (λ ws. fields (values_of ws)) _ (list_of vs) (behind (suc next + nodes_in vs) rest) (fields_again vs whole within.0 is.1 (suc next) bs rest is.3 within.2 (omega arith))
      ∙ ap (λ (ws : Values). Ok (fields ws, behind (suc next + nodes_in vs) rest)) (list_back vs))
  value_again (items vs) whole levels t next bs rest is within few =
      parts_again whole levels within.0 t (schema.array is.0) next (nodes_in vs) (items vs) (bs ++ rest) rest is.1 within.1 few
      (giving_read (λ ws. items (values_of ws)) _ (list_of vs) (behind (suc next + nodes_in vs) rest)
      (all_blocks_again next (value_at whole within.0 is.0) (suc next) is.2 bs (list_of vs) (suc next + nodes_in vs) rest is.4 (items_again vs whole within.0 is.0 (suc next) is.2 is.3 within.2 (omega arith)))
      ∙ ap (λ (ws : Values). Ok (items ws, behind (suc next + nodes_in vs) rest)) (list_back vs))
  value_again (entries es) whole levels t next bs rest is within few =
      parts_again whole levels within.0 t (schema.map is.0) next (nodes_among es) (entries es) (bs ++ rest) rest is.1 within.1 few
      (giving_read (λ ws. entries (entries_of ws)) _ (entry_list es) (behind (suc next + nodes_among es) rest)
      (all_blocks_again next (entry_at (value_at whole within.0) next is.0) (suc next) is.2 bs (entry_list es) (suc next + nodes_among es) rest is.4 (entries_again es whole within.0 is.0 next (suc next) is.2 is.3 within.2 (omega arith)))
      ∙ ap (λ (ws : Entries). Ok (entries ws, behind (suc next + nodes_among es) rest)) (entries_back es))

  fields_again : (vs : Values) (whole : AvroType) (b : ℕ) → FieldsAgain whole b vs
  fields_again no_values whole b = no_fields_again whole b
  fields_again (value v vs) whole b = field_again whole b v vs (value_again v whole b) (fields_again vs whole b)

  items_again : (vs : Values) (whole : AvroType) (b : ℕ) → ItemsAgain whole b vs
  items_again no_values whole b = no_items_again whole b
  items_again (value v vs) whole b = item_again whole b v vs (value_again v whole b) (items_again vs whole b)

  entries_again : (es : Entries) (whole : AvroType) (b : ℕ) → EntriesAgain whole b es
  entries_again no_entries whole b = no_entries_again whole b
  entries_again (entry key v es) whole b = entry_again whole b key v es (value_again v whole b) (entries_again es whole b)

-- each spelling within the limits is read as its datum
pub datum_again : (whole : AvroType) (bs : List ℕ) (v : Value) → IsDatum whole whole v bs → IsSmall v → datum_at whole bs ≡ Ok v
unfolding datum_at
datum_again whole bs v is small =
    let read : value_at whole max_levels whole (behind 0 bs) ≡ Ok (v, behind (0 + nodes v) []) =
    ap (λ (l : List ℕ). value_at whole max_levels whole (behind 0 l)) (sym (append-nil bs)) ∙ value_again v whole max_levels whole 0 bs [] is small.levels (omega (arith, small.nodes)) in
    bind_at (value_at whole max_levels whole (behind 0 bs)) ended (v, behind (0 + nodes v) []) read

same_front : (a b r s : List ℕ) → a ++ r ≡ b ++ s → r ≡ s → a ≡ b
same_front a b r s same rest =
    let len : length a ≡ length b = omega (arith, ap (λ (l : List ℕ). length l) same, ap (λ (l : List ℕ). length l) rest, length-append a r, length-append b s) in
    sym (take_at a r (length a) refl) ∙ ap (take (length a)) same ∙ take_at b s (length a) (sym len)

pub one_reading : (whole t : AvroType) (levels : ℕ) (v w : Value) (a b r s : List ℕ) → IsDatum whole t v a → IsDatum whole t w b → IsWithin levels v → IsWithin levels w → nodes v ≤ max_nodes → nodes w ≤ max_nodes
    → a ++ r ≡ b ++ s → (v ≡ w) × (a ≡ b)
one_reading whole t levels v w a b r s is other inside within few less same =
    let first = value_again v whole levels t 0 a r is inside (omega arith) in
    let second = value_again w whole levels t 0 b s other within (omega arith) in
    let pair = ok_is (v, behind (0 + nodes v) r) (w, behind (0 + nodes w) s) (sym first ∙ ap (λ (l : List ℕ). value_at whole levels t (behind 0 l)) same ∙ second) in
    let rest : r ≡ s = ap (λ (y : Value × Place). y.1.left) pair in
    (ap (λ (y : Value × Place). y.0) pair, same_front a b r s same rest)
