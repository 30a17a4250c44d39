-- A datum within the limits that has a JSON value is shown.
use Rattle.std.proofs.Common.{◌≡◌, ℕ, zero, suc, ◌+◌, ◌^◌, ◌<◌, ◌≤◌, List, [], ◌∷◌, ◌++◌, length, slice_get, Option, Some, None, Ok, Bool, true, false, nat_lt, if◌then◌else◌, refl, sym, ap, ◌∙◌, arith, lt-ltb}
use Rattle.std.specs.Prelude.{option_map}
use Rattle.std.specs.Str.{bytes_eq}
use Rattle.std.proofs.lemmas.Bool.{eq-eqb, and_from}
use Rattle.json.specs.Token as token
use Rattle.json.specs.Token.{Token}
use Rattle.avro_schema.specs.Types as schema
use Rattle.avro_schema.specs.Types.{AvroType, Branches, Fields, resolved, branch_name}
use Rattle.json_span.specs.Json.{Json, Items, Members}
use Rattle.avro_value.specs.Steps.{◌>>=◌}
use Rattle.avro_value.specs.Value.{Value, Values, Entries, null, boolean, int, long, bytes, string, fixed, symbol, branch, fields, items, entries, no_values, value, no_entries, entry, size_of, count_of, nodes, nodes_in, nodes_among, IsWithin, AreWithin, EntriesWithin, IsSmall, max_levels, max_nodes}
use Rattle.avro_value.specs.Judging.{is_null, is_boolean, is_int, is_long, is_bytes, is_string, is_fixed, number_of, node}
use Rattle.avro_value.specs.Encoding.{place_of, names_of, differ, IsJson, AreFields, AreItems, AreEntries}
use Rattle.avro_datum.specs.Shown.{Shown, leaf, between, behind, symbol_in, named, labelled, keys_of, values_in, shown, shown_fields, shown_items, shown_entries, tokens_of}
use Rattle.avro_value.proofs.NodeLemmas.{node_is}
use Rattle.avro_value.proofs.StepLemmas.{bind_at}
use Rattle.avro_value.proofs.CountLemmas.{below32, below64, opened_is, branch_is, fields_are, items_are, size_few, count_few}

-- there are tokens, and this is the number of the node behind them
abbrev Shows : Shown → ℕ → Type 0
Shows s n = (ts : List Token) × (s ≡ Ok (ts, n))

-- ---- nodes

leaf_shows : (k : ℕ) (holds : Bool) (ts : List Token) → holds ≡ true → k + 1 ≤ max_nodes → Shows (leaf k holds ts) (k + 1)
leaf_shows k holds ts is few =
    let test : nat_lt k max_nodes ≡ true = lt-ltb _ _ (omega (arith, few)) in
    let one : suc k ≡ k + 1 = omega arith in
    (ts, rw (test, is) (ap (λ (n : ℕ). Ok (ts, n)) one))

-- a node with parts, which have one level less
parts_show : {T : Type 0} (levels b k more : ℕ) (o : Option T) (u : T) (parts : ℕ → T → Shown) → levels ≡ suc b → o ≡ Some u → k + (1 + more) ≤ max_nodes → Shows (parts b u) (suc k + more) → Shows (node levels k o parts) (k + (1 + more))
parts_show levels b k more o u parts level some few is =
    let count : suc k + more ≡ k + (1 + more) = omega arith in
    (is.0, node_is levels k b o u parts (opened_is levels b k level (omega (arith, few))) some ∙ is.1 ∙ ap (λ (n : ℕ). Ok (is.0, n)) count)

behind_shows : (front : List Token) (s : Shown) (n : ℕ) → Shows s n → Shows (behind front s) n
behind_shows front s n is = (front ++ is.0, bind_at s (λ x. Ok (front ++ x.0, x.1)) (is.0, n) is.1)

between_shows : (first last : Token) (s : Shown) (n : ℕ) → Shows s n → Shows (between first last s) n
between_shows first last s n is = (first ∷ (is.0 ++ (last ∷ [])), bind_at s (λ x. Ok (first ∷ (x.0 ++ (last ∷ [])), x.1)) (is.0, n) is.1)

-- one part and those behind it
both_show : (s : Shown) (others : ℕ → Shown) (mid n : ℕ) → Shows s mid → Shows (others mid) n → Shows (s >>= λ x. behind x.0 (others x.1)) n
both_show s others mid n first rest =
    let all = behind_shows first.0 (others mid) n rest in
    (all.0, bind_at s (λ x. behind x.0 (others x.1)) (first.0, mid) first.1 ∙ all.1)

labelled_shows : (u : AvroType) (s : Shown) (n : ℕ) → Shows s n → Shows (labelled u s) n
labelled_shows u s n is = go (is_null u)
  where
    go : (bare : Bool) → Shows (if bare then s else between token.begin_object token.end_object (behind (token.key (branch_name u) ∷ []) s)) n
    go true = is
    go false = between_shows token.begin_object token.end_object _ n (behind_shows (token.key (branch_name u) ∷ []) s n is)

-- ---- enums

place_step : (same : Bool) (x : List ℕ) (names : List (List ℕ)) (o : Option ℕ) (n : ℕ) → ((i : ℕ) → o ≡ Some i → (name : List ℕ) × (slice_get names i ≡ Some name)) → (if same then Some 0 else option_map suc o) ≡ Some n
    → (name : List ℕ) × (slice_get (x ∷ names) n ≡ Some name)
place_step true x names o zero others is = (x, refl)
place_step true x names o (suc n) others is = absurd cc
place_step false x names None n others is = absurd cc
place_step false x names (Some i) zero others is = absurd cc
place_step false x names (Some i) (suc n) others is = others n cc

-- a symbol stands at its place
place_there : (name : List ℕ) (names : List (List ℕ)) (n : ℕ) → place_of name names ≡ Some n → (symbol : List ℕ) × (slice_get names n ≡ Some symbol)
place_there name [] n is = absurd cc
place_there name (x ∷ names) n is = place_step (bytes_eq x name) x names (place_of name names) n (λ i at. place_there name names i at) is

named_shows : (k : ℕ) (o : Option (List ℕ)) (name : List ℕ) → o ≡ Some name → k + 1 ≤ max_nodes → Shows (named k o) (k + 1)
named_shows k o name is few = let all = leaf_shows k true (token.string name ∷ []) refl few in (all.0, ap (named k) is ∙ all.1)

symbol_is : (t : AvroType) (name : List ℕ) (symbols : List (List ℕ)) (n : ℕ) → t ≡ schema.enum_ name symbols → symbol_in t n ≡ slice_get symbols n
symbol_is t name symbols n is = ap (λ (x : AvroType). symbol_in x n) is

-- ---- types and counts of parts

entries_are : (t u : AvroType) (es : Entries) → t ≡ schema.map u → differ (keys_of es) ≡ true → count_of es < 2 ^ 63 → values_in t es ≡ Some u
entries_are t u es is unlike small =
    let test : nat_lt (count_of es) (2 ^ 63) ≡ true = lt-ltb _ _ small in
    ap (λ (x : AvroType). values_in x es) is ∙ rw (unlike, test) refl

fields_count : (whole : AvroType) (vs : Values) (ts : Fields) (ms : Members) → AreFields whole ts vs ms → size_of vs ≡ number_of ts
fields_count whole no_values ts ms are = sym (ap number_of are)
fields_count whole (value v vs) ts ms are = ap suc (fields_count whole vs are.2 ms are.7) ∙ sym (ap number_of are.3)

keys_are : (whole u : AvroType) (es : Entries) (ms : Members) → AreEntries whole u es ms → keys_of es ≡ names_of ms
keys_are whole u no_entries ms are = sym (ap names_of are)
keys_are whole u (entry key v es) ms are = ap (λ (l : List (List ℕ)). key ∷ l) (keys_are whole u es are.2 are.6) ∙ ap (λ (name : List ℕ). name ∷ names_of are.2) (sym are.4) ∙ sym (ap names_of are.3)

-- ---- values

mutual
  value_shown : (v : Value) (whole : AvroType) (levels : ℕ) (t : AvroType) (k : ℕ) (j : Json) → IsJson whole t v j → IsWithin levels v → k + nodes v ≤ max_nodes → Shows (shown whole levels t k v) (k + nodes v)
  value_shown null whole levels t k j is within few = leaf_shows k _ _ (ap is_null is.0) few
  value_shown (boolean b) whole levels t k j is within few = leaf_shows k _ _ (ap is_boolean is.0) few
  value_shown (int n) whole levels t k j is within few = leaf_shows k _ _ (and_from _ _ (ap is_int is.0) (below32 n is.4)) few
  value_shown (long n) whole levels t k j is within few = leaf_shows k _ _ (and_from _ _ (ap is_long is.0) (below64 n is.4)) few
  value_shown (bytes piece) whole levels t k j is within few = leaf_shows k _ _ (ap is_bytes is.0) few
  value_shown (string piece) whole levels t k j is within few = leaf_shows k _ _ (ap is_string is.0) few
  value_shown (fixed piece) whole levels t k j is within few = leaf_shows k _ _ (ap (λ (u : AvroType). is_fixed u (length piece)) is.1 ∙ eq-eqb (length piece) (length piece) refl) few
  value_shown (symbol n) whole levels t k j is within few =
      let there = place_there _ is.1 n is.5 in
      named_shows k (symbol_in (resolved whole t) n) there.0 (symbol_is (resolved whole t) is.0 is.1 n is.2 ∙ there.1) few
  value_shown (branch n v) whole levels t k j is within few =
      parts_show levels within.0 k (nodes v) _ is.2 (λ b u. labelled u (shown whole b u (suc k) v)) within.1 (branch_is (resolved whole t) is.0 n is.2 is.1 is.3 is.4) few
      (labelled_shows is.2 _ _ (value_shown v whole within.0 is.2 (suc k) is.5 is.7 within.2 (omega (arith, few))))
  value_shown (fields vs) whole levels t k j is within few =
      parts_show levels within.0 k (nodes_in vs) _ is.1 (λ b ts. between token.begin_object token.end_object (shown_fields whole b ts (suc k) vs)) within.1
      (fields_are (resolved whole t) is.0 is.1 (size_of vs) is.2 (fields_count whole vs is.1 is.3 is.5)) few
      (between_shows _ _ _ _ (fields_shown vs whole within.0 is.1 (suc k) is.3 is.5 within.2 (omega (arith, few))))
  value_shown (items vs) whole levels t k j is within few =
      parts_show levels within.0 k (nodes_in vs) _ is.0 (λ b u. between token.begin_array token.end_array (shown_items whole b u (suc k) vs)) within.1
      (items_are (resolved whole t) is.0 (size_of vs) is.1 (omega (arith, size_few vs, few))) few
      (between_shows _ _ _ _ (items_shown vs whole within.0 is.0 (suc k) is.2 is.4 within.2 (omega (arith, few))))
  value_shown (entries es) whole levels t k j is within few =
      parts_show levels within.0 k (nodes_among es) _ is.0 (λ b u. between token.begin_object token.end_object (shown_entries whole b u (suc k) es)) within.1
      (entries_are (resolved whole t) is.0 es is.1 (ap differ (keys_are whole is.0 es is.2 is.5) ∙ is.4) (omega (arith, count_few es, few))) few
      (between_shows _ _ _ _ (entries_shown es whole within.0 is.0 (suc k) is.2 is.5 within.2 (omega (arith, few))))

  fields_shown : (vs : Values) (whole : AvroType) (b : ℕ) (ts : Fields) (k : ℕ) (ms : Members) → AreFields whole ts vs ms → AreWithin b vs → k + nodes_in vs ≤ max_nodes → Shows (shown_fields whole b ts k vs) (k + nodes_in vs)
  fields_shown no_values whole b ts k ms are within few = let none : k ≡ k + 0 = omega arith in ([], ap (λ (n : ℕ). Ok ([], n)) none)
  fields_shown (value v vs) whole b ts k ms are within few =
      let count : (k + nodes v) + nodes_in vs ≡ k + (nodes v + nodes_in vs) = omega arith in
      let first = behind_shows (token.key are.0 ∷ []) _ _ (value_shown v whole b are.1 k are.4 are.6 within.0 (omega (arith, few))) in
      let all = both_show _ (λ n. shown_fields whole b are.2 n vs) (k + nodes v) _ first (fields_shown vs whole b are.2 (k + nodes v) ms are.7 within.1 (omega (arith, few))) in
      (all.0, ap (λ (x : Fields). shown_fields whole b x k (value v vs)) are.3 ∙ all.1 ∙ ap (λ (n : ℕ). Ok (all.0, n)) count)

  items_shown : (vs : Values) (whole : AvroType) (b : ℕ) (u : AvroType) (k : ℕ) (js : Items) → AreItems whole u vs js → AreWithin b vs → k + nodes_in vs ≤ max_nodes → Shows (shown_items whole b u k vs) (k + nodes_in vs)
  items_shown no_values whole b u k js are within few = let none : k ≡ k + 0 = omega arith in ([], ap (λ (n : ℕ). Ok ([], n)) none)
  items_shown (value v vs) whole b u k js are within few =
      let count : (k + nodes v) + nodes_in vs ≡ k + (nodes v + nodes_in vs) = omega arith in
      let first = value_shown v whole b u k are.0 are.3 within.0 (omega (arith, few)) in
      let all = both_show _ (λ n. shown_items whole b u n vs) (k + nodes v) _ first (items_shown vs whole b u (k + nodes v) are.1 are.4 within.1 (omega (arith, few))) in
      (all.0, all.1 ∙ ap (λ (n : ℕ). Ok (all.0, n)) count)

  entries_shown : (es : Entries) (whole : AvroType) (b : ℕ) (u : AvroType) (k : ℕ) (ms : Members) → AreEntries whole u es ms → EntriesWithin b es → k + nodes_among es ≤ max_nodes → Shows (shown_entries whole b u k es) (k + nodes_among es)
  entries_shown no_entries whole b u k ms are within few = let none : k ≡ k + 0 = omega arith in ([], ap (λ (n : ℕ). Ok ([], n)) none)
  entries_shown (entry key v es) whole b u k ms are within few =
      let count : (k + nodes v) + nodes_among es ≡ k + (nodes v + nodes_among es) = omega arith in
      let first = behind_shows (token.key key ∷ []) _ _ (value_shown v whole b u k are.1 are.5 within.0 (omega (arith, few))) in
      let all = both_show _ (λ n. shown_entries whole b u n es) (k + nodes v) _ first (entries_shown es whole b u (k + nodes v) are.2 are.6 within.1 (omega (arith, few))) in
      (all.0, all.1 ∙ ap (λ (n : ℕ). Ok (all.0, n)) count)

-- such a datum has tokens
pub shown_again : (whole : AvroType) (j : Json) (v : Value) → IsJson whole whole v j → IsSmall v → (ts : List Token) × (tokens_of whole v ≡ Ok ts)
unfolding tokens_of
shown_again whole j v is small =
    let all = value_shown v whole max_levels whole 0 j is small.levels (omega (arith, small.nodes)) in
    (all.0, bind_at (shown whole max_levels whole 0 v) (λ x. Ok x.0) (all.0, 0 + nodes v) all.1)
