-- What is read of a datum is spelled so, within the limits.
use Rattle.std.proofs.Common.{◌≡◌, ℕ, zero, suc, ◌+◌, ◌-◌, ◌^◌, ◌<◌, ◌≤◌, List, [], ◌∷◌, ◌++◌, length, Option, Some, None, Ok, Err, ℤ, pos, negsuc, Bool, true, false, cond, nat_lt, ◌&&◌, ◌==◌, inl, inr, refl, sym, ap, ◌∙◌, subst, arith, append_assoc, ltb-true}
use Rattle.std.specs.Str.{is_utf8}
use Rattle.std.proofs.lemmas.Bool.{cases_Bool, eqb-true}
use Rattle.std.proofs.lemmas.List.{append-nil, nil_from_length}
use Rattle.avro_schema.specs.Types as schema
use Rattle.avro_schema.specs.Types.{AvroType, Branches, Fields, resolved}
use Rattle.avro_value.specs.declared.error.AvroNo.TheVariants.{Mismatch, TooDeep, TooMany, Rest}
use Rattle.avro_value.specs.Value.{Value, Entry, null, boolean, int, long, bytes, string, fixed, symbol, branch, fields, items, entries, values_of, entries_of, nodes, nodes_in, nodes_among, IsWithin, AreWithin, EntriesWithin, IsSmall, max_levels, max_nodes}
use Rattle.avro_codec.specs.Spelling.{IsInt, IsLong, IsSized, IsDatum, AreFields, AreItems, AreEntries}
use Rattle.avro_value.specs.Judging.{branch_at}
use Rattle.avro_codec.specs.Reading.{Place, Read, Reader, behind, int_at, long_at, text_at, fields_at, entry_at, picked, branch_of, union_at, symbol_of, enum_at, giving, body_at, nests, entered, node_at, too_deep, value_at, all_blocks, ended, datum_at}
use Rattle.avro_value.specs.Steps.{◌>>=◌}
use Rattle.avro_codec.proofs.ItemSound.{Took, Sound, no_node, int_sound, long_sound, run_sound, sized_sound, text_sound, flag_sound, IsString, IsFlag}
use Rattle.avro_codec.proofs.BlockSound.{AllSpelled, total, blocks_sound}
use Rattle.avro_value.proofs.StepLemmas.{bind_ok, ok_is, chosen_ok, chosen_else}

-- the value's bytes, with so many levels
abbrev pub Spells : ℕ → AvroType → AvroType → Value → List ℕ → Type 0
Spells levels whole t v bs = IsDatum whole t v bs × IsWithin levels v

-- the nodes below a value's own
abbrev pub below : Value → ℕ
below v = nodes v - 1

giving_took : {A : Type 0} (f : A → Value) (r : Read A) (v : Value) (q : Place) → giving f r ≡ Ok (v, q) → (x : A) × (r ≡ Ok (x, q)) × (f x ≡ v)
giving_took {A} f (Ok x) v q is = let pair = ok_is (f x.0, x.1) (v, q) is in (x.0, ap (λ (p : Place). Ok (x.0, p)) (ap (λ (y : Value × Place). y.1) pair), ap (λ (y : Value × Place). y.0) pair)
giving_took f (Err e) v q is = absurd cc

giving_sound : {A : Type 0} (spells : A → List ℕ → Type 0) (count : A → ℕ) (one : Place → Read A) (f : A → Value) (whole : Value → List ℕ → Type 0) → Sound spells count one
    → ((x : A) (bs : List ℕ) → spells x bs → whole (f x) bs) → ((x : A) → below (f x) ≡ count x) → Sound whole below (λ p. giving f (one p))
giving_sound spells count one f whole sound is same p v q e =
    let a = giving_took f (one p) v q e in
    let b = sound p a.0 q a.1 in
    subst (λ (w : Value). Took whole below p w q) a.2 (record { front = b.front; left = b.left; is = is a.0 b.front b.is; next = b.next ∙ ap (λ (n : ℕ). p.next + n) (sym (same a.0)); few = b.few })

-- ---- enums

symbol_took : (k count : ℕ) (z : ℤ) (p q : Place) (v : Value) → symbol_of k count z p ≡ Ok (v, q) → (n : ℕ) × (z ≡ pos n) × (n < count) × (symbol n ≡ v) × (p ≡ q)
symbol_took k count (pos n) p q v is =
    let a = chosen_ok (nat_lt n count) (Mismatch k) (symbol n, p) (v, q) is in
    (n, refl, ltb-true _ _ a.0, ap (λ (y : Value × Place). y.0) a.1, ap (λ (y : Value × Place). y.1) a.1)
symbol_took k count (negsuc n) p q v is = absurd cc

enum_sound : (levels : ℕ) (whole t : AvroType) (k : ℕ) (name : List ℕ) (symbols : List (List ℕ)) → resolved whole t ≡ schema.enum_ name symbols → Sound (Spells levels whole t) below (enum_at k (length symbols))
enum_sound levels whole t k name symbols u p v q is =
    let a = bind_ok (int_at k p) (λ n. symbol_of k (length symbols) n.0 n.1) (v, q) is in
    let b = int_sound k p a.0.0 a.0.1 a.1 in
    let c = symbol_took k (length symbols) a.0.0 a.0.1 q v a.2 in
    let spells : Spells levels whole t (symbol c.0) b.front = ((name, symbols, u, c.2, subst (λ (z : ℤ). IsInt z b.front) c.1 b.is), tt) in
    let took : Took (Spells levels whole t) below p (symbol c.0) a.0.1 = record { front = b.front; left = b.left; is = spells; next = b.next; few = b.few } in
    subst (λ (r : Place). Took (Spells levels whole t) below p v r) c.4 (subst (λ (w : Value). Took (Spells levels whole t) below p w a.0.1) c.3 took)

-- ---- unions

record TookBranch (inner : Reader) (ts : Branches) (z : ℤ) (p : Place) (v : Value) (q : Place) : Type 0 where
  n : ℕ
  is : z ≡ pos n
  small : n < 2 ^ 32
  u : AvroType
  at : branch_at ts n ≡ Some u
  w : Value
  reads : inner u p ≡ Ok (w, q)
  value : branch n w ≡ v

picked_took : (inner : Reader) (k n : ℕ) (o : Option AvroType) (p q : Place) (v : Value) → picked inner k n o p ≡ Ok (v, q) → (u : AvroType) × (w : Value) × (o ≡ Some u) × (inner u p ≡ Ok (w, q)) × (branch n w ≡ v)
picked_took inner k n None p q v is = absurd cc
picked_took inner k n (Some u) p q v is = let a = giving_took (λ w. branch n w) (inner u p) v q is in (u, a.0, refl, a.1, a.2)

branch_took : (inner : Reader) (k : ℕ) (ts : Branches) (z : ℤ) (p q : Place) (v : Value) → branch_of inner k ts z p ≡ Ok (v, q) → TookBranch inner ts z p v q
branch_took inner k ts (pos n) p q v is =
    elim (cases_Bool (nat_lt n (2 ^ 32))) [
      | inl small ↦
          let a = picked_took inner k n (branch_at ts n) p q v (rw small at is) in
          record { n = n; is = refl; small = ltb-true _ _ small; u = a.0; at = a.2; w = a.1; reads = a.3; value = a.4 }
      | inr large ↦ absurd (let e = rw large at is in cc)
    ]
branch_took inner k ts (negsuc n) p q v is = absurd cc

union_sound : (levels b : ℕ) (whole t : AvroType) (inner : Reader) (k : ℕ) (ts : Branches) → ((u : AvroType) → Sound (Spells b whole u) nodes (inner u)) → levels ≡ suc b → resolved whole t ≡ schema.union ts
    → Sound (Spells levels whole t) below (union_at inner k ts)
union_sound levels b whole t inner k ts sound more u p v q is =
    let a = bind_ok (long_at k p) (λ n. branch_of inner k ts n.0 n.1) (v, q) is in
    let head = long_sound k p a.0.0 a.0.1 a.1 in
    let c = branch_took inner k ts a.0.0 a.0.1 q v a.2 in
    let inside = sound c.u a.0.1 c.w q c.reads in
    let spells : Spells levels whole t (branch c.n c.w) (head.front ++ inside.front) =
    ((ts, u, c.u, c.at, c.small, head.front, inside.front, refl, subst (λ (z : ℤ). IsLong z head.front) c.is head.is, inside.is.0), (b, more, inside.is.1)) in
    subst (λ (w : Value). Took (Spells levels whole t) below p w q) c.value (record {
      front = head.front ++ inside.front;
      left = head.left ∙ ap (λ (l : List ℕ). head.front ++ l) inside.left ∙ sym (append_assoc head.front inside.front q.left);
      is = spells;
      next = omega (arith, head.next, inside.next);
      few = λ h. inside.few (head.few h);
    })

-- ---- records

abbrev FieldsSpelled : ℕ → AvroType → Fields → List Value → List ℕ → Type 0
FieldsSpelled b whole ts vs bs = AreFields whole ts (values_of vs) bs × AreWithin b (values_of vs)

fields_sound : (b : ℕ) (whole : AvroType) (inner : Reader) → ((u : AvroType) → Sound (Spells b whole u) nodes (inner u)) → (ts : Fields) → Sound (FieldsSpelled b whole ts) (λ vs. nodes_in (values_of vs)) (fields_at inner ts)
unfolding fields_at
fields_sound b whole inner sound schema.no_fields p vs q is =
    subst (λ (y : List Value × Place). Took (FieldsSpelled b whole schema.no_fields) (λ ws. nodes_in (values_of ws)) p y.0 y.1) (ok_is ([], p) (vs, q) is)
    (record { front = []; left = refl; is = ((refl, refl), tt); next = omega arith; few = λ h. h })
fields_sound b whole inner sound (schema.field name t ts) p vs q is =
    let a = bind_ok (inner t p) (λ v. fields_at inner ts v.1 >>= λ ws. Ok (v.0 ∷ ws.0, ws.1)) (vs, q) is in
    let c = bind_ok (fields_at inner ts a.0.1) (λ ws. Ok (a.0.0 ∷ ws.0, ws.1)) (vs, q) a.2 in
    let first = sound t p a.0.0 a.0.1 a.1 in
    let others = fields_sound b whole inner sound ts a.0.1 c.0.0 c.0.1 c.1 in
    subst (λ (y : List Value × Place). Took (FieldsSpelled b whole (schema.field name t ts)) (λ ws. nodes_in (values_of ws)) p y.0 y.1) (ok_is (a.0.0 ∷ c.0.0, c.0.1) (vs, q) c.2) (record {
      front = first.front ++ others.front;
      left = first.left ∙ ap (λ (l : List ℕ). first.front ++ l) others.left ∙ sym (append_assoc first.front others.front c.0.1.left);
      is = ((name, t, ts, refl, first.front, others.front, refl, first.is.0, others.is.0), (first.is.1, others.is.1));
      next = omega (arith, first.next, others.next);
      few = λ h. others.few (first.few h);
    })

-- ---- arrays

items_are : (b : ℕ) (whole u : AvroType) (vs : List Value) (pieces : List (List ℕ)) → AllSpelled (Spells b whole u) vs pieces → AreItems whole u (values_of vs) pieces × AreWithin b (values_of vs)
items_are b whole u [] pieces is = (is, tt)
items_are b whole u (v ∷ vs) pieces is = let more = items_are b whole u vs is.1 is.4 in ((is.0, is.1, is.2, is.3.0, more.0), (is.3.1, more.1))

nodes_total : (vs : List Value) → nodes_in (values_of vs) ≡ total nodes vs
nodes_total [] = refl
nodes_total (v ∷ vs) = ap (λ (n : ℕ). nodes v + n) (nodes_total vs)

array_sound : (levels b : ℕ) (whole t u : AvroType) (inner : Reader) (k : ℕ) → Sound (Spells b whole u) nodes (inner u) → levels ≡ suc b → resolved whole t ≡ schema.array u
    → Sound (Spells levels whole t) below (λ p. giving (λ vs. items (values_of vs)) (all_blocks k (inner u) p))
array_sound levels b whole t u inner k sound more is p v q e =
    let a = giving_took (λ vs. items (values_of vs)) (all_blocks k (inner u) p) v q e in
    let c = blocks_sound (Spells b whole u) nodes (inner u) sound (suc (length p.left)) k p a.0 q a.1 in
    let are = items_are b whole u a.0 c.pieces c.each in
    let spells : Spells levels whole t (items (values_of a.0)) c.front = ((u, is, c.pieces, are.0, c.blocks), (b, more, are.1)) in
    subst (λ (w : Value). Took (Spells levels whole t) below p w q) a.2 (record { front = c.front; left = c.left; is = spells; next = omega (arith, c.next, nodes_total a.0); few = c.few })

-- ---- maps

abbrev EntrySpelled : ℕ → AvroType → AvroType → Entry → List ℕ → Type 0
EntrySpelled b whole u e bs = (name : List ℕ) × (body : List ℕ) × (bs ≡ name ++ body) × IsSized e.key name × (is_utf8 e.key ≡ true) × IsDatum whole u e.value body × IsWithin b e.value

entry_sound : (b : ℕ) (whole u : AvroType) (inner : Reader) (k : ℕ) → Sound (Spells b whole u) nodes (inner u) → Sound (EntrySpelled b whole u) (λ e. nodes e.value) (entry_at inner k u)
entry_sound b whole u inner k sound p e q is =
    let a = bind_ok (text_at k p) (λ key. inner u key.1 >>= λ v. Ok (record { key = key.0; value = v.0 }, v.1)) (e, q) is in
    let c = bind_ok (inner u a.0.1) (λ v. Ok (record { key = a.0.0; value = v.0 }, v.1)) (e, q) a.2 in
    let key = text_sound k p a.0.0 a.0.1 a.1 in
    let body = sound a.0.1 c.0.0 c.0.1 c.1 in
    let made : Entry = record { key = a.0.0; value = c.0.0 } in
    let spells : EntrySpelled b whole u made (key.front ++ body.front) = (key.front, body.front, refl, key.is.0, key.is.1, body.is.0, body.is.1) in
    subst (λ (y : Entry × Place). Took (EntrySpelled b whole u) (λ x. nodes x.value) p y.0 y.1) (ok_is (made, c.0.1) (e, q) c.2) (record {
      front = key.front ++ body.front;
      left = key.left ∙ ap (λ (l : List ℕ). key.front ++ l) body.left ∙ sym (append_assoc key.front body.front c.0.1.left);
      is = spells;
      next = omega (arith, key.next, body.next);
      few = λ h. body.few (key.few h);
    })

entries_are : (b : ℕ) (whole u : AvroType) (es : List Entry) (pieces : List (List ℕ)) → AllSpelled (EntrySpelled b whole u) es pieces → AreEntries whole u (entries_of es) pieces × EntriesWithin b (entries_of es)
entries_are b whole u [] pieces is = (is, tt)
entries_are b whole u (e ∷ es) pieces is =
    let more = entries_are b whole u es is.1 is.4 in
    let one = is.3 in
    ((one.0, one.1, is.1, is.2 ∙ ap (λ (l : List ℕ). l ∷ is.1) one.2, one.3, one.4, one.5, more.0), (one.6, more.1))

entries_total : (es : List Entry) → nodes_among (entries_of es) ≡ total (λ e. nodes e.value) es
entries_total [] = refl
entries_total (e ∷ es) = ap (λ (n : ℕ). nodes e.value + n) (entries_total es)

map_sound : (levels b : ℕ) (whole t u : AvroType) (inner : Reader) (k : ℕ) → Sound (Spells b whole u) nodes (inner u) → levels ≡ suc b → resolved whole t ≡ schema.map u
    → Sound (Spells levels whole t) below (λ p. giving (λ es. entries (entries_of es)) (all_blocks k (entry_at inner k u) p))
map_sound levels b whole t u inner k sound more is p v q e =
    let a = giving_took (λ es. entries (entries_of es)) (all_blocks k (entry_at inner k u) p) v q e in
    let c = blocks_sound (EntrySpelled b whole u) (λ x. nodes x.value) (entry_at inner k u) (entry_sound b whole u inner k sound) (suc (length p.left)) k p a.0 q a.1 in
    let are = entries_are b whole u a.0 c.pieces c.each in
    let spells : Spells levels whole t (entries (entries_of a.0)) c.front = ((u, is, c.pieces, are.0, c.blocks), (b, more, are.1)) in
    subst (λ (w : Value). Took (Spells levels whole t) below p w q) a.2 (record { front = c.front; left = c.left; is = spells; next = omega (arith, c.next, entries_total a.0); few = c.few })

-- ---- a node

-- a type whose values have parts has a level for them
abbrev HasRoom : ℕ → ℕ → AvroType → Type 0
HasRoom levels b u = (nests u ≡ true) → levels ≡ suc b

body_sound : (levels b : ℕ) (whole t : AvroType) (inner : Reader) (k : ℕ) (u : AvroType) → ((x : AvroType) → Sound (Spells b whole x) nodes (inner x)) → HasRoom levels b u → resolved whole t ≡ u → Sound (Spells levels whole t) below (body_at inner k u)
body_sound levels b whole t inner k schema.null sound room is = λ p v q e.
    subst (λ (y : Value × Place). Took (Spells levels whole t) below p y.0 y.1) (ok_is (null, p) (v, q) e) (record { front = []; left = refl; is = ((is, refl), tt); next = omega arith; few = λ h. h })
body_sound levels b whole t inner k schema.boolean sound room is = giving_sound IsFlag no_node _ boolean (Spells levels whole t) (flag_sound k) (λ x bs s. ((is, s), tt)) (λ x. refl)
body_sound levels b whole t inner k schema.int sound room is = giving_sound IsInt no_node _ int (Spells levels whole t) (int_sound k) (λ x bs s. ((is, s), tt)) (λ x. refl)
body_sound levels b whole t inner k schema.long sound room is = giving_sound IsLong no_node _ long (Spells levels whole t) (long_sound k) (λ x bs s. ((is, s), tt)) (λ x. refl)
body_sound levels b whole t inner k schema.bytes sound room is = giving_sound IsSized no_node _ bytes (Spells levels whole t) (sized_sound k) (λ x bs s. ((is, s), tt)) (λ x. refl)
body_sound levels b whole t inner k schema.string sound room is = giving_sound IsString no_node _ string (Spells levels whole t) (text_sound k) (λ x bs s. ((is, s.0, s.1), tt)) (λ x. refl)
body_sound levels b whole t inner k (schema.fixed name size) sound room is =
    giving_sound _ no_node _ fixed (Spells levels whole t) (run_sound size) (λ x bs s. ((name, is ∙ ap (schema.fixed name) (sym s.1), s.0), tt)) (λ x. refl)
body_sound levels b whole t inner k (schema.enum_ name symbols) sound room is = enum_sound levels whole t k name symbols is
body_sound levels b whole t inner k (schema.union ts) sound room is = union_sound levels b whole t inner k ts sound (room refl) is
body_sound levels b whole t inner k (schema.record_ name ts) sound room is =
    giving_sound _ (λ vs. nodes_in (values_of vs)) _ (λ vs. fields (values_of vs)) (Spells levels whole t) (fields_sound b whole inner sound ts) (λ x bs s. ((name, ts, is, s.0), (b, room refl, s.1))) (λ x. omega arith)
body_sound levels b whole t inner k (schema.array u) sound room is = array_sound levels b whole t u inner k (sound u) (room refl) is
body_sound levels b whole t inner k (schema.map u) sound room is = map_sound levels b whole t u inner k (sound u) (room refl) is
body_sound levels b whole t inner k (schema.named name) sound room is = λ p v q e. absurd cc

entered_took : (d : Bool) (p : Place) (k : ℕ) (q : Place) → entered d p ≡ Ok (k, q) → (d ≡ false) × (p.next < max_nodes) × (q ≡ behind (suc p.next) p.left)
entered_took d p k q is =
    let a = chosen_else d TooDeep (cond (nat_lt p.next max_nodes) (Ok (p.next, behind (suc p.next) p.left)) (Err TooMany)) (k, q) is in
    let b = chosen_ok (nat_lt p.next max_nodes) TooMany (p.next, behind (suc p.next) p.left) (k, q) a.1 in
    (a.0, ltb-true _ _ b.0, sym (ap (λ (y : ℕ × Place). y.1) b.1))

some_nodes : (v : Value) → 1 ≤ nodes v
some_nodes null = omega arith
some_nodes (boolean b) = omega arith
some_nodes (int n) = omega arith
some_nodes (long n) = omega arith
some_nodes (bytes bs) = omega arith
some_nodes (string bs) = omega arith
some_nodes (fixed bs) = omega arith
some_nodes (symbol n) = omega arith
some_nodes (branch n v) = omega arith
some_nodes (fields vs) = omega arith
some_nodes (items vs) = omega arith
some_nodes (entries es) = omega arith

node_sound : (levels b : ℕ) (deep : Bool) (whole t : AvroType) (inner : Reader) → ((x : AvroType) → Sound (Spells b whole x) nodes (inner x)) → ((nests (resolved whole t) && deep) ≡ false → HasRoom levels b (resolved whole t))
    → Sound (Spells levels whole t) nodes (node_at inner deep (resolved whole t))
node_sound levels b deep whole t inner sound room p v q is =
    let u = resolved whole t in
    let a = bind_ok (entered (nests u && deep) p) (λ k. body_at inner k.0 u k.1) (v, q) is in
    let enters = entered_took (nests u && deep) p a.0.0 a.0.1 a.1 in
    let body = body_sound levels b whole t inner a.0.0 u sound (room enters.0) refl a.0.1 v q a.2 in
    let next : a.0.1.next ≡ suc p.next = ap (λ (r : Place). r.next) enters.2 in
    record {
      front = body.front;
      left = sym (ap (λ (r : Place). r.left) enters.2) ∙ body.left;
      is = body.is;
      next = omega (arith, body.next, next, some_nodes v);
      few = λ h. body.few (omega (arith, next, enters.1));
    }

deep_plain : (nest : Bool) → (nest && true) ≡ false → nest ≡ true → ⊥
deep_plain true room is = absurd cc
deep_plain false room is = absurd cc

pub value_sound : (whole : AvroType) (levels : ℕ) (t : AvroType) → Sound (Spells levels whole t) nodes (value_at whole levels t)
unfolding value_at
value_sound whole zero t = node_sound zero zero true whole t too_deep (λ x p v q is. absurd cc) (λ room nest. absurd (deep_plain (nests (resolved whole t)) room nest))
value_sound whole (suc levels) t = node_sound (suc levels) levels false whole t (value_at whole levels) (value_sound whole levels) (λ room nest. refl)

-- a datum that is read of all of the bytes is spelled by them, within the limits
pub datum_sound : (whole : AvroType) (bs : List ℕ) (v : Value) → datum_at whole bs ≡ Ok v → IsDatum whole whole v bs × IsSmall v
unfolding datum_at
datum_sound whole bs v is =
    let a = bind_ok (value_at whole max_levels whole (behind 0 bs)) ended v is in
    let b = chosen_ok (length a.0.1.left == 0) Rest a.0.0 v a.2 in
    let c = value_sound whole max_levels whole (behind 0 bs) a.0.0 a.0.1 a.1 in
    let none : a.0.1.left ≡ [] = nil_from_length a.0.1.left (eqb-true _ _ b.0) in
    let all : c.front ≡ bs = sym (c.left ∙ ap (λ (l : List ℕ). c.front ++ l) none ∙ append-nil c.front) in
    let read : IsDatum whole whole a.0.0 bs × IsSmall a.0.0 = (subst (IsDatum whole whole a.0.0) all c.is.0, record { levels = c.is.1; nodes = omega (arith, c.next, c.few (omega arith)) }) in
    subst (λ (w : Value). IsDatum whole whole w bs × IsSmall w) b.1 read
