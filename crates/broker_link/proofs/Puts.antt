-- What a log becomes by records at the end of one partition.
use Rattle.std.proofs.Common.{◌≡◌, ℕ, zero, suc, ◌+◌, ◌<◌, ◌≤◌, Bool, true, false, cond, List, [], ◌∷◌, ◌++◌, length, map, get_or, refl, ap, sym, subst, ◌∙◌, inl, inr, arith, append-nil}
use Rattle.std.specs.Prelude.{◌⊎◌, bytes_eq, slice_index_or, slice_set, All, AllPairs, Contains, sum_by}
use Rattle.std.proofs.lemmas.List.{length-set, get_or-set_same, get_or-set_other, map-set}
use Rattle.std.proofs.lemmas.List.Sums.{sum_by-set}
use Rattle.std.proofs.lemmas.List.Elements.{All-cons, All-nil, All-append}
use Rattle.std.proofs.lemmas.Slice.Eq.{bytes_eq-Decides}
use Rattle.std.proofs.lemmas.Bool.{cases_eq}
use Rattle.std.proofs.lemmas.Grind.{common_steps}
use Rattle.model.specs.state.Log.{TopicPart, Row, Rises, Part, IsPart, Topic, parts_in, part_at, KeepsPart, Keeps, IsLog, shape_of, rows_in_all}
use Rattle.broker_link.specs.Produced.{numbered}
use Rattle.broker_link.specs.Stored.{appended, log_of}
use Rattle.broker_link.specs.declared.link.NewRecord.{NewRecord}

abbrev pub no_part : Part
no_part = record { start = 0; end = 0; rows = [] }

-- the first topic of the name stands at the place
pub record IsFirst (topics : List Topic) (name : List ℕ) (place : ℕ) (t : Topic) : Type 0 where
  pub within : place < length topics
  pub here : get_or topics place t ≡ t
  pub named : t.name ≡ name
  pub before : (k : ℕ) (d : Topic) → k < place → bytes_eq (get_or topics k d).name name ≡ false

same_bytes : (x : List ℕ) → bytes_eq x x ≡ true
same_bytes x = (bytes_eq-Decides x x).1 refl

other_name : (x name other : List ℕ) → bytes_eq x name ≡ false → bytes_eq x other ≡ true → bytes_eq name other ≡ false
other_name x name other isn't is = go (bytes_eq name other) refl
  where
    go : (b : Bool) → bytes_eq name other ≡ b → bytes_eq name other ≡ false
    go true e =
        let p : name ≡ other = (bytes_eq-Decides name other).0 e in
        let q : x ≡ other = (bytes_eq-Decides x other).0 is in
        let r : bytes_eq x name ≡ true = ap (bytes_eq x) p ∙ is in
        absurd (cc (r, isn't))
    go false e = e

pub parts_in_set : (topics : List Topic) (name other : List ℕ) (place : ℕ) (t t2 : Topic) → IsFirst topics name place t → t2.name ≡ t.name
    → parts_in (slice_set topics place t2) other ≡ cond (bytes_eq name other) t2.parts (parts_in topics other)
parts_in_set [] name other place t t2 first same = absurd (omega (arith, first.within))
parts_in_set (x ∷ xs) name other zero t t2 first same =
    let is : x ≡ t = first.here in
    let n2 : t2.name ≡ name = same ∙ first.named in
    let n1 : x.name ≡ name = ap (λ (u : Topic). u.name) is ∙ first.named in
    go (bytes_eq name other) refl n1 n2
  where
    go : (b : Bool) → bytes_eq name other ≡ b → x.name ≡ name → t2.name ≡ name → parts_in (t2 ∷ xs) other ≡ cond (bytes_eq name other) t2.parts (parts_in (x ∷ xs) other)
    go true e n1 n2 =
        let f : bytes_eq t2.name other ≡ true = ap (λ n. bytes_eq n other) n2 ∙ e in
        rw (e, f) refl
    go false e n1 n2 =
        let f : bytes_eq t2.name other ≡ false = ap (λ n. bytes_eq n other) n2 ∙ e in
        let g : bytes_eq x.name other ≡ false = ap (λ n. bytes_eq n other) n1 ∙ e in
        rw (e, f, g) refl
parts_in_set (x ∷ xs) name other (suc k) t t2 first same =
    let rest : IsFirst xs name k t = record { within = omega (arith, first.within); here = first.here; named = first.named; before = λ i d lt. first.before (suc i) d (omega arith) } in
    go (bytes_eq x.name other) refl (first.before 0 x (omega arith)) (parts_in_set xs name other k t t2 rest same)
  where
    go : (b : Bool) → bytes_eq x.name other ≡ b → bytes_eq x.name name ≡ false → parts_in (slice_set xs k t2) other ≡ cond (bytes_eq name other) t2.parts (parts_in xs other)
        → parts_in (x ∷ slice_set xs k t2) other ≡ cond (bytes_eq name other) t2.parts (parts_in (x ∷ xs) other)
    go true e not_it ih =
        let f : bytes_eq name other ≡ false = other_name x.name name other not_it e in
        rw (e, f) refl
    go false e not_it ih = rw e ih

pub parts_in_first : (topics : List Topic) (name : List ℕ) (place : ℕ) (t : Topic) → IsFirst topics name place t → parts_in topics name ≡ t.parts
parts_in_first [] name place t first = absurd (omega (arith, first.within))
parts_in_first (x ∷ xs) name zero t first =
    let is : x ≡ t = first.here in
    let e : bytes_eq x.name name ≡ true = (bytes_eq-Decides x.name name).1 (ap (λ (u : Topic). u.name) is ∙ first.named) in
    rw e (ap (λ (u : Topic). u.parts) is)
parts_in_first (x ∷ xs) name (suc k) t first =
    let e : bytes_eq x.name name ≡ false = first.before 0 x (omega arith) in
    let rest : IsFirst xs name k t = record { within = omega (arith, first.within); here = first.here; named = first.named; before = λ i d lt. first.before (suc i) d (omega arith) } in
    rw e (parts_in_first xs name k t rest)

-- ---- one partition

length-numbered : (base : ℕ) (rs : List NewRecord) → length (numbered base rs) ≡ length rs
length-numbered base [] = refl
length-numbered base (r ∷ rs) = ap (λ n. suc n) (length-numbered (base + 1) rs)

pub above_numbered : (low base : ℕ) (rs : List NewRecord) → low ≤ base → All (λ (row : Row). low ≤ row.offset) (numbered base rs)
above_numbered low base [] le = All-nil (λ (row : Row). low ≤ row.offset)
above_numbered low base (r ∷ rs) le = All-cons (λ (row : Row). low ≤ row.offset) (record { offset = base; key = r.key; value = r.value }) (numbered (base + 1) rs) le (above_numbered low (base + 1) rs (omega arith))

below_numbered : (high base : ℕ) (rs : List NewRecord) → base + length rs ≤ high → All (λ (row : Row). row.offset < high) (numbered base rs)
below_numbered high base [] le = All-nil (λ (row : Row). row.offset < high)
below_numbered high base (r ∷ rs) le =
    All-cons (λ (row : Row). row.offset < high) (record { offset = base; key = r.key; value = r.value }) (numbered (base + 1) rs) (omega arith) (below_numbered high (base + 1) rs (omega arith))

rises_numbered : (low base : ℕ) (rs : List NewRecord) → low ≤ base → Rises low (numbered base rs)
rises_numbered low base [] le = tt
rises_numbered low base (r ∷ rs) le = (le, rises_numbered (base + 1) (base + 1) rs (omega arith))

rises_behind : (low end : ℕ) (rows : List Row) (rs : List NewRecord) → low ≤ end → Rises low rows → All (λ (row : Row). row.offset < end) rows → Rises low (rows ++ numbered end rs)
rises_behind low end [] rs le rises below = rises_numbered low end rs le
rises_behind low end (row ∷ rows) rs le rises below =
    (rises.0, rises_behind (row.offset + 1) end rows rs (omega (arith, below 0 row (omega arith))) rises.1 (λ k d lt. below (suc k) d (omega arith)))

pub part_keeps : (part : Part) (rs : List NewRecord) → KeepsPart part (appended part rs)
unfolding appended
part_keeps part rs = record { start = refl; end = omega arith; added = numbered part.end rs; rows = refl; above = above_numbered part.end part.end rs (omega arith) }

pub part_is_part : (part : Part) (rs : List NewRecord) → IsPart part → IsPart (appended part rs)
unfolding appended
part_is_part part rs is = record {
  whole = omega (arith, is.whole);
  rises = rises_behind part.start part.end part.rows rs is.whole is.rises is.ends;
  ends = All-append (λ (row : Row). row.offset < part.end + length rs) part.rows (numbered part.end rs)
      (λ k d lt. omega (arith, is.ends k d lt)) (below_numbered (part.end + length rs) part.end rs (omega arith));
}

contains_right : (xs ys : List Row) → (y : Row) → Contains ys y → Contains (xs ++ ys) y
contains_right [] ys y c = c
contains_right (x ∷ xs) ys y c = let r = contains_right xs ys y c in (suc r.0, omega (arith, r.1), r.2)

contains_each : (ys zs : List Row) → ((y : Row) → Contains ys y → Contains zs y) → All (λ row. Contains zs row) ys
contains_each ys zs f = λ k d lt. f (slice_index_or ys k d) (k, lt, grind (arith, common_steps))

pub part_stands : (part : Part) (rs : List NewRecord) → All (λ row. Contains (appended part rs).rows row) (numbered part.end rs)
unfolding appended
part_stands part rs = contains_each (numbered part.end rs) (part.rows ++ numbered part.end rs) (contains_right part.rows (numbered part.end rs))

part_itself : (part : Part) → KeepsPart part part
part_itself part = record { start = refl; end = omega arith; added = []; rows = sym (append-nil part.rows); above = All-nil (λ (row : Row). part.end ≤ row.offset) }

length_append : {X : Type 0} (xs ys : List X) → length (xs ++ ys) ≡ length xs + length ys
length_append [] ys = omega arith
length_append (x ∷ xs) ys = omega (arith, length_append xs ys)

pub get_or_any : {X : Type 0} (xs : List X) (i : ℕ) (d e : X) → i < length xs → get_or xs i d ≡ get_or xs i e
get_or_any [] i d e lt = absurd (omega (arith, lt))
get_or_any (x ∷ xs) zero d e lt = refl
get_or_any (x ∷ xs) (suc i) d e lt = get_or_any xs i d e (omega (arith, lt))

-- ---- the log

abbrev pub with_records : Topic → ℕ → Part → List NewRecord → Topic
with_records t number part records = record { name = t.name; parts = slice_set t.parts number (appended part records) }

-- the log with the records in that partition
pub record Grows (a b : List Topic) (name : List ℕ) (place number : ℕ) (t : Topic) (part : Part) (rs : List NewRecord) : Type 0 where
  pub first : IsFirst a name place t
  pub within : number < length t.parts
  pub here : (d : Part) → get_or t.parts number d ≡ part
  pub is : b ≡ slice_set a place (with_records t number part rs)

pub parts_after : (a b : List Topic) (name : List ℕ) (place number : ℕ) (t : Topic) (part : Part) (rs : List NewRecord) → Grows a b name place number t part rs
    → (other : List ℕ) → parts_in b other ≡ cond (bytes_eq name other) (slice_set t.parts number (appended part rs)) (parts_in a other)
parts_after a b name place number t part rs g other =
    ap (λ l. parts_in l other) g.is ∙ parts_in_set a name other place t (with_records t number part rs) g.first refl

pub part_here : (a b : List Topic) (name : List ℕ) (place number : ℕ) (t : Topic) (part : Part) (rs : List NewRecord) → Grows a b name place number t part rs
    → (part_at (log_of a) (record { topic = name; partition = number }) ≡ part) × (part_at (log_of b) (record { topic = name; partition = number }) ≡ appended part rs)
part_here a b name place number t part rs g =
    let e : bytes_eq name name ≡ true = same_bytes name in
    let p : parts_in b name ≡ slice_set t.parts number (appended part rs) = parts_after a b name place number t part rs g name ∙ ap (λ c. cond c (slice_set t.parts number (appended part rs)) (parts_in a name)) e in (
      ap (λ l. slice_index_or l number no_part) (parts_in_first a name place t g.first) ∙ g.here no_part,
      ap (λ l. slice_index_or l number no_part) p ∙ get_or-set_same t.parts number (appended part rs) no_part g.within,
    )

pub part_cases : (a b : List Topic) (name : List ℕ) (place number : ℕ) (t : Topic) (part : Part) (rs : List NewRecord) → Grows a b name place number t part rs
    → (at : TopicPart) → (part_at (log_of b) at ≡ part_at (log_of a) at) ⊎ (part_at (log_of b) at ≡ appended (part_at (log_of a) at) rs)
part_cases a b name place number t part rs g at = go (bytes_eq name at.topic) refl (parts_after a b name place number t part rs g at.topic)
  where
    go : (c : Bool) → bytes_eq name at.topic ≡ c → parts_in b at.topic ≡ cond (bytes_eq name at.topic) (slice_set t.parts number (appended part rs)) (parts_in a at.topic)
        → (part_at (log_of b) at ≡ part_at (log_of a) at) ⊎ (part_at (log_of b) at ≡ appended (part_at (log_of a) at) rs)
    go false e is = inl (ap (λ l. slice_index_or l at.partition no_part) (is ∙ ap (λ c. cond c (slice_set t.parts number (appended part rs)) (parts_in a at.topic)) e))
    go true e is =
        let q : name ≡ at.topic = (bytes_eq-Decides name at.topic).0 e in
        let p : parts_in b at.topic ≡ slice_set t.parts number (appended part rs) = is ∙ ap (λ c. cond c (slice_set t.parts number (appended part rs)) (parts_in a at.topic)) e in
        let old : parts_in a at.topic ≡ t.parts = ap (parts_in a) (sym q) ∙ parts_in_first a name place t g.first in
        at_number p old (cases_eq at.partition number)
      where
        at_number : parts_in b at.topic ≡ slice_set t.parts number (appended part rs) → parts_in a at.topic ≡ t.parts → (at.partition ≡ number) ⊎ (at.partition ≡ number → ⊥)
            → (part_at (log_of b) at ≡ part_at (log_of a) at) ⊎ (part_at (log_of b) at ≡ appended (part_at (log_of a) at) rs)
        at_number p old (inl same) =
            let now : part_at (log_of b) at ≡ appended part rs = ap (λ l. slice_index_or l at.partition no_part) p ∙ (ap (λ n. slice_index_or (slice_set t.parts number (appended part rs)) n no_part) same ∙ get_or-set_same t.parts number (appended part rs) no_part g.within) in
            let was : part_at (log_of a) at ≡ part = ap (λ l. slice_index_or l at.partition no_part) old ∙ (ap (λ n. slice_index_or t.parts n no_part) same ∙ g.here no_part) in
            inr (now ∙ ap (λ (x : Part). appended x rs) (sym was))
        at_number p old (inr other) =
            inl (ap (λ l. slice_index_or l at.partition no_part) p ∙ (get_or-set_other t.parts number at.partition (appended part rs) no_part other ∙ sym (ap (λ l. slice_index_or l at.partition no_part) old)))

-- a write of what stands there
set_of_here : {X : Type 0} (xs : List X) (i : ℕ) (x : X) → get_or xs i x ≡ x → slice_set xs i x ≡ xs
set_of_here [] zero x e = refl
set_of_here [] (suc i) x e = refl
set_of_here (y ∷ ys) zero x e = ap (λ z. z ∷ ys) (sym e)
set_of_here (y ∷ ys) (suc i) x e = ap (λ zs. y ∷ zs) (set_of_here ys i x e)

map_here : {X Y : Type 0} (f : X → Y) (xs : List X) (i : ℕ) (x : X) → i < length xs → get_or xs i x ≡ x → get_or (map f xs) i (f x) ≡ f x
map_here f [] i x lt e = absurd (omega (arith, lt))
map_here f (y ∷ ys) zero x lt e = ap f e
map_here f (y ∷ ys) (suc i) x lt e = map_here f ys i x (omega (arith, lt)) e

pub shape_after : (a b : List Topic) (name : List ℕ) (place number : ℕ) (t : Topic) (part : Part) (rs : List NewRecord) → Grows a b name place number t part rs
    → shape_of (log_of b) ≡ shape_of (log_of a)
shape_after a b name place number t part rs g =
    let f : Topic → List ℕ × ℕ = λ t. (t.name, length t.parts) in
    let t2 : Topic = with_records t number part rs in
    let same : f t2 ≡ f t = ap (λ n. (t.name, n)) (length-set t.parts number (appended part rs)) in
    ap (λ l. map f l) g.is ∙ (map-set f a place t2 ∙ (ap (λ x. slice_set (map f a) place x) same ∙ set_of_here (map f a) place (f t) (map_here f a place t (let w = g.first in w.within) (let w = g.first in w.here))))

pub log_keeps : (a b : List Topic) (name : List ℕ) (place number : ℕ) (t : Topic) (part : Part) (rs : List NewRecord) → Grows a b name place number t part rs
    → Keeps (log_of a) (log_of b)
log_keeps a b name place number t part rs g = record {
  shape = shape_after a b name place number t part rs g;
  part = λ at. go at (part_cases a b name place number t part rs g at);
  others = omega arith;
}
  where
    go : (at : TopicPart) → (part_at (log_of b) at ≡ part_at (log_of a) at) ⊎ (part_at (log_of b) at ≡ appended (part_at (log_of a) at) rs) → KeepsPart (part_at (log_of a) at) (part_at (log_of b) at)
    go at (inl e) = subst (KeepsPart (part_at (log_of a) at)) (sym e) (part_itself (part_at (log_of a) at))
    go at (inr e) = subst (KeepsPart (part_at (log_of a) at)) (sym e) (part_keeps (part_at (log_of a) at) rs)

names_differ : (a : List Topic) (place : ℕ) (t2 : Topic) (i : ℕ) (d : Topic) → place < length a → (get_or a place t2).name ≡ t2.name → (get_or (slice_set a place t2) i d).name ≡ (get_or a i d).name
names_differ [] place t2 i d lt e = absurd (omega (arith, lt))
names_differ (x ∷ xs) zero t2 zero d lt e = sym e
names_differ (x ∷ xs) zero t2 (suc i) d lt e = refl
names_differ (x ∷ xs) (suc k) t2 zero d lt e = refl
names_differ (x ∷ xs) (suc k) t2 (suc i) d lt e = names_differ xs k t2 i d (omega (arith, lt)) e

pub log_is_log : (a b : List Topic) (name : List ℕ) (place number : ℕ) (t : Topic) (part : Part) (rs : List NewRecord) → Grows a b name place number t part rs
    → IsLog (log_of a) → IsLog (log_of b)
log_is_log a b name place number t part rs g is = record {
  names = subst (λ (l : List Topic). AllPairs (λ x y. bytes_eq x.name y.name ≡ false) l) (sym g.is) apart;
  part = λ at. go at (part_cases a b name place number t part rs g at);
}
  where
    t2 : Topic
    t2 = with_records t number part rs

    at_place : (get_or a place t2).name ≡ t2.name
    at_place = (let w = g.first in ap (λ (u : Topic). u.name) (get_or_any a place t2 t w.within ∙ w.here))

    apart : AllPairs (λ (x y : Topic). bytes_eq x.name y.name ≡ false) (slice_set a place t2)
    apart i j d lt le =
        let short : j < length a = omega (arith, le, length-set a place t2) in
        let old = is.names i j d lt short in
        let w = g.first in
        ap (λ n. bytes_eq n (get_or (slice_set a place t2) j d).name) (names_differ a place t2 i d w.within at_place)
        ∙ (ap (bytes_eq (get_or a i d).name) (names_differ a place t2 j d w.within at_place) ∙ old)

    go : (at : TopicPart) → (part_at (log_of b) at ≡ part_at (log_of a) at) ⊎ (part_at (log_of b) at ≡ appended (part_at (log_of a) at) rs) → IsPart (part_at (log_of b) at)
    go at (inl e) = subst IsPart (sym e) (is.part at)
    go at (inr e) = subst IsPart (sym e) (part_is_part (part_at (log_of a) at) rs (is.part at))

pub rows_after : (a b : List Topic) (name : List ℕ) (place number : ℕ) (t : Topic) (part : Part) (rs : List NewRecord) → Grows a b name place number t part rs
    → rows_in_all (log_of b) ≡ rows_in_all (log_of a) + length rs
unfolding appended
rows_after a b name place number t part rs g =
    let long : Part → ℕ = λ p. length p.rows in
    let all : Topic → ℕ = λ t. sum_by (λ p. length p.rows) t.parts in
    let t2 : Topic = with_records t number part rs in
    let w = g.first in
    let here : get_or a place t ≡ t = w.here in
    let outer : sum_by all (slice_set a place t2) + all t ≡ sum_by all a + all t2 =
    subst (λ (u : Topic). sum_by all (slice_set a place t2) + all u ≡ sum_by all a + all t2) here (sum_by-set all a place t2 t w.within) in
    let inner : sum_by long (slice_set t.parts number (appended part rs)) + long part ≡ sum_by long t.parts + long (appended part rs) =
    subst (λ (p : Part). sum_by long (slice_set t.parts number (appended part rs)) + long p ≡ sum_by long t.parts + long (appended part rs)) (g.here no_part) (sum_by-set long t.parts number (appended part rs) no_part g.within) in
    let added : long (appended part rs) ≡ long part + length rs = length_append part.rows (numbered part.end rs) ∙ ap (λ n. length part.rows + n) (length-numbered part.end rs) in
    let is : rows_in_all (log_of b) ≡ sum_by all (slice_set a place t2) = ap (λ l. sum_by all l) g.is in
    omega (arith, outer, inner, added, is)
