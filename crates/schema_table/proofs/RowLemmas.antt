-- From texts of a table to its rows, and from loaded rows to those that a table may have.
use Rattle.std.proofs.Common.{◌≡◌, inl, inr, ℕ, zero, suc, ◌+◌, ◌<◌, List, [], ◌∷◌, ◌++◌, length, take, drop, slice_get, get_or, Some, add-one, refl, sym, ap, subst, ◌∙◌, arith}
use Rattle.std.specs.Prelude.{Result, Ok, Err, IfErr}
use Rattle.std.specs.List.{AllByRecursion}
use Rattle.std.proofs.Math.Seq.{drop-cons}
use Rattle.std.proofs.lemmas.List.Elements.{All-from_recursion}
use Rattle.schema_keeper.specs.declared.row.SchemaRow.{SchemaRow}
use Rattle.schema_keeper.specs.Keeper.{Begins, HadBefore, HadOrGot, IsAbove, row_of, with_row}
use Rattle.schema_table.specs.Table.{AreApart, BeginsWith, Grew, HasForm, HasId, IsNext, IsTable, Lacks, ToldOn, rows_behind, rows_of}
use Rattle.schema_table.proofs.IndexLemmas.{within}

append-assoc : {X : Type 0} (xs ys zs : List X) → (xs ++ ys) ++ zs ≡ xs ++ (ys ++ zs)
append-assoc [] ys zs = refl
append-assoc (x ∷ xs) ys zs = ap (λ l. x ∷ l) (append-assoc xs ys zs)

append-none : {X : Type 0} (xs : List X) → xs ++ [] ≡ xs
append-none [] = refl
append-none (x ∷ xs) = ap (λ l. x ∷ l) (append-none xs)

rows_append : (n : ℕ) (ts us : List (List ℕ)) → rows_behind n (ts ++ us) ≡ rows_behind n ts ++ rows_behind (n + length ts) us
rows_append n [] us = ap (λ m. rows_behind m us) (omega arith)
rows_append n (t ∷ ts) us = ap (λ l. row_of (n + 1) t ∷ l) (rows_append (n + 1) ts us ∙ ap (λ m. rows_behind (n + 1) ts ++ rows_behind m us) (omega arith))

-- the rows of one text more
pub rows_more : (ts : List (List ℕ)) (t : List ℕ) → rows_of (ts ++ t ∷ []) ≡ rows_of ts ++ row_of (length ts + 1) t ∷ []
rows_more ts t = rows_append 0 ts (t ∷ []) ∙ ap (λ m. rows_of ts ++ row_of (m + 1) t ∷ []) (omega arith)

-- ---- lists that begin with others

pub take_front : {X : Type 0} (xs ys : List X) → take (length xs) (xs ++ ys) ≡ xs
take_front [] ys = refl
take_front (x ∷ xs) ys = ap (λ l. x ∷ l) (take_front xs ys)

take_drop : {X : Type 0} (n : ℕ) (xs : List X) → take n xs ++ drop n xs ≡ xs
take_drop zero xs = refl
take_drop (suc n) [] = refl
take_drop (suc n) (x ∷ xs) = ap (λ l. x ∷ l) (take_drop n xs)

pub begins_with : (rows all : List SchemaRow) → Begins rows all → BeginsWith rows all
begins_with rows all begins = subst (λ l. take (length rows) l ≡ rows) (sym begins.1) (take_front rows begins.0)

pub with_begins : (rows all : List SchemaRow) → BeginsWith rows all → Begins rows all
with_begins rows all begins = (drop (length rows) all, sym (take_drop (length rows) all) ∙ ap (λ l. l ++ drop (length rows) all) begins)

pub begins_itself : (rows : List SchemaRow) → Begins rows rows
begins_itself rows = ([], sym (append-none rows))

pub begins_on : (a b c : List SchemaRow) → Begins a b → Begins b c → Begins a c
begins_on a b c first second = (first.0 ++ second.0, second.1 ∙ ap (λ l. l ++ second.0) first.1 ∙ append-assoc a first.0 second.0)

-- rows that are loaded begin with the table's still, if what was taken was their front
pub kept_front : (old new : List (List ℕ)) (loaded rows : List SchemaRow) → loaded ≡ rows → BeginsWith (rows_of old) rows
    → (Begins (rows_of old) loaded → Begins (rows_of new) loaded) → BeginsWith (rows_of new) rows
kept_front old new loaded rows is begins front =
    subst (BeginsWith (rows_of new)) is (begins_with (rows_of new) loaded (front (with_begins (rows_of old) loaded (subst (BeginsWith (rows_of old)) (sym is) begins))))

-- ---- rows that a table may have next

rows_split : (n : ℕ) (ts us : List (List ℕ)) (row : SchemaRow) (rest : List SchemaRow) → rows_behind n ts ++ row ∷ rest ≡ rows_behind n us
    → (more : List (List ℕ)) × (us ≡ ts ++ row.canonical ∷ more) × (row.id ≡ n + length ts + 1)
rows_split n [] [] row rest h = absurd (let e = h in cc)
rows_split n [] (u ∷ us) row rest h =
    let e : row ≡ row_of (n + 1) u = cc in
    (us, ap (λ (r : SchemaRow). r.canonical ∷ us) (sym e), ap (λ (r : SchemaRow). r.id) e ∙ omega arith)
rows_split n (t ∷ ts) [] row rest h = absurd (let e = h in cc)
rows_split n (t ∷ ts) (u ∷ us) row rest h =
    let first : row_of (n + 1) t ≡ row_of (n + 1) u = cc in
    let later : rows_behind (n + 1) ts ++ row ∷ rest ≡ rows_behind (n + 1) us = cc in
    let found = rows_split (n + 1) ts us row rest later in
    let same : u ≡ t = ap (λ (r : SchemaRow). r.canonical) (sym first) in
    (found.0, ap (λ l. u ∷ l) found.1 ∙ ap (λ x. x ∷ (ts ++ row.canonical ∷ found.0)) same, omega (arith, found.2))

front_in : (ts us : List (List ℕ)) (u : List ℕ) (i : ℕ) → slice_get ts i ≡ Some u → slice_get (ts ++ us) i ≡ Some u
front_in [] us u i h = absurd (let e = h in cc)
front_in (x ∷ ts) us u zero h = h
front_in (x ∷ ts) us u (suc i) h = front_in ts us u i h

middle_in : (ts us : List (List ℕ)) (u : List ℕ) → slice_get (ts ++ u ∷ us) (length ts) ≡ Some u
middle_in [] us u = refl
middle_in (x ∷ ts) us u = middle_in ts us u

middle_has : (ts us : List (List ℕ)) (u : List ℕ) → AllByRecursion HasForm (ts ++ u ∷ us) → HasForm u
middle_has [] us u all = all.0
middle_has (x ∷ ts) us u all = middle_has ts us u all.1

-- a row behind those of a table that belongs to a longer table may be the next
pub next_of_table : (ts : List (List ℕ)) (row : SchemaRow) (rest : List SchemaRow) → IsTable (rows_of ts ++ row ∷ rest) → IsNext ts row
next_of_table ts row rest table =
    let found = rows_split 0 ts table.texts row rest table.rows in
    let apart = subst AreApart found.1 table.apart in
    record {
      id = found.2 ∙ omega arith;
      lacks = λ place h. absurd (omega (
        arith,
        within ts row.canonical place h,
        apart place (length ts) row.canonical (front_in ts (row.canonical ∷ found.0) row.canonical place h) (middle_in ts found.0 row.canonical),
      ));
      form = middle_has ts found.0 row.canonical (subst (AllByRecursion HasForm) found.1 table.forms);
    }

-- ---- growing

pub grew_none : (ts : List (List ℕ)) (rows : List SchemaRow) → Grew ts ts rows rows
grew_none ts rows = record { more = []; texts = sym (append-none ts); news = sym (append-none rows) }

pub grew_one : (ts : List (List ℕ)) (t : List ℕ) (rows : List SchemaRow) → Grew ts (ts ++ t ∷ []) rows (rows ++ row_of (length ts + 1) t ∷ [])
grew_one ts t rows = record { more = t ∷ []; texts = refl; news = refl }

length-append : {X : Type 0} (xs ys : List X) → length (xs ++ ys) ≡ length xs + length ys
length-append [] ys = omega arith
length-append (x ∷ xs) ys = omega (arith, length-append xs ys)

pub grew_on : (a b c : List (List ℕ)) (x y z : List SchemaRow) → Grew a b x y → Grew b c y z → Grew a c x z
grew_on a b c x y z first second =
    let count : length b ≡ length a + length first.more = ap length first.texts ∙ length-append a first.more in
    record {
      more = first.more ++ second.more;
      texts = second.texts ∙ ap (λ l. l ++ second.more) first.texts ∙ append-assoc a first.more second.more;
      news = second.news ∙ ap (λ l. l ++ rows_behind (length b) second.more) first.news ∙ append-assoc x (rows_behind (length a) first.more) (rows_behind (length b) second.more)
          ∙ ap (λ m. x ++ (rows_behind (length a) first.more ++ rows_behind m second.more)) count
          ∙ ap (λ l. x ++ l) (sym (rows_append (length a) first.more second.more));
    }

-- ---- what a keeper tells

rows_below : (n : ℕ) (ts : List (List ℕ)) → AllByRecursion (λ r. r.id < n + length ts + 1) (rows_behind n ts)
rows_below n [] = tt
rows_below n (t ∷ ts) = (omega arith, widened (rows_behind (n + 1) ts) (rows_below (n + 1) ts))
  where
    widened : (rs : List SchemaRow) → AllByRecursion (λ r. r.id < n + 1 + length ts + 1) rs → AllByRecursion (λ r. r.id < n + length (t ∷ ts) + 1) rs
    widened [] h = tt
    widened (r ∷ rs) h = (omega (arith, h.0), widened rs h.1)

-- the next id is above those of the table
pub next_above : (ts : List (List ℕ)) (rows : List SchemaRow) → rows ≡ rows_of ts → IsAbove (length ts + 1) rows
next_above ts rows is =
    rw is (All-from_recursion (λ r. r.id < length ts + 1) _ (subst (λ m. AllByRecursion (λ r. r.id < m) (rows_of ts)) (omega arith) (rows_below 0 ts)))

-- rows that were told with one behind them are those of the longer table
pub holds_more : (Told : List SchemaRow → Type 0) (ts : List (List ℕ)) (t : List ℕ) (rows : List SchemaRow) → ((before : List SchemaRow) → Told before → before ≡ rows_of ts)
    → HadBefore Told rows (length ts + 1) t → rows ≡ rows_of (ts ++ t ∷ [])
holds_more Told ts t rows was had = had.is ∙ ap (λ b. with_row b (length ts + 1) t) (was had.before had.told) ∙ sym (rows_more ts t)

-- rows that were told, with one behind them or without it, begin with those of the table
pub had_or_got : (Told : List SchemaRow → Type 0) (ts : List (List ℕ)) (id : ℕ) (t : List ℕ) (rows : List SchemaRow) → ((before : List SchemaRow) → Told before → before ≡ rows_of ts)
    → HadOrGot Told rows id t → BeginsWith (rows_of ts) rows
had_or_got Told ts id t rows was (inl told) = begins_with (rows_of ts) rows (subst (Begins (rows_of ts)) (sym (was rows told)) (begins_itself (rows_of ts)))
had_or_got Told ts id t rows was (inr had) = begins_with (rows_of ts) rows (row_of id t ∷ [], had.is ∙ ap (λ b. with_row b id t) (was had.before had.told))

pub told_same : (Before Now : List SchemaRow → Type 0) → ((rows : List SchemaRow) → Now rows → Before rows) → ToldOn Before Now
told_same Before Now told rows now = (rows, told rows now, begins_itself rows)

pub told_more : (Before Now : List SchemaRow → Type 0) (id : ℕ) (t : List ℕ) → ((rows : List SchemaRow) → Now rows → HadBefore Before rows id t) → ToldOn Before Now
told_more Before Now id t told rows now = let had = told rows now in (had.before, had.told, (row_of id t ∷ [], had.is))

pub told_perhaps : (Before Now : List SchemaRow → Type 0) (id : ℕ) (t : List ℕ) → ((rows : List SchemaRow) → Now rows → HadOrGot Before rows id t) → ToldOn Before Now
told_perhaps Before Now id t told rows now = elim (told rows now) [ inl was ↦ (rows, was, begins_itself rows) | inr had ↦ (had.before, had.told, (row_of id t ∷ [], had.is)) ]

pub told_on : (A B C : List SchemaRow → Type 0) → ToldOn A B → ToldOn B C → ToldOn A C
told_on A B C first second rows now =
    let middle = second rows now in
    let old = first middle.0 middle.1 in
    (old.0, old.1, begins_on old.0 middle.0 rows old.2 middle.2)

-- ---- the walk over loaded rows

-- rows were taken behind the table's, and these are left
pub record Taking (start : List (List ℕ)) (rows : List SchemaRow) (before : List SchemaRow) (texts : List (List ℕ)) (news : List SchemaRow) (left : List SchemaRow) : Type 0 where
  pub joined : rows_of texts ++ left ≡ rows_of start ++ rows
  pub grew : Grew start texts before news

pub taking_start : (start : List (List ℕ)) (rows before : List SchemaRow) → Taking start rows before start before rows
taking_start start rows before = record { joined = refl; grew = grew_none start before }

pub taking_next : (start : List (List ℕ)) (rows before : List SchemaRow) (texts : List (List ℕ)) (news : List SchemaRow) (row : SchemaRow) (left : List SchemaRow)
    → Taking start rows before texts news (row ∷ left) → row.id ≡ length texts + 1
    → Taking start rows before (texts ++ row.canonical ∷ []) (news ++ row_of (length texts + 1) row.canonical ∷ []) left
taking_next start rows before texts news row left taking id =
    let is : row_of (length texts + 1) row.canonical ≡ row = ap (λ n. row_of n row.canonical) (sym id) in
    record {
      joined = ap (λ l. l ++ left) (rows_more texts row.canonical) ∙ append-assoc (rows_of texts) (row_of (length texts + 1) row.canonical ∷ []) left
          ∙ ap (λ r. rows_of texts ++ r ∷ left) is ∙ taking.joined;
      grew = grew_on start texts (texts ++ row.canonical ∷ []) before news (news ++ row_of (length texts + 1) row.canonical ∷ []) taking.grew (grew_one texts row.canonical news);
    }

-- what is left begins with its first row
left_here : (rows : List SchemaRow) (i : ℕ) (row : SchemaRow) → i < length rows → row ≡ get_or rows i row → drop i rows ≡ row ∷ drop (i + 1) rows
left_here rows i row lt is = drop-cons rows i row lt ∙ ap (λ r. r ∷ drop (suc i) rows) (sym is) ∙ ap (λ n. row ∷ drop n rows) (sym (add-one i))

pub taking_row : (start : List (List ℕ)) (rows before : List SchemaRow) (texts : List (List ℕ)) (news : List SchemaRow) (i : ℕ) (row : SchemaRow)
    → i < length rows → row ≡ get_or rows i row → Taking start rows before texts news (drop i rows) → Taking start rows before texts news (row ∷ drop (i + 1) rows)
taking_row start rows before texts news i row lt is = subst (Taking start rows before texts news) (left_here rows i row lt is)

pub taking_front : (start : List (List ℕ)) (rows before : List SchemaRow) (texts : List (List ℕ)) (news left : List SchemaRow)
    → Taking start rows before texts news left → Begins (rows_of texts) (rows_of start ++ rows)
taking_front start rows before texts news left taking = (left, sym taking.joined)

pub taking_all : (start : List (List ℕ)) (rows before : List SchemaRow) (texts : List (List ℕ)) (news : List SchemaRow)
    → Taking start rows before texts news [] → rows_of texts ≡ rows_of start ++ rows
taking_all start rows before texts news taking = sym (append-none (rows_of texts)) ∙ taking.joined

pub taking_unfit : (start : List (List ℕ)) (rows before : List SchemaRow) (texts : List (List ℕ)) (news : List SchemaRow) (row : SchemaRow) (left : List SchemaRow)
    → Taking start rows before texts news (row ∷ left) → (IsNext texts row → ⊥) → IsTable (rows_of start ++ rows) → ⊥
taking_unfit start rows before texts news row left taking unfit table = unfit (next_of_table texts row left (subst IsTable (sym taking.joined) table))

-- the rows of these texts have been found at the front, and those of the others are looked for in what is left
pub record Finding (texts : List (List ℕ)) (rows : List SchemaRow) (place : ℕ) (others : List (List ℕ)) (left : List SchemaRow) : Type 0 where
  pub joined : (more : List SchemaRow) → left ≡ rows_behind place others ++ more → rows ≡ rows_of texts ++ more
  pub begins : Begins (rows_of texts) rows → Begins (rows_behind place others) left

pub finding_start : (texts : List (List ℕ)) (rows : List SchemaRow) → Finding texts rows 0 texts rows
finding_start texts rows = record { joined = λ more is. is; begins = λ begins. begins }

pub finding_next : (texts : List (List ℕ)) (rows : List SchemaRow) (place : ℕ) (text : List ℕ) (others : List (List ℕ)) (row : SchemaRow) (left : List SchemaRow)
    → Finding texts rows place (text ∷ others) (row ∷ left) → row ≡ row_of (place + 1) text → Finding texts rows (place + 1) others left
finding_next texts rows place text others row left finding is = record {
  joined = λ more h. finding.joined more (ap (λ r. r ∷ left) is ∙ ap (λ l. row_of (place + 1) text ∷ l) h);
  begins = λ begins. let found = finding.begins begins in (found.0, tail row (row_of (place + 1) text) left (rows_behind (place + 1) others ++ found.0) found.1);
}
  where
    tail : (a b : SchemaRow) (xs ys : List SchemaRow) → a ∷ xs ≡ b ∷ ys → xs ≡ ys
    tail a b xs ys h = cc

pub finding_other : (texts : List (List ℕ)) (rows : List SchemaRow) (place : ℕ) (text : List ℕ) (others : List (List ℕ)) (row : SchemaRow) (left : List SchemaRow)
    → Finding texts rows place (text ∷ others) (row ∷ left) → (row ≡ row_of (place + 1) text → ⊥) → Begins (rows_of texts) rows → ⊥
finding_other texts rows place text others row left finding other begins =
    let found = finding.begins begins in
    other (head row (row_of (place + 1) text) left (rows_behind (place + 1) others ++ found.0) found.1)
  where
    head : (a b : SchemaRow) (xs ys : List SchemaRow) → a ∷ xs ≡ b ∷ ys → a ≡ b
    head a b xs ys h = cc

pub finding_short : (texts : List (List ℕ)) (rows : List SchemaRow) (place : ℕ) (text : List ℕ) (others : List (List ℕ))
    → Finding texts rows place (text ∷ others) [] → Begins (rows_of texts) rows → ⊥
finding_short texts rows place text others finding begins =
    let found = finding.begins begins in
    absurd (let e : [] ≡ row_of (place + 1) text ∷ (rows_behind (place + 1) others ++ found.0) = found.1 in cc)

pub finding_all : (texts : List (List ℕ)) (rows : List SchemaRow) (place : ℕ) (left : List SchemaRow) → Finding texts rows place [] left → rows ≡ rows_of texts ++ left
finding_all texts rows place left finding = finding.joined left refl

-- the cause of a refusal, as another one
pub caused : {T E : Type 0} (result : Result T E) (F G : E → Type 0) → ((e : E) → F e → G e) → IfErr result F → IfErr result G
caused (Ok v) F G step cause = tt
caused (Err e) F G step cause = step e cause

-- a text that a table lacks has no id in it
pub lacked : (old new : List (List ℕ)) (id : ℕ) (text form : List ℕ) → new ≡ old → text ≡ form → Lacks old form → HasId new id text → ⊥
lacked old new id text form same is lacks has = lacks has.0 (subst (λ t. slice_get old has.0 ≡ Some t) is (subst (λ l. slice_get l has.0 ≡ Some text) same has.2))
