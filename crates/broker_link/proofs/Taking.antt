-- The rows of a partition from an offset on, one after another.
use Rattle.std.proofs.Common.{◌≡◌, ℕ, ℤ, zero, suc, ◌+◌, ◌<◌, ◌≤◌, ◌^◌, ◌||◌, Bool, true, false, List, [], ◌∷◌, ◌++◌, length, take, drop, map, filter, get_or, refl, ap, sym, subst, ◌∙◌, arith, inr, Option, Result, Ok, Err}
use Rattle.std.specs.Prelude.{pos, negsuc, nat_abs, nat_le, nat_lt, not, cond, is_some, slice_index_or, All, IfOk}
use Rattle.std.specs.List.{AllZip}
use Rattle.std.proofs.lemmas.List.{append-nil, append_assoc, map_push, take_all, take_more, take-append-drop}
use Rattle.std.proofs.lemmas.List.Elements.{All-cons, All-head, All-nil, All-push, All-tail}
use Rattle.std.proofs.lemmas.Bool.Decides.{nat_tests}
use Rattle.std.proofs.lemmas.Grind.{common_steps}
use Rattle.model.specs.state.Log.{Log, Part, Row, Topic, TopicPart, from, part_at, parts_in}
use Rattle.model.specs.step.Fixed.{HasPart}
use Rattle.model.specs.step.Walk.{length_of}
use Rattle.broker_link.specs.Fetching.{ask_at, asked, AreGot, AreInTurn, IsCommittedAt, IsFetched, IsGot, IsInside, IsOffsetFrom, fits, fitting, named_at, row_of, rows_in, rows_in_turn, stored_from, told_offset}
use Rattle.broker_link.specs.Produced.{numbered}
use Rattle.broker_link.specs.Reads.{AreRead, AreTaken, Fills, IsBound, IsRead, IsReading, IsTaking, all_from, less}
use Rattle.broker_link.specs.Stored.{log_of, log_with, part_of}
use Rattle.broker_link.specs.declared.fetch.FetchFrom.{FetchFrom}
use Rattle.broker_link.specs.declared.fetch.TopicPart.{TopicPart as AskedPart}
use Rattle.broker_link.specs.declared.fetch.Fetched.{Fetched}
use Rattle.broker_link.specs.declared.link.NewRecord.{NewRecord}
use Rattle.broker_link.specs.declared.link.Stored.{Stored}
use Rattle.broker_link.specs.declared.reading.Bound.{Bound}
use Rattle.broker_link.proofs.Answered.{zip_weaker}
use Rattle.broker_link.proofs.Fitting.{Tests, all_more, bound_more, bound_over, fits_none, fits_one, fitting_append, none_there, took_is, turn_more, turn_with}
use Rattle.broker_link.proofs.Numbered.{numbered-appended, numbered-more, row_at}

filter_all : (low base : ℕ) (rs : List NewRecord) → low ≤ base → filter (λ (row : Row). nat_le low row.offset) (numbered base rs) ≡ numbered base rs
filter_all low base [] le = refl
filter_all low base (r ∷ rs) le =
    let e : nat_le low base ≡ true = grind (arith, nat_tests) in
    rw e (ap (λ l. record { offset = base; key = r.key; value = r.value } ∷ l) (filter_all low (base + 1) rs (omega (arith, le))))

-- from `base + n` on
filter_from : (n base : ℕ) (rs : List NewRecord) → filter (λ (row : Row). nat_le (base + n) row.offset) (numbered base rs) ≡ numbered (base + n) (drop n rs)
filter_from zero base rs =
    let e : base ≡ base + 0 = omega arith in
    filter_all (base + 0) base rs (omega arith) ∙ ap (λ m. numbered m rs) e
filter_from (suc n) base [] = refl
filter_from (suc n) base (r ∷ rs) =
    let e : nat_le (base + suc n) base ≡ false = grind (arith, nat_tests) in
    let m : base + 1 + n ≡ base + suc n = omega arith in
    rw e (subst (λ (k : ℕ). filter (λ (row : Row). nat_le k row.offset) (numbered (base + 1) rs) ≡ numbered k (drop n rs)) m (filter_from n (base + 1) rs))

pub rows_from : (log : Log) (ask : FetchFrom) (records : List NewRecord) (low : ℕ) → part_at log (ask_at ask) ≡ part_of records → from log (ask_at ask) low ≡ numbered low (drop low records)
rows_from log ask records low is =
    let e : 0 + low ≡ low = omega arith in
    ap (λ (p : Part). filter (λ (row : Row). nat_le low row.offset) p.rows) is
    ∙ subst (λ (n : ℕ). filter (λ (row : Row). nat_le n row.offset) (numbered 0 records) ≡ numbered n (drop low records)) e (filter_from low 0 records)

-- ---- one row after another

push_mapped : (rows : List Stored) (row : Stored) → map row_of (rows ++ row ∷ []) ≡ map row_of rows ++ row_of row ∷ []
push_mapped [] row = refl
push_mapped (x ∷ xs) row = ap (λ l. row_of x ∷ l) (push_mapped xs row)

-- nothing of nothing
pub fills_none : (bound : Bound) (there : List Row) (rows : List Stored) → there ≡ [] → rows ≡ [] → Fills bound bound there rows
fills_none bound there rows empty none = λ most before is. (
  ap (map row_of) none ∙ sym (ap (fitting most before) empty),
  subst (λ (b : List Row). IsBound most b bound) (sym (ap (λ l. before ++ l) empty ∙ append-nil before)) is,
)

-- the record at a place, as a row
abbrev row_there : ℕ → List NewRecord → ℕ → NewRecord → Row
row_there base records i one = row_at (base + i) (get_or records i one)

pub tested : (base : ℕ) (records : List NewRecord) (i : ℕ) (one : NewRecord) (old new : Bound) (size : ℕ) (took : Bool) → one ≡ get_or records i one → size ≡ length_of one.key + length_of one.value
    → took ≡ (not old.begun || is_some new.left) → new.left ≡ less size old.left → new.begun ≡ true → Tests old new (row_there base records i one) took
tested base records i one old new size took here sized takes left begun = record {
  size = size;
  sized = sized ∙ ap (λ (r : NewRecord). length_of r.key + length_of r.value) here;
  takes = takes;
  left = left;
  begun = begun;
}

pub taking_none : (base : ℕ) (records : List NewRecord) (bound : Bound) (rows : List Stored) → rows ≡ [] → IsTaking base records 0 rows bound bound
taking_none base records bound rows none = record {
  are = ap (map row_of) none;
  offsets = subst (All (IsOffsetFrom base)) (sym none) (All-nil (IsOffsetFrom base));
  fills = fills_none bound [] rows refl none;
}

pub taking_next : (base : ℕ) (records : List NewRecord) (i : ℕ) (one : NewRecord) (rows : List Stored) (row : Stored) (start old new : Bound) (took : Bool) → i < length records → one ≡ get_or records i one → base + length records < 2 ^ 63
    → IsTaking base records i rows start old → row.offset ≡ pos (base + i) → row.key ≡ one.key → row.value ≡ one.value
    → Tests old new (row_there base records i one) took → took ≡ true
    → IsTaking base records (i + 1) (rows ++ row ∷ []) start new
taking_next base records i one rows row start old new took below here few is offset key value test fit =
    let next : Row = row_there base records i one in
    let there : List Row = numbered base (take i records) in
    let same : row_of row ≡ next = ap (λ (z : ℤ). record { offset = nat_abs z; key = row.key; value = row.value }) offset
    ∙ (ap (λ (k : Option (List ℕ)). record { offset = base + i; key = k; value = row.value }) key ∙ (ap (λ (v : Option (List ℕ)). record { offset = base + i; key = one.key; value = v }) value ∙ ap (row_at (base + i)) here)) in
    let all : numbered base (take (i + 1) records) ≡ there ++ next ∷ [] = numbered-more base i records one below in
    let mapped : map row_of (rows ++ row ∷ []) ≡ there ++ next ∷ [] = push_mapped rows row ∙ (ap (λ l. l ++ row_of row ∷ []) is.are ∙ ap (λ (r : Row). there ++ r ∷ []) same) in
    record {
      are = mapped ∙ sym all;
      offsets = All-push (IsOffsetFrom base) rows row is.offsets (base + i, offset, omega arith, omega (arith, few, below));
      fills = λ most before bound.
          let had = is.fills most before bound in
          let whole : fitting most before there ≡ there = sym had.0 ∙ is.are in
          let one_fits : fits most (before ++ there) next ≡ true = sym (took_is most (before ++ there) next old new took had.1 test) ∙ fit in
          let both : fitting most before (there ++ next ∷ []) ≡ there ++ next ∷ [] =
          fitting_append most before there (next ∷ []) whole ∙ ap (λ l. there ++ l) (fits_one most (before ++ there) next one_fits) in (
            mapped ∙ sym (ap (fitting most before) all ∙ both),
            subst (λ (b : List Row). IsBound most b new) (append_assoc before there (next ∷ []) ∙ ap (λ l. before ++ l) (sym all)) (bound_more most (before ++ there) next old new took had.1 test),
          );
    }

-- the rows that were taken so far
pub taken_so_far : (base : ℕ) (records : List NewRecord) (i : ℕ) (rows : List Stored) (old new : Bound) → IsTaking base records i rows old new → AreTaken base records rows
taken_so_far base records i rows old new is = record {
  first = (
    numbered (base + length (take i records)) (drop i records),
    ap (λ l. l ++ numbered (base + length (take i records)) (drop i records)) is.are ∙ (sym (numbered-appended base (take i records) (drop i records)) ∙ ap (numbered base) (take-append-drop i records)),
  );
  offsets = is.offsets;
}

-- all of them were taken
pub taking_all : (base : ℕ) (records : List NewRecord) (i : ℕ) (rows : List Stored) (start new : Bound) → length records ≤ i → IsTaking base records i rows start new → Fills start new (numbered base records) rows
taking_all base records i rows start new out is = subst (λ (rs : List NewRecord). Fills start new (numbered base rs) rows) (take_all i records out) is.fills

-- a row doesn't fit
pub taking_stops : (base : ℕ) (records : List NewRecord) (i : ℕ) (one : NewRecord) (rows : List Stored) (start old new : Bound) (took : Bool) → i < length records
    → IsTaking base records i rows start old → Tests old new (row_there base records i one) took → took ≡ false → Fills start new (numbered base records) rows
taking_stops base records i one rows start old new took below is test misfit = λ most before bound.
    let had = is.fills most before bound in
    let whole : fitting most before there ≡ there = sym had.0 ∙ is.are in
    let out : fits most (before ++ there) next ≡ false = sym (took_is most (before ++ there) next old new took had.1 test) ∙ misfit in (
      is.are ∙ sym (ap (fitting most before) all ∙ (fitting_append most before there (next ∷ rest) whole ∙ (ap (λ l. there ++ l) (fits_none most (before ++ there) next rest out) ∙ append-nil there))),
      subst (λ (b : List Row). IsBound most b new) (append_assoc before there (next ∷ rest) ∙ ap (λ l. before ++ l) (sym all)) (bound_over most (before ++ there) next rest old new took had.1 test misfit),
    )
  where
    next : Row
    next = row_there base records i one

    there : List Row
    there = numbered base (take i records)

    rest : List Row
    rest = numbered (base + length (take (i + 1) records)) (drop (i + 1) records)

    all : numbered base records ≡ there ++ next ∷ rest
    all =
        ap (numbered base) (sym (take-append-drop (i + 1) records)) ∙ (numbered-appended base (take (i + 1) records) (drop (i + 1) records)
        ∙ (ap (λ l. l ++ rest) (numbered-more base i records one below) ∙ append_assoc there (next ∷ []) rest))

-- ---- one ask

pub fetched_of : (records : List NewRecord) (ask : FetchFrom) (f : Fetched) → IsRead records (nat_abs ask.offset) f → IsFetched ask f
fetched_of records ask f is = record {
  outside = λ t. (is.outside t).0;
  end = λ t. is.end ∙ ap (λ (z : ℤ). pos (nat_abs z)) (sym is.end);
  offsets = (let t = is.taken in t.offsets);
}

pub got_of : (log : Log) (records : List NewRecord) (ask : FetchFrom) (f : Fetched) → part_at log (ask_at ask) ≡ part_of records → IsRead records (nat_abs ask.offset) f → IsGot log ask f
got_of log records ask f at is = record {
  outside = λ t. inr (omega (arith, (is.outside t).1, ap (λ (p : Part). p.end) at));
  inside = λ t. (omega (arith, ap (λ (p : Part). p.start) at), omega (arith, is.inside t, ap (λ (p : Part). p.end) at));
  first = (let t = is.taken in (t.first.0, t.first.1 ∙ sym (rows_from log ask records (nat_abs ask.offset) at)));
}

-- ---- one ask after another

zip_end : {A B : Type 0} (R : A → B → Type 0) (xs : List A) (ys : List B) (x : A) (y : B) → AllZip R xs ys → R x y → AllZip R (xs ++ x ∷ []) (ys ++ y ∷ [])
zip_end R [] [] x y all r = (r, tt)
zip_end R [] (w ∷ ws) x y all r = absurd all
zip_end R (v ∷ vs) [] x y all r = absurd all
zip_end R (v ∷ vs) (w ∷ ws) x y all r = (all.0, zip_end R vs ws x y all.1 r)

read_more : (log : Log) (most : ℕ) (old new : Bound) (asks : List FetchFrom) (all : List Fetched) (ask : FetchFrom) (f : Fetched) → IsReading log most asks all old → IsFetched ask f → IsGot log ask f
    → Fills old new (stored_from log (asked ask)) f.rows → IsReading log most (asks ++ ask ∷ []) (all ++ f ∷ []) new
read_more log most old new asks all ask f is fetched got fills =
    let are = is.are in
    let before : List Row = all_from log (map asked asks) in
    let more = fills most before is.bound in
    let places : map asked (asks ++ ask ∷ []) ≡ map asked asks ++ asked ask ∷ [] = map_push asked asks ask in
    record {
      are = record {
        fetched = zip_end IsFetched asks all ask f are.fetched fetched;
        each = zip_end (IsGot log) asks all ask f are.each got;
        turn = map_push rows_in all f ∙ (ap (λ l. l ++ rows_in f ∷ []) are.turn ∙ (ap (λ (rows : List Row). rows_in_turn most [] log (map asked asks) ++ rows ∷ []) more.0
            ∙ sym (ap (rows_in_turn most [] log) places ∙ turn_more most [] log (map asked asks) (asked ask))));
      };
      bound = subst (λ (b : List Row). IsBound most b new) (sym (ap (all_from log) places ∙ all_more log (map asked asks) (asked ask))) more.1;
    }

pub read_next : (log : Log) (most : ℕ) (old new : Bound) (asks : List FetchFrom) (i : ℕ) (all : List Fetched) (ask : FetchFrom) (f : Fetched) → i < length asks → ask ≡ get_or asks i ask → IsReading log most (take i asks) all old
    → IsFetched ask f → IsGot log ask f → Fills old new (stored_from log (asked ask)) f.rows → IsReading log most (take (i + 1) asks) (all ++ f ∷ []) new
read_next log most old new asks i all ask f below here is fetched got fills =
    let more : take (i + 1) asks ≡ take i asks ++ ask ∷ [] = take_more asks i ask below ∙ ap (λ (x : FetchFrom). take i asks ++ x ∷ []) (sym here) in
    subst (λ (xs : List FetchFrom). IsReading log most xs (all ++ f ∷ []) new) (sym more) (read_more log most old new (take i asks) all ask f is fetched got fills)

got_with : (log : Log) (others : ℕ) (ask : FetchFrom) (f : Fetched) → IsGot log ask f → IsGot (record { topics = log.topics; committed = log.committed; others = others }) ask f
got_with log others ask f is = record { outside = is.outside; inside = is.inside; first = is.first }

-- an offset in range isn't below the start
from_inside : (log : Log) (ask : FetchFrom) → IsInside log (ask_at ask) (nat_abs ask.offset) → stored_from log (asked ask) ≡ [] → from log (ask_at ask) (nat_abs ask.offset) ≡ []
from_inside log ask inside none =
    let over : nat_lt (nat_abs ask.offset) (part_at log (ask_at ask)).start ≡ false = grind (arith, nat_tests, inside.0) in
    sym (ap (λ t. cond t [] (from log (ask_at ask) (nat_abs ask.offset))) over) ∙ none

map_empty : (rows : List Stored) → rows ≡ [] → map row_of rows ≡ []
map_empty rows none = ap (map row_of) none

-- where no row came, there is none
none_left : (most : ℕ) (log : Log) (asks : List FetchFrom) (all : List Fetched) → AllZip (IsGot log) asks all → AreInTurn most log asks all
    → All (λ (f : Fetched). f.out_of_range ≡ false) all → All (λ (f : Fetched). f.rows ≡ []) all → All (λ (ask : FetchFrom). from log (ask_at ask) (nat_abs ask.offset) ≡ []) asks
none_left most log [] [] each turn inside empty = All-nil (λ (ask : FetchFrom). from log (ask_at ask) (nat_abs ask.offset) ≡ [])
none_left most log [] (f ∷ fs) each turn inside empty = absurd each
none_left most log (ask ∷ asks) [] each turn inside empty = absurd each
none_left most log (ask ∷ asks) (f ∷ fs) each turn inside empty =
    let head : rows_in f ≡ fitting most [] (stored_from log (asked ask)) = cc turn in
    let rest : map rows_in fs ≡ rows_in_turn most (stored_from log (asked ask)) log (map asked asks) = cc turn in
    let none : stored_from log (asked ask) ≡ [] = none_there most (stored_from log (asked ask)) (sym head ∙ map_empty f.rows (All-head (λ (f : Fetched). f.rows ≡ []) f fs empty)) in
    let got = each.0 in
    All-cons (λ (ask : FetchFrom). from log (ask_at ask) (nat_abs ask.offset) ≡ []) ask asks
    (from_inside log ask (got.inside (All-head (λ (f : Fetched). f.out_of_range ≡ false) f fs inside)) none)
    (none_left most log asks fs each.1 (rest ∙ ap (λ (b : List Row). rows_in_turn most b log (map asked asks)) none)
    (All-tail (λ (f : Fetched). f.out_of_range ≡ false) f fs inside) (All-tail (λ (f : Fetched). f.rows ≡ []) f fs empty))

-- the same where rows of others are counted
pub are_got_with : (topics : List Topic) (others most : ℕ) (asks : List FetchFrom) (all : List Fetched) → AreRead (log_of topics) most asks all → AreGot (log_with topics others) asks all
are_got_with topics others most asks all are = record {
  each = zip_weaker (IsGot (log_of topics)) (IsGot (log_with topics others)) asks all (λ ask f is. got_with (log_of topics) others ask f is) are.each;
  none = λ inside empty. none_left most (log_of topics) asks all are.each are.turn inside empty;
}

pub in_turn_with : (topics : List Topic) (others most : ℕ) (asks : List FetchFrom) (all : List Fetched) → AreRead (log_of topics) most asks all → AreInTurn most (log_with topics others) asks all
in_turn_with topics others most asks all are = are.turn ∙ turn_with most [] (log_of topics) (log_with topics others) (map asked asks) (λ place. refl)

-- the partition that is found is the one that is asked for
pub asked_there : (log : Log) (ask : FetchFrom) (records : List NewRecord) (name : List ℕ) (partition : ℤ) → name ≡ ask.topic → partition ≡ ask.partition
    → part_at log (named_at name partition) ≡ part_of records → part_at log (ask_at ask) ≡ part_of records
asked_there log ask records name partition names numbers is =
    ap (λ (n : List ℕ). part_at log (named_at n ask.partition)) (sym names) ∙ (ap (λ (z : ℤ). part_at log (named_at name z)) (sym numbers) ∙ is)

-- one ask, by the number that its offset is
pub fetched_if : {E : Type 0} (r : Result Fetched E) (records : List NewRecord) (n : ℕ) (ask : FetchFrom) → n ≡ nat_abs ask.offset → IfOk r (IsRead records n) → IfOk r (IsFetched ask)
fetched_if (Err e) records n ask same is = tt
fetched_if (Ok f) records n ask same is = fetched_of records ask f (subst (λ (m : ℕ). IsRead records m f) same is)

pub got_if : {E : Type 0} (log : Log) (r : Result Fetched E) (records : List NewRecord) (n : ℕ) (ask : FetchFrom) → n ≡ nat_abs ask.offset → part_at log (ask_at ask) ≡ part_of records → IfOk r (IsRead records n) → IfOk r (IsGot log ask)
got_if log (Err e) records n ask same at is = tt
got_if log (Ok f) records n ask same at is = got_of log records ask f at (subst (λ (m : ℕ). IsRead records m f) same is)

stored_is : (log : Log) (ask : FetchFrom) (records : List NewRecord) → part_at log (ask_at ask) ≡ part_of records → stored_from log (asked ask) ≡ numbered (nat_abs ask.offset) (drop (nat_abs ask.offset) records)
stored_is log ask records at =
    let low : nat_lt (nat_abs ask.offset) (part_at log (ask_at ask)).start ≡ false = grind (arith, nat_tests, ap (λ (p : Part). p.start) at) in
    ap (λ t. cond t [] (from log (ask_at ask) (nat_abs ask.offset))) low ∙ rows_from log ask records (nat_abs ask.offset) at

pub fills_if : {E : Type 0} (log : Log) (r : Result Fetched E) (records : List NewRecord) (n : ℕ) (ask : FetchFrom) (old new : Bound) → n ≡ nat_abs ask.offset → part_at log (ask_at ask) ≡ part_of records
    → IfOk r (λ f. Fills old new (numbered n (drop n records)) f.rows) → IfOk r (λ f. Fills old new (stored_from log (asked ask)) f.rows)
fills_if log (Err e) records n ask old new same at is = tt
fills_if log (Ok f) records n ask old new same at is =
    subst (λ (rows : List Row). Fills old new rows f.rows) (sym (stored_is log ask records at)) (subst (λ (m : ℕ). Fills old new (numbered m (drop m records)) f.rows) same is)

-- a partition that is lacking has no records
lacking_is : (log : Log) (at : TopicPart) → (HasPart log at → ⊥) → part_at log at ≡ part_of []
lacking_is log at lacks = get_or_beyond (parts_in log.topics at.topic) at.partition (part_of []) lacks
  where
    get_or_beyond : (parts : List Part) (i : ℕ) (d : Part) → (i < length parts → ⊥) → slice_index_or parts i d ≡ d
    get_or_beyond parts i d out = grind (arith, common_steps)

pub lacking_there : (log : Log) (ask : FetchFrom) (name : List ℕ) (partition : ℤ) → name ≡ ask.topic → partition ≡ ask.partition → (HasPart log (named_at name partition) → ⊥) → part_at log (ask_at ask) ≡ part_of []
lacking_there log ask name partition names numbers lacks = asked_there log ask [] name partition names numbers (lacking_is log (named_at name partition) lacks)

-- nothing is committed, and -1 says so
pub none_told : (topics : List Topic) (others : ℕ) (group : List ℕ) (parts : List AskedPart) (offsets : List ℤ) → length offsets ≡ length parts → All (λ offset. offset ≡ negsuc 0) offsets
    → AllZip (IsCommittedAt (log_with topics others) group) parts offsets
none_told topics others group [] [] long all = tt
none_told topics others group [] (x ∷ xs) long all = absurd (omega (arith, long))
none_told topics others group (p ∷ ps) [] long all = absurd (omega (arith, long))
none_told topics others group (p ∷ ps) (x ∷ xs) long all = (
  sym (ap told_offset (All-head (λ (offset : ℤ). offset ≡ negsuc 0) x xs all)),
  none_told topics others group ps xs (omega (arith, long)) (All-tail (λ (offset : ℤ). offset ≡ negsuc 0) x xs all),
)
