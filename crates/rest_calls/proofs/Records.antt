-- From the members of a record, and the records that are read in turn, to what a body gives.
use Rattle.std.proofs.Common.{◌≡◌, ◌∙◌, ℕ, zero, suc, ◌+◌, ◌<◌, ◌≤◌, IfOk, Result, Ok, Err, List, [], ◌∷◌, ◌++◌, length, drop, map, Option, None, Some, option_map, option_and_then, refl, ap, sym, subst, arith, append-nil}
use Rattle.std.specs.Prelude.{codes}
use Rattle.std.proofs.lemmas.List.{map-append}
use Rattle.std.specs.Borrow.{Bor}
use Rattle.model.specs.state.Entry.{Given}
use Rattle.model.specs.state.Entry.Call.{Produce}
use Rattle.json_span.specs.Json.{Items, Json, Members, no_items, item}
use Rattle.json_span.specs.Nodes.{StandForItems, Stands}
use Rattle.json_span.specs.declared.tree.Tree.{Tree}
use Rattle.forms.specs.Stored.{stored_of}
use Rattle.forms.specs.declared.format.Format.{Format}
use Rattle.rest_calls.specs.Body.{AreListed, given_from, member_of, partition_for, record_in, record_of, records_of, some_records_of}
use Rattle.rest_calls.specs.Json.{put_first}
use Rattle.rest_calls.specs.Reading.{Calls, produce_read}
use Rattle.rest_calls.specs.Reads.{Fails, GivesCall}
use Rattle.rest_calls.specs.Views.{batch_of, given_of, givens_of}
use Rattle.rest_calls.specs.declared.call.Batch.{Batch}
use Rattle.rest_calls.specs.declared.call.Row.{Row}
use Rattle.rest_calls.specs.declared.unread.Unread.{Unread}
use Rattle.rest_calls.specs.declared.unread.Unread.TheVariants.{Unreadable, Invalid, Want}
use Rattle.rest_calls.proofs.Lists.{joined_some}

-- as many rows as records are some, where there are records
pub some_rows : (result : Result Batch Unread) (n : ℕ) → IfOk result (λ batch. length batch.rows ≡ n) → 0 < n → IfOk result (λ batch. 0 < length batch.rows)
some_rows (Ok batch) n many within = omega (arith, many, within)
some_rows (Err e) n many within = tt

-- ---- one record

no_key : (p : Option (Option ℕ)) (v : Option (Option (List ℕ))) → given_from p None v ≡ None
no_key None v = refl
no_key (Some p) v = refl

no_value : (p : Option (Option ℕ)) (k : Option (Option (List ℕ))) → given_from p k None ≡ None
no_value None k = refl
no_value (Some p) None = refl
no_value (Some p) (Some k) = refl

fails_so : {X Y : Type 0} (e : Unread) (read : Option X) (whole : Option Y) → (read ≡ None → whole ≡ None) → Fails e read → Fails e whole
fails_so Want read whole none fails = tt
fails_so Unreadable read whole none fails = none fails
fails_so Invalid read whole none fails = fails

module _ (format : Format) (to : Option ℕ) (ms : Members) where
  pub bad_partition : (e : Unread) → Fails e (partition_for to (member_of (codes "partition") ms)) → Fails e (record_in format to ms)
  unfolding record_in
  bad_partition e fails =
      fails_so e (partition_for to (member_of (codes "partition") ms)) (given_from (partition_for to (member_of (codes "partition") ms)) (stored_of format (member_of (codes "key") ms)) (stored_of format (member_of (codes "value") ms)))
      (λ none. ap (λ p. given_from p (stored_of format (member_of (codes "key") ms)) (stored_of format (member_of (codes "value") ms))) none) fails

  pub bad_key : (e : Unread) → Fails e (stored_of format (member_of (codes "key") ms)) → Fails e (record_in format to ms)
  unfolding record_in
  bad_key e fails =
      fails_so e (stored_of format (member_of (codes "key") ms)) (given_from (partition_for to (member_of (codes "partition") ms)) (stored_of format (member_of (codes "key") ms)) (stored_of format (member_of (codes "value") ms)))
      (λ none. ap (λ k. given_from (partition_for to (member_of (codes "partition") ms)) k (stored_of format (member_of (codes "value") ms))) none ∙ no_key (partition_for to (member_of (codes "partition") ms)) (stored_of format (member_of (codes "value") ms))) fails

  pub bad_value : (e : Unread) → Fails e (stored_of format (member_of (codes "value") ms)) → Fails e (record_in format to ms)
  unfolding record_in
  bad_value e fails =
      fails_so e (stored_of format (member_of (codes "value") ms)) (given_from (partition_for to (member_of (codes "partition") ms)) (stored_of format (member_of (codes "key") ms)) (stored_of format (member_of (codes "value") ms)))
      (λ none. ap (λ v. given_from (partition_for to (member_of (codes "partition") ms)) (stored_of format (member_of (codes "key") ms)) v) none ∙ no_value (partition_for to (member_of (codes "partition") ms)) (stored_of format (member_of (codes "key") ms))) fails

  pub good_record : (p : Option ℕ) (k v : Option (List ℕ)) → partition_for to (member_of (codes "partition") ms) ≡ Some p → stored_of format (member_of (codes "key") ms) ≡ Some k → stored_of format (member_of (codes "value") ms) ≡ Some v
      → record_in format to ms ≡ Some (record { partition = p; key = k; value = v })
  unfolding record_in
  good_record p k v is_p is_k is_v =
      ap (λ x. given_from x (stored_of format (member_of (codes "key") ms)) (stored_of format (member_of (codes "value") ms))) is_p
      ∙ (ap (λ x. given_from (Some p) x (stored_of format (member_of (codes "value") ms))) is_k ∙ ap (λ x. given_from (Some p) (Some k) x) is_v)

-- ---- records in turn

-- of the nodes of these items the last ones are left, and the rows before them were read
pub record Turn (format : Format) (to : Option ℕ) (tree : Tree) (nodes : List ℕ) (i : ℕ) (rows : List Row) (js : Items) : Type 0 where
  pub left : Items
  pub stand : StandForItems tree (drop i nodes) left
  pub so_far : records_of format to js ≡ option_map (λ (more : List Given). map given_of rows ++ more) (records_of format to left)

same_records : (found : Option (List Given)) → found ≡ option_map (λ (more : List Given). [] ++ more) found
same_records None = refl
same_records (Some gs) = refl

pub turn_start : (format : Format) (to : Option ℕ) (tree : Tree) (nodes : List ℕ) (rows : List Row) (js : Items) → rows ≡ [] → StandForItems tree nodes js → Turn format to tree nodes 0 rows js
turn_start format to tree nodes rows js none stand = record {
  left = js;
  stand = stand;
  so_far = same_records (records_of format to js) ∙ ap (λ (rs : List Row). option_map (λ (more : List Given). map given_of rs ++ more) (records_of format to js)) (sym none);
}

-- nothing is behind the last
pub drop_all : (nodes : List ℕ) (i : ℕ) → length nodes ≤ i → drop i nodes ≡ []
drop_all [] zero past = refl
drop_all [] (suc i) past = refl
drop_all (n ∷ nodes) zero past = absurd (omega (arith, past))
drop_all (n ∷ nodes) (suc i) past = drop_all nodes i (omega (arith, past))

-- the first of those that are left
pub record First (format : Format) (to : Option ℕ) (tree : Tree) (nodes : List ℕ) (i node : ℕ) (rows : List Row) (js : Items) : Type 0 where
  pub value : Json
  pub stands : Stands tree node value
  pub others : Items
  pub stand : StandForItems tree (drop (i + 1) nodes) others
  pub so_far : records_of format to js ≡ option_map (λ (more : List Given). map given_of rows ++ more) (put_first (record_of format to value) (records_of format to others))

pub first_left : (format : Format) (to : Option ℕ) (tree : Tree) (nodes : List ℕ) (i node : ℕ) (rows : List Row) (js : Items) → drop i nodes ≡ node ∷ drop (i + 1) nodes → Turn format to tree nodes i rows js → First format to tree nodes i node rows js
first_left format to tree nodes i node rows js at turn = go turn.left turn.stand turn.so_far
  where
    go : (left : Items) → StandForItems tree (drop i nodes) left → records_of format to js ≡ option_map (λ (more : List Given). map given_of rows ++ more) (records_of format to left) → First format to tree nodes i node rows js
    go no_items stand so_far = absurd (let e : node ∷ drop (i + 1) nodes ≡ [] = sym at ∙ stand in cc e)
    go (item j others) stand so_far =
        let both : node ∷ drop (i + 1) nodes ≡ stand.0 ∷ stand.1 = sym at ∙ stand.2 in
        let here : stand.0 ≡ node = cc both in
        let rest : stand.1 ≡ drop (i + 1) nodes = cc both in
        record {
          value = j;
          stands = subst (λ (k : ℕ). Stands tree k j) here stand.3;
          others = others;
          stand = subst (λ (l : List ℕ). StandForItems tree l others) rest stand.4;
          so_far = so_far;
        }

pub turn_more : (format : Format) (to : Option ℕ) (tree : Tree) (nodes : List ℕ) (i node : ℕ) (rows rows2 : List Row) (row : Row) (js : Items) → (first : First format to tree nodes i node rows js)
    → record_of format to first.value ≡ Some (given_of row) → rows2 ≡ rows ++ row ∷ [] → Turn format to tree nodes (i + 1) rows2 js
turn_more format to tree nodes i node rows rows2 row js first reads pushed = record {
  left = first.others;
  stand = first.stand;
  so_far =
      first.so_far
      ∙ (ap (λ o. option_map (λ (more : List Given). map given_of rows ++ more) (put_first o (records_of format to first.others))) reads
      ∙ (joined_some (map given_of rows) (given_of row) (records_of format to first.others)
      ∙ (ap (λ (gs : List Given). option_map (λ (more : List Given). gs ++ more) (records_of format to first.others)) (sym (map-append given_of rows (row ∷ [])))
      ∙ ap (λ (rs : List Row). option_map (λ (more : List Given). map given_of rs ++ more) (records_of format to first.others)) (sym pushed))));
}

pub turn_bad : (format : Format) (to : Option ℕ) (tree : Tree) (nodes : List ℕ) (i node : ℕ) (rows : List Row) (js : Items) (e : Unread) → (first : First format to tree nodes i node rows js)
    → Fails e (record_of format to first.value) → Fails e (records_of format to js)
turn_bad format to tree nodes i node rows js e first fails =
    fails_so e (record_of format to first.value) (records_of format to js)
    (λ none. first.so_far ∙ ap (λ o. option_map (λ (more : List Given). map given_of rows ++ more) (put_first o (records_of format to first.others))) none) fails

pub turn_end : (format : Format) (to : Option ℕ) (tree : Tree) (nodes : List ℕ) (i : ℕ) (rows : List Row) (js : Items) → drop i nodes ≡ [] → Turn format to tree nodes i rows js → records_of format to js ≡ Some (map given_of rows)
turn_end format to tree nodes i rows js none turn = go turn.left turn.stand turn.so_far
  where
    go : (left : Items) → StandForItems tree (drop i nodes) left → records_of format to js ≡ option_map (λ (more : List Given). map given_of rows ++ more) (records_of format to left) → records_of format to js ≡ Some (map given_of rows)
    go no_items stand so_far = so_far ∙ ap (λ (gs : List Given). Some gs) (append-nil (map given_of rows))
    go (item j others) stand so_far = absurd (let e : [] ≡ stand.0 ∷ stand.1 = sym none ∙ stand.2 in cc e)

-- ---- the records of an object

pub items_listed : (tree : Tree) (o : Option Items) (nodes : Bor (List ℕ)) → AreListed tree o (Some nodes) → (js : Items) × (o ≡ Some js) × StandForItems tree nodes.now js
items_listed tree None nodes are = absurd are
items_listed tree (Some js) nodes are = (js, refl, are)

some_records : (format : Format) (to : Option ℕ) (tree : Tree) (nodes : List ℕ) (js : Items) → 0 < length nodes → StandForItems tree nodes js → some_records_of format to js ≡ records_of format to js
some_records format to tree nodes no_items some stand = absurd (omega (arith, some, ap length stand))
some_records format to tree nodes (item j js) some stand = refl

-- what the items of an object give, where they are some
pub batch_gives : (format : Format) (to : Option ℕ) (tree : Tree) (o : Option Items) (nodes : Bor (List ℕ)) → 0 < length nodes.now → (l : (js : Items) × (o ≡ Some js) × StandForItems tree nodes.now js)
    → option_and_then (some_records_of format to) o ≡ records_of format to l.0
batch_gives format to tree o nodes some l = ap (option_and_then (some_records_of format to)) l.1 ∙ some_records format to tree nodes.now l.0 some l.2

-- no nodes, or no items: the object gives nothing
pub none_listed : (format : Format) (to : Option ℕ) (tree : Tree) (o : Option Items) → AreListed tree o None → option_and_then (some_records_of format to) o ≡ None
none_listed format to tree None are = refl
none_listed format to tree (Some js) are = absurd are

pub empty_listed : (format : Format) (to : Option ℕ) (tree : Tree) (o : Option Items) (nodes : Bor (List ℕ)) → length nodes.now ≡ 0 → AreListed tree o (Some nodes) → option_and_then (some_records_of format to) o ≡ None
empty_listed format to tree None nodes none are = absurd are
empty_listed format to tree (Some no_items) nodes none are = refl
empty_listed format to tree (Some (item j js)) nodes none are = absurd (omega (arith, none, ap length are.2))

-- ---- the produce that a body asks for

pub produce_reads : (topic : List ℕ) (found : Option (List Given)) (batch : Batch) → found ≡ Some (givens_of batch) → Calls (Produce topic (batch_of batch)) ≡ produce_read topic found
produce_reads topic found batch is = ap (produce_read topic) (sym is)

pub produce_fails : (topic : List ℕ) (found : Option (List Given)) (e : Unread) → Fails e found → GivesCall (Err e) (λ read. read ≡ produce_read topic found)
produce_fails topic found Unreadable none = ap (produce_read topic) (sym none)
produce_fails topic found Invalid never = absurd never
produce_fails topic found Want fails = tt
