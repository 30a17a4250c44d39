-- From what a link placed by partition to the answer of each record.
use Rattle.std.proofs.Common.{◌≡◌, ℕ, zero, suc, ◌+◌, ◌≤◌, Bool, true, false, cond, List, [], ◌∷◌, ◌++◌, length, map, refl, ap, sym, subst, ◌∙◌, arith, get_or}
use Rattle.std.specs.Prelude.{◌==◌, ℤ, pos, negsuc, nat_abs, All, Contains, count_by}
use Rattle.std.specs.List.{AllZip}
use Rattle.std.proofs.lemmas.List.Elements.{All-cons, All-nil, All-head, All-tail}
use Rattle.std.proofs.lemmas.Grind.{common_steps}
use Rattle.model.specs.state.Log.{TopicPart, Row, Log, part_at}
use Rattle.model.specs.step.Walk.{Item}
use Rattle.model.specs.state.Entry.{Payload, is_zero}
use Rattle.model.specs.step.Produced.{numbered as items_of, Places, Unknown}
use Rattle.broker_link.specs.Produced.{numbered, at_of, Takes, IsPlaced, MayBePlaced, taken_of}
use Rattle.broker_link.specs.declared.link.NewRecord.{NewRecord}
use Rattle.broker_link.specs.declared.link.PartRecords.{PartRecords}
use Rattle.broker_link.specs.declared.link.PartPlaced.{PartPlaced}
use Rattle.broker_link.proofs.Answered.{zip_weaker}
use Rattle.producer.specs.Groups.{new_of, put_in, grouped, cursor_of, code_at, next_at}
use Rattle.producer.proofs.Groups.{rows_in, rows_of, rows_grouped, Apart, apart_grouped, equal, same_is_equal}

abbrev pub code_of : List PartPlaced → ℕ → ℤ
code_of placed n = code_at (map cursor_of placed) n

abbrev pub base_of : List PartPlaced → ℕ → ℕ
base_of placed n = next_at (map cursor_of placed) n

abbrev pub at_part : List ℕ → ℕ → TopicPart
at_part topic n = record { topic = topic; partition = n }

-- how many of these records are of that partition
abbrev pub many : ℕ → List Payload → ℕ
many n payloads = count_by (λ q. q.partition == n) payloads

pub zero_code : (code : ℤ) → is_zero code ≡ true → code ≡ pos 0
zero_code (pos zero) e = refl
zero_code (pos (suc n)) e = absurd (cc e)
zero_code (negsuc n) e = absurd (cc e)

pub many_more : (n : ℕ) (before : List Payload) (p : Payload) (b : Bool) → (p.partition == n) ≡ b → many n (before ++ p ∷ []) ≡ many n before + cond b 1 0
many_more n before p b e = grind (arith, common_steps)

-- ---- what holds of the rows of each partition holds of each item

pub each_item : (P : TopicPart → Row → Type 0) (topic : List ℕ) (base : ℕ → ℕ) (code : ℕ → ℤ) (before payloads : List Payload)
    → ((n : ℕ) → is_zero (code n) ≡ true → All (P (at_part topic n)) (numbered (base n + many n before) (rows_of n payloads)))
    → All (λ (item : Item). is_zero (code item.at.partition) ≡ true → P item.at item.row) (items_of topic base before payloads)
each_item P topic base code before [] h = All-nil (λ (item : Item). is_zero (code item.at.partition) ≡ true → P item.at item.row)
each_item P topic base code before (p ∷ payloads) h =
    All-cons (λ (item : Item). is_zero (code item.at.partition) ≡ true → P item.at item.row)
    (record { at = at_part topic p.partition; row = record { offset = base p.partition + many p.partition before; key = p.key; value = p.value } })
    (items_of topic base (before ++ p ∷ []) payloads) first (each_item P topic base code (before ++ p ∷ []) payloads rest)
  where
    row : Row
    row = record { offset = base p.partition + many p.partition before; key = p.key; value = p.value }

    first : is_zero (code p.partition) ≡ true → P (at_part topic p.partition) row
    first z =
        let e : (p.partition == p.partition) ≡ true = same_is_equal p.partition in
        let rows : rows_of p.partition (p ∷ payloads) ≡ new_of p ∷ rows_of p.partition payloads = rw e refl in
        All-head (P (at_part topic p.partition)) row (numbered (base p.partition + many p.partition before + 1) (rows_of p.partition payloads))
        (subst (λ (rs : List NewRecord). All (P (at_part topic p.partition)) (numbered (base p.partition + many p.partition before) rs)) rows (h p.partition z))

    rest : (n : ℕ) → is_zero (code n) ≡ true → All (P (at_part topic n)) (numbered (base n + many n (before ++ p ∷ [])) (rows_of n payloads))
    rest n z = go (p.partition == n) refl
      where
        go : (b : Bool) → (p.partition == n) ≡ b → All (P (at_part topic n)) (numbered (base n + many n (before ++ p ∷ [])) (rows_of n payloads))
        go true e =
            let rows : rows_of n (p ∷ payloads) ≡ new_of p ∷ rows_of n payloads = rw e refl in
            let one : many n (before ++ p ∷ []) ≡ many n before + 1 = many_more n before p true e in
            let start : base n + many n before + 1 ≡ base n + many n (before ++ p ∷ []) = omega (arith, one) in
            let was = subst (λ (rs : List NewRecord). All (P (at_part topic n)) (numbered (base n + many n before) rs)) rows (h n z) in
            subst (λ (m : ℕ). All (P (at_part topic n)) (numbered m (rows_of n payloads))) start
            (All-tail (P (at_part topic n)) (record { offset = base n + many n before; key = p.key; value = p.value }) (numbered (base n + many n before + 1) (rows_of n payloads)) was)
        go false e =
            let rows : rows_of n (p ∷ payloads) ≡ rows_of n payloads = rw e refl in
            let one : many n (before ++ p ∷ []) ≡ many n before + 0 = many_more n before p false e in
            let start : base n + many n before ≡ base n + many n (before ++ p ∷ []) = omega (arith, one) in
            subst (λ (m : ℕ). All (P (at_part topic n)) (numbered m (rows_of n payloads))) start
            (subst (λ (rs : List NewRecord). All (P (at_part topic n)) (numbered (base n + many n before) rs)) rows (h n z))

-- ---- what a link says of the parts, by number

-- with code 0 the rows of that number are placed from its base on
pub rows_stand : (P : TopicPart → Row → Type 0) (topic : List ℕ) (parts : List PartRecords) (placed : List PartPlaced)
    → AllZip (λ part p. (p.partition ≡ part.partition) × (p.code ≡ pos 0 → All (P (at_of topic part)) (numbered (nat_abs p.base) part.rows))) parts placed
    → (n : ℕ) → is_zero (code_of placed n) ≡ true → All (P (at_part topic n)) (numbered (base_of placed n) (rows_in n parts))
rows_stand P topic [] [] all n z = All-nil (P (at_part topic n))
rows_stand P topic [] (y ∷ ys) all n z = absurd all
rows_stand P topic (x ∷ xs) [] all n z = absurd all
rows_stand P topic (x ∷ xs) (y ∷ ys) all n z =
    go (nat_abs x.partition == n) refl (ap (λ m. m == n) (ap nat_abs all.0.0)) (rows_stand P topic xs ys all.1 n)
  where
    go : (b : Bool) → (nat_abs x.partition == n) ≡ b → (nat_abs y.partition == n) ≡ (nat_abs x.partition == n)
        → (is_zero (code_of ys n) ≡ true → All (P (at_part topic n)) (numbered (base_of ys n) (rows_in n xs)))
        → All (P (at_part topic n)) (numbered (base_of (y ∷ ys) n) (rows_in n (x ∷ xs)))
    go true e f ih =
        let g : (nat_abs y.partition == n) ≡ true = f ∙ e in
        let code : code_of (y ∷ ys) n ≡ y.code = rw g refl in
        let zero_is : y.code ≡ pos 0 = zero_code y.code (ap is_zero (sym code) ∙ z) in
        let there : at_of topic x ≡ at_part topic n = ap (at_part topic) (equal (nat_abs x.partition) n e) in
        rw (e, g) (subst (λ (at : TopicPart). All (P at) (numbered (nat_abs y.base) x.rows)) there (all.0.1 zero_is))
    go false e f ih =
        let g : (nat_abs y.partition == n) ≡ false = f ∙ e in
        let code : code_of (y ∷ ys) n ≡ code_of ys n = rw g refl in
        rw (e, g) (ih (ap is_zero (sym code) ∙ z))

length_push : {X : Type 0} (xs : List X) (x : X) → length (xs ++ x ∷ []) ≡ length xs + 1
length_push [] x = omega arith
length_push (y ∷ ys) x = omega (arith, length_push ys x)

-- ---- how many were taken

-- the records of the parts with code 0
abbrev pub rows_with : (ℕ → ℤ) → List PartRecords → ℕ
rows_with code [] = 0
rows_with code (part ∷ parts) = cond (is_zero (code (nat_abs part.partition))) (length part.rows) 0 + rows_with code parts

abbrev pub one_of : (ℕ → ℤ) → ℕ → ℕ
one_of code n = cond (is_zero (code n)) 1 0

rows_with_put : (code : ℕ → ℤ) (p : Payload) (parts : List PartRecords) → rows_with code (put_in p parts) ≡ rows_with code parts + one_of code p.partition
rows_with_put code p [] = omega arith
rows_with_put code p (part ∷ parts) = go (nat_abs part.partition == p.partition) refl (is_zero (code (nat_abs part.partition))) refl (rows_with_put code p parts)
  where
    go : (b : Bool) → (nat_abs part.partition == p.partition) ≡ b → (c : Bool) → is_zero (code (nat_abs part.partition)) ≡ c
        → rows_with code (put_in p parts) ≡ rows_with code parts + one_of code p.partition
        → rows_with code (put_in p (part ∷ parts)) ≡ rows_with code (part ∷ parts) + one_of code p.partition
    go true e true f ih =
        let z : is_zero (code p.partition) ≡ true = ap (λ n. is_zero (code n)) (sym (equal (nat_abs part.partition) p.partition e)) ∙ f in
        rw (e, f, z) (omega (arith, length_push part.rows (new_of p)))
    go true e false f ih =
        let z : is_zero (code p.partition) ≡ false = ap (λ n. is_zero (code n)) (sym (equal (nat_abs part.partition) p.partition e)) ∙ f in
        rw (e, f, z) (omega arith)
    go false e c f ih = rw e (omega (arith, ih))

rows_with_grouped : (code : ℕ → ℤ) (parts : List PartRecords) (payloads : List Payload) → rows_with code (grouped parts payloads) ≡ rows_with code parts + count_by (λ q. is_zero (code q.partition)) payloads
rows_with_grouped code parts [] = omega arith
rows_with_grouped code parts (p ∷ payloads) = go (is_zero (code p.partition)) refl (rows_with_grouped code (put_in p parts) payloads) (rows_with_put code p parts)
  where
    go : (b : Bool) → is_zero (code p.partition) ≡ b → rows_with code (grouped (put_in p parts) payloads) ≡ rows_with code (put_in p parts) + count_by (λ (q : Payload). is_zero (code q.partition)) payloads
        → rows_with code (put_in p parts) ≡ rows_with code parts + one_of code p.partition
        → rows_with code (grouped (put_in p parts) payloads) ≡ rows_with code parts + count_by (λ (q : Payload). is_zero (code q.partition)) (p ∷ payloads)
    go b e ih one = grind (arith, common_steps)

-- the items count as the records do
count_items : (topic : List ℕ) (base : ℕ → ℕ) (code : ℕ → ℤ) (before payloads : List Payload)
    → count_by (λ (item : Item). is_zero (code item.at.partition)) (items_of topic base before payloads) ≡ count_by (λ (q : Payload). is_zero (code q.partition)) payloads
count_items topic base code before [] = refl
count_items topic base code before (p ∷ payloads) = go (is_zero (code p.partition)) refl (count_items topic base code (before ++ p ∷ []) payloads)
  where
    go : (b : Bool) → is_zero (code p.partition) ≡ b
        → count_by (λ (item : Item). is_zero (code item.at.partition)) (items_of topic base (before ++ p ∷ []) payloads) ≡ count_by (λ (q : Payload). is_zero (code q.partition)) payloads
        → count_by (λ (item : Item). is_zero (code item.at.partition)) (items_of topic base before (p ∷ payloads)) ≡ count_by (λ (q : Payload). is_zero (code q.partition)) (p ∷ payloads)
    go b e ih = grind (arith, common_steps)

-- codes that agree on the parts count the same
rows_with_same : (code other : ℕ → ℤ) (parts : List PartRecords) → All (λ (q : PartRecords). code (nat_abs q.partition) ≡ other (nat_abs q.partition)) parts → rows_with code parts ≡ rows_with other parts
rows_with_same code other [] all = refl
rows_with_same code other (part ∷ parts) all =
    let P : PartRecords → Type 0 = λ q. code (nat_abs q.partition) ≡ other (nat_abs q.partition) in
    let e : code (nat_abs part.partition) ≡ other (nat_abs part.partition) = All-head P part parts all in
    let rest : rows_with code parts ≡ rows_with other parts = rows_with_same code other parts (All-tail P part parts all) in
    ap (λ c. cond (is_zero c) (length part.rows) 0 + rows_with code parts) e ∙ ap (λ n. cond (is_zero (other (nat_abs part.partition))) (length part.rows) 0 + n) rest

taken_is : (R : PartRecords → PartPlaced → Type 0) (parts : List PartRecords) (placed : List PartPlaced) → ((part : PartRecords) (p : PartPlaced) → R part p → p.partition ≡ part.partition)
    → Apart parts → AllZip R parts placed → taken_of parts placed ≡ rows_with (code_of placed) parts
taken_is R [] [] same apart all = refl
taken_is R [] (y ∷ ys) same apart all = absurd all
taken_is R (x ∷ xs) [] same apart all = absurd all
taken_is R (x ∷ xs) (y ∷ ys) same apart all =
    let rest : taken_of xs ys ≡ rows_with (code_of ys) xs = taken_is R xs ys same apart.1 all.1 in
    let here : (nat_abs y.partition == nat_abs x.partition) ≡ true = ap (λ n. n == nat_abs x.partition) (ap nat_abs (same x y all.0)) ∙ same_is_equal (nat_abs x.partition) in
    let code : code_of (y ∷ ys) (nat_abs x.partition) ≡ y.code = rw here refl in
    let others : rows_with (code_of (y ∷ ys)) xs ≡ rows_with (code_of ys) xs =
    rows_with_same (code_of (y ∷ ys)) (code_of ys) xs (λ k d lt. past y ys (nat_abs (get_or xs k d).partition) (λ e. apart.0 k d lt (sym (ap nat_abs (same x y all.0)) ∙ e))) in
    omega (arith, rest, others, ap (λ c. cond (is_zero c) (length x.rows) 0) code)
  where
    past : (y : PartPlaced) (ys : List PartPlaced) (n : ℕ) → (nat_abs y.partition ≡ n → ⊥) → code_of (y ∷ ys) n ≡ code_of ys n
    past y ys n apart = go (nat_abs y.partition == n) refl
      where
        go : (b : Bool) → (nat_abs y.partition == n) ≡ b → code_of (y ∷ ys) n ≡ code_of ys n
        go true e = absurd (apart (equal (nat_abs y.partition) n e))
        go false e = rw e refl

-- ---- the log

above : (low base : ℕ) (rs : List NewRecord) → low ≤ base → All (λ (row : Row). low ≤ row.offset) (numbered base rs)
above low base [] le = All-nil (λ (row : Row). low ≤ row.offset)
above low base (r ∷ rs) le = All-cons (λ (row : Row). low ≤ row.offset) (record { offset = base; key = r.key; value = r.value }) (numbered (base + 1) rs) le (above low (base + 1) rs (omega arith))

pub places : (a b : Log) (topic : List ℕ) (payloads : List Payload) (placed : List PartPlaced) → IsPlaced a b topic (grouped [] payloads) placed
    → Places a b (code_of placed) (items_of topic (base_of placed) [] payloads)
places a b topic payloads placed is = record {
  stand = each_item (λ at row. Contains (part_at b at).rows row) topic (base_of placed) (code_of placed) [] payloads
      (λ n z. at_first (λ at row. Contains (part_at b at).rows row) n
      (rows_stand (λ at row. Contains (part_at b at).rows row) topic (grouped [] payloads) placed
      (zip_weaker (Takes a b topic) (λ part p. (p.partition ≡ part.partition) × (p.code ≡ pos 0 → All (λ row. Contains (part_at b (at_of topic part)).rows row) (numbered (nat_abs p.base) part.rows))) (grouped [] payloads) placed
      (λ x y t. (t.same, t.stand)) is.each) n z));
  behind = each_item (λ at row. (part_at a at).end ≤ row.offset) topic (base_of placed) (code_of placed) [] payloads
      (λ n z. at_first (λ at row. (part_at a at).end ≤ row.offset) n
      (rows_stand (λ at row. (part_at a at).end ≤ row.offset) topic (grouped [] payloads) placed
      (zip_weaker (Takes a b topic) (λ part p. (p.partition ≡ part.partition) × (p.code ≡ pos 0 → All (λ (row : Row). (part_at a (at_of topic part)).end ≤ row.offset) (numbered (nat_abs p.base) part.rows))) (grouped [] payloads) placed
      (λ x y t. (t.same, λ z. above (part_at a (at_of topic x)).end (nat_abs y.base) x.rows (t.behind z))) is.each) n z));
  added = omega (
    arith,
    is.added,
    taken_is (Takes a b topic) (grouped [] payloads) placed (λ x y t. t.same) (apart_grouped [] payloads tt) is.each,
    rows_with_grouped (code_of placed) [] payloads,
    count_items topic (base_of placed) (code_of placed) [] payloads,
  );
}
  where
    at_first : (P : TopicPart → Row → Type 0) (n : ℕ) → All (P (at_part topic n)) (numbered (base_of placed n) (rows_in n (grouped [] payloads)))
        → All (P (at_part topic n)) (numbered (base_of placed n + many n []) (rows_of n payloads))
    at_first P n all =
        subst (λ (m : ℕ). All (P (at_part topic n)) (numbered m (rows_of n payloads))) start
        (subst (λ (rs : List NewRecord). All (P (at_part topic n)) (numbered (base_of placed n) rs)) (rows_grouped n [] payloads) all)
      where
        start : base_of placed n ≡ base_of placed n + many n []
        start = omega arith

pub unknown : (a b : Log) (topic : List ℕ) (payloads : List Payload) → MayBePlaced a b topic (grouped [] payloads) → Unknown a b topic payloads
unknown a b topic payloads may = record { base = base_of may.0; code = code_of may.0; places = places a b topic payloads may.0 may.1 }

none_counted : (items : List Item) → count_by (λ (item : Item). false) items ≡ 0
none_counted [] = refl
none_counted (item ∷ items) = grind (arith, common_steps, none_counted items)

-- nothing was done
pub untouched : (a : Log) (topic : List ℕ) (payloads : List Payload) → Unknown a a topic payloads
untouched a topic payloads = record {
  base = λ n. 0;
  code = λ n. pos 3;
  places = record {
    stand = λ k d lt z. absurd (cc z);
    behind = λ k d lt z. absurd (cc z);
    added = omega (arith, none_counted (items_of topic (λ n. 0) [] payloads));
  };
}
