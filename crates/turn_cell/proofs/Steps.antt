-- Each step of a seat keeps the rule.
use Rattle.std.proofs.Common.{◌≡◌, ◌≢◌, ◌⊎◌, inl, inr, ⊎_elim, ℕ, zero, suc, ◌+◌, ◌*◌, ◌-◌, ◌%◌, ◌^◌, ◌<◌, ◌≤◌, List, [], ◌∷◌, ◌++◌, map, length, get_or, replicate, set, Option, Some, None, option_map, Bool, true, false, true≢false, eqb, refl, sym, ap, ◌∙◌, subst, arith, length-append, append-nil, length-set, get_or-set_same, eq-eqb, ne_eqb}
use Rattle.std.proofs.lemmas.List.{get_or-set_other, set-get_or}
use mathlib.Core.List.{map-append}
use mathlib.Core.Logic.{dite}
use mathlib.Core.Option as maybe
use mathlib.Core.Option.{none, some, some-injective, some-ne-none}
use native.Mathlib.Decide.{ℕ_discrete}
use prog.Atomic.{either}
use lib.ListN.{get_elem?}
use Rattle.std.specs.declared.snapshot.Snapshot.{Snapshot}
use Rattle.atomic_table.specs.Table.{State, Me, step, keeps, takes, gives, stepped, Allows, Splits, Joins, opening, Final, Seen}
use Rattle.atomic_table.proofs.Lists.{at_set, set_here, set_else, at_snoc, at_longer}
use Rattle.turn_cell.specs.declared.rule.Kept.{Kept}
use Rattle.turn_cell.specs.declared.rule.View.{View}
use Rattle.turn_cell.specs.Rules.{In, IsPrefixOf, AreDistinct, Seated, Fits, Rule, Entered, IsLast, entries_by, own, records, numbers, longer, merged, spent, cut, cut_from, newcomer, turns_of_a_pass, numbered, drew, looked, tried, passed}
use Rattle.turn_cell.proofs.Lists.{total-set, total-at, total-snoc, total-two, In-left, In-right, In-cases, In-one, In-map, In-map_from, prefix-refl, prefix-trans, prefix-more, prefix-left, prefix-right, prefix-longer, distinct-left, distinct-append, by-none, by-snoc_other, by-prefix_none, by-between, by-whole}
use Rattle.turn_cell.proofs.Moves.{at_less, one_at, moved, stays}

bool_false : (b : Bool) → (b ≡ true → ⊥) → b ≡ false
bool_false true f = absurd (f refl)
bool_false false f = refl

not_some : (n : ℕ) → None ≡ Some n → ⊥
not_some n e = cc

pub some_same : {A : Type 0} (a b : A) → Some a ≡ Some b → a ≡ b
some_same a b e = cc

head_same : {A : Type 0} (a b : A) → a ∷ [] ≡ b ∷ [] → a ≡ b
head_same a b e = cc

held_same : {A : Type 0} (c : List (ℕ × Option A)) (a b : A) → c ≡ (0, Some a) ∷ [] → c ≡ (0, Some b) ∷ [] → a ≡ b
held_same {A = A} c a b p q = some_same a b (ap (λ (x : ℕ × Option A). x.1) (head_same (0, Some a) (0, Some b) (sym p ∙ q)))

is_ticket : (o : Option ℕ) (x : ℕ) → Dec (o ≡ Some x)
is_ticket None x = no (λ e. not_some x e)
is_ticket (Some y) x = dite (ℕ_discrete y x) (λ e. yes (ap Some e)) (λ ne. no (λ e. ne (some_same y x e)))

three_spare : {A : Type 0} (h : maybe.Option (Option A)) (k : ℕ) → 0 < k → k < 4 → get_elem? (h ∷ some None ∷ some None ∷ some None ∷ []) k ≡ some (some None)
three_spare h zero pos lt = absurd (omega arith)
three_spare h (suc zero) pos lt = refl
three_spare h (suc (suc zero)) pos lt = refl
three_spare h (suc (suc (suc zero))) pos lt = refl
three_spare h (suc (suc (suc (suc k)))) pos lt = absurd (omega arith)

module _ {E : Type 0} where
  pub own_in : (o : Option ℕ) (xs : List E) (n : ℕ) (l : List E) → In (own o xs) (n, l) → (o ≡ Some n) × (xs ≡ l)
  own_in None xs n l i = absurd i
  own_in (Some m) xs n l i = let e = In-one (m, xs) (n, l) i in (ap (λ (p : ℕ × List E). Some p.0) e, ap (λ (p : ℕ × List E). p.1) e)

  numbers_own : (o : Option ℕ) (xs ys : List E) → map (λ (r : ℕ × List E). r.0) (own o xs) ≡ map (λ (r : ℕ × List E). r.0) (own o ys)
  numbers_own None xs ys = refl
  numbers_own (Some n) xs ys = refl

module _ {S E : Type 0} where
  pub has_own : (v : View S E) (n : ℕ) → v.number ≡ Some n → In (records v) (n, v.seen)
  has_own v n is = subst (λ (o : Option ℕ). In (v.taken ++ own o v.seen) (n, v.seen)) (sym is) (In-right v.taken ((n, v.seen) ∷ []) (n, v.seen) (inl refl))

  pub own_number : (v : View S E) (n : ℕ) → v.number ≡ Some n → In (numbers v) n
  own_number v n is = In-map (λ (r : ℕ × List E). r.0) (records v) (n, v.seen) (has_own v n is)

  -- the numbers of a view hang on its number and on what it took over alone
  numbers_same : (v w : View S E) → v.number ≡ w.number → v.taken ≡ w.taken → numbers v ≡ numbers w
  numbers_same v w e t =
      map-append (λ (r : ℕ × List E). r.0) v.taken (own v.number v.seen)
      ∙ ap (λ (l : List (ℕ × List E)). map (λ (r : ℕ × List E). r.0) l ++ map (λ (r : ℕ × List E). r.0) (own v.number v.seen)) t
      ∙ ap (λ (o : Option ℕ). map (λ (r : ℕ × List E). r.0) w.taken ++ map (λ (r : ℕ × List E). r.0) (own o v.seen)) e
      ∙ ap (λ (l : List ℕ). map (λ (r : ℕ × List E). r.0) w.taken ++ l) (numbers_own w.number v.seen w.seen)
      ∙ sym (map-append (λ (r : ℕ × List E). r.0) w.taken (own w.number w.seen))

  pub record_numbers : (v w : View S E) (n : ℕ) → In (numbers (merged v w)) n → In (numbers v) n ⊎ In (numbers w) n
  record_numbers v w n i =
      let m = In-map_from (λ (z : ℕ × List E). z.0) (records (merged v w)) n i in ⊎_elim
      (λ (y : In (records v ++ records w) m.0). ⊎_elim
      (λ (a : In (records v) m.0). inl (subst (In (numbers v)) m.2 (In-map (λ (z : ℕ × List E). z.0) (records v) m.0 a)))
      (λ (a : In (records w) m.0). inr (subst (In (numbers w)) m.2 (In-map (λ (z : ℕ × List E). z.0) (records w) m.0 a)))
      (In-cases (records v) (records w) m.0 y))
      (λ (y : ⊥). absurd y)
      (In-cases (records v ++ records w) [] m.0 m.1)

  numbers_merged : (v w : View S E) → numbers (merged v w) ≡ numbers v ++ numbers w
  numbers_merged v w =
      map-append (λ (r : ℕ × List E). r.0) (records v ++ records w) []
      ∙ append-nil (map (λ (r : ℕ × List E). r.0) (records v ++ records w))
      ∙ map-append (λ (r : ℕ × List E). r.0) (records v) (records w)

  numbers_left : (v w : View S E) (n : ℕ) → In (numbers v) n → In (numbers (merged v w)) n
  numbers_left v w n i =
      let m = In-map_from (λ (z : ℕ × List E). z.0) (records v) n i in
      subst (In (numbers (merged v w))) m.2 (In-map (λ (z : ℕ × List E). z.0) (records (merged v w)) m.0 (In-left (records v ++ records w) [] m.0 (In-left (records v) (records w) m.0 m.1)))

  numbers_right : (v w : View S E) (n : ℕ) → In (numbers w) n → In (numbers (merged v w)) n
  numbers_right v w n i =
      let m = In-map_from (λ (z : ℕ × List E). z.0) (records w) n i in
      subst (In (numbers (merged v w))) m.2 (In-map (λ (z : ℕ × List E). z.0) (records (merged v w)) m.0 (In-left (records v ++ records w) [] m.0 (In-right (records v) (records w) m.0 m.1)))

module _ {S E : Type 0} (stands : S → List E → Type 0) (caller : E → ℕ) (same : S → S → Type 0) (first_root : S) (all_passes : ℕ) where
  abbrev St : Type 0
  St = State (Option (Kept S E)) (View S E)

  abbrev R : St → Type 0
  R = Rule stands caller same first_root all_passes

  abbrev F : List E → ℕ → ℕ → ℕ → View S E → Type 0
  F log nx sv md v = Fits caller log first_root all_passes nx sv md v

  -- the rule of a view outlasts a growth of the words around it
  grows : (log : List E) (nx sv md nx' sv' md' : ℕ) (v : View S E) → sv' ≡ sv → nx ≤ nx' → md ≤ md' → F log nx sv md v → F log nx' sv' md' v
  grows log nx sv md nx' sv' md' v e a b f = record {
    prefix = f.prefix;
    turn = λ t. let q = f.turn t in (q.0, q.1 ∙ ap Some (sym e));
    drawn = λ t h. let q = f.drawn t h in (omega (arith, q.0), omega (arith, q.1), q.2, q.3);
    known = λ n l i. let q = f.known n l i in (omega (arith, q.0), q.1, q.2, q.3);
    distinct = f.distinct;
    low = (let l = f.low in omega arith);
    low_try = (let l = f.low_try in omega arith);
    rooted = f.rooted;
  }

  -- a change that keeps whether the view is in turn leaves the others as they were
  still : (s : St) (id : ℕ) (v w : View S E) → get_elem? s.views id ≡ some v → w.in_turn ≡ v.in_turn
      → ((j : ℕ) (u : View S E) → get_elem? (set s.views id w) j ≡ some u → u.in_turn ≡ false) → (j : ℕ) (u : View S E) → get_elem? s.views j ≡ some u → u.in_turn ≡ false
  still s id v w at is all j u here = dite (ℕ_discrete j id)
      (λ e. ap (λ (x : View S E). x.in_turn) (one_at s.views id u v (ap (get_elem? s.views) (sym e) ∙ here) at) ∙ sym is ∙ all id w (set_here s.views id w (at_less s.views id v at)))
      (λ ne. all j u (set_else s.views id j w ne ∙ here))

  -- such a change leaves the slot out where it was out
  still_away : (s : St) (r : R s) (id : ℕ) (v w : View S E) → get_elem? s.views id ≡ some v → w.in_turn ≡ v.in_turn
      → (j : ℕ) (u : View S E) → get_elem? (set s.views id w) j ≡ some u → u.in_turn ≡ true → get_elem? s.homes 0 ≡ some none
  still_away s r id v w at is j u h t = ⊎_elim
      (λ (x : (j ≡ id) × (w ≡ u)). r.away id v at (sym is ∙ ap (λ (y : View S E). y.in_turn) x.1 ∙ t))
      (λ (x : (j ≢ id) × (get_elem? s.views j ≡ some u)). r.away j u x.1 t)
      (at_set s.views id j w u h)

  -- no slot but the first is ever used
  others_spare : (s : St) (r : R s) (h : maybe.Option (Option (Kept S E))) (k : ℕ) → 0 < k → k < length (set s.homes 0 h) → get_elem? (set s.homes 0 h) k ≡ some (some None)
  others_spare s r h k pos lt = set_else s.homes 0 k h (λ e. omega (arith, e)) ∙ r.spare k pos (omega (arith, length-set s.homes 0 h))

  -- no other is in turn while a ticket at hand is the one served
  alone : (s : St) (r : R s) (id : ℕ) (v : View S E) → get_elem? s.views id ≡ some v → v.ticket ≡ Some (get_or s.words 1 0) → v.in_turn ≡ false
      → (j : ℕ) (u : View S E) → get_elem? s.views j ≡ some u → u.in_turn ≡ false
  alone s r id v at tick out j u here = bool_false u.in_turn (λ t.
      let q = (r.fits j u here).turn t in
      let is : j ≡ id = r.tickets j id (get_or s.words 1 0) u v here at q.1 tick in
      let uv : u ≡ v = one_at s.views id u v (ap (get_elem? s.views) (sym is) ∙ here) at in
      true≢false (sym t ∙ ap (λ (x : View S E). x.in_turn) uv ∙ out))

  -- nobody is in turn where every number drawn was served
  idle : (s : St) (r : R s) → get_or s.words 0 0 ≤ get_or s.words 1 0 → (j : ℕ) (u : View S E) → get_elem? s.views j ≡ some u → u.in_turn ≡ false
  idle s r le j u here = bool_false u.in_turn (λ t.
      let f = r.fits j u here in let q = f.turn t in let d = f.drawn (get_or s.words 1 0) q.1 in omega (arith, d.1))

  -- what a view knows once it has seen the whole history
  all_known : (s : St) (r : R s) (v w : View S E) → F r.log (get_or s.words 0 0) (get_or s.words 1 0) (get_or s.words 2 0) v → w.taken ≡ v.taken → w.number ≡ v.number → w.parts ≡ v.parts → w.seen ≡ r.log
      → (n : ℕ) (l : List E) → In (records w) (n, l) → (n < get_or s.words 2 0) × (0 < w.parts) × IsPrefixOf l w.seen × (entries_by caller n r.log ≡ entries_by caller n l)
  all_known s r v w f ta nu pa se n l i = ⊎_elim
      (λ (x : In w.taken (n, l)).
      let q = f.known n l (In-left v.taken (own v.number v.seen) (n, l) (subst (λ (t : List (ℕ × List E)). In t (n, l)) ta x)) in
      (q.0, subst (λ k. 0 < k) (sym pa) q.1, subst (λ z. IsPrefixOf l z) (sym se) (prefix-trans l v.seen r.log q.2 f.prefix), q.3))
      (λ (x : In (own w.number w.seen) (n, l)).
      let o = own_in w.number w.seen n l x in
      let q = f.known n v.seen (has_own v n (sym nu ∙ o.0)) in
      (q.0, subst (λ k. 0 < k) (sym pa) q.1, subst (λ z. IsPrefixOf z w.seen) o.1 (prefix-refl w.seen), ap (entries_by caller n) (sym se ∙ o.1)))
      (In-cases w.taken (own w.number w.seen) (n, l) i)

  entered : (s : St) (r : R s) (v : View S E) (k : Kept S E) → F r.log (get_or s.words 0 0) (get_or s.words 1 0) (get_or s.words 2 0) v → stands k.value r.log → same first_root k.value → length r.log < all_passes * turns_of_a_pass
      → Entered stands caller same v r.log k.value
  entered s r v k f st rt few = (
    f.prefix,
    st,
    (λ x h. subst (λ z. same z k.value) (sym (f.rooted x h).0) rt),
    (λ n h. (f.known n v.seen (has_own v n h)).3),
    (λ x n h p. subst (λ z. length r.log < z * turns_of_a_pass) (sym (f.rooted x h).1 ∙ p) few),
  )

  pub draws : (slots id n : ℕ) (me : Seated S E) → me.0.ticket ≡ None → me.0.in_turn ≡ false → me.0.number ≡ Some n → 0 < me.0.left
      → Allows R slots id me 0 (λ x. (x + 1) % 2 ^ 64) (drew (step slots 0 1 0 none) me)
  draws slots id n me blank out num some_left s r size at small =
      let v = me.0 in
      let x = get_or s.words 0 0 in
      let f = r.fits id v at in
      let w : View S E = record v { ticket = Some x; left = v.left - 1 } in
      let bound = total-at (λ (u : View S E). u.left) s.views id v at in
      let room = r.room in
      let is : (x + 1) % 2 ^ 64 ≡ x + 1 = omega arith in
      let ws = set s.words 0 ((x + 1) % 2 ^ 64) in
      let w0 : get_or ws 0 0 ≡ x + 1 = get_or-set_same s.words 0 ((x + 1) % 2 ^ 64) 0 (omega (arith, r.wide)) ∙ is in
      let w1 : get_or ws 1 0 ≡ get_or s.words 1 0 = get_or-set_other s.words 0 1 ((x + 1) % 2 ^ 64) 0 (λ e. omega arith) in
      let w2 : get_or ws 2 0 ≡ get_or s.words 2 0 = get_or-set_other s.words 0 2 ((x + 1) % 2 ^ 64) 0 (λ e. omega arith) in
      let wider : x ≤ get_or ws 0 0 = omega arith in
      let equal : get_or s.words 2 0 ≤ get_or ws 2 0 = omega arith in
      let served = r.order in (
        w,
        keeps,
        tt,
        moved stands caller same first_root all_passes s r id v w ws s.homes r.log at (record {
          wide = omega (arith, length-set s.words 0 ((x + 1) % 2 ^ 64), r.wide);
          serving = w1 ∙ r.serving;
          order = omega arith;
          made = (let m = r.made in omega arith);
          room = omega arith;
          parts = refl;
          mine = (let g = grows r.log x (get_or s.words 1 0) (get_or s.words 2 0) (get_or ws 0 0) (get_or ws 1 0) (get_or ws 2 0) v w1 wider equal f in record {
            prefix = f.prefix;
            turn = λ t. absurd (true≢false (sym t ∙ out));
            drawn = λ t h. let e : x ≡ t = some_same x t h in (omega arith, omega arith, (f.known n v.seen (has_own v n num)).1, (n, num));
            known = g.known;
            distinct = f.distinct;
            low = g.low;
            low_try = g.low_try;
            rooted = f.rooted;
          });
          others = λ j u ne h. grows r.log x (get_or s.words 1 0) (get_or s.words 2 0) (get_or ws 0 0) (get_or ws 1 0) (get_or ws 2 0) u w1 wider equal (r.fits j u h);
          tickets = λ t h. inr (λ j u here tick. let e : x ≡ t = some_same x t h in let d = (r.fits j u here).drawn t tick in omega (arith, d.1));
          drawn = λ t a b. dite (ℕ_discrete t x) (λ e. inr (ap Some (sym e))) (λ ne. inl (omega arith, omega arith, λ h. absurd (not_some t (sym blank ∙ h))));
          fresh = λ m i. inl i;
          kept = λ m i. i;
          named = λ e i. inl i;
          home = λ all. r.home (still s id v w at refl all);
          away = still_away s r id v w at refl;
          spare = r.spare;
        }),
        refl,
      )

  -- the value was seen at home while the own ticket is served, and the turn begins
  begins : (s : St) (r : R s) (id : ℕ) (v w : View S E) (ws : List ℕ) (slots : ℕ) (k : Kept S E) → get_elem? s.views id ≡ some v → v.in_turn ≡ false
      → F r.log (get_or ws 0 0) (get_or ws 1 0) (get_or ws 2 0) w → w.in_turn ≡ true → w.parts ≡ v.parts → w.number ≡ v.number → w.taken ≡ v.taken
      → 0 < length s.homes → 3 ≤ length ws → get_or ws 1 0 ≡ get_or s.words 1 0 → get_or ws 2 0 ≡ get_or s.words 2 0 → get_or s.words 0 0 ≤ get_or ws 0 0 → get_or ws 0 0 + w.left ≤ get_or s.words 0 0 + v.left
      → ((t : ℕ) → w.ticket ≡ Some t → (v.ticket ≡ Some t) ⊎ ((j : ℕ) (u : View S E) → get_elem? s.views j ≡ some u → u.ticket ≢ Some t))
      → ((t : ℕ) → get_or ws 1 0 ≤ t → t < get_or ws 0 0 → ((get_or s.words 1 0 ≤ t) × (t < get_or s.words 0 0) × (v.ticket ≡ Some t → w.ticket ≡ Some t)) ⊎ (w.ticket ≡ Some t))
      → R (record { words = ws; homes = set s.homes 0 none; views = set s.views id w })
  begins s r id v w ws slots k at out mine in_turn parts num ta some_slot wide w1 w2 w0 room tickets drawn =
      let order = r.order in
      let made = r.made in
      let ns : numbers w ≡ numbers v = numbers_same w v num ta in
      moved stands caller same first_root all_passes s r id v w ws (set s.homes 0 none) r.log at (record {
        wide = wide;
        serving = w1 ∙ r.serving;
        order = omega arith;
        made = omega arith;
        room = room;
        parts = parts;
        mine = mine;
        others = λ j u ne h. grows r.log (get_or s.words 0 0) (get_or s.words 1 0) (get_or s.words 2 0) (get_or ws 0 0) (get_or ws 1 0) (get_or ws 2 0) u w1 w0 (omega arith) (r.fits j u h);
        tickets = tickets;
        drawn = drawn;
        fresh = λ m i. inl (subst (λ l. In l m) ns i);
        kept = λ m i. subst (λ l. In l m) (sym ns) i;
        named = λ e i. inl i;
        home = λ all. absurd (true≢false (sym in_turn ∙ all id w (set_here s.views id w (at_less s.views id v at))));
        away = λ j u h t. set_here s.homes 0 none some_slot;
        spare = others_spare s r none;
      })

  -- a look or a try that changes no more than its count
  marks : (s : St) (r : R s) (id : ℕ) (v w : View S E) → get_elem? s.views id ≡ some v → F r.log (get_or s.words 0 0) (get_or s.words 1 0) (get_or s.words 2 0) w
      → w.in_turn ≡ v.in_turn → w.parts ≡ v.parts → w.number ≡ v.number → w.taken ≡ v.taken → w.ticket ≡ v.ticket → w.left ≡ v.left
      → R (record { words = s.words; homes = s.homes; views = set s.views id w })
  marks s r id v w at mine turn parts num ta tick left =
      let ns : numbers w ≡ numbers v = numbers_same w v num ta in
      moved stands caller same first_root all_passes s r id v w s.words s.homes r.log at (record {
        wide = r.wide;
        serving = r.serving;
        order = r.order;
        made = r.made;
        room = omega arith;
        parts = parts;
        mine = mine;
        others = λ j u ne h. r.fits j u h;
        tickets = λ t h. inl (sym tick ∙ h);
        drawn = λ t a b. inl (a, b, λ h. tick ∙ h);
        fresh = λ m i. inl (subst (λ l. In l m) ns i);
        kept = λ m i. subst (λ l. In l m) (sym ns) i;
        named = λ e i. inl i;
        home = λ all. r.home (still s id v w at turn all);
        away = still_away s r id v w at turn;
        spare = r.spare;
      })

  same_words : (s : St) (id i : ℕ) (hs : List (maybe.Option (Option (Kept S E)))) (w : View S E) → R (record { words = s.words; homes = hs; views = set s.views id w })
      → R (record { words = set s.words i (get_or s.words i 0); homes = hs; views = set s.views id w })
  same_words s id i hs w r = subst (λ ws. R (record { words = ws; homes = hs; views = set s.views id w })) (sym (set-get_or s.words i 0)) r

  looks_at : (slots id : ℕ) (me : Seated S E) → me.0.in_turn ≡ false → (s : St) (r : R s) → get_elem? s.views id ≡ some me.0 → Dec (me.0.ticket ≡ Some (get_or s.words 1 0))
      → (w : View S E) × (a : Rattle.atomic_table.specs.Table.Act (Option (Kept S E))) × Rattle.atomic_table.specs.Table.Valid s.homes me.1 a × R (stepped s 1 (get_or s.words 1 0) id me.1 w a)
      × looked stands caller same (step slots 1 0 0 none) me (get_or s.words 1 0) (w, Rattle.atomic_table.specs.Table.carried_after me.1 a)
  looks_at slots id me out s r at (yes tick) =
      let v = me.0 in
      let x = get_or s.words 1 0 in
      let f = r.fits id v at in
      let h = r.home (alone s r id v at tick out) in
      let k = h.0 in
      let w : View S E = record v { seen = r.log; in_turn = true; looks = v.looks + 1; looked = x } in
      let room = r.room in let order = r.order in (
        w,
        takes 0 (Some k),
        h.1,
        same_words s id 1 (set s.homes 0 none) w (begins s r id v w s.words slots k at out
            (record {
              prefix = prefix-refl r.log;
              turn = λ _. (refl, tick);
              drawn = f.drawn;
              known = all_known s r v w f refl refl refl refl;
              distinct = subst AreDistinct (numbers_same v w refl refl) f.distinct;
              low = omega arith;
              low_try = f.low_try;
              rooted = f.rooted;
            })
            refl refl refl refl (at_less s.homes 0 (some (Some k)) h.1) r.wide refl refl (omega arith) (omega arith) (λ t e. inl e) (λ t a b. inl (a, b, λ e. e))),
        (omega arith, (λ _. (k, r.log, refl, entered s r v k f h.2 h.3 (let d = f.drawn x tick in let a = r.serving in let b = r.bound in omega (arith, d.1, a, b)))), λ not. absurd (not tick)),
      )
  looks_at slots id me out s r at (no not) =
      let v = me.0 in
      let x = get_or s.words 1 0 in
      let f = r.fits id v at in
      let w : View S E = record v { looks = v.looks + 1; looked = x } in
      let room = r.room in let order = r.order in (
        w,
        keeps,
        tt,
        same_words s id 1 s.homes w (marks s r id v w at
            (record {
              prefix = f.prefix;
              turn = f.turn;
              drawn = f.drawn;
              known = f.known;
              distinct = f.distinct;
              low = omega arith;
              low_try = f.low_try;
              rooted = f.rooted;
            })
            refl refl refl refl refl refl),
        (omega arith, (λ tick. absurd (not tick)), λ _. refl),
      )

  pub looks : (slots id : ℕ) (me : Seated S E) → me.0.in_turn ≡ false → Allows R slots id me 1 (λ x. x) (looked stands caller same (step slots 1 0 0 none) me)
  looks slots id me out s r size at small = looks_at slots id me out s r at (is_ticket me.0.ticket (get_or s.words 1 0))

  pub tries : (slots id n old new : ℕ) (me : Seated S E) → me.0.ticket ≡ None → me.0.in_turn ≡ false → me.0.number ≡ Some n → 0 < me.0.left → me.0.looked ≡ old → new ≡ old + 1
      → Allows R slots id me 0 (λ x. either (eqb x old) new x) (tried stands caller same (step slots 0 old new none) me)
  tries slots id n old new me blank out num some_left last next s r size at small =
      let v = me.0 in
      let x = get_or s.words 0 0 in
      let f = r.fits id v at in
      let low = f.low in let order = r.order in let room = r.room in
      let bound = total-at (λ (u : View S E). u.left) s.views id v at in
      dite (ℕ_discrete x old)
      (λ hit.
      let served : x ≡ get_or s.words 1 0 = omega arith in
      let h = r.home (idle s r (omega arith)) in
      let k = h.0 in
      let w : View S E = record v { seen = r.log; ticket = Some x; in_turn = true; left = v.left - 1; tries = v.tries + 1; tried = x } in
      let ws = set s.words 0 new in
      let w0 : get_or ws 0 0 ≡ x + 1 = get_or-set_same s.words 0 new 0 (omega (arith, r.wide)) ∙ omega arith in
      let w1 : get_or ws 1 0 ≡ get_or s.words 1 0 = get_or-set_other s.words 0 1 new 0 (λ e. omega arith) in
      let w2 : get_or ws 2 0 ≡ get_or s.words 2 0 = get_or-set_other s.words 0 2 new 0 (λ e. omega arith) in
      let g = grows r.log x (get_or s.words 1 0) (get_or s.words 2 0) (get_or ws 0 0) (get_or ws 1 0) (get_or ws 2 0) v w1 (omega arith) (omega arith) f in (
        w,
        takes 0 (Some k),
        h.1,
        subst (λ b. R (record { words = set s.words 0 (either b new x); homes = set s.homes 0 none; views = set s.views id w })) (sym (eq-eqb x old hit))
            (begins s r id v w ws slots k at out
            (record {
              prefix = prefix-refl r.log;
              turn = λ _. (refl, ap Some (served ∙ sym w1));
              drawn = λ t e. let e' : x ≡ t = some_same x t e in (omega arith, omega arith, (f.known n v.seen (has_own v n num)).1, (n, num));
              known = (λ m l i. let q = all_known s r v w f refl refl refl refl m l i in (omega (arith, q.0), q.1, q.2, q.3));
              distinct = subst AreDistinct (numbers_same v w refl refl) f.distinct;
              low = g.low;
              low_try = omega arith;
              rooted = f.rooted;
            })
            refl refl refl refl (at_less s.homes 0 (some (Some k)) h.1) (omega (arith, length-set s.words 0 new, r.wide)) w1 w2 (omega arith) (omega arith)
            (λ t e. inr (λ j u here tick. let e' : x ≡ t = some_same x t e in let d = (r.fits j u here).drawn t tick in omega (arith, d.1)))
            (λ t a b. dite (ℕ_discrete t x) (λ e. inr (ap Some (sym e))) (λ ne. inl (omega arith, omega arith, λ h. absurd (not_some t (sym blank ∙ h)))))),
        ((λ _. (k, r.log, refl, entered s r v k f h.2 h.3 (let a = r.serving in let b = r.bound in omega (arith, a, b)))), λ not. absurd (not hit)),
      ))
      (λ miss.
      let w : View S E = record v { tries = v.tries + 1; tried = x } in (
        w,
        keeps,
        tt,
        subst (λ b. R (record { words = set s.words 0 (either b new x); homes = s.homes; views = set s.views id w })) (sym (ne_eqb x old miss))
            (same_words s id 0 s.homes w (marks s r id v w at
            (record {
              prefix = f.prefix;
              turn = f.turn;
              drawn = f.drawn;
              known = f.known;
              distinct = f.distinct;
              low = f.low;
              low_try = omega arith;
              rooted = f.rooted;
            })
            refl refl refl refl refl refl)),
        ((λ hit. absurd (miss hit)), λ _. (omega arith, refl)),
      ))

  below : (s : St) (r : R s) (j n : ℕ) (u : View S E) → get_elem? s.views j ≡ some u → In (numbers u) n → (n < get_or s.words 2 0) × (0 < u.parts)
  below s r j n u here i =
      let m = In-map_from (λ (x : ℕ × List E). x.0) (records u) n i in
      let q = (r.fits j u here).known m.0.0 m.0.1 m.1 in (subst (λ z. z < get_or s.words 2 0) m.2 q.0, q.1)

  pub passes_on : (slots id n : ℕ) (v : View S E) (held : List (ℕ × Option (Kept S E))) (k : Kept S E) (e : E) → held ≡ (0, Some k) ∷ [] → 0 < slots → v.in_turn ≡ true → v.taken ≡ [] → v.number ≡ Some n → caller e ≡ n
      → option_map (λ (x : Snapshot E). x.value) k.last ≡ Some e → stands k.value (v.seen ++ e ∷ []) → same first_root k.value
      → Allows R slots id (v, held) 1 (λ x. (x + 1) % 2 ^ 64) (passed (step slots 1 1 0 none) (v, held))
  passes_on slots id n v held k e holds some_slot turn empty num names last stand root_is s r size at small =
      let log = r.log in
      let x = get_or s.words 1 0 in
      let f = r.fits id v at in
      let t = f.turn turn in
      let d = f.drawn x t.1 in
      let room = r.room in
      let w : View S E = record v { seen = v.seen ++ e ∷ []; ticket = None; in_turn = false } in
      let is : (x + 1) % 2 ^ 64 ≡ x + 1 = (let a = d.1 in omega arith) in
      let ws = set s.words 1 ((x + 1) % 2 ^ 64) in
      let w1 : get_or ws 1 0 ≡ x + 1 = get_or-set_same s.words 1 ((x + 1) % 2 ^ 64) 0 (omega (arith, r.wide)) ∙ is in
      let w0 : get_or ws 0 0 ≡ get_or s.words 0 0 = get_or-set_other s.words 1 0 ((x + 1) % 2 ^ 64) 0 (λ e. omega arith) in
      let w2 : get_or ws 2 0 ≡ get_or s.words 2 0 = get_or-set_other s.words 1 2 ((x + 1) % 2 ^ 64) 0 (λ e. omega arith) in
      let ends : v.seen ++ e ∷ [] ≡ log ++ e ∷ [] = ap (λ (l : List E). l ++ e ∷ []) t.0 in
      let ns : numbers w ≡ numbers v = numbers_same w v refl refl in
      let after : R (record { words = ws; homes = set s.homes 0 (some (Some k)); views = set s.views id w }) =
      moved stands caller same first_root all_passes s r id v w ws (set s.homes 0 (some (Some k))) (log ++ e ∷ []) at (record {
        wide = omega (arith, length-set s.words 1 ((x + 1) % 2 ^ 64), r.wide);
        serving = (let a = r.serving in let b = length-append log (e ∷ []) in omega arith);
        order = (let a = d.1 in omega arith);
        made = (let a = r.made in omega arith);
        room = omega arith;
        parts = refl;
        mine = record {
          prefix = subst (λ l. IsPrefixOf l (log ++ e ∷ [])) (sym ends) (prefix-refl (log ++ e ∷ []));
          turn = λ h. absurd (true≢false (sym h));
          drawn = λ y h. absurd (not_some y h);
          known = λ m l i. ⊎_elim
              (λ (y : In v.taken (m, l)). absurd (subst (λ (z : List (ℕ × List E)). In z (m, l)) empty y))
              (λ (y : In (own v.number (v.seen ++ e ∷ [])) (m, l)).
              let o = own_in v.number (v.seen ++ e ∷ []) m l y in
              let q = f.known m v.seen (has_own v m o.0) in
              (omega (arith, q.0), q.1, subst (λ z. IsPrefixOf z (v.seen ++ e ∷ [])) o.1 (prefix-refl (v.seen ++ e ∷ [])), ap (entries_by caller m) (sym ends ∙ o.1)))
              (In-cases v.taken (own v.number (v.seen ++ e ∷ [])) (m, l) i);
          distinct = subst AreDistinct (sym ns) f.distinct;
          low = (let a = f.low in omega arith);
          low_try = (let a = f.low_try in omega arith);
          rooted = f.rooted;
        };
        others = λ j u ne h. let g = r.fits j u h in record {
          prefix = prefix-more u.seen log (e ∷ []) g.prefix;
          turn = λ y. let q = g.turn y in absurd (ne (r.tickets j id x u v h at q.1 t.1));
          drawn = λ y tick. let q = g.drawn y tick in
              let differs : y ≢ x = λ same_ticket. ne (r.tickets j id x u v h at (tick ∙ ap Some same_ticket) t.1) in
              (omega (arith, q.0, differs), omega (arith, q.1), q.2, q.3);
          known = λ m l i. let q = g.known m l i in
              let differs : caller e ≢ m = λ c. ne (r.apart j id m u v h at (In-map (λ (z : ℕ × List E). z.0) (records u) (m, l) i) (own_number v m (num ∙ ap Some (sym names ∙ c)))) in
              (omega (arith, q.0), q.1, q.2, by-snoc_other caller m log e differs ∙ q.3);
          distinct = g.distinct;
          low = (let a = g.low in omega arith);
          low_try = (let a = g.low_try in omega arith);
          rooted = g.rooted;
        };
        tickets = λ y h. absurd (not_some y h);
        drawn = λ y a b. inl (omega arith, omega arith, λ h. absurd (let z : x ≡ y = some_same x y (sym t.1 ∙ h) in omega arith));
        fresh = λ m i. inl (subst (λ l. In l m) ns i);
        kept = λ m i. subst (λ l. In l m) (sym ns) i;
        named = λ y i. ⊎_elim
            (λ (z : In log y). inl z)
            (λ (z : In (e ∷ []) y). inr (subst (λ l. In l (caller y)) (sym ns) (own_number v (caller y) (num ∙ ap Some (sym names ∙ ap caller (In-one e y z))))))
            (In-cases log (e ∷ []) y i);
        home = λ _. (k, set_here s.homes 0 (some (Some k)) (omega arith), subst (stands k.value) ends stand, root_is);
        away = λ j u h y. ⊎_elim
            (λ (z : (j ≡ id) × (w ≡ u)). absurd (true≢false (sym y ∙ ap (λ (q : View S E). q.in_turn) (sym z.1))))
            (λ (z : (j ≢ id) × (get_elem? s.views j ≡ some u)). absurd (z.0 (r.tickets j id x u v z.1 at ((r.fits j u z.1).turn y).1 t.1)))
            (at_set s.views id j w u h);
        spare = others_spare s r (some (Some k));
      }) in (
        w,
        gives,
        tt,
        subst (λ (z : List (ℕ × Option (Kept S E))). R (stepped s 1 ((x + 1) % 2 ^ 64) id z w gives)) (sym holds) after,
        (λ k2 e2 is2 last2.
            let same_k : k ≡ k2 = held_same held k k2 holds is2 in
            let same_e : e ≡ e2 = some_same e e2 (sym last ∙ ap (λ (z : Kept S E). option_map (λ (y : Snapshot E). y.value) z.last) same_k ∙ last2) in
            λ i. (record v { seen = v.seen ++ same_e i ∷ []; ticket = None; in_turn = false }, ap Rattle.atomic_table.specs.Table.rest holds i)),
      )

  pub numbers_it : (slots id k next : ℕ) (me : Seated S E) → me.0.number ≡ None → 0 < me.0.parts → k < all_passes → next ≡ k + 1
      → Allows R slots id me 2 (λ x. either (eqb x k) next x) (numbered (step slots 2 k next none) me)
  numbers_it slots id k next me blank some_part room_for is_next s r size at small =
      let v = me.0 in
      let x = get_or s.words 2 0 in
      let f = r.fits id v at in
      dite (ℕ_discrete x k)
      (λ hit.
      let w : View S E = record v { number = Some x } in
      let ws = set s.words 2 next in
      let w2 : get_or ws 2 0 ≡ next = get_or-set_same s.words 2 next 0 (omega (arith, r.wide)) in
      let w0 : get_or ws 0 0 ≡ get_or s.words 0 0 = get_or-set_other s.words 2 0 next 0 (λ e. omega arith) in
      let w1 : get_or ws 1 0 ≡ get_or s.words 1 0 = get_or-set_other s.words 2 1 next 0 (λ e. omega arith) in
      let g = grows r.log (get_or s.words 0 0) (get_or s.words 1 0) x (get_or ws 0 0) (get_or ws 1 0) (get_or ws 2 0) v w1 (omega arith) (omega arith) f in
      let unnamed : entries_by caller x r.log ≡ [] = by-none caller x r.log (λ e i eq. let q = r.callers e i in let b = below s r q.0 (caller e) q.1 q.2 q.3 in omega (arith, b.0)) in (
        w,
        keeps,
        tt,
        subst (λ b. R (record { words = set s.words 2 (either b next x); homes = s.homes; views = set s.views id w })) (sym (eq-eqb x k hit))
            (moved stands caller same first_root all_passes s r id v w ws s.homes r.log at (record {
              wide = omega (arith, length-set s.words 2 next, r.wide);
              serving = w1 ∙ r.serving;
              order = (let a = r.order in omega arith);
              made = omega arith;
              room = omega arith;
              parts = refl;
              mine = record {
                prefix = f.prefix;
                turn = g.turn;
                drawn = λ t h. let q = g.drawn t h in (q.0, q.1, q.2, (x, refl));
                known = λ n l i. ⊎_elim
                    (λ (y : In v.taken (n, l)). g.known n l (In-left v.taken (own v.number v.seen) (n, l) y))
                    (λ (y : In (own (Some x) v.seen) (n, l)).
                    let o = own_in (Some x) v.seen n l y in
                    let e : x ≡ n = some_same x n o.0 in (
                      omega arith,
                      some_part,
                      subst (λ z. IsPrefixOf z v.seen) o.1 (prefix-refl v.seen),
                      subst (λ z. entries_by caller z r.log ≡ entries_by caller z l) e (unnamed ∙ sym (ap (entries_by caller x) (sym o.1) ∙ by-prefix_none caller x v.seen r.log f.prefix unnamed)),
                    ))
                    (In-cases v.taken (own (Some x) v.seen) (n, l) i);
                distinct =
                    let taken = map (λ (z : ℕ × List E). z.0) v.taken in
                    let split = map-append (λ (z : ℕ × List E). z.0) v.taken (own v.number v.seen) in
                    subst AreDistinct (sym (map-append (λ (z : ℕ × List E). z.0) v.taken (own (Some x) v.seen)))
                    (distinct-append taken (x ∷ []) (distinct-left taken (map (λ (z : ℕ × List E). z.0) (own v.number v.seen)) (subst AreDistinct split f.distinct)) ((λ h. h), tt)
                    (λ n i one. let b = below s r id n v at (subst (λ l. In l n) (sym split) (In-left taken (map (λ (z : ℕ × List E). z.0) (own v.number v.seen)) n i)) in let e : x ≡ n = In-one x n one in omega (arith, b.0)));
                low = g.low;
                low_try = g.low_try;
                rooted = f.rooted;
              };
              others = λ j u ne h. grows r.log (get_or s.words 0 0) (get_or s.words 1 0) x (get_or ws 0 0) (get_or ws 1 0) (get_or ws 2 0) u w1 (omega arith) (omega arith) (r.fits j u h);
              tickets = λ t h. inl h;
              drawn = λ t a b. inl (omega arith, omega arith, λ h. h);
              fresh = λ n i.
                  let m = In-map_from (λ (z : ℕ × List E). z.0) (v.taken ++ own (Some x) v.seen) n i in ⊎_elim
                  (λ (y : In v.taken m.0). inl (subst (In (numbers v)) m.2 (In-map (λ (z : ℕ × List E). z.0) (records v) m.0 (In-left v.taken (own v.number v.seen) m.0 y))))
                  (λ (y : In (own (Some x) v.seen) m.0). inr (λ j u here inside.
                  let e : x ≡ n = ap (λ (z : ℕ × List E). z.0) (In-one (x, v.seen) m.0 y) ∙ m.2 in
                  let b = below s r j n u here inside in omega (arith, b.0)))
                  (In-cases v.taken (own (Some x) v.seen) m.0 m.1);
              kept = λ n i.
                  let m = In-map_from (λ (z : ℕ × List E). z.0) (records v) n i in ⊎_elim
                  (λ (y : In v.taken m.0). subst (In (numbers w)) m.2 (In-map (λ (z : ℕ × List E). z.0) (records w) m.0 (In-left v.taken (own (Some x) v.seen) m.0 y)))
                  (λ (y : In (own v.number v.seen) m.0). absurd (not_some m.0.0 (sym blank ∙ (own_in v.number v.seen m.0.0 m.0.1 y).0)))
                  (In-cases v.taken (own v.number v.seen) m.0 m.1);
              named = λ e i. inl i;
              home = λ all. r.home (still s id v w at refl all);
              away = still_away s r id v w at refl;
              spare = r.spare;
            })),
        (λ _. refl),
      ))
      (λ miss. (
        v,
        keeps,
        tt,
        subst (λ b. R (record { words = set s.words 2 (either b next x); homes = s.homes; views = set s.views id v })) (sym (ne_eqb x k miss))
            (same_words s id 2 s.homes v (marks s r id v v at f refl refl refl refl refl refl)),
        (λ hit. absurd (miss hit)),
      ))

  -- the view of a part that is cut off has no ticket and no number
  older : (s : St) (id : ℕ) (v : View S E) (P : View S E → Type 0) → get_elem? s.views id ≡ some v → (P (cut v) → ⊥) → (P (cut_from v) → P v) → (j : ℕ) (u : View S E)
      → get_elem? (set s.views id (cut_from v) ++ cut v ∷ []) j ≡ some u → P u → (x : View S E) × (get_elem? s.views j ≡ some x) × P x
  older s id v P at none_here back j u h p = ⊎_elim
      (λ (a : get_elem? (set s.views id (cut_from v)) j ≡ some u). ⊎_elim
      (λ (b : (j ≡ id) × (cut_from v ≡ u)). (v, ap (get_elem? s.views) b.0 ∙ at, back (subst P (sym b.1) p)))
      (λ (b : (j ≢ id) × (get_elem? s.views j ≡ some u)). (u, b.1, p))
      (at_set s.views id j (cut_from v) u a))
      (λ (a : cut v ≡ u). absurd (none_here (subst P (sym a) p)))
      (at_snoc (set s.views id (cut_from v)) (cut v) u j h)

  newer : (s : St) (id : ℕ) (v : View S E) (P : View S E → Type 0) → get_elem? s.views id ≡ some v → (P v → P (cut_from v)) → (j : ℕ) (u : View S E) → get_elem? s.views j ≡ some u → P u
      → (i : ℕ) × (x : View S E) × (get_elem? (set s.views id (cut_from v) ++ cut v ∷ []) i ≡ some x) × P x
  newer s id v P at keep j u h p = let q = stays stands caller same first_root all_passes s id v (cut_from v) P at keep j u h p (ℕ_discrete j id) in
      (q.0, q.1, at_longer (set s.views id (cut_from v)) (cut v ∷ []) q.0 q.1 q.2, q.3)

  pub splits : (id : ℕ) (v : View S E) → v.number ≡ None → v.taken ≡ [] → 0 < v.parts → turns_of_a_pass ≤ v.left → Splits R id v (cut_from v) (cut v)
  splits id v blank empty some_part turns s r at =
      let f = r.fits id v at in
      let F' = F r.log (get_or s.words 0 0) (get_or s.words 1 0) (get_or s.words 2 0) in
      let views' = set s.views id (cut_from v) ++ cut v ∷ [] in
      let nothing : (n : ℕ) (l : List E) → In (records v) (n, l) → ⊥ = λ n l i. ⊎_elim
      (λ (y : In v.taken (n, l)). subst (λ (z : List (ℕ × List E)). In z (n, l)) empty y)
      (λ (y : In (own v.number v.seen) (n, l)). not_some n (sym blank ∙ (own_in v.number v.seen n l y).0))
      (In-cases v.taken (own v.number v.seen) (n, l) i) in
      let no_ticket : (t : ℕ) → v.ticket ≡ Some t → ⊥ = λ t h. let n = (f.drawn t h).3 in not_some n.0 (sym blank ∙ n.1) in
      record {
        log = r.log;
        wide = r.wide;
        serving = r.serving;
        order = r.order;
        made = r.made;
        room = (let a = total-set (λ (u : View S E). u.left) s.views id v (cut_from v) at in let b = total-snoc (λ (u : View S E). u.left) (set s.views id (cut_from v)) (cut v) in let c = r.room in omega arith);
        bound = (let a = total-set (λ (u : View S E). u.left) s.views id v (cut_from v) at in let b = total-snoc (λ (u : View S E). u.left) (set s.views id (cut_from v)) (cut v) in let c = r.bound in omega arith);
        parts = (let a = total-set (λ (u : View S E). u.parts) s.views id v (cut_from v) at in let b = total-snoc (λ (u : View S E). u.parts) (set s.views id (cut_from v)) (cut v) in let c = r.parts in omega arith);
        fits = λ j u h. ⊎_elim
            (λ (a : get_elem? (set s.views id (cut_from v)) j ≡ some u). ⊎_elim
            (λ (b : (j ≡ id) × (cut_from v ≡ u)). subst F' b.1 (record {
              prefix = f.prefix;
              turn = f.turn;
              drawn = λ t e. absurd (no_ticket t e);
              known = λ n l i. absurd (nothing n l i);
              distinct = f.distinct;
              low = f.low;
              low_try = f.low_try;
              rooted = f.rooted;
            }))
            (λ (b : (j ≢ id) × (get_elem? s.views j ≡ some u)). r.fits j u b.1)
            (at_set s.views id j (cut_from v) u a))
            (λ (a : cut v ≡ u). subst F' a (record {
              prefix = f.prefix;
              turn = λ t. absurd (true≢false (sym t));
              drawn = λ t e. absurd (not_some t e);
              known = λ n l i. absurd i;
              distinct = tt;
              low = f.low;
              low_try = f.low_try;
              rooted = f.rooted;
            }))
            (at_snoc (set s.views id (cut_from v)) (cut v) u j h);
        tickets = λ i j t a b ai bj ta tb.
            let x = older s id v (λ u. u.ticket ≡ Some t) at (λ h. not_some t h) (λ h. h) i a ai ta in
            let y = older s id v (λ u. u.ticket ≡ Some t) at (λ h. not_some t h) (λ h. h) j b bj tb in
            r.tickets i j t x.0 y.0 x.1 y.1 x.2 y.2;
        all_drawn = λ t a b. let q = r.all_drawn t a b in newer s id v (λ u. u.ticket ≡ Some t) at (λ h. h) q.0 q.1 q.2 q.3;
        apart = λ i j n a b ai bj ia ib.
            let x = older s id v (λ u. In (numbers u) n) at (λ h. h) (λ h. h) i a ai ia in
            let y = older s id v (λ u. In (numbers u) n) at (λ h. h) (λ h. h) j b bj ib in
            r.apart i j n x.0 y.0 x.1 y.1 x.2 y.2;
        callers = λ e i. let q = r.callers e i in newer s id v (λ u. In (numbers u) (caller e)) at (λ h. h) q.0 q.1 q.2 q.3;
        home = λ all. r.home (still s id v (cut_from v) at refl (λ j u h. all j u (at_longer (set s.views id (cut_from v)) (cut v ∷ []) j u h)));
        away = λ j u h t. let x = older s id v (λ u. u.in_turn ≡ true) at (λ h. true≢false (sym h)) (λ h. h) j u h t in r.away j x.0 x.1 x.2;
        spare = r.spare;
      }

  module _ (s : St) (r : R s) (id other : ℕ) (v w : View S E) (at : get_elem? s.views id ≡ some v) (apart : ¬ (other ≡ id)) (there : get_elem? s.views other ≡ some w) where
    abbrev after : List (View S E)
    after = set (set s.views id (merged v w)) other spent

    -- what is in the list of views once one was joined
    after_at : (j : ℕ) (u : View S E) → get_elem? after j ≡ some u → ((j ≡ other) × (spent ≡ u)) ⊎ (((j ≡ id) × (merged v w ≡ u)) ⊎ ((j ≢ id) × (j ≢ other) × (get_elem? s.views j ≡ some u)))
    after_at j u h = ⊎_elim
        (λ (a : (j ≡ other) × (spent ≡ u)). inl a)
        (λ (a : (j ≢ other) × (get_elem? (set s.views id (merged v w)) j ≡ some u)). inr (⊎_elim
        (λ (b : (j ≡ id) × (merged v w ≡ u)). inl b)
        (λ (b : (j ≢ id) × (get_elem? s.views j ≡ some u)). inr (b.0, a.0, b.1))
        (at_set s.views id j (merged v w) u a.1)))
        (at_set (set s.views id (merged v w)) other j spent u h)

    here_now : get_elem? after id ≡ some (merged v w)
    here_now = set_else (set s.views id (merged v w)) other id spent (λ e. apart (sym e)) ∙ set_here s.views id (merged v w) (at_less s.views id v at)

    else_now : (j : ℕ) (u : View S E) → j ≢ id → j ≢ other → get_elem? s.views j ≡ some u → get_elem? after j ≡ some u
    else_now j u a b h = set_else (set s.views id (merged v w)) other j spent b ∙ set_else s.views id j (merged v w) a ∙ h

    -- who has a number had it before, or has it from the other
    origin : (P : View S E → Type 0) → (P spent → ⊥) → (P (merged v w) → P v ⊎ P w) → (j : ℕ) (u : View S E) → get_elem? after j ≡ some u → P u
        → (k : ℕ) × (x : View S E) × (get_elem? s.views k ≡ some x) × P x × ((j ≡ k) ⊎ ((j ≡ id) × (k ≡ other))) × (j ≢ other)
    origin P none_here back j u h p = ⊎_elim
        (λ (a : (j ≡ other) × (spent ≡ u)). absurd (none_here (subst P (sym a.1) p)))
        (λ (a : ((j ≡ id) × (merged v w ≡ u)) ⊎ ((j ≢ id) × (j ≢ other) × (get_elem? s.views j ≡ some u))). ⊎_elim
        (λ (b : (j ≡ id) × (merged v w ≡ u)).
        let off : j ≢ other = λ e. apart (sym e ∙ b.0) in ⊎_elim
        (λ (c : P v). (id, v, at, c, inl b.0, off))
        (λ (c : P w). (other, w, there, c, inr (b.0, refl), off))
        (back (subst P (sym b.1) p)))
        (λ (b : (j ≢ id) × (j ≢ other) × (get_elem? s.views j ≡ some u)). (j, u, b.2, p, inl refl, b.1))
        a)
        (after_at j u h)

    one_owner : (P : View S E → Type 0) → (P spent → ⊥) → (P (merged v w) → P v ⊎ P w)
        → ((i j : ℕ) (a b : View S E) → get_elem? s.views i ≡ some a → get_elem? s.views j ≡ some b → P a → P b → i ≡ j)
        → (i j : ℕ) (a b : View S E) → get_elem? after i ≡ some a → get_elem? after j ≡ some b → P a → P b → i ≡ j
    one_owner P none_here back one i j a b ai bj pa pb =
        let x = origin P none_here back i a ai pa in
        let y = origin P none_here back j b bj pb in
        let k = one x.0 y.0 x.1 y.1 x.2 y.2 x.3 y.3 in ⊎_elim
        (λ (c : i ≡ x.0). ⊎_elim
        (λ (d : j ≡ y.0). c ∙ k ∙ sym d)
        (λ (d : (j ≡ id) × (y.0 ≡ other)). absurd (x.5 (c ∙ k ∙ d.1)))
        y.4)
        (λ (c : (i ≡ id) × (x.0 ≡ other)). ⊎_elim
        (λ (d : j ≡ y.0). absurd (y.5 (d ∙ sym k ∙ c.1)))
        (λ (d : (j ≡ id) × (y.0 ≡ other)). c.0 ∙ sym d.0)
        y.4)
        x.4

    -- who had it has it, or the one that took over
    heir : (P : View S E → Type 0) → (P v → P (merged v w)) → (P w → P (merged v w)) → (j : ℕ) (u : View S E) → get_elem? s.views j ≡ some u → P u
        → (k : ℕ) × (x : View S E) × (get_elem? after k ≡ some x) × P x
    heir P left right j u h p = dite (ℕ_discrete j id)
        (λ e. (id, merged v w, here_now, left (subst P (one_at s.views id u v (ap (get_elem? s.views) (sym e) ∙ h) at) p)))
        (λ ne. dite (ℕ_discrete j other)
        (λ e. (id, merged v w, here_now, right (subst P (one_at s.views other u w (ap (get_elem? s.views) (sym e) ∙ h) there) p)))
        (λ ne2. (j, u, else_now j u ne ne2 h, p)))

    no_turn : (u : View S E) → F r.log (get_or s.words 0 0) (get_or s.words 1 0) (get_or s.words 2 0) u → u.ticket ≡ None → u.in_turn ≡ false
    no_turn u f blank = bool_false u.in_turn (λ t. not_some (get_or s.words 1 0) (sym blank ∙ (f.turn t).1))

    join_kept : v.ticket ≡ None → w.ticket ≡ None → R (record { words = s.words; homes = s.homes; views = after })
    join_kept blank blank2 =
        let f = r.fits id v at in
        let g = r.fits other w there in
        let F' = F r.log (get_or s.words 0 0) (get_or s.words 1 0) (get_or s.words 2 0) in
        let first = set s.views id (merged v w) in
        let there2 : get_elem? first other ≡ some w = set_else s.views id other (merged v w) apart ∙ there in
        record {
          log = r.log;
          wide = r.wide;
          serving = r.serving;
          order = r.order;
          made = r.made;
          room = (let a = total-set (λ (u : View S E). u.left) s.views id v (merged v w) at in let b = total-set (λ (u : View S E). u.left) first other w spent there2 in let c = r.room in omega arith);
          bound = (let a = total-set (λ (u : View S E). u.left) s.views id v (merged v w) at in let b = total-set (λ (u : View S E). u.left) first other w spent there2 in let c = r.bound in omega arith);
          parts = (let a = total-set (λ (u : View S E). u.parts) s.views id v (merged v w) at in let b = total-set (λ (u : View S E). u.parts) first other w spent there2 in let c = r.parts in omega arith);
          fits = λ j u h. ⊎_elim
              (λ (a : (j ≡ other) × (spent ≡ u)). subst F' a.1 (record {
                prefix = (r.log, refl);
                turn = λ t. absurd (true≢false (sym t));
                drawn = λ t e. absurd (not_some t e);
                known = λ n l i. absurd i;
                distinct = tt;
                low = omega arith;
                low_try = omega arith;
                rooted = λ x e. absurd (let z : None ≡ Some x = e in cc);
              }))
              (λ (a : ((j ≡ id) × (merged v w ≡ u)) ⊎ ((j ≢ id) × (j ≢ other) × (get_elem? s.views j ≡ some u))). ⊎_elim
              (λ (b : (j ≡ id) × (merged v w ≡ u)). subst F' b.1 (record {
                prefix = prefix-longer v.seen w.seen r.log f.prefix g.prefix;
                turn = λ t. absurd (true≢false (sym t ∙ no_turn v f blank));
                drawn = λ t e. absurd (not_some t (sym blank ∙ e));
                known = λ n l i. ⊎_elim
                    (λ (y : In (records v ++ records w) (n, l)). ⊎_elim
                    (λ (c : In (records v) (n, l)). let q = f.known n l c in
                    (q.0, omega (arith, q.1), prefix-trans l v.seen (longer v.seen w.seen) q.2 (prefix-left v.seen w.seen r.log f.prefix g.prefix), q.3))
                    (λ (c : In (records w) (n, l)). let q = g.known n l c in
                    (q.0, omega (arith, q.1), prefix-trans l w.seen (longer v.seen w.seen) q.2 (prefix-right v.seen w.seen r.log f.prefix g.prefix), q.3))
                    (In-cases (records v) (records w) (n, l) y))
                    (λ (y : ⊥). absurd y)
                    (In-cases (records v ++ records w) [] (n, l) i);
                distinct = subst AreDistinct (sym (numbers_merged v w)) (distinct-append (numbers v) (numbers w) f.distinct g.distinct (λ n a b. apart (sym (r.apart id other n v w at there a b))));
                low = f.low;
                low_try = f.low_try;
                rooted = f.rooted;
              }))
              (λ (b : (j ≢ id) × (j ≢ other) × (get_elem? s.views j ≡ some u)). r.fits j u b.2)
              a)
              (after_at j u h);
          tickets = λ i j t a b. one_owner (λ u. u.ticket ≡ Some t) (λ h. not_some t h) (λ h. inl h) (λ i j a b. r.tickets i j t a b) i j a b;
          all_drawn = λ t a b. let q = r.all_drawn t a b in heir (λ u. u.ticket ≡ Some t) (λ h. h) (λ h. absurd (not_some t (sym blank2 ∙ h))) q.0 q.1 q.2 q.3;
          apart = λ i j n a b. one_owner (λ u. In (numbers u) n) (λ h. h) (record_numbers v w n) (λ i j a b. r.apart i j n a b) i j a b;
          callers = λ e i. let q = r.callers e i in heir (λ u. In (numbers u) (caller e)) (numbers_left v w (caller e)) (numbers_right v w (caller e)) q.0 q.1 q.2 q.3;
          home = λ all. r.home (λ j u h. dite (ℕ_discrete j id)
              (λ e. no_turn u (r.fits j u h) (ap (λ (x : View S E). x.ticket) (one_at s.views id u v (ap (get_elem? s.views) (sym e) ∙ h) at) ∙ blank))
              (λ ne. dite (ℕ_discrete j other)
              (λ e. no_turn u (r.fits j u h) (ap (λ (x : View S E). x.ticket) (one_at s.views other u w (ap (get_elem? s.views) (sym e) ∙ h) there) ∙ blank2))
              (λ ne2. all j u (else_now j u ne ne2 h))));
          away = λ j u h t. let x = origin (λ u. u.in_turn ≡ true) (λ h. true≢false (sym h)) (λ h. inl h) j u h t in r.away x.0 x.1 x.2 x.3;
          spare = r.spare;
        }

  pub joins : (id other : ℕ) (v w : View S E) → v.ticket ≡ None → w.ticket ≡ None → Joins R id v other w (merged v w) spent
  joins id other v w blank blank2 s r at apart there = join_kept s r id other v w at apart (sym (set_else s.views id other (merged v w) apart) ∙ there) blank blank2

  pub opens : (y : S) → y ≡ first_root → all_passes < 32768 → stands y [] → same first_root y → R (opening (replicate 16 0) (Some (record { value = y; last = None }) ∷ None ∷ None ∷ None ∷ []) (newcomer first_root all_passes))
  opens y is few stand root_is =
      let only : (j : ℕ) (u : View S E) → get_elem? (newcomer first_root all_passes ∷ []) j ≡ some u → newcomer first_root all_passes ≡ u = λ j u h. ⊎_elim
      (λ (x : get_elem? {A = View S E} [] j ≡ some u). absurd (some-ne-none u (sym x)))
      (λ (x : newcomer first_root all_passes ≡ u). x)
      (at_snoc [] (newcomer first_root all_passes) u j h) in record {
        log = [];
        wide = omega arith;
        serving = refl;
        order = omega arith;
        made = omega arith;
        room = omega arith;
        bound = omega arith;
        parts = omega arith;
        fits = λ j u h. subst (F [] 0 0 0) (only j u h) (record {
          prefix = ([], refl);
          turn = λ t. absurd (true≢false (sym t));
          drawn = λ t e. absurd (not_some t e);
          known = λ n l i. absurd i;
          distinct = tt;
          low = omega arith;
          low_try = omega arith;
          rooted = λ x e. (sym (some_same first_root x e), refl);
        });
        tickets = λ i j t a b ai bj ta tb. absurd (not_some t (ap (λ (x : View S E). x.ticket) (only i a ai) ∙ ta));
        all_drawn = λ t a b. absurd (omega arith);
        apart = λ i j n a b ai bj ia ib. absurd (subst (λ (x : View S E). In (numbers x) n) (sym (only i a ai)) ia);
        callers = λ e i. absurd i;
        home = λ _. (record { value = y; last = None }, refl, stand, root_is);
        away = λ j u h t. absurd (true≢false (sym t ∙ ap (λ (x : View S E). x.in_turn) (sym (only j u h))));
        spare = three_spare (some (Some (record { value = y; last = None })));
      }

  -- what the last state says to a view that has every part
  pub closes : (s : St) (r : R s) (id : ℕ) (v : View S E) → get_elem? s.views id ≡ some v → v.ticket ≡ None → all_passes ≤ v.parts
      → (k : Kept S E) × (get_elem? s.homes 0 ≡ some (some (Some k))) × stands k.value v.seen × same first_root k.value × (get_or s.words 1 0 ≡ length v.seen)
      × ((n : ℕ) (l : List E) → In (records v) (n, l) → IsPrefixOf l v.seen × (entries_by caller n v.seen ≡ entries_by caller n l)) × ((e : E) → In v.seen e → In (numbers v) (caller e) × (caller e < all_passes))
  closes s r id v at blank all =
      let f = r.fits id v at in
      let no_part : (j : ℕ) (u : View S E) → j ≢ id → get_elem? s.views j ≡ some u → 0 < u.parts → ⊥ = λ j u ne h p.
      let t = total-two (λ (x : View S E). x.parts) s.views id j v u at h (λ e. ne (sym e)) in let a = r.parts in omega arith in
      let none_in : (j : ℕ) (u : View S E) → get_elem? s.views j ≡ some u → u.in_turn ≡ false = λ j u h. bool_false u.in_turn (λ t.
      let g = r.fits j u h in
      let tick = (g.turn t).1 in dite (ℕ_discrete j id)
      (λ e. not_some (get_or s.words 1 0) (sym blank ∙ ap (λ (x : View S E). x.ticket) (one_at s.views id v u at (ap (get_elem? s.views) (sym e) ∙ h)) ∙ tick))
      (λ ne. no_part j u ne h (g.drawn (get_or s.words 1 0) tick).2)) in
      let h = r.home none_in in
      let names : (e : E) → In r.log e → In (numbers v) (caller e) = λ e i.
      let q = r.callers e i in dite (ℕ_discrete q.0 id)
      (λ eq. subst (λ (x : View S E). In (numbers x) (caller e)) (one_at s.views id q.1 v (ap (get_elem? s.views) (sym eq) ∙ q.2) at) q.3)
      (λ ne. absurd (no_part q.0 q.1 ne q.2 (below s r q.0 (caller e) q.1 q.2 q.3).1)) in
      let whole : r.log ≡ v.seen = by-whole caller v.seen r.log f.prefix (λ e i.
      let m = In-map_from (λ (z : ℕ × List E). z.0) (records v) (caller e) (names e i) in
      let q = f.known m.0.0 m.0.1 m.1 in
      let seen_all = by-between caller m.0.0 m.0.1 v.seen r.log q.2 f.prefix q.3 in
      subst (λ n. entries_by caller n r.log ≡ entries_by caller n v.seen) m.2 seen_all) in (
        h.0,
        h.1,
        subst (stands h.0.value) whole h.2,
        h.3,
        r.serving ∙ ap length whole,
        (λ n l i. let q = f.known n l i in (q.2, ap (entries_by caller n) (sym whole) ∙ q.3)),
        (λ e i. let n = names e (subst (λ l. In l e) (sym whole) i) in let b = (below s r id (caller e) v at n).0 in let m = r.made in (n, omega arith)),
      )

  get_word : (ws : List ℕ) (i n : ℕ) → get_elem? ws i ≡ some n → get_or ws i 0 ≡ n
  get_word [] i n e = absurd (some-ne-none n (sym e))
  get_word (x ∷ ws) zero n e = some-injective x n e
  get_word (x ∷ ws) (suc i) n e = get_word ws i n e

  pub ending : (id : ℕ) (v : View S E) (ws : List ℕ) (xs : List (Option (Kept S E))) (turns : ℕ) (x : Option (Kept S E)) → Final (Seen R id v) ws xs → v.ticket ≡ None → all_passes ≤ v.parts
      → get_elem? ws 1 ≡ some turns → get_elem? xs 0 ≡ some x → (k : Kept S E) × (x ≡ Some k) × IsLast stands caller same first_root all_passes v k.value turns
  ending id v ws xs turns x last blank all word slot =
      let c = closes last.0 last.1.0 id v last.1.1 blank all in
      let k = c.0 in (
        k,
        some-injective x (Some k) (sym slot ∙ last.4 0 (Some k) c.1),
        record {
          value_stands = c.2;
          rooted = c.3;
          counted = sym (get_word ws 1 turns word) ∙ sym (ap (λ l. get_or l 1 0) last.2) ∙ c.4;
          few = (let r = last.1.0 in let o = r.order in let b = r.bound in let t = ap (λ l. get_or l 1 0) last.2 ∙ get_word ws 1 turns word in omega (arith, o, b, t));
          all_mine = c.5;
          named = c.6;
        },
      )

  pub ending_spare : (id : ℕ) (v : View S E) (ws : List ℕ) (xs : List (Option (Kept S E))) → Final (Seen R id v) ws xs → (k : ℕ) → 0 < k → k < length xs → get_elem? xs k ≡ some None
  ending_spare id v ws xs last k pos lt = last.4 k None (last.1.0.spare k pos (omega (arith, last.3)))
