-- How passes are joined, and what the last view tells of them.
use Rattle.std.proofs.Common.{◌≡◌, inl, inr, ⊎_elim, ℕ, zero, suc, ◌<◌, List, [], ◌∷◌, ◌++◌, map, length, get_or, Some, refl, sym, ap, ◌∙◌, subst, arith, length-append}
use Rattle.std.specs.List.{All, Contains}
use Rattle.turn_cell.specs.declared.pass.Pass.{Pass}
use Rattle.turn_cell.specs.declared.cell.TurnCell.{TurnCell}
use Rattle.turn_cell.specs.declared.close.ClosedCell.{ClosedCell}
use Rattle.turn_cell.specs.Rules.{In, Seated, IsLast, records, numbers, own, merged}
use Rattle.turn_cell.specs.Turns.{IsPassOf, IsGathered, Closed, root_of, passes_of, seen}
use Rattle.turn_cell.proofs.Lists.{In-left, In-right, In-cases, In-one, In-map, In-map_from}
use Rattle.turn_cell.proofs.Steps.{has_own, own_in, record_numbers, some_same}

module _ {A : Type 0} where
  In-place : (xs : List A) (x d : A) → In xs x → (k : ℕ) × (k < length xs) × (get_or xs k d ≡ x)
  In-place [] x d i = absurd i
  In-place (y ∷ xs) x d i = ⊎_elim
      (λ (e : y ≡ x). (zero, omega arith, e))
      (λ (h : In xs x). let r = In-place xs x d h in (suc r.0, (let a = r.1 in omega arith), r.2)) i

  In-at : (xs : List A) (k : ℕ) (d : A) → k < length xs → In xs (get_or xs k d)
  In-at [] k d h = absurd (omega arith)
  In-at (y ∷ xs) zero d h = inl refl
  In-at (y ∷ xs) (suc k) d h = inr (In-at xs k d (omega arith))

  All-In : (P : A → Type 0) (xs : List A) (x : A) → All P xs → In xs x → P x
  All-In P xs x all i = let r = In-place xs x x i in subst P r.2 (all r.0 x r.1)

  Contains-In : (xs : List A) (x : A) → In xs x → Contains xs x
  Contains-In xs x i = In-place xs x x i

module _ {S E : Type 0} where
  -- a pass at rest has one record
  own_record : (c : TurnCell S E) (p : Pass S E) → IsPassOf c p → In (records p.seat.me.0) (p.number, seen p)
  own_record c p o = has_own p.seat.me.0 p.number o.1.number_is

  own_numbers : (c : TurnCell S E) (p : Pass S E) (n : ℕ) → IsPassOf c p → In (numbers p.seat.me.0) n → p.number ≡ n
  own_numbers c p n o i =
      let v = p.seat.me.0 in
      let m = In-map_from (λ (z : ℕ × List E). z.0) (records v) n i in ⊎_elim
      (λ (y : In v.taken m.0). absurd (subst (λ (z : List (ℕ × List E)). In z m.0) o.1.taken y))
      (λ (y : In (own v.number v.seen) m.0). some_same p.number n (sym o.1.number_is ∙ (own_in v.number v.seen m.0.0 m.0.1 y).0 ∙ ap Some m.2))
      (In-cases v.taken (own v.number v.seen) m.0 m.1)

  pub gather_first : (c : TurnCell S E) (ps rest : List (Pass S E)) (p : Pass S E) → All (IsPassOf c) ps → ps ≡ rest ++ p ∷ [] → IsGathered ps rest p.seat.me
  gather_first c ps rest p all is =
      let last : In ps p = subst (λ l. In l p) (sym is) (In-right rest (p ∷ []) p (inl refl)) in
      let o = All-In (IsPassOf c) ps p all last in record {
        ticket = o.1.ticket;
        held = o.1.held;
        parts = (let a = ap length is in let b = length-append rest (p ∷ []) in let d = o.1.parts in omega arith);
        all = λ q i. ⊎_elim
            (λ (y : In rest q). inl y)
            (λ (y : In (p ∷ []) q). inr (subst (λ z. In (records p.seat.me.0) (z.number, seen z)) (In-one p q y) (own_record c p o)))
            (In-cases rest (p ∷ []) q (subst (λ l. In l q) is i));
        named = λ n i. subst (In (map (λ (z : Pass S E). z.number) ps)) (own_numbers c p n o i) (In-map (λ (z : Pass S E). z.number) ps p last);
        waiting_of = λ q i. subst (λ l. In l q) (sym is) (In-left rest (p ∷ []) q i);
      }

  pub gather_more : (c : TurnCell S E) (ps more rest : List (Pass S E)) (p : Pass S E) (m after : Seated S E) → All (IsPassOf c) ps → IsGathered ps more m → more ≡ rest ++ p ∷ [] → after ≡ (merged m.0 p.seat.me.0, m.1) → IsGathered ps rest after
  gather_more c ps more rest p m after all g is to =
      let last : In ps p = g.waiting_of p (subst (λ l. In l p) (sym is) (In-right rest (p ∷ []) p (inl refl))) in
      let o = All-In (IsPassOf c) ps p all last in
      let v = m.0 in
      let w = p.seat.me.0 in
      let seen_by : (r : ℕ × List E) → In (records (merged v w)) r → In (records after.0) r = λ r i. subst (λ (z : Seated S E). In (records z.0) r) (sym to) i in record {
        ticket = ap (λ z. z.0.ticket) to ∙ g.ticket;
        held = ap (λ z. z.1) to ∙ g.held;
        parts = (let a = ap length is in let b = length-append rest (p ∷ []) in let d = o.1.parts in let e = g.parts in let f = ap (λ (z : Seated S E). z.0.parts) to in omega arith);
        all = λ q i. ⊎_elim
            (λ (y : In more q). ⊎_elim
            (λ (z : In rest q). inl z)
            (λ (z : In (p ∷ []) q). inr (subst (λ x. In (records after.0) (x.number, seen x)) (In-one p q z)
            (seen_by (p.number, seen p) (In-left (records v ++ records w) [] (p.number, seen p) (In-right (records v) (records w) (p.number, seen p) (own_record c p o))))))
            (In-cases rest (p ∷ []) q (subst (λ l. In l q) is y)))
            (λ (y : In (records v) (q.number, seen q)). inr (seen_by (q.number, seen q) (In-left (records v ++ records w) [] (q.number, seen q) (In-left (records v) (records w) (q.number, seen q) y))))
            (g.all q i);
        named = λ n i. ⊎_elim
            (λ (y : In (numbers v) n). g.named n y)
            (λ (y : In (numbers w) n). subst (In (map (λ (z : Pass S E). z.number) ps)) (own_numbers c p n o y) (In-map (λ (z : Pass S E). z.number) ps p last))
            (record_numbers v w n (subst (λ (z : Seated S E). In (numbers z.0) n) to i));
        waiting_of = λ q i. g.waiting_of q (subst (λ l. In l q) (sym is) (In-left rest (p ∷ []) q i));
      }

  pub closed_by : (stands : S → List E → Type 0) (caller : E → ℕ) (same : S → S → Type 0) (c : TurnCell S E) (ps : List (Pass S E)) (m : Seated S E) (left : ClosedCell S)
      → IsGathered ps [] m → IsLast stands caller same (root_of c) (passes_of c) m.0 left.value left.turns → Closed stands caller same c ps left
  closed_by stands caller same c ps m left g l = record {
    history = m.0.seen;
    value_stands = l.value_stands;
    value_root = l.rooted;
    counted = l.counted;
    few = l.few;
    each = λ k d h.
        let p = get_or ps k d in
        let q = ⊎_elim (λ (y : ⊥). absurd y) (λ (y : In (records m.0) (p.number, seen p)). l.all_mine p.number (seen p) y) (g.all p (In-at ps k d h)) in (q.0, sym q.1);
    named = λ k e h.
        let q = l.named (get_or m.0.seen k e) (In-at m.0.seen k e h) in (q.1, Contains-In (map (λ (z : Pass S E). z.number) ps) (caller (get_or m.0.seen k e)) (g.named (caller (get_or m.0.seen k e)) q.0));
  }

  pub waiting_own : (c : TurnCell S E) (ps rest : List (Pass S E)) (p : Pass S E) → All (IsPassOf c) ps → ps ≡ rest ++ p ∷ [] → IsPassOf c p
  waiting_own c ps rest p all is = All-In (IsPassOf c) ps p all (subst (λ l. In l p) (sym is) (In-right rest (p ∷ []) p (inl refl)))

  pub gathered_own : (c : TurnCell S E) (ps more rest : List (Pass S E)) (p : Pass S E) (m : Seated S E) → All (IsPassOf c) ps → IsGathered ps more m → more ≡ rest ++ p ∷ [] → IsPassOf c p
  gathered_own c ps more rest p m all g is = All-In (IsPassOf c) ps p all (g.waiting_of p (subst (λ l. In l p) (sym is) (In-right rest (p ∷ []) p (inl refl))))
