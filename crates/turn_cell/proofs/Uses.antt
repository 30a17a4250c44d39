-- What the calls conclude from what their steps told.
use Rattle.std.proofs.Common.{◌≡◌, ℕ, ◌+◌, ◌*◌, ◌<◌, ◌≤◌, List, [], ◌∷◌, ◌++◌, length, Option, Some, None, false, sym, ap, ◌∙◌, subst, arith}
use Rattle.atomic_table.specs.Table.{Step}
use Rattle.turn_cell.specs.declared.rule.Kept.{Kept}
use Rattle.turn_cell.specs.declared.pass.Pass.{Pass}
use Rattle.turn_cell.specs.declared.cell.TurnCell.{TurnCell}
use Rattle.turn_cell.specs.Rules.{IsPrefixOf, turns_of_a_pass, Seated, entries_by, looked, tried, passed, IsEntered, IsSameButLooks}
use Rattle.turn_cell.proofs.Lists.{by-snoc}
use Rattle.turn_cell.specs.Turns.{IsInTurn, Finished}

module _ {S E : Type 0} (stands : S → List E → Type 0) (caller : E → ℕ) (same : S → S → Type 0) where
  pub entered_at : (st : Step (Option (Kept S E))) (before mid after : Seated S E) (found ticket : ℕ) → before.0.ticket ≡ Some ticket → before.1 ≡ [] → IsSameButLooks before mid → before.0.looks ≤ mid.0.looks
      → looked stands caller same st mid found after → found ≡ ticket → IsEntered stands caller same before after
  entered_at st before mid after found ticket tick empty is more told same_ticket =
      let t = told.1 (ap (λ m. m.0.ticket) is ∙ tick ∙ ap Some (sym same_ticket)) in
      let k = t.0 in
      let h = t.1 in
      let e = t.2 in
      let root : mid.0.root ≡ before.0.root = ap (λ m. m.0.root) is in
      let number : mid.0.number ≡ before.0.number = ap (λ m. m.0.number) is in
      let passes : mid.0.passes ≡ before.0.passes = ap (λ m. m.0.passes) is in
      let seen : mid.0.seen ≡ before.0.seen = ap (λ m. m.0.seen) is in
      let seen' : after.0.seen ≡ h = ap (λ m. m.0.seen) e in record {
        kept = k;
        held = ap (λ m. m.1) e ∙ ap (λ m. (0, Some k) ∷ m.1) is ∙ ap (λ l. (0, Some k) ∷ l) empty;
        in_turn = ap (λ m. m.0.in_turn) e;
        number = ap (λ m. m.0.number) e ∙ number;
        left = ap (λ m. m.0.left) e ∙ ap (λ m. m.0.left) is;
        taken = ap (λ m. m.0.taken) e ∙ ap (λ m. m.0.taken) is;
        parts = ap (λ m. m.0.parts) e ∙ ap (λ m. m.0.parts) is;
        root = ap (λ m. m.0.root) e ∙ root;
        prefix = subst (λ l. IsPrefixOf l after.0.seen) seen (subst (IsPrefixOf mid.0.seen) (sym seen') t.3.0);
        stands_now = subst (stands k.value) (sym seen') t.3.1;
        rooted = λ r x. t.3.2 r (root ∙ x);
        same_mine = λ n x. ap (entries_by caller n) seen' ∙ t.3.3 n (number ∙ x) ∙ ap (entries_by caller n) seen;
        same_passes = ap (λ m. m.0.passes) e ∙ passes;
        few = λ r n x y. subst (λ l. length l < n * turns_of_a_pass) (sym seen') (t.3.4 r n (root ∙ x) (passes ∙ y));
        looks = (let a = ap (λ (m : Seated S E). m.0.looks) e in omega (arith, a, more));
        tries = (let a = ap (λ (m : Seated S E). m.0.tries) e in let b = ap (λ (m : Seated S E). m.0.tries) is in omega (arith, a, b));
      }

  not_some : (n : ℕ) → None ≡ Some n → ⊥
  not_some n e = cc

  pub finished : (c : TurnCell S E) (p q : Pass S E) (st : Step (Option (Kept S E))) (given : Seated S E) (k : Kept S E) (e : E) (n : ℕ)
      → IsInTurn c p → q.seat.table_id ≡ c.table.shared.table_id → q.number ≡ p.number → q.left ≡ p.left → caller e ≡ p.number
      → given ≡ (p.seat.me.0, (0, Some k) ∷ []) → Rattle.std.specs.Prelude.option_map (λ (x : Rattle.std.specs.declared.snapshot.Snapshot.Snapshot E). x.value) k.last ≡ Some e → passed st given n q.seat.me
      → Finished caller c p q e
  finished c p q st given k e n own table number left names is last told =
      let z = told k e (ap (λ m. m.1) is) last ∙ ap (λ m. (record m.0 { seen = m.0.seen ++ e ∷ []; ticket = None; in_turn = false }, [])) is in
      let o = own.1 in record {
        own = (
          table,
          record {
            number_is = ap (λ m. m.0.number) z ∙ o.number_is ∙ ap Some (sym number);
            ticket = ap (λ m. m.0.ticket) z;
            out = ap (λ m. m.0.in_turn) z;
            taken = ap (λ m. m.0.taken) z ∙ o.taken;
            parts = ap (λ m. m.0.parts) z ∙ o.parts;
            left_is = ap (λ m. m.0.left) z ∙ o.left_is ∙ sym left;
            root = ap (λ m. m.0.root) z ∙ o.root;
            passes_is = ap (λ m. m.0.passes) z ∙ o.passes_is;
            held = ap (λ m. m.1) z;
          },
        );
        number = number;
        left = left;
        same_seen = ap (λ m. m.0.seen) z;
        more_mine = ap (λ n. entries_by caller n q.seat.me.0.seen) number ∙ ap (λ m. entries_by caller p.number m.0.seen) z ∙ by-snoc caller p.number p.seat.me.0.seen e names;
        same_looks = (ap (λ m. m.0.looks) z, ap (λ m. m.0.tries) z);
      }

  pub held_slot : (held : List (ℕ × Option (Kept S E))) (x : Option (Kept S E)) → held ≡ (0, x) ∷ [] → held ≡ (0, x) ∷ Rattle.atomic_table.specs.Table.rest held
  held_slot held x e = e ∙ ap (λ l. (0, x) ∷ l) (sym (ap Rattle.atomic_table.specs.Table.rest e))

  -- a look without a ticket begins no turn
  pub blank_look : (st : Step (Option (Kept S E))) (before mid : Seated S E) (found : ℕ) → before.0.ticket ≡ None → looked stands caller same st before found mid
      → mid ≡ (record before.0 { looks = before.0.looks + 1; looked = found }, before.1)
  blank_look st before mid found blank a = a.2 (λ t. not_some found (sym blank ∙ t))

  pub tried_slot : (st : Step (Option (Kept S E))) (mid after : Seated S E) (next : ℕ) → mid.1 ≡ [] → tried stands caller same st mid next after → next ≡ st.first
      → (x : Option (Kept S E)) × (after.1 ≡ (0, x) ∷ Rattle.atomic_table.specs.Table.rest after.1)
  tried_slot st mid after next empty b hit = let t = b.0 hit in (Some t.0, held_slot after.1 (Some t.0) (ap (λ m. m.1) t.2 ∙ ap (λ l. (0, Some t.0) ∷ l) empty))
