-- How passes are made.
use Rattle.std.proofs.Common.{◌≡◌, ℕ, zero, suc, ◌+◌, ◌-◌, ◌<◌, List, [], ◌∷◌, ◌++◌, length, get_or, Option, Some, refl, sym, ap, ◌∙◌, subst, arith, length-append}
use mathlib.Core.Logic.{dite}
use native.Mathlib.Decide.{ℕ_discrete}
use Rattle.atomic_table.specs.Table.{Step}
use Rattle.turn_cell.specs.declared.rule.Kept.{Kept}
use Rattle.turn_cell.specs.declared.pass.Pass.{Pass}
use Rattle.turn_cell.specs.declared.cell.TurnCell.{TurnCell}
use Rattle.turn_cell.specs.Rules.{Seated, IsOrigin, cut, cut_from, numbered, turns_of_a_pass}
use Rattle.turn_cell.specs.Turns.{IsFresh, AreFresh, root_of, passes_of}

module _ {A : Type 0} where
  get_before : (xs : List A) (x d : A) (k : ℕ) → k < length xs → get_or (xs ++ x ∷ []) k d ≡ get_or xs k d
  get_before [] x d k h = absurd (omega arith)
  get_before (y ∷ xs) x d zero h = refl
  get_before (y ∷ xs) x d (suc k) h = get_before xs x d k (omega arith)

  get_last : (xs : List A) (x d : A) (k : ℕ) → k ≡ length xs → get_or (xs ++ x ∷ []) k d ≡ x
  get_last [] x d zero h = refl
  get_last [] x d (suc k) h = absurd (omega arith)
  get_last (y ∷ xs) x d zero h = absurd (omega arith)
  get_last (y ∷ xs) x d (suc k) h = get_last xs x d k (omega arith)

module _ {S E : Type 0} where
  pub cut_more : (root : S) (passes n : ℕ) (m after : Seated S E) → 0 < n → IsOrigin root passes n m → after ≡ (cut_from m.0, m.1) → IsOrigin root passes (n - 1) after
  cut_more root passes n m after some_left o is = record {
    number = ap (λ x. x.0.number) is ∙ o.number;
    ticket = ap (λ x. x.0.ticket) is ∙ o.ticket;
    out = ap (λ x. x.0.in_turn) is ∙ o.out;
    taken = ap (λ x. x.0.taken) is ∙ o.taken;
    seen = ap (λ x. x.0.seen) is ∙ o.seen;
    root = ap (λ x. x.0.root) is ∙ o.root;
    passes_is = ap (λ x. x.0.passes) is ∙ o.passes_is;
    parts = ap (λ x. x.0.parts) is ∙ ap (λ (k : ℕ). k - 1) o.parts;
    left = (let a = ap (λ (x : Seated S E). x.0.left) is in let b = o.left in omega arith);
    held = ap (λ x. x.1) is ∙ o.held;
  }

  pub fresh_part : (c : TurnCell S E) (n k found : ℕ) (m part : Seated S E) (st : Step (Option (Kept S E))) (p : Pass S E) → IsOrigin (root_of c) (passes_of c) n m → part ≡ (cut m.0, []) → numbered st part found p.seat.me → found ≡ st.first → found ≡ k
      → p.seat.table_id ≡ c.table.shared.table_id → p.number ≡ k → p.left ≡ turns_of_a_pass → IsFresh c k p
  fresh_part c n k found m part st p o is told hit same table number left =
      let e = told hit ∙ ap (λ x. (record x.0 { number = Some found }, x.1)) is in record {
        own = (
          table,
          record {
            number_is = ap (λ x. x.0.number) e ∙ ap Some (same ∙ sym number);
            ticket = ap (λ x. x.0.ticket) e;
            out = ap (λ x. x.0.in_turn) e;
            taken = ap (λ x. x.0.taken) e;
            parts = ap (λ x. x.0.parts) e;
            left_is = ap (λ x. x.0.left) e ∙ sym left;
            root = ap (λ x. x.0.root) e ∙ o.root;
            passes_is = ap (λ x. x.0.passes) e ∙ o.passes_is;
            held = ap (λ x. x.1) e;
          },
        );
        number = number;
        left = left;
        unseen = ap (λ x. x.0.seen) e ∙ o.seen;
      }

  pub fresh_more : (c : TurnCell S E) (ps qs : List (Pass S E)) (p : Pass S E) → AreFresh c ps → IsFresh c (length ps) p → qs ≡ ps ++ p ∷ [] → AreFresh c qs
  fresh_more c ps qs p all one is k d h =
      let n : k < length ps + 1 = (let a = length-append ps (p ∷ []) in let b = ap length is in omega arith) in
      subst (λ xs. IsFresh c k (get_or xs k d)) (sym is) (dite (ℕ_discrete k (length ps))
      (λ e. subst (IsFresh c k) (sym (get_last ps p d k e)) (subst (λ j. IsFresh c j p) (sym e) one))
      (λ ne. subst (IsFresh c k) (sym (get_before ps p d k (omega arith))) (all k d (omega arith))))
