-- A step of one seat keeps the rule where its change has these parts.
use Rattle.std.proofs.Common.{◌≡◌, ◌≢◌, ◌⊎◌, ⊎_elim, ℕ, zero, suc, ◌+◌, ◌<◌, ◌≤◌, List, [], ◌∷◌, length, get_or, set, Option, Some, None, true, false, sym, ap, ◌∙◌, subst, arith}
use mathlib.Core.Option as maybe
use mathlib.Core.Option.{none, some, some-injective, some-ne-none}
use native.Mathlib.Decide.{ℕ_discrete}
use lib.ListN.{get_elem?}
use Rattle.atomic_table.specs.Table.{State}
use Rattle.atomic_table.proofs.Lists.{at_set, set_here, set_else}
use Rattle.turn_cell.specs.declared.rule.Kept.{Kept}
use Rattle.turn_cell.specs.declared.rule.View.{View}
use Rattle.turn_cell.specs.Rules.{In, Fits, Rule, numbers}
use Rattle.turn_cell.proofs.Lists.{total-set}

module _ {A : Type 0} where
  pub at_less : (l : List A) (i : ℕ) (a : A) → get_elem? l i ≡ some a → i < length l
  at_less [] i a e = absurd (some-ne-none a (sym e))
  at_less (x ∷ xs) zero a e = omega arith
  at_less (x ∷ xs) (suc i) a e = let r = at_less xs i a e in omega arith

  pub one_at : (l : List A) (i : ℕ) (a b : A) → get_elem? l i ≡ some a → get_elem? l i ≡ some b → a ≡ b
  one_at l i a b e d = some-injective a b (sym e ∙ d)

module _ {S E : Type 0} (stands : S → List E → Type 0) (caller : E → ℕ) (same : S → S → Type 0) (first_root : S) (all_passes : ℕ) where
  abbrev pub St : Type 0
  St = State (Option (Kept S E)) (View S E)

  abbrev pub R : St → Type 0
  R = Rule stands caller same first_root all_passes

  abbrev pub FitsAt : List E → List ℕ → View S E → Type 0
  FitsAt log ws v = Fits caller log first_root all_passes (get_or ws 0 0) (get_or ws 1 0) (get_or ws 2 0) v

  pub record Change (s : St) (log : List E) (id : ℕ) (v w : View S E) (ws : List ℕ) (hs : List (maybe.Option (Option (Kept S E)))) (after : List E) : Type 0 where
    pub wide : 3 ≤ length ws
    pub serving : get_or ws 1 0 ≡ length after
    pub order : get_or ws 1 0 ≤ get_or ws 0 0
    pub made : get_or ws 2 0 ≤ all_passes
    pub room : get_or ws 0 0 + w.left ≤ get_or s.words 0 0 + v.left
    pub parts : w.parts ≡ v.parts
    pub mine : FitsAt after ws w
    pub others : (j : ℕ) (u : View S E) → j ≢ id → get_elem? s.views j ≡ some u → FitsAt after ws u
    pub tickets : (t : ℕ) → w.ticket ≡ Some t → (v.ticket ≡ Some t) ⊎ ((j : ℕ) (u : View S E) → get_elem? s.views j ≡ some u → u.ticket ≢ Some t)
    pub drawn : (t : ℕ) → get_or ws 1 0 ≤ t → t < get_or ws 0 0 → ((get_or s.words 1 0 ≤ t) × (t < get_or s.words 0 0) × (v.ticket ≡ Some t → w.ticket ≡ Some t)) ⊎ (w.ticket ≡ Some t)
    pub fresh : (n : ℕ) → In (numbers w) n → In (numbers v) n ⊎ ((j : ℕ) (u : View S E) → get_elem? s.views j ≡ some u → ¬ (In (numbers u) n))
    pub kept : (n : ℕ) → In (numbers v) n → In (numbers w) n
    pub named : (e : E) → In after e → In log e ⊎ In (numbers w) (caller e)
    pub home : ((j : ℕ) (u : View S E) → get_elem? (set s.views id w) j ≡ some u → u.in_turn ≡ false) → (k : Kept S E) × (get_elem? hs 0 ≡ some (some (Some k))) × stands k.value after × same first_root k.value
    pub away : (j : ℕ) (u : View S E) → get_elem? (set s.views id w) j ≡ some u → u.in_turn ≡ true → get_elem? hs 0 ≡ some none
    pub spare : (k : ℕ) → 0 < k → k < length hs → get_elem? hs k ≡ some (some None)

  -- some view of the old ones that is not replaced, or replaced by one as good
  pub stays : (s : St) (id : ℕ) (v w : View S E) (P : View S E → Type 0) → get_elem? s.views id ≡ some v → (P v → P w) → (j : ℕ) (u : View S E) → get_elem? s.views j ≡ some u → P u
      → Dec (j ≡ id) → (i : ℕ) × (x : View S E) × (get_elem? (set s.views id w) i ≡ some x) × P x
  stays s id v w P at keep j u here p (yes is) = (id, w, set_here s.views id w (at_less s.views id v at), keep (subst P (one_at s.views id u v (ap (get_elem? s.views) (sym is) ∙ here) at) p))
  stays s id v w P at keep j u here p (no not) = (j, u, set_else s.views id j w not ∙ here, p)

  -- what one view at most has stays so
  single : (s : St) (id : ℕ) (v w : View S E) (P : View S E → Type 0) → get_elem? s.views id ≡ some v
      → ((i j : ℕ) (a b : View S E) → get_elem? s.views i ≡ some a → get_elem? s.views j ≡ some b → P a → P b → i ≡ j)
      → (P w → P v ⊎ ((j : ℕ) (u : View S E) → get_elem? s.views j ≡ some u → ¬ (P u)))
      → (i j : ℕ) (a b : View S E) → get_elem? (set s.views id w) i ≡ some a → get_elem? (set s.views id w) j ≡ some b → P a → P b → i ≡ j
  single s id v w P at one new i j a b ai bj pa pb =
      let cross = λ (k : ℕ) (x : View S E) (h : get_elem? s.views k ≡ some x) (pw : P w) (px : P x).
      ⊎_elim (λ (pv : P v). one id k v x at h pv px) (λ (f : (j : ℕ) (u : View S E) → get_elem? s.views j ≡ some u → ¬ (P u)). absurd (f k x h px)) (new pw) in
      ⊎_elim
      (λ (x : (i ≡ id) × (w ≡ a)). ⊎_elim
      (λ (y : (j ≡ id) × (w ≡ b)). x.0 ∙ sym y.0)
      (λ (y : (j ≢ id) × (get_elem? s.views j ≡ some b)). x.0 ∙ cross j b y.1 (subst P (sym x.1) pa) pb)
      (at_set s.views id j w b bj))
      (λ (x : (i ≢ id) × (get_elem? s.views i ≡ some a)). ⊎_elim
      (λ (y : (j ≡ id) × (w ≡ b)). sym (cross i a x.1 (subst P (sym y.1) pb) pa) ∙ sym y.0)
      (λ (y : (j ≢ id) × (get_elem? s.views j ≡ some b)). one i j a b x.1 y.1 pa pb)
      (at_set s.views id j w b bj))
      (at_set s.views id i w a ai)

  pub moved : (s : St) (r : R s) (id : ℕ) (v w : View S E) (ws : List ℕ) (hs : List (maybe.Option (Option (Kept S E)))) (after : List E) → get_elem? s.views id ≡ some v → Change s r.log id v w ws hs after
      → R (record { words = ws; homes = hs; views = set s.views id w })
  moved s r id v w ws hs after at c =
      let here : get_elem? (set s.views id w) id ≡ some w = set_here s.views id w (at_less s.views id v at) in record {
        log = after;
        wide = c.wide;
        serving = c.serving;
        order = c.order;
        made = c.made;
        room = (let t = total-set (λ (u : View S E). u.left) s.views id v w at in let a = r.room in let b = c.room in omega arith);
        bound = (let t = total-set (λ (u : View S E). u.left) s.views id v w at in let a = r.bound in let b = c.room in omega arith);
        parts = (let t = total-set (λ (u : View S E). u.parts) s.views id v w at in let a = r.parts in let b = c.parts in omega arith);
        fits = λ j u h. ⊎_elim
            (λ (x : (j ≡ id) × (w ≡ u)). subst (FitsAt after ws) x.1 c.mine)
            (λ (x : (j ≢ id) × (get_elem? s.views j ≡ some u)). c.others j u x.0 x.1)
            (at_set s.views id j w u h);
        tickets = λ i j t a b. single s id v w (λ u. u.ticket ≡ Some t) at (λ i j a b. r.tickets i j t a b) (c.tickets t) i j a b;
        all_drawn = λ t le lt. ⊎_elim
            (λ (x : (get_or s.words 1 0 ≤ t) × (t < get_or s.words 0 0) × (v.ticket ≡ Some t → w.ticket ≡ Some t)).
            let q = r.all_drawn t x.0 x.1 in stays s id v w (λ u. u.ticket ≡ Some t) at x.2 q.0 q.1 q.2 q.3 (ℕ_discrete q.0 id))
            (λ (x : w.ticket ≡ Some t). (id, w, here, x))
            (c.drawn t le lt);
        apart = λ i j n a b. single s id v w (λ u. In (numbers u) n) at (λ i j a b. r.apart i j n a b) (c.fresh n) i j a b;
        callers = λ e i. ⊎_elim
            (λ (x : In r.log e). let q = r.callers e x in stays s id v w (λ u. In (numbers u) (caller e)) at (c.kept (caller e)) q.0 q.1 q.2 q.3 (ℕ_discrete q.0 id))
            (λ (x : In (numbers w) (caller e)). (id, w, here, x))
            (c.named e i);
        home = c.home;
        away = c.away;
        spare = c.spare;
      }
