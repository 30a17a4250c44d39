-- The answers of the records, in request order.
use Rattle.std.proofs.Common.{◌≡◌, ℕ, ◌+◌, ◌^◌, ◌<◌, ◌≤◌, Bool, true, false, cond, List, [], ◌∷◌, ◌++◌, length, map, refl, ap, sym, ◌∙◌, arith}
use Rattle.std.specs.Prelude.{◌==◌, ℤ, nat_abs}
use Rattle.std.specs.List.{AllZip}
use Rattle.model.specs.state.Log.{Log}
use Rattle.model.specs.step.Walk.{Item}
use Rattle.model.specs.state.Entry.{Payload, is_zero}
use Rattle.model.specs.state.Entry.Placed.{Stored, Failed}
use Rattle.model.specs.step.Produced.{numbered as items_of, answer_of, Answered}
use Rattle.broker_link.specs.Produced.{IsPlaced, IsBased}
use Rattle.broker_link.specs.declared.link.PartRecords.{PartRecords}
use Rattle.broker_link.specs.declared.link.PartPlaced.{PartPlaced}
use Rattle.producer.specs.declared.told.Cursor.{Cursor}
use Rattle.rest_replies.specs.declared.answer.Told.{Told}
use Rattle.producer.specs.Groups.{grouped, cursor_of, code_at, next_at, bump, told_by}
use Rattle.rest_replies.specs.Answer.{placed_of}
use Rattle.producer.proofs.Groups.{equal}
use Rattle.producer.proofs.Answers.{code_of, base_of, many, many_more, at_part, places, zero_code}

pub code_bump : (n : ℕ) (cursors : List Cursor) (m : ℕ) → code_at (bump n cursors) m ≡ code_at cursors m
code_bump n [] m = refl
code_bump n (c ∷ cursors) m = go (c.number == n) refl (c.number == m) refl (code_bump n cursors m)
  where
    go : (b : Bool) → (c.number == n) ≡ b → (d : Bool) → (c.number == m) ≡ d → code_at (bump n cursors) m ≡ code_at cursors m → code_at (bump n (c ∷ cursors)) m ≡ code_at (c ∷ cursors) m
    go true e true f ih = rw (e, f) refl
    go true e false f ih = rw (e, f) refl
    go false e true f ih = rw (e, f) refl
    go false e false f ih = rw (e, f) ih

-- of a partition that has a code of its own the next offset rises by one where it is that one
next_bump : (n : ℕ) (cursors : List Cursor) (m : ℕ) → is_zero (code_at cursors m) ≡ true → next_at cursors m + 1 < 2 ^ 64 → next_at (bump n cursors) m ≡ next_at cursors m + cond (n == m) 1 0
next_bump n [] m z small = absurd (cc z)
next_bump n (c ∷ cursors) m z small = go (c.number == n) refl (c.number == m) refl z small (next_bump n cursors m)
  where
    go : (b : Bool) → (c.number == n) ≡ b → (d : Bool) → (c.number == m) ≡ d → is_zero (code_at (c ∷ cursors) m) ≡ true → next_at (c ∷ cursors) m + 1 < 2 ^ 64
        → (is_zero (code_at cursors m) ≡ true → next_at cursors m + 1 < 2 ^ 64 → next_at (bump n cursors) m ≡ next_at cursors m + cond (n == m) 1 0)
        → next_at (bump n (c ∷ cursors)) m ≡ next_at (c ∷ cursors) m + cond (n == m) 1 0
    go true e true f z small ih =
        let same : (n == m) ≡ true = ap (λ k. k == m) (sym (equal c.number n e)) ∙ f in
        let now : next_at (c ∷ cursors) m ≡ c.next = rw f refl in
        rw (e, f, same) (omega (arith, now, small))
    go true e false f z small ih =
        let other : (n == m) ≡ false = ap (λ k. k == m) (sym (equal c.number n e)) ∙ f in
        rw (e, f, other) (omega arith)
    go false e true f z small ih =
        let other : (n == m) ≡ false = apart e f in
        rw (e, f, other) (omega arith)
      where
        apart : (c.number == n) ≡ false → (c.number == m) ≡ true → (n == m) ≡ false
        apart e f = flip (n == m) refl
          where
            flip : (b : Bool) → (n == m) ≡ b → (n == m) ≡ false
            flip true g = absurd (cc (e, ap (λ k. c.number == k) (equal n m g), f))
            flip false g = g
    go false e false f z small ih =
        let code : code_at (c ∷ cursors) m ≡ code_at cursors m = rw f refl in
        let next : next_at (c ∷ cursors) m ≡ next_at cursors m = rw f refl in
        rw (e, f) (ih (ap is_zero (sym code) ∙ z) (omega (arith, next, small)))

pub told_is : (topic : List ℕ) (base : ℕ → ℕ) (code : ℕ → ℤ) (cursors : List Cursor) (before payloads : List Payload)
    → ((n : ℕ) → code_at cursors n ≡ code n)
    → ((n : ℕ) → is_zero (code n) ≡ true → next_at cursors n ≡ base n + many n before)
    → ((n : ℕ) → is_zero (code n) ≡ true → base n + many n before + length payloads < 2 ^ 64)
    → map placed_of (told_by cursors (map (λ p. p.partition) payloads)) ≡ map (answer_of code) (items_of topic base before payloads)
told_is topic base code cursors before [] codes nexts small = refl
told_is topic base code cursors before (p ∷ payloads) codes nexts small =
    let n : ℕ = p.partition in
    let ih = told_is topic base code (bump n cursors) (before ++ p ∷ []) payloads (λ m. code_bump n cursors m ∙ codes m) later (λ m z. omega (arith, small m z, many_one m)) in
    ap (λ x. x ∷ map placed_of (told_by (bump n cursors) (map (λ (q : Payload). q.partition) payloads))) (first (is_zero (code n)) refl)
    ∙ ap (λ l. answer_of code (record { at = at_part topic n; row = record { offset = base n + many n before; key = p.key; value = p.value } }) ∷ l) ih
  where
    many_one : (m : ℕ) → many m (before ++ p ∷ []) ≤ many m before + 1
    many_one m = go (p.partition == m) refl
      where
        go : (b : Bool) → (p.partition == m) ≡ b → many m (before ++ p ∷ []) ≤ many m before + 1
        go true e = omega (arith, many_more m before p true e)
        go false e = omega (arith, many_more m before p false e)

    later : (m : ℕ) → is_zero (code m) ≡ true → next_at (bump p.partition cursors) m ≡ base m + many m (before ++ p ∷ [])
    later m z = go (p.partition == m) refl (next_bump p.partition cursors m (ap is_zero (codes m) ∙ z) (omega (arith, nexts m z, small m z)))
      where
        go : (b : Bool) → (p.partition == m) ≡ b → next_at (bump p.partition cursors) m ≡ next_at cursors m + cond (p.partition == m) 1 0 → next_at (bump p.partition cursors) m ≡ base m + many m (before ++ p ∷ [])
        go true e is = omega (arith, is, ap {B = ℕ} (λ c. cond c 1 0) e, nexts m z, many_more m before p true e)
        go false e is = omega (arith, is, ap {B = ℕ} (λ c. cond c 1 0) e, nexts m z, many_more m before p false e)

    item : Item
    item = record { at = at_part topic p.partition; row = record { offset = base p.partition + many p.partition before; key = p.key; value = p.value } }

    first : (b : Bool) → is_zero (code p.partition) ≡ b → placed_of (record { partition = p.partition; code = code_at cursors p.partition; offset = next_at cursors p.partition }) ≡ answer_of code item
    first true z =
        let y : is_zero (code_at cursors p.partition) ≡ true = ap is_zero (codes p.partition) ∙ z in
        rw (y, z) (ap (λ o. Stored p.partition o) (nexts p.partition z))
    first false z =
        let y : is_zero (code_at cursors p.partition) ≡ false = ap is_zero (codes p.partition) ∙ z in
        rw (y, z) (ap (λ c. Failed p.partition c) (codes p.partition))

-- a base that was given is below 2^63
pub base_small : (parts : List PartRecords) (placed : List PartPlaced) → AllZip IsBased parts placed → (n : ℕ) → is_zero (code_of placed n) ≡ true → base_of placed n < 2 ^ 63
base_small [] [] all n z = absurd (cc z)
base_small [] (y ∷ ys) all n z = absurd all
base_small (x ∷ xs) [] all n z = absurd all
base_small (x ∷ xs) (y ∷ ys) all n z = go (nat_abs y.partition == n) refl (base_small xs ys all.1 n)
  where
    go : (b : Bool) → (nat_abs y.partition == n) ≡ b → (is_zero (code_of ys n) ≡ true → base_of ys n < 2 ^ 63) → base_of (y ∷ ys) n < 2 ^ 63
    go true e ih =
        let code : code_of (y ∷ ys) n ≡ y.code = rw e refl in
        let based = all.0 (zero_code y.code (ap is_zero (sym code) ∙ z)) in
        rw e (omega (arith, ap nat_abs based.1, based.2))
    go false e ih =
        let code : code_of (y ∷ ys) n ≡ code_of ys n = rw e refl in
        rw e (ih (ap is_zero (sym code) ∙ z))

pub answered : (a b : Log) (topic : List ℕ) (payloads : List Payload) (placed : List PartPlaced) → length payloads < 2 ^ 63
    → IsPlaced a b topic (grouped [] payloads) placed → AllZip IsBased (grouped [] payloads) placed
    → Answered a b topic payloads (map placed_of (told_by (map cursor_of placed) (map (λ p. p.partition) payloads)))
answered a b topic payloads placed few is based = record {
  base = base_of placed;
  code = code_of placed;
  places = places a b topic payloads placed is;
  told = told_is topic (base_of placed) (code_of placed) (map cursor_of placed) [] payloads (λ n. refl) (λ n z. omega arith)
      (λ n z. omega (arith, few, base_small (grouped [] payloads) placed based n z));
}

-- the answers name the records' partitions in turn
pub told_whose : (cursors : List Cursor) (ns : List ℕ) → map (λ (t : Told). t.partition) (told_by cursors ns) ≡ ns
told_whose cursors [] = refl
told_whose cursors (n ∷ ns) = ap (λ l. n ∷ l) (told_whose (bump n cursors) ns)
