-- A plain link's refusals, record by record.
use Rattle.std.proofs.Common.{◌≡◌, ℕ, Bool, true, false, cond, List, [], ◌∷◌, map, refl, ap, sym, subst, ◌∙◌, Option, Some, None}
use Rattle.std.specs.Prelude.{◌==◌, ◌||◌, ℤ, nat_abs, All}
use Rattle.std.specs.List.{AllZip, list_any}
use Rattle.std.proofs.lemmas.List.Elements.{All-cons, All-nil, All-head, All-tail, All-weaker}
use Rattle.model.specs.state.Log.{Log}
use Rattle.model.specs.state.Entry.{Payload, is_zero}
use Rattle.model.specs.state.Entry.Placed.{Stored}
use Rattle.model.specs.history.Legal.{is_failed}
use Rattle.gate_io.specs.Counts.{Rose}
use Rattle.broker_link.specs.Causes.{Counts, CodeComes}
use Rattle.broker_link.specs.Produced.{Takes, IsAsked, IsPlainly, first_code}
use Rattle.broker_link.specs.declared.link.PartRecords.{PartRecords}
use Rattle.broker_link.specs.declared.link.PartPlaced.{PartPlaced}
use Rattle.producer.specs.declared.told.Cursor.{Cursor}
use Rattle.rest_replies.specs.declared.answer.Told.{Told}
use Rattle.producer.specs.Groups.{put_in, grouped, cursor_of, code_at, next_at, bump, told_by}
use Rattle.rest_replies.specs.Answer.{placed_of}
use Rattle.producer.specs.Plain.{IsLacking, TellsPlainly}
use Rattle.producer.proofs.Groups.{equal, same_is_equal}
use Rattle.producer.proofs.Answers.{code_of}
use Rattle.producer.proofs.Telling.{code_bump}

abbrev pub listed : ℕ → List PartRecords → Bool
listed n [] = false
listed n (part ∷ parts) = cond (nat_abs part.partition == n) true (listed n parts)

listed_put : (n : ℕ) (p : Payload) (parts : List PartRecords) → listed n parts ≡ true → listed n (put_in p parts) ≡ true
listed_put n p [] is = absurd (cc is)
listed_put n p (part ∷ parts) is = go (nat_abs part.partition == p.partition) refl (nat_abs part.partition == n) refl is (listed_put n p parts)
  where
    go : (b : Bool) → (nat_abs part.partition == p.partition) ≡ b → (c : Bool) → (nat_abs part.partition == n) ≡ c → listed n (part ∷ parts) ≡ true
        → (listed n parts ≡ true → listed n (put_in p parts) ≡ true) → listed n (put_in p (part ∷ parts)) ≡ true
    go true e c f is ih = rw e is
    go false e true f is ih = rw (e, f) refl
    go false e false f is ih = let rest : listed n (part ∷ parts) ≡ listed n parts = rw f refl in rw (e, f) (ih (sym rest ∙ is))

listed_new : (p : Payload) (parts : List PartRecords) → listed p.partition (put_in p parts) ≡ true
listed_new p [] = let e : (p.partition == p.partition) ≡ true = same_is_equal p.partition in rw e refl
listed_new p (part ∷ parts) = go (nat_abs part.partition == p.partition) refl (listed_new p parts)
  where
    go : (b : Bool) → (nat_abs part.partition == p.partition) ≡ b → listed p.partition (put_in p parts) ≡ true → listed p.partition (put_in p (part ∷ parts)) ≡ true
    go true e ih = rw (e, e) refl
    go false e ih = rw (e, e) ih

listed_grouped : (n : ℕ) (parts : List PartRecords) (payloads : List Payload) → listed n parts ≡ true → listed n (grouped parts payloads) ≡ true
listed_grouped n parts [] is = is
listed_grouped n parts (p ∷ payloads) is = listed_grouped n (put_in p parts) payloads (listed_put n p parts is)

all_listed : (parts : List PartRecords) (payloads : List Payload) → All (λ (n : ℕ). listed n (grouped parts payloads) ≡ true) (map (λ (p : Payload). p.partition) payloads)
all_listed parts [] = All-nil (λ (n : ℕ). listed n parts ≡ true)
all_listed parts (p ∷ payloads) =
    All-cons (λ (n : ℕ). listed n (grouped (put_in p parts) payloads) ≡ true) p.partition (map (λ (q : Payload). q.partition) payloads)
    (listed_grouped p.partition (put_in p parts) payloads (listed_new p parts)) (all_listed (put_in p parts) payloads)

code_plainly : (a b log : Log) (topic : List ℕ) (parts : List PartRecords) (placed : List PartPlaced) → AllZip (Takes a b topic) parts placed → AllZip (IsPlainly log topic) parts placed
    → (n : ℕ) → listed n parts ≡ true → IsLacking log topic n (code_of placed n)
code_plainly a b log topic [] [] takes plain n is = absurd (cc is)
code_plainly a b log topic [] (y ∷ ys) takes plain n is = absurd takes
code_plainly a b log topic (x ∷ xs) [] takes plain n is = absurd takes
code_plainly a b log topic (x ∷ xs) (y ∷ ys) takes plain n is =
    go (nat_abs x.partition == n) refl (ap (λ m. m == n) (ap nat_abs takes.0.same)) is (code_plainly a b log topic xs ys takes.1 plain.1 n)
  where
    go : (c : Bool) → (nat_abs x.partition == n) ≡ c → (nat_abs y.partition == n) ≡ (nat_abs x.partition == n) → listed n (x ∷ xs) ≡ true
        → (listed n xs ≡ true → IsLacking log topic n (code_of ys n)) → IsLacking log topic n (code_of (y ∷ ys) n)
    go true e f is ih =
        let g : (nat_abs y.partition == n) ≡ true = f ∙ e in
        rw g (subst (λ (m : ℕ). IsLacking log topic m y.code) (equal (nat_abs x.partition) n e) plain.0)
    go false e f is ih =
        let g : (nat_abs y.partition == n) ≡ false = f ∙ e in
        let rest : listed n (x ∷ xs) ≡ listed n xs = rw e refl in
        rw g (ih (sym rest ∙ is))

told_each : (P : ℕ → ℤ → Type 0) (cursors : List Cursor) (ns : List ℕ) → All (λ (n : ℕ). P n (code_at cursors n)) ns → All (λ (t : Told). P t.partition t.code) (told_by cursors ns)
told_each P cursors [] all = All-nil (λ (t : Told). P t.partition t.code)
told_each P cursors (n ∷ ns) all =
    All-cons (λ (t : Told). P t.partition t.code) (record { partition = n; code = code_at cursors n; offset = next_at cursors n }) (told_by (bump n cursors) ns)
    (All-head (λ (m : ℕ). P m (code_at cursors m)) n ns all)
    (told_each P (bump n cursors) ns (All-weaker (λ (m : ℕ). P m (code_at cursors m)) (λ (m : ℕ). P m (code_at (bump n cursors) m))
    (λ m h. subst (P m) (sym (code_bump n cursors m)) h) ns (All-tail (λ (m : ℕ). P m (code_at cursors m)) n ns all)))

pub told_plainly : (a b log : Log) (topic : List ℕ) (payloads : List Payload) (placed : List PartPlaced) → AllZip (Takes a b topic) (grouped [] payloads) placed
    → AllZip (IsPlainly log topic) (grouped [] payloads) placed → All (TellsPlainly log topic) (told_by (map cursor_of placed) (map (λ (p : Payload). p.partition) payloads))
told_plainly a b log topic payloads placed takes plain =
    told_each (IsLacking log topic) (map cursor_of placed) (map (λ (p : Payload). p.partition) payloads)
    (All-weaker (λ (n : ℕ). listed n (grouped [] payloads) ≡ true) (λ (n : ℕ). IsLacking log topic n (code_of placed n))
    (λ n is. code_plainly a b log topic (grouped [] payloads) placed takes plain n is) (map (λ (p : Payload). p.partition) payloads) (all_listed [] payloads))

-- ---- where no part has a code, no record has one

code_none : (parts : List PartRecords) (placed : List PartPlaced) → AllZip IsAsked parts placed → first_code placed ≡ None → (n : ℕ) → listed n parts ≡ true → is_zero (code_of placed n) ≡ true
code_none [] [] asked none n is = absurd (cc is)
code_none [] (y ∷ ys) asked none n is = absurd asked
code_none (x ∷ xs) [] asked none n is = absurd asked
code_none (x ∷ xs) (y ∷ ys) asked none n is = go (is_zero y.code) refl (nat_abs x.partition == n) refl (ap (λ m. m == n) (ap nat_abs asked.0)) none is (code_none xs ys asked.1)
  where
    go : (z : Bool) → is_zero y.code ≡ z → (c : Bool) → (nat_abs x.partition == n) ≡ c → (nat_abs y.partition == n) ≡ (nat_abs x.partition == n) → first_code (y ∷ ys) ≡ None → listed n (x ∷ xs) ≡ true
        → (first_code ys ≡ None → (n : ℕ) → listed n xs ≡ true → is_zero (code_of ys n) ≡ true) → is_zero (code_of (y ∷ ys) n) ≡ true
    go false z c e f none is ih = absurd (cc (none, coded))
      where
        coded : first_code (y ∷ ys) ≡ Some y.code
        coded = rw z refl
    go true z true e f none is ih = let g : (nat_abs y.partition == n) ≡ true = f ∙ e in rw g z
    go true z false e f none is ih =
        let g : (nat_abs y.partition == n) ≡ false = f ∙ e in
        let rest : listed n (x ∷ xs) ≡ listed n xs = rw e refl in
        let none' : first_code (y ∷ ys) ≡ first_code ys = rw z refl in
        rw g (ih (sym none' ∙ none) n (sym rest ∙ is))

none_failed : (told : List Told) → All (λ (t : Told). is_zero t.code ≡ true) told → list_any is_failed (map placed_of told) ≡ false
none_failed [] all = refl
none_failed (t ∷ ts) all =
    let here : is_zero t.code ≡ true = All-head (λ (t : Told). is_zero t.code ≡ true) t ts all in
    let stored : placed_of t ≡ Stored t.partition t.offset = rw here refl in
    ap (λ p. is_failed p || list_any is_failed (map placed_of ts)) stored ∙ none_failed ts (All-tail (λ (t : Told). is_zero t.code ≡ true) t ts all)

all_zero : (payloads : List Payload) (placed : List PartPlaced) → AllZip IsAsked (grouped [] payloads) placed → first_code placed ≡ None
    → All (λ (t : Told). is_zero t.code ≡ true) (told_by (map cursor_of placed) (map (λ (p : Payload). p.partition) payloads))
all_zero payloads placed asked none =
    told_each (λ n code. is_zero code ≡ true) (map cursor_of placed) (map (λ (p : Payload). p.partition) payloads)
    (All-weaker (λ (n : ℕ). listed n (grouped [] payloads) ≡ true) (λ (n : ℕ). is_zero (code_of placed n) ≡ true)
    (λ n is. code_none (grouped [] payloads) placed asked none n is) (map (λ (p : Payload). p.partition) payloads) (all_listed [] payloads))

-- a record with a code is counted as a refusal
pub refusal_counted : (c d : Counts) (payloads : List Payload) (placed : List PartPlaced) (told : List Told) → AllZip IsAsked (grouped [] payloads) placed
    → told ≡ told_by (map cursor_of placed) (map (λ (p : Payload). p.partition) payloads) → CodeComes c d (first_code placed)
    → list_any is_failed (map placed_of told) ≡ true → Rose c.refusals d.refusals
refusal_counted c d payloads placed told asked is comes failed = go (first_code placed) refl comes
  where
    go : (o : Option ℤ) → first_code placed ≡ o → CodeComes c d o → Rose c.refusals d.refusals
    go (Some code) e comes = comes.0
    go None e comes = absurd (cc (failed, none_failed told (subst (λ (ts : List Told). All (λ (t : Told). is_zero t.code ≡ true) ts) (sym is) (all_zero payloads placed asked e))))
