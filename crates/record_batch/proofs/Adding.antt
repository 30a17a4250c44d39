-- From the rows that are kept so far, to those of one more record or batch.
use Rattle.std.proofs.Common.{◌≡◌, ◌⊎◌, inl, inr, ℕ, suc, ◌+◌, ◌-◌, ◌<◌, List, [], ◌∷◌, ◌++◌, ℤ, pos, ◌+ℤ◌, Result, Ok, Err, refl, sym, ap, ◌∙◌, arith, append_assoc, append-nil}
use Rattle.std.specs.Prelude.{int_le}
use Rattle.std.proofs.lemmas.List.Elements.{filter-append}
use Rattle.wire_prim.specs.Reading.{Reading}
use Rattle.broker_link.specs.declared.link.Stored.{Stored}
use Rattle.record_batch.specs.declared.fault.BatchFault.{BatchFault}
use Rattle.record_batch.specs.declared.fault.BatchFault.TheVariants.{BadRecord, Want}
use Rattle.record_batch.specs.Record.{record_at, records_at, before}
use Rattle.record_batch.specs.Batch.{added, named, rows_from, joined}

one_before : (from : ℤ) (held held' : List Stored) (row : Stored) (more : Result (List Stored) ℕ) → held' ≡ held ++ rows_from from (row ∷ [])
    → added from held (named (before (row ∷ []) more)) ≡ added from held' (named more)
one_before from held held' row (Ok rows) is =
    ap (λ rs. Ok rs) (ap (λ rs. held ++ rs) (filter-append (λ r. int_le from r.offset) (row ∷ []) rows) ∙ sym (append_assoc held _ _) ∙ ap (λ rs. rs ++ rows_from from rows) (sym is))
one_before from held held' row (Err place) is = refl

-- one more record
pub one_record : (from base low : ℤ) (held held' : List Stored) (count counter : ℕ) (at behind : Reading) (row : Stored) → counter < count → record_at base low at ≡ Ok (row, behind)
    → held' ≡ held ++ rows_from from (row ∷ [])
    → added from held (named (records_at (count - counter) base low at)) ≡ added from held' (named (records_at (count - (counter + 1)) base (row.offset +ℤ pos 1) behind))
one_record from base low held held' count counter at behind row left is more =
    let one : count - counter ≡ suc (count - (counter + 1)) = omega arith in
    ap (λ n. added from held (named (records_at n base low at))) one ∙ rw is (one_before from held held' row (records_at (count - (counter + 1)) base (row.offset +ℤ pos 1) behind) more)

-- a record that doesn't read
pub bad_record : (from base low : ℤ) (held : List Stored) (count counter : ℕ) (at : Reading) (place : ℕ) → counter < count → record_at base low at ≡ Err place
    → added from held (named (records_at (count - counter) base low at)) ≡ Err (BadRecord place)
bad_record from base low held count counter at place left is =
    let one : count - counter ≡ suc (count - (counter + 1)) = omega arith in
    ap (λ n. added from held (named (records_at n base low at))) one ∙ rw is refl

-- one more batch
pub joined_more : (from : ℤ) (held held' : List Stored) (batch more : Result (List Stored) BatchFault) → added from held batch ≡ Ok held' → added from held (joined batch more) ≡ added from held' more
joined_more from held held' (Ok rows) (Ok more) is =
    let same : held ++ rows_from from rows ≡ held' = cc is in
    ap (λ rs. Ok rs) (ap (λ rs. held ++ rs) (filter-append (λ r. int_le from r.offset) rows more) ∙ sym (append_assoc held _ _) ∙ ap (λ rs. rs ++ rows_from from more) same)
joined_more from held held' (Ok rows) (Err fault) is = refl
joined_more from held held' (Err fault) more is = absurd (cc is)

pub joined_bad : (from : ℤ) (held : List Stored) (batch more : Result (List Stored) BatchFault) (fault : BatchFault) → added from held batch ≡ Err fault → added from held (joined batch more) ≡ Err fault
joined_bad from held (Ok rows) more fault is = absurd (cc is)
joined_bad from held (Err other) more fault is = is

pub held_alone : (from : ℤ) (held : List Stored) → added {E = BatchFault} from held (Ok []) ≡ Ok held
held_alone from held = ap (λ rs. Ok rs) (append-nil held)

-- a batch's fault is that of all
pub fault_passes : (from : ℤ) (held : List Stored) (batch more said : Result (List Stored) BatchFault) (fault : BatchFault) → said ≡ added from held (joined batch more)
    → (fault ≡ Want) ⊎ (added from held batch ≡ Err fault) → (fault ≡ Want) ⊎ (said ≡ Err fault)
fault_passes from held batch more said fault is (inl want) = inl want
fault_passes from held batch more said fault is (inr bad) = inr (is ∙ joined_bad from held batch more fault bad)
