-- From what is said of the first batch, to whether the bytes are exactly one batch, and back.
use Rattle.std.proofs.Common.{◌≡◌, ℕ, zero, suc, ◌+◌, ◌<◌, ◌≤◌, List, [], ◌++◌, length, take, drop, ℤ, pos, negsuc, ◌+ℤ◌, Option, None, Some, Result, Ok, Err, true, nat_le, refl, sym, ap, ◌∙◌, subst, inl, inr, arith, append-nil}
use Rattle.std.proofs.Math.Seq.{take-length, drop-length, take-append_seam}
use Rattle.std.proofs.lemmas.List.{take-take}
use Rattle.std.specs.Int.{w64, from_be_bytes, cast_signed}
use Rattle.record_batch.proofs.ReadLemmas.{reading_is}
use Rattle.std.proofs.lemmas.Bool.{cases_Bool}
use Rattle.std.proofs.lemmas.Bool.Decides.{leb_tells}
use Rattle.wire_prim.specs.Reading.{Reading}
use Rattle.wire_prim.specs.Behind.{int32_at, int64_at}
use Rattle.broker_link.specs.declared.link.Stored.{Stored}
use Rattle.record_batch.specs.declared.fault.BatchFault.{BatchFault}
use Rattle.record_batch.specs.declared.first.FirstBatch.{FirstBatch}
use Rattle.record_batch.specs.Batch.{IsFramed, batch_at, batches_at, frame_at, framed, joined, size_of}
use Rattle.record_batch.specs.First.{HaveDeltas, IsFirst, IsOneBatch, Judges, JudgesPart, from_start}
use Rattle.record_batch.proofs.BatchTrip.{none_behind, one_batch}

-- a size that the bytes hold
pub record Inside (bytes : List ℕ) (size : ℕ) : Type 0 where
  pub inside : size ≤ length bytes
  pub some : 0 < size
  pub is : pos size ≡ int32_at (drop 8 bytes) +ℤ pos 12

abbrev sized : Option ℕ → Result (Option ℕ) ℕ
sized size = Ok size

none_sized : (size : ℕ) → sized None ≡ Ok (Some size) → ⊥
none_sized size is = cc is

some_sized : (n size : ℕ) → sized (Some n) ≡ Ok (Some size) → n ≡ size
some_sized n size is = cc is

size_inside : (z : ℤ) (bytes : List ℕ) (size : ℕ) → size_of z (from_start bytes) ≡ Ok (Some size) → (size ≤ length bytes) × (0 < size) × (pos size ≡ z +ℤ pos 12)
size_inside (pos n) bytes size is =
    elim (cases_Bool (nat_le 49 n)) [
      | inl large ↦
          elim (cases_Bool (nat_le (n + 12) (length bytes))) [
            | inl fits ↦
                let same : n + 12 ≡ size = some_sized (n + 12) size (rw (large, fits) at is) in
                let inside : n + 12 ≤ length bytes = grind (arith, leb_tells) in
                (omega arith, omega arith, ap pos (sym same))
            | inr cut ↦ absurd (none_sized size (rw (large, cut) at is))
          ]
      | inr small ↦ let bad = rw small at is in absurd (cc bad)
    ]
size_inside (negsuc k) bytes size is = absurd (cc is)

pub frame_inside : (bytes : List ℕ) (size : ℕ) → frame_at (from_start bytes) ≡ Ok (Some size) → Inside bytes size
frame_inside bytes size is =
    elim (cases_Bool (nat_le 12 (length bytes))) [
      | inl long ↦ let all = size_inside (int32_at (drop 8 bytes)) bytes size (rw long at is) in record { inside = all.0; some = all.1; is = all.2 }
      | inr short ↦ absurd (none_sized size (rw short at is))
    ]

-- what is said of all bytes makes them one batch
pub one_is : (bytes : List ℕ) (first : FirstBatch) (rows : List Stored) → IsFirst bytes first rows → first.contiguous ≡ true → 0 < first.count → first.size ≡ length bytes → IsOneBatch bytes rows
one_is bytes first rows is told some all =
    let inside = frame_inside bytes first.size is.size in
    let framed : frame_at (from_start bytes) ≡ Ok (Some (length bytes)) = is.size ∙ ap (λ n. Ok (Some n)) all in
    let part : take first.size bytes ≡ bytes = ap (λ n. take n bytes) all ∙ take-length bytes in
    let reads : batch_at (from_start bytes) ≡ Ok rows = ap (λ l. batch_at (from_start l)) (sym part) ∙ is.reads in
    record {
      whole = ap pos (sym all) ∙ inside.is;
      reads = one_batch (length bytes) bytes rows (omega (arith, inside.some, inside.inside)) framed reads;
      some = omega (arith, is.count);
      deltas = subst (λ (base : ℤ). HaveDeltas base 0 rows) is.base (is.deltas.0 told);
    }

no_rows : (rows : List Stored) → [] ≡ rows → 0 < length rows → ⊥
no_rows rows is some = let none : 0 ≡ length rows = ap length is in absurd (omega arith)

abbrev rows_or : List Stored → Result (List Stored) BatchFault
rows_or rows = Ok rows

rows_same : (rows other : List Stored) → rows_or rows ≡ Ok other → rows ≡ other
rows_same rows other is = cc is

-- a first batch that has rows is whole
opened : (said : Result (Option ℕ) ℕ) (n : ℕ) (bytes : List ℕ) (rows : List Stored) → framed said (from_start bytes) (batches_at n) ≡ Ok rows → 0 < length rows
    → (size : ℕ) × (said ≡ Ok (Some size)) × (joined (batch_at (from_start (take size bytes))) (batches_at n (record { place = 0 + size; left = drop size bytes })) ≡ Ok rows)
opened (Ok None) n bytes rows is some = absurd (no_rows rows (rows_same [] rows is) some)
opened (Ok (Some size)) n bytes rows is some = (size, refl, is)
opened (Err place) n bytes rows is some = absurd (cc is)

alone : (batch : Result (List Stored) BatchFault) (rows : List Stored) → joined batch (Ok []) ≡ Ok rows → batch ≡ Ok rows
alone (Ok got) rows is = ap (λ r. Ok r) (sym (append-nil got) ∙ rows_same (got ++ []) rows is)
alone (Err fault) rows is = absurd (cc is)

-- all bytes are the first batch
pub record AllFirst (bytes : List ℕ) (rows : List Stored) : Type 0 where
  pub size : frame_at (from_start bytes) ≡ Ok (Some (length bytes))
  pub reads : batch_at (from_start bytes) ≡ Ok rows

all_first : (n : ℕ) (bytes : List ℕ) (rows : List Stored) → pos (length bytes) ≡ int32_at (drop 8 bytes) +ℤ pos 12 → batches_at n (from_start bytes) ≡ Ok rows → 0 < length rows → AllFirst bytes rows
all_first zero bytes rows whole is some = absurd (no_rows rows (rows_same [] rows is) some)
all_first (suc n) bytes rows whole is some =
    let found = opened (frame_at (from_start bytes)) n bytes rows is some in
    let inside = frame_inside bytes found.0 found.1 in
    let both : pos found.0 ≡ pos (length bytes) = inside.is ∙ sym whole in
    let same : found.0 ≡ length bytes = cc both in
    let front : take found.0 bytes ≡ bytes = ap (λ k. take k bytes) same ∙ take-length bytes in
    let back : drop found.0 bytes ≡ [] = ap (λ k. drop k bytes) same ∙ drop-length bytes in
    let more : batches_at n (record { place = 0 + found.0; left = drop found.0 bytes }) ≡ Ok [] = ap (λ l. batches_at n (record { place = 0 + found.0; left = l })) back ∙ none_behind n (0 + found.0) in
    let whole_is = ap (λ m. joined (batch_at (from_start (take found.0 bytes))) m) (sym more) ∙ found.2 in
    record {
      size = found.1 ∙ ap (λ k. Ok (Some k)) same;
      reads = ap (λ l. batch_at (from_start l)) (sym front) ∙ alone (batch_at (from_start (take found.0 bytes))) rows whole_is;
    }

-- what is said of the first batch where the bytes are one
pub record Said (bytes : List ℕ) (rows : List Stored) (first : FirstBatch) : Type 0 where
  pub contiguous : first.contiguous ≡ true
  pub count : length rows ≡ first.count
  pub size : first.size ≡ length bytes

pub said_of_one : (bytes : List ℕ) (rows : List Stored) (first : FirstBatch) → Judges (Ok (Some first)) bytes → IsOneBatch bytes rows → Said bytes rows first
said_of_one bytes rows first judges one =
    let all = all_first (length bytes) bytes rows one.whole one.reads one.some in
    let is = judges.1 in
    let size : first.size ≡ length bytes = some_sized first.size (length bytes) (sym is.size ∙ all.size) in
    let part : take first.size bytes ≡ bytes = ap (λ n. take n bytes) size ∙ take-length bytes in
    let same : judges.0 ≡ rows = rows_same judges.0 rows (sym is.reads ∙ ap (λ l. batch_at (from_start l)) part ∙ all.reads) in
    let based : HaveDeltas first.base 0 rows = subst (λ (base : ℤ). HaveDeltas base 0 rows) (sym is.base) one.deltas in
    let deltas : HaveDeltas first.base 0 judges.0 = subst (λ (rs : List Stored). HaveDeltas first.base 0 rs) (sym same) based in
    record { contiguous = is.deltas.1 deltas; count = ap length (sym same) ∙ is.count; size = size }

-- bytes without a whole batch aren't one
pub none_is_no_one : (bytes : List ℕ) (rows : List Stored) → Judges (Ok None) bytes → IsOneBatch bytes rows → ⊥
none_is_no_one bytes rows judges one =
    let all = all_first (length bytes) bytes rows one.whole one.reads one.some in
    none_sized (length bytes) (sym judges ∙ all.size)

-- nor are those whose first batch has a fault
pub fault_is_no_one : (bytes : List ℕ) (rows : List Stored) (fault : BatchFault) → Judges (Err fault) bytes → IsOneBatch bytes rows → ⊥
fault_is_no_one bytes rows fault judges one =
    let all = all_first (length bytes) bytes rows one.whole one.reads one.some in
    let reads = one_batch 1 bytes rows (omega arith) all.size all.reads in
    let bad : rows_or rows ≡ Err fault = sym reads ∙ judges in
    cc bad

-- the part that the first batch has, as it is judged
pub first_is : (bytes : List ℕ) (at new part : Reading) (first : FirstBatch) → at ≡ from_start bytes → IsFramed (Ok (Some part)) (frame_at at) at new → JudgesPart (Ok first) part → (rows : List Stored) × IsFirst bytes first rows
first_is bytes at new part first start framed judged =
    let size = framed.0 in
    let taken = framed.5 in
    let left : at.left ≡ bytes = ap (λ (r : Reading). r.left) start in
    let place : at.place ≡ 0 = ap (λ (r : Reading). r.place) start in
    let same : first.size ≡ size = judged.2 ∙ framed.3 in
    let seam : take (length part.left) at.left ≡ part.left = ap (take (length part.left)) taken.left ∙ take-append_seam part.left new.left in
    let front : take first.size bytes ≡ part.left = ap (λ n. take n bytes) judged.2 ∙ ap (take (length part.left)) (sym left) ∙ seam in
    let whole : from_start (take first.size bytes) ≡ part = reading_is part _ _ (sym (framed.4 ∙ place)) front in
    let enough : 8 ≤ first.size = omega (arith, same, framed.2) in
    let based : int64_at part.left ≡ int64_at bytes = ap int64_at (sym front) ∙ ap (λ l. cast_signed w64 (from_be_bytes w64 l)) (take-take 8 first.size bytes enough) in (
      judged.0,
      record {
        size = ap frame_at (sym start) ∙ framed.1 ∙ ap (λ n. Ok (Some n)) (sym same);
        reads = ap batch_at whole ∙ judged.1;
        base = judged.3 ∙ based;
        count = judged.4;
        deltas = judged.5;
      },
    )
