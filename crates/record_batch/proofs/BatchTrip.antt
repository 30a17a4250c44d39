-- From a batch that is written, to the rows that it is read as.
use Rattle.std.proofs.Common.{◌≡◌, ℕ, zero, suc, ◌+◌, ◌-◌, ◌<◌, ◌≤◌, ◌^◌, List, [], ◌++◌, length, drop, ℤ, pos, None, Some, FitsSigned, Ok, true, false, nat_le, ◌==◌, refl, sym, ap, ◌∙◌, subst, arith, append-nil, length-append, replicate}
use Rattle.std.specs.Int.{w16, w32, cast_signed, cast_unsigned}
use Rattle.std.proofs.Math.Seq.{take-length, drop-length}
use Rattle.std.proofs.lemmas.Bool.{eq-eqb}
use Rattle.std.proofs.lemmas.Bool.Decides.{leb_tells}
use Rattle.std.proofs.lemmas.Int.{of_z-to_z}
use Rattle.std.proofs.Math.Facts.{Fits-of_lt, sfits_to_z}
use Rattle.std.proofs.lemmas.List.{drop-drop}
use Rattle.std.specs.Prelude.{int_lt}
use Rattle.record_batch.proofs.Places.{the_fields, fields_same}
use Rattle.wire_prim.specs.Behind.{int8_at, int16_at, int32_at, int64_at}
use Rattle.wire_prim.specs.Item.{int32_bytes}
use Rattle.wire_prim.specs.Crc.{checksum}
use Rattle.wire_prim.proofs.Readback.{int32_at_front}
use Rattle.broker_link.specs.declared.link.NewRecord.{NewRecord}
use Rattle.broker_link.specs.declared.link.Stored.{Stored}
use Rattle.record_batch.specs.Record.{records_at}
use Rattle.record_batch.specs.Batch.{fields_of, fault_of, frame_at, batch_at, batches_at, batches_of, named}
use Rattle.record_batch.specs.Written.{stamps_bytes, producer_bytes, head_bytes, fields_bytes, records_bytes, summed_bytes, framed_bytes, batch_bytes, stored_from}
use Rattle.record_batch.proofs.BatchLemmas.{batch_counted}
use Rattle.record_batch.proofs.RoundTrip.{reading, records_front}

-- the parts of what stands before the checksum's bytes and behind
front_base : (size sum : ℤ) (summed : List ℕ) → int64_at (head_bytes size ++ int32_bytes sum ++ summed) ≡ pos 0
unfolding head_bytes
front_base size sum summed = refl

front_magic : (size sum : ℤ) (summed : List ℕ) → int8_at (drop 16 (head_bytes size ++ int32_bytes sum ++ summed)) ≡ pos 2
unfolding head_bytes
front_magic size sum summed = refl

front_sum : (size sum : ℤ) (summed : List ℕ) → drop 17 (head_bytes size ++ int32_bytes sum ++ summed) ≡ int32_bytes sum ++ summed
unfolding head_bytes
front_sum size sum summed = refl

front_summed : (size sum : ℤ) (summed : List ℕ) → drop 21 (head_bytes size ++ int32_bytes sum ++ summed) ≡ summed
unfolding head_bytes
front_summed size sum summed = refl

front_size : (size sum : ℤ) (summed : List ℕ) → drop 8 (head_bytes size ++ int32_bytes sum ++ summed) ≡ int32_bytes size ++ drop 12 (head_bytes size ++ int32_bytes sum ++ summed)
unfolding head_bytes
front_size size sum summed = refl

front_length : (size sum : ℤ) (summed : List ℕ) → length (head_bytes size ++ int32_bytes sum ++ summed) ≡ 21 + length summed
unfolding head_bytes
front_length size sum summed = omega arith

-- the head of a batch as it is put together
pub head_length : (size : ℤ) (sum start front head : List ℕ) → start ≡ [] → front ≡ start ++ head_bytes size → head ≡ front ++ sum → length sum ≡ 4 → length head ≡ 21
unfolding head_bytes
head_length size sum start front head empty fronted whole four =
    let front_is : front ≡ head_bytes size = fronted ∙ ap (λ s. s ++ head_bytes size) empty in
    let long : length front ≡ 17 = ap length front_is in
    ap length whole ∙ omega (arith, length-append front sum)

fields_attributes : (base_ts last count : ℤ) (records : List ℕ) → int16_at (stamps_bytes base_ts last ++ producer_bytes count ++ records) ≡ pos 0
unfolding stamps_bytes producer_bytes
fields_attributes base_ts last count records = refl

fields_count : (base_ts last count : ℤ) (records : List ℕ) → drop 36 (stamps_bytes base_ts last ++ producer_bytes count ++ records) ≡ int32_bytes count ++ records
unfolding stamps_bytes producer_bytes
fields_count base_ts last count records = refl

fields_records : (base_ts last count : ℤ) (records : List ℕ) → drop 40 (stamps_bytes base_ts last ++ producer_bytes count ++ records) ≡ records
unfolding stamps_bytes producer_bytes
fields_records base_ts last count records = refl

fields_length : (base_ts last count : ℤ) (records : List ℕ) → length (stamps_bytes base_ts last ++ producer_bytes count ++ records) ≡ 40 + length records
unfolding stamps_bytes producer_bytes
fields_length base_ts last count records = omega arith

-- a batch with these parts has these fields
fields_are : (bytes summed records : List ℕ) (sum count : ℕ) → count < 2 ^ 31 → sum < 2 ^ 32 → int64_at bytes ≡ pos 0 → int8_at (drop 16 bytes) ≡ pos 2
    → drop 17 bytes ≡ int32_bytes (cast_signed w32 sum) ++ summed → drop 21 bytes ≡ summed → int16_at summed ≡ pos 0 → drop 36 summed ≡ int32_bytes (pos count) ++ records
    → the_fields (pos 0) (pos 2) sum summed 0 (pos count) ≡ fields_of bytes
fields_are bytes summed records sum count few small base magic crc summed_is attributes counted =
    let sum_fits : FitsSigned w32 (cast_signed w32 sum) = sfits_to_z (Fits-of_lt small) in
    let sum_is : sum ≡ cast_unsigned w32 (int32_at (drop 17 bytes)) = sym (ap (λ l. cast_unsigned w32 (int32_at l)) crc ∙ ap (cast_unsigned w32) (int32_at_front (cast_signed w32 sum) summed sum_fits) ∙ of_z-to_z w32 sum small) in
    let attributes_are : 0 ≡ cast_unsigned w16 (int16_at (drop 21 bytes)) = sym (ap (λ l. cast_unsigned w16 (int16_at l)) summed_is ∙ ap (cast_unsigned w16) attributes) in
    let behind : drop 57 bytes ≡ int32_bytes (pos count) ++ records = sym (drop-drop 36 21 bytes) ∙ ap (drop 36) summed_is ∙ counted in
    let count_is : pos count ≡ int32_at (drop 57 bytes) = sym (ap int32_at behind ∙ int32_at_front (pos count) records (record { sfits = few })) in
    fields_same _ _ _ _ _ _ _ _ _ _ _ _ (sym base) (sym magic) sum_is (sym summed_is) attributes_are count_is

-- such fields have no fault
no_fault : (sum count : ℕ) (summed : List ℕ) → sum ≡ checksum summed → fault_of (the_fields (pos 0) (pos 2) sum summed 0 (pos count)) ≡ None
no_fault sum count summed is = let same : (sum == checksum summed) ≡ true = eq-eqb sum (checksum summed) is in rw same refl

not_below : (n : ℕ) → int_lt (pos n) (pos 0) ≡ false
not_below n = grind (arith, leb_tells)

-- the rows of a batch with these parts
batch_is : (bytes summed records : List ℕ) (sum count : ℕ) (rows : List Stored) → sum ≡ checksum summed → the_fields (pos 0) (pos 2) sum summed 0 (pos count) ≡ fields_of bytes
    → drop 61 bytes ≡ records → records_at count (pos 0) (pos 0) (reading 61 records) ≡ Ok rows → batch_at (reading 0 bytes) ≡ Ok rows
batch_is bytes summed records sum count rows is fields behind read =
    batch_counted (reading 0 bytes) (the_fields (pos 0) (pos 2) sum summed 0 (pos count)) fields (no_fault sum count summed is) (not_below count)
    ∙ ap (λ l. named (records_at count (pos 0) (pos 0) (reading 61 l))) behind ∙ ap named read

pub none_behind : (n place : ℕ) → batches_at n (reading place []) ≡ Ok []
none_behind zero place = refl
none_behind (suc n) place = refl

-- one batch and nothing behind it
pub one_batch : (n : ℕ) (bytes : List ℕ) (rows : List Stored) → 0 < n → frame_at (reading 0 bytes) ≡ Ok (Some (length bytes)) → batch_at (reading 0 bytes) ≡ Ok rows
    → batches_at n (reading 0 bytes) ≡ Ok rows
one_batch zero bytes rows some framed read = absurd (omega arith)
one_batch (suc n) bytes rows some framed read =
    let front = take-length bytes in
    let back = drop-length bytes in
    rw (framed, front, back, read, none_behind n (0 + length bytes)) (ap (λ rs. Ok rs) (append-nil rows))

frame_is : (bytes rest : List ℕ) (size : ℕ) → drop 8 bytes ≡ int32_bytes (pos size) ++ rest → 49 ≤ size → size < 2 ^ 31 → size + 12 ≡ length bytes → frame_at (reading 0 bytes) ≡ Ok (Some (length bytes))
frame_is bytes rest size front least small long =
    let enough : nat_le 12 (length bytes) ≡ true = grind (arith, leb_tells) in
    let seen : int32_at (drop 8 bytes) ≡ pos size = ap int32_at front ∙ int32_at_front (pos size) rest (record { sfits = small }) in
    let large : nat_le 49 size ≡ true = grind (arith, leb_tells) in
    let whole : nat_le (size + 12) (length bytes) ≡ true = grind (arith, leb_tells) in
    rw (enough, seen, large, whole, long) refl

pub written_reads : (base_ts : ℤ) (rows : List NewRecord) → length rows < 2 ^ 31 → 9 + length (summed_bytes base_ts rows) < 2 ^ 31 → checksum (summed_bytes base_ts rows) < 2 ^ 32
    → batches_of (batch_bytes base_ts rows) ≡ Ok (stored_from 0 rows)
written_reads base_ts rows few small sum =
    let last = pos (length rows - 1) in
    let count = pos (length rows) in
    let records = records_bytes 0 rows in
    let summed = summed_bytes base_ts rows in
    let size = pos (9 + length summed) in
    let crc = cast_signed w32 (checksum summed) in
    let bytes = batch_bytes base_ts rows in
    let long = fields_length base_ts last count records in
    let whole = front_length size crc summed in
    let fields = fields_are bytes summed records (checksum summed) (length rows) few sum (front_base size crc summed) (front_magic size crc summed) (front_sum size crc summed) (front_summed size crc summed)
    (fields_attributes base_ts last count records) (fields_count base_ts last count records) in
    let behind : drop 61 bytes ≡ records = sym (drop-drop 40 21 bytes) ∙ ap (drop 40) (front_summed size crc summed) ∙ fields_records base_ts last count records in
    let read = records_front rows 0 0 61 (omega arith) (omega arith) (omega (arith, long)) in
    one_batch (length bytes) bytes (stored_from 0 rows) (omega (arith, whole)) (frame_is bytes _ (9 + length summed) (front_size size crc summed) (omega (arith, long)) small (omega (arith, whole)))
    (batch_is bytes summed records (checksum summed) (length rows) (stored_from 0 rows) refl fields behind read)

-- what stands behind the place of the head
behind_head : (base_ts : ℤ) (rows : List NewRecord) (start place fields begun : List ℕ) → start ≡ [] → place ≡ start ++ replicate 21 0 → fields ≡ place ++ fields_bytes base_ts (length rows)
    → begun ≡ fields ++ records_bytes 0 rows → drop 21 begun ≡ summed_bytes base_ts rows
behind_head base_ts rows start place fields begun empty put_place put_fields put_records =
    let placed : place ≡ replicate 21 0 = put_place ∙ ap (λ l. l ++ replicate 21 0) empty in
    ap (drop 21) (put_records ∙ ap (λ l. l ++ records_bytes 0 rows) (put_fields ∙ ap (λ l. l ++ fields_bytes base_ts (length rows)) placed))

pub written_bytes : (base_ts : ℤ) (rows : List NewRecord) (start place fields begun out : List ℕ) → start ≡ [] → place ≡ start ++ replicate 21 0 → fields ≡ place ++ fields_bytes base_ts (length rows)
    → begun ≡ fields ++ records_bytes 0 rows → out ≡ framed_bytes (drop 21 begun) → out ≡ batch_bytes base_ts rows
written_bytes base_ts rows start place fields begun out empty put_place put_fields put_records set =
    set ∙ ap framed_bytes (behind_head base_ts rows start place fields begun empty put_place put_fields put_records)

pub written_out : (base_ts : ℤ) (rows : List NewRecord) (start place fields begun out : List ℕ) → start ≡ [] → place ≡ start ++ replicate 21 0 → fields ≡ place ++ fields_bytes base_ts (length rows)
    → begun ≡ fields ++ records_bytes 0 rows → out ≡ framed_bytes (drop 21 begun) → length rows < 2 ^ 31 → 9 + length (drop 21 begun) < 2 ^ 31 → checksum (drop 21 begun) < 2 ^ 32
    → batches_of out ≡ Ok (stored_from 0 rows)
written_out base_ts rows start place fields begun out empty put_place put_fields put_records set few small sum =
    let whole = behind_head base_ts rows start place fields begun empty put_place put_fields put_records in
    let short : 9 + length (summed_bytes base_ts rows) < 2 ^ 31 = subst (λ l. 9 + length l < 2 ^ 31) whole small in
    let sum' : checksum (summed_bytes base_ts rows) < 2 ^ 32 = subst (λ l. checksum l < 2 ^ 32) whole sum in
    ap batches_of (set ∙ ap framed_bytes whole) ∙ written_reads base_ts rows few short sum'
