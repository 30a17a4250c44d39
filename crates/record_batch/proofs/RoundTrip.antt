-- From what is written, back to the rows that it is read as.
use Rattle.std.proofs.Common.{◌≡◌, ℕ, ◌+◌, ◌-◌, ◌<◌, ◌≤◌, ◌^◌, List, [], ◌∷◌, ◌++◌, length, take, drop, ℤ, pos, negsuc, ◌+ℤ◌, Option, None, Some, FitsSigned, Ok, true, nat_le, refl, ap, ◌∙◌, arith, length-append, append_assoc, append-nil, zero-add}
use Rattle.std.specs.Prelude.{int_lt, int_le}
use Rattle.std.specs.Int.{w32, w64}
use Rattle.std.proofs.Math.Seq.{take-append_seam, drop-append_seam}
use Rattle.std.proofs.lemmas.Bool.Decides.{leb_tells}
use Rattle.wire_prim.specs.Reading.{Reading}
use Rattle.wire_prim.specs.Behind.{Behind, behind_bytes, behind_int8, int8_at}
use Rattle.wire_prim.specs.Item.{int8_bytes}
use Rattle.wire_prim.specs.Varint.{varint_at, varint_bytes, varlong_bytes, behind_varlong}
use Rattle.wire_prim.proofs.Readback.{behind_append}
use Rattle.wire_prim.proofs.VarintLaws.{varint_reads, varint_spelled, varlong_reads, varlong_spelled, varint_at_front}
use Rattle.broker_link.specs.declared.link.NewRecord.{NewRecord}
use Rattle.broker_link.specs.declared.link.Stored.{Stored}
use Rattle.record_batch.specs.Read.{onward, item}
use Rattle.record_batch.specs.Record.{integer_at, nullable_of, nullable_at, bounded, delta_at, offset_at, body_at, body_of, record_at, records_at, chain, before}
use Rattle.record_batch.specs.Written.{nullable_bytes, body_bytes, record_bytes, records_bytes, stored_from}

abbrev pub reading : ℕ → List ℕ → Reading
reading place left = record { place = place; left = left }

-- an item at the front, with anything behind it
item_front : {A : Type 0} (seen : List ℕ → A) (place : ℕ) (run rest : List ℕ) (behind : Behind) (value : A) → behind ≡ Ok rest → seen (run ++ rest) ≡ value
    → item seen (reading place (run ++ rest)) behind ≡ Ok (value, reading (place + length run) rest)
item_front seen place run rest behind value follows is =
    let far : place + (length (run ++ rest) - length rest) ≡ place + length run = omega (arith, length-append run rest) in
    ap (item seen (reading place (run ++ rest))) follows ∙ ap (λ v. Ok (v, reading (place + (length (run ++ rest) - length rest)) rest)) is ∙ ap (λ p. Ok (value, reading p rest)) far

fits32 : (n : ℕ) → n < 2 ^ 31 → FitsSigned w32 (pos n)
fits32 n small = record { sfits = small }

null32 : FitsSigned w32 (negsuc 0)
null32 = record { sfits = omega arith }

none64 : FitsSigned w64 (pos 0)
none64 = record { sfits = omega arith }

integer_front : (value : ℤ) (place : ℕ) (rest : List ℕ) → FitsSigned w32 value
    → integer_at (reading place (varint_bytes value ++ rest)) ≡ Ok (value, reading (place + length (varint_bytes value)) rest)
integer_front value place rest fits =
    item_front varint_at place (varint_bytes value) rest _ value (varint_reads value (varint_bytes value) fits (varint_spelled value fits) rest) (varint_at_front 5 value (varint_bytes value) rest (varint_spelled value fits))

-- a key or a value at the front
nullable_front : (piece : Option (List ℕ)) (place : ℕ) (rest : List ℕ) → length (nullable_bytes piece) < 2 ^ 31
    → nullable_at (reading place (nullable_bytes piece ++ rest)) ≡ Ok (piece, reading (place + length (nullable_bytes piece)) rest)
nullable_front None place rest small = rw (integer_front (negsuc 0) place rest null32) refl
nullable_front (Some piece) place rest small =
    let size = pos (length piece) in
    let few : length piece < 2 ^ 31 = omega (arith, length-append (varint_bytes size) piece) in
    let first : integer_at (reading place ((varint_bytes size ++ piece) ++ rest)) ≡ Ok (size, reading (place + length (varint_bytes size)) (piece ++ rest)) =
    ap (λ l. integer_at (reading place l)) (append_assoc (varint_bytes size) piece rest) ∙ integer_front size place (piece ++ rest) (fits32 _ few) in
    let second = item_front (λ bytes. Some (take (length piece) bytes)) (place + length (varint_bytes size)) piece rest (behind_bytes (length piece) (piece ++ rest)) (Some piece)
    (behind_append piece rest) (ap (λ p. Some p) (take-append_seam piece rest)) in
    let far : place + length (varint_bytes size) + length piece ≡ place + length (varint_bytes size ++ piece) = omega (arith, length-append (varint_bytes size) piece) in
    ap (λ r. onward r (nullable_of place)) first ∙ second ∙ ap (λ p. Ok (Some piece, reading p rest)) far

in_bounds : (place low n : ℕ) (at : Reading) → low ≤ n → n < 2 ^ 31 → bounded place (pos low) (pos 0 +ℤ pos n) at ≡ Ok (pos n, at)
in_bounds place low n at above small =
    let sum : 0 + n ≡ n = zero-add n in
    let least : int_le (pos low) (pos n) ≡ true = grind (arith, leb_tells) in
    let most : int_lt (pos n) (pos (2 ^ 63 - 1)) ≡ true = grind (arith, leb_tells) in
    ap (λ z. bounded place (pos low) (pos z) at) sum ∙ rw (least, most) refl

offset_front : (low n place : ℕ) (rest : List ℕ) → low ≤ n → n < 2 ^ 31
    → offset_at (pos 0) (pos low) (reading place (int8_bytes (pos 0) ++ (varlong_bytes (pos 0) ++ (varint_bytes (pos n) ++ rest))))
    ≡ Ok (pos n, reading (place + length (int8_bytes (pos 0)) + length (varlong_bytes (pos 0)) + length (varint_bytes (pos n))) rest)
offset_front low n place rest above small =
    let third = varint_bytes (pos n) ++ rest in
    let second = varlong_bytes (pos 0) ++ third in
    let p1 = place + length (int8_bytes (pos 0)) in
    let p2 = p1 + length (varlong_bytes (pos 0)) in
    let p3 = p2 + length (varint_bytes (pos n)) in
    let stamped = varlong_spelled (pos 0) none64 in
    let a : item int8_at (reading place (int8_bytes (pos 0) ++ second)) (behind_int8 (int8_bytes (pos 0) ++ second)) ≡ Ok (pos 0, reading p1 second) =
    item_front int8_at place (int8_bytes (pos 0)) second (behind_int8 (int8_bytes (pos 0) ++ second)) (pos 0) (behind_append (int8_bytes (pos 0)) second) refl in
    let b : item varint_at (reading p1 second) (behind_varlong second) ≡ Ok (pos 0, reading p2 third) =
    item_front varint_at p1 (varlong_bytes (pos 0)) third (behind_varlong second) (pos 0) (varlong_reads (pos 0) (varlong_bytes (pos 0)) none64 stamped third) (varint_at_front 10 (pos 0) (varlong_bytes (pos 0)) third stamped) in
    let c : delta_at (pos 0) (pos low) (reading p2 third) ≡ Ok (pos n, reading p3 rest) =
    ap (λ r. onward r (λ delta behind. bounded p2 (pos low) (pos 0 +ℤ delta) behind)) (integer_front (pos n) p2 rest (fits32 n small)) ∙ in_bounds p2 low n (reading p3 rest) above small in
    ap (λ r. onward r (λ attributes at'. onward (item varint_at at' (behind_varlong at'.left)) (λ stamp at''. delta_at (pos 0) (pos low) at''))) a
    ∙ ap (λ r. onward r (λ stamp at''. delta_at (pos 0) (pos low) at'')) b
    ∙ c

nested : (a b c d e f : List ℕ) → ((((a ++ b) ++ c) ++ d) ++ e) ++ f ≡ a ++ (b ++ (c ++ (d ++ (e ++ (f ++ [])))))
nested a b c d e f = simp (append_assoc, append-nil)

stored : ℕ → NewRecord → Stored
stored n row = record { offset = pos n; key = row.key; value = row.value }

body_front : (low n place : ℕ) (row : NewRecord) → low ≤ n → n < 2 ^ 31 → length (body_bytes n row) < 2 ^ 31
    → (end : Reading) × (body_at (pos 0) (pos low) (reading place (body_bytes n row)) ≡ Ok (record { offset = pos n; key = row.key; value = row.value }, end))
unfolding body_at
body_front low n place row above small fits =
    let k = nullable_bytes row.key in
    let v = nullable_bytes row.value in
    let zero_count = varint_bytes (pos 0) in
    let p3 = place + length (int8_bytes (pos 0)) + length (varlong_bytes (pos 0)) + length (varint_bytes (pos n)) in
    let p4 = p3 + length k in
    let p5 = p4 + length v in
    let long = ap length (nested (int8_bytes (pos 0)) (varlong_bytes (pos 0)) (varint_bytes (pos n)) k v zero_count) in
    let inner : length k + length v ≤ length (body_bytes n row) =
    omega (arith, long, length-append (varlong_bytes (pos 0)) (varint_bytes (pos n) ++ (k ++ (v ++ (zero_count ++ [])))), length-append (varint_bytes (pos n)) (k ++ (v ++ (zero_count ++ []))), length-append k (v ++ (zero_count ++ [])), length-append v (zero_count ++ [])) in
    let a = offset_front low n place (k ++ (v ++ (zero_count ++ []))) above small in
    let b = nullable_front row.key p3 (v ++ (zero_count ++ [])) (omega arith) in
    let c = nullable_front row.value p4 (zero_count ++ []) (omega arith) in (
      reading (p5 + length zero_count) [],
      ap (λ l. body_at (pos 0) (pos low) (reading place l)) (nested (int8_bytes (pos 0)) (varlong_bytes (pos 0)) (varint_bytes (pos n)) k v zero_count) ∙ rw (a, b, c) refl,
    )

framed_ok : (place low size p : ℕ) (left body rest : List ℕ) (row : Stored) (end : Reading) → nat_le size (length left) ≡ true → take size left ≡ body → drop size left ≡ rest
    → body_at (pos 0) (pos low) (reading p body) ≡ Ok (row, end) → body_of place (pos 0) (pos low) (pos size) (reading p left) ≡ Ok (row, reading (p + size) rest)
framed_ok place low size p left body rest row end inside front back read = rw (inside, front, back, read) refl

-- a record at the front, with anything behind it
record_front : (low n place : ℕ) (row : NewRecord) (rest : List ℕ) → low ≤ n → n < 2 ^ 31 → length (body_bytes n row) < 2 ^ 31
    → record_at (pos 0) (pos low) (reading place (record_bytes n row ++ rest)) ≡ Ok (record { offset = pos n; key = row.key; value = row.value }, reading (place + length (record_bytes n row)) rest)
unfolding record_at
record_front low n place row rest above small fits =
    let body = body_bytes n row in
    let size = pos (length body) in
    let p1 = place + length (varint_bytes size) in
    let first = integer_front size place (body ++ rest) (fits32 _ fits) in
    let inside : nat_le (length body) (length (body ++ rest)) ≡ true = grind (arith, leb_tells, length-append body rest) in
    let inner = body_front low n p1 row above small fits in
    let far : p1 + length body ≡ place + length (varint_bytes size ++ body) = omega (arith, length-append (varint_bytes size) body) in
    let framed : body_of place (pos 0) (pos low) size (reading p1 (body ++ rest)) ≡ Ok (record { offset = pos n; key = row.key; value = row.value }, reading (p1 + length body) rest) =
    framed_ok place low (length body) p1 (body ++ rest) body rest _ inner.0 inside (take-append_seam body rest) (drop-append_seam body rest) inner.1 in
    ap (λ l. record_at (pos 0) (pos low) (reading place l)) (append_assoc (varint_bytes size) body rest)
    ∙ ap (λ r. onward r (body_of place (pos 0) (pos low))) first
    ∙ framed
    ∙ ap (λ p. Ok (record { offset = pos n; key = row.key; value = row.value }, reading p rest)) far

-- all records, and nothing behind them
pub records_front : (rows : List NewRecord) (low n place : ℕ) → low ≤ n → n + length rows ≤ 2 ^ 31 → length (records_bytes n rows) < 2 ^ 31
    → records_at (length rows) (pos 0) (pos low) (reading place (records_bytes n rows)) ≡ Ok (stored_from n rows)
records_front [] low n place above few fits = refl
records_front (row ∷ rows) low n place above few fits =
    let more = records_bytes (n + 1) rows in
    let whole = length-append (record_bytes n row) more in
    let body = length-append (varint_bytes (pos (length (body_bytes n row)))) (body_bytes n row) in
    let first = record_front low n place row more above (omega arith) (omega arith) in
    let rest = records_front rows (n + 1) (n + 1) (place + length (record_bytes n row)) (omega arith) (omega arith) (omega arith) in
    ap (λ r. chain r (λ got behind. records_at (length rows) (pos 0) (got.offset +ℤ pos 1) behind)) first ∙ ap (before (record { offset = pos n; key = row.key; value = row.value } ∷ [])) rest
