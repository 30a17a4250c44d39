-- From a batch that reads, to the rows that it has at another base offset.
use Rattle.std.proofs.Common.{◌≡◌, ℕ, zero, suc, ◌+◌, ◌-◌, ◌^◌, List, [], ◌∷◌, ◌++◌, length, take, drop, map, ℤ, pos, negsuc, ◌+ℤ◌, ◌-ℤ◌, Option, None, Some, Result, Ok, Bool, true, false, T, nat_le, FitsSigned, to_z, refl, sym, ap, ◌∙◌, subst, inl, inr, arith}
use Rattle.std.specs.Prelude.{int_lt, int_le, ◌&&◌}
use Rattle.std.specs.Int.{w64, cast_unsigned}
use Rattle.std.proofs.Math.Facts.{Fits-of_z}
use Rattle.std.proofs.lemmas.Int.{ints, to_z-of_z}
use Rattle.std.proofs.lemmas.Bool.{cases_Bool}
use Rattle.std.proofs.lemmas.List.{drop-drop}
use Rattle.std.proofs.lemmas.Nat.{from_be_bytes-to_be_bytes_8}
use Rattle.wire_prim.specs.Reading.{Reading}
use Rattle.wire_prim.specs.Item.{int64_bytes}
use Rattle.wire_prim.specs.Behind.{behind_int8, int8_at, int64_at}
use Rattle.wire_prim.specs.Varint.{varint_at, behind_varlong}
use Rattle.broker_link.specs.declared.link.Stored.{Stored}
use Rattle.record_batch.specs.declared.fault.BatchFault.{BatchFault}
use Rattle.record_batch.specs.Read.{Read, onward, item}
use Rattle.record_batch.specs.Record.{integer_at, nullable_at, tail_at, none_left, bounded, delta_at, offset_at, body_at, body_of, record_at, records_at, chain, before}
use Rattle.record_batch.specs.Batch.{Fields, Rises, batch_at, fault_of, fields_of, unless, rows_of, named}
use Rattle.record_batch.specs.Moved.{moved, with_base, AreMoved}
use Rattle.record_batch.proofs.OffsetLaws.{InBounds, onward_ok, ok_of, err_is_no_ok, chain_ok, named_ok, with_fields, the_row, the_reading}
use Rattle.record_batch.proofs.Places.{the_fields}

true_of : (b : Bool) → T b → b ≡ true
true_of true is = refl
true_of false is = absurd is

onward_is : {A B : Type 0} (read : Read A) (more : A → Reading → Read B) (got : A × Reading) → read ≡ Ok got → onward read more ≡ more got.0 got.1
onward_is read more got is = ap (λ r. onward r more) is

bounded_moved : (place : ℕ) (low low' offset by : ℤ) (at : Reading) (got : ℤ × Reading) → bounded place low offset at ≡ Ok got → InBounds low' (got.0 +ℤ by)
    → bounded place low' (offset +ℤ by) at ≡ Ok (got.0 +ℤ by, got.1)
bounded_moved place low low' offset by at got is bounds =
    elim (cases_Bool (int_le low offset && int_lt offset (pos (2 ^ 63 - 1)))) [
      | inl inside ↦
          let same : (offset, at) ≡ got = ok_of _ _ (rw inside at is) in
          let moves = ap (λ (g : ℤ × Reading). g.0 +ℤ by) same in
          let bounds' = subst (InBounds low') (sym moves) bounds in
          let least : int_le low' (offset +ℤ by) ≡ true = true_of _ bounds'.least.le in
          let most : int_lt (offset +ℤ by) (pos (2 ^ 63 - 1)) ≡ true = true_of _ bounds'.most.lt in
          rw (least, most) (ap (λ (g : ℤ × Reading). Ok (g.0 +ℤ by, g.1)) same)
      | inr outside ↦ absurd (err_is_no_ok _ _ (rw outside at is))
    ]

offset_moved : (base low low' by : ℤ) (at : Reading) (got : ℤ × Reading) → offset_at base low at ≡ Ok got → InBounds low' (got.0 +ℤ by)
    → offset_at (base +ℤ by) low' at ≡ Ok (got.0 +ℤ by, got.1)
offset_moved base low low' by at got is bounds =
    let first = onward_ok {A = ℤ} {B = ℤ} (item int8_at at (behind_int8 at.left)) (λ attributes r. onward (item varint_at r (behind_varlong r.left)) (λ stamp q. delta_at base low q)) got is in
    let r : Reading = first.0.1 in
    let second = onward_ok {A = ℤ} {B = ℤ} (item varint_at r (behind_varlong r.left)) (λ stamp q. delta_at base low q) got first.2 in
    let q : Reading = second.0.1 in
    let third = onward_ok {A = ℤ} {B = ℤ} (integer_at q) (λ delta behind. bounded q.place low (base +ℤ delta) behind) got second.2 in
    let delta : ℤ = third.0.0 in
    let whole : (base +ℤ by) +ℤ delta ≡ (base +ℤ delta) +ℤ by = omega (arith, ints) in
    onward_is {A = ℤ} {B = ℤ} (item int8_at at (behind_int8 at.left)) (λ attributes r. onward (item varint_at r (behind_varlong r.left)) (λ stamp q. delta_at (base +ℤ by) low' q)) first.0 first.1
    ∙ onward_is {A = ℤ} {B = ℤ} (item varint_at r (behind_varlong r.left)) (λ stamp q. delta_at (base +ℤ by) low' q) second.0 second.1
    ∙ onward_is {A = ℤ} {B = ℤ} (integer_at q) (λ delta behind. bounded q.place low' ((base +ℤ by) +ℤ delta) behind) third.0 third.1
    ∙ ap (λ offset. bounded q.place low' offset third.0.1) whole ∙ bounded_moved q.place low low' (base +ℤ delta) by third.0.1 got third.2 bounds

fields_moved : (offset by : ℤ) (at : Reading) (got : Stored × Reading) → with_fields offset at ≡ Ok got
    → (got.0.offset ≡ offset) × (with_fields (offset +ℤ by) at ≡ Ok (moved by got.0, got.1))
fields_moved offset by at got is =
    let first = onward_ok {A = Option (List ℕ)} {B = Stored} (nullable_at at) (λ key q. onward (nullable_at q) (λ value p. onward (tail_at p) (λ done end. Ok (the_row offset key value, end)))) got is in
    let key : Option (List ℕ) = first.0.0 in
    let q : Reading = first.0.1 in
    let second = onward_ok {A = Option (List ℕ)} {B = Stored} (nullable_at q) (λ value p. onward (tail_at p) (λ done end. Ok (the_row offset key value, end))) got first.2 in
    let value : Option (List ℕ) = second.0.0 in
    let p : Reading = second.0.1 in
    let third = onward_ok {A = Unit {0}} {B = Stored} (tail_at p) (λ done end. Ok (the_row offset key value, end)) got second.2 in
    let same : (the_row offset key value, third.0.1) ≡ got = ok_of _ _ third.2 in
    let there =
    onward_is {A = Option (List ℕ)} {B = Stored} (nullable_at at) (λ key q. onward (nullable_at q) (λ value p. onward (tail_at p) (λ done end. Ok (the_row (offset +ℤ by) key value, end)))) first.0 first.1
    ∙ onward_is {A = Option (List ℕ)} {B = Stored} (nullable_at q) (λ value p. onward (tail_at p) (λ done end. Ok (the_row (offset +ℤ by) key value, end))) second.0 second.1
    ∙ onward_is {A = Unit {0}} {B = Stored} (tail_at p) (λ done end. Ok (the_row (offset +ℤ by) key value, end)) third.0 third.1 in
    (sym (ap (λ (g : Stored × Reading). g.0.offset) same), there ∙ ap (λ (g : Stored × Reading). Ok (moved by g.0, g.1)) same)

body_moved : (base low low' by : ℤ) (at : Reading) (got : Stored × Reading) → body_at base low at ≡ Ok got → InBounds low' (got.0.offset +ℤ by)
    → body_at (base +ℤ by) low' at ≡ Ok (moved by got.0, got.1)
unfolding body_at
body_moved base low low' by at got is bounds =
    let first = onward_ok {A = ℤ} {B = Stored} (offset_at base low at) with_fields got is in
    let row = fields_moved first.0.0 by first.0.1 got first.2 in
    let bounds' = subst (λ offset. InBounds low' (offset +ℤ by)) row.0 bounds in
    onward_is {A = ℤ} {B = Stored} (offset_at (base +ℤ by) low' at) with_fields (first.0.0 +ℤ by, first.0.1) (offset_moved base low low' by at first.0 first.1 bounds') ∙ row.1

body_of_moved : (place : ℕ) (base low low' by size : ℤ) (at : Reading) (got : Stored × Reading) → body_of place base low size at ≡ Ok got → InBounds low' (got.0.offset +ℤ by)
    → body_of place (base +ℤ by) low' size at ≡ Ok (moved by got.0, got.1)
body_of_moved place base low low' by (pos n) at got is bounds =
    let part = the_reading at.place (take n at.left) in
    let behind = the_reading (at.place + n) (drop n at.left) in
    elim (cases_Bool (nat_le n (length at.left))) [
      | inl inside ↦
          let first = onward_ok {A = Stored} {B = Stored} (body_at base low part) (λ row end. Ok (row, behind)) got (rw inside at is) in
          let same : (first.0.0, behind) ≡ got = ok_of _ _ first.2 in
          let bounds' = subst (λ (g : Stored × Reading). InBounds low' (g.0.offset +ℤ by)) (sym same) bounds in
          let inner = body_moved base low low' by part first.0 first.1 bounds' in
          rw inside (onward_is {A = Stored} {B = Stored} (body_at (base +ℤ by) low' part) (λ row end. Ok (row, behind)) (moved by first.0.0, first.0.1) inner ∙ ap (λ (g : Stored × Reading). Ok (moved by g.0, g.1)) same)
      | inr outside ↦ absurd (err_is_no_ok _ _ (rw outside at is))
    ]
body_of_moved place base low low' by (negsuc n) at got is bounds = absurd (err_is_no_ok _ _ is)

record_moved : (base low low' by : ℤ) (at : Reading) (got : Stored × Reading) → record_at base low at ≡ Ok got → InBounds low' (got.0.offset +ℤ by)
    → record_at (base +ℤ by) low' at ≡ Ok (moved by got.0, got.1)
unfolding record_at
record_moved base low low' by at got is bounds =
    let first = onward_ok {A = ℤ} {B = Stored} (integer_at at) (body_of at.place base low) got is in
    onward_is {A = ℤ} {B = Stored} (integer_at at) (body_of at.place (base +ℤ by) low') first.0 first.1 ∙ body_of_moved at.place base low low' by first.0.0 first.0.1 got first.2 bounds

none_moved : (by : ℤ) (place : ℕ) (left : List ℕ) (rows : List Stored) → none_left place left ≡ Ok rows → none_left place left ≡ Ok (map (moved by) rows)
none_moved by place [] rows is = let same : [] ≡ rows = cc is in ap (λ rs. Ok (map (moved by) rs)) same
none_moved by place (byte ∷ left) rows is = absurd (cc is)

records_moved : (n : ℕ) (base low low' by : ℤ) (at : Reading) (rows : List Stored) → records_at n base low at ≡ Ok rows → Rises low' (map (moved by) rows)
    → records_at n (base +ℤ by) low' at ≡ Ok (map (moved by) rows)
records_moved zero base low low' by at rows is rises = none_moved by at.place at.left rows is
records_moved (suc n) base low low' by at rows is rises =
    let one = chain_ok (record_at base low at) (λ row behind. records_at n base (row.offset +ℤ pos 1) behind) rows is in
    let all = subst (λ rs. Rises low' (map (moved by) rs)) (sym one.4) rises in
    let here = record_moved base low low' by at one.0 one.2 (record { least = all.0; most = all.1 }) in
    let next : ℤ = (one.0.0.offset +ℤ by) +ℤ pos 1 in
    let rest = records_moved n base (one.0.0.offset +ℤ pos 1) next by one.0.1 one.1 one.3 all.2 in
    let whole : before (moved by one.0.0 ∷ []) (records_at n (base +ℤ by) next one.0.1) ≡ Ok (map (moved by) (one.0.0 ∷ one.1)) = ap (before (moved by one.0.0 ∷ [])) rest in
    ap (λ r. chain r (λ row behind. records_at n (base +ℤ by) (row.offset +ℤ pos 1) behind)) here ∙ whole ∙ ap (λ rs. Ok (map (moved by) rs)) one.4

rows_moved : (place : ℕ) (count base by : ℤ) (at : Reading) (rows : List Stored) → rows_of place count base at ≡ Ok rows → Rises (pos 0) (map (moved by) rows)
    → rows_of place count (base +ℤ by) at ≡ Ok (map (moved by) rows)
rows_moved place (pos n) base by at rows is rises = ap named (records_moved n base (pos 0) (pos 0) by at rows (named_ok _ rows is) rises)
rows_moved place (negsuc n) base by at rows is rises = absurd (cc is)

unless_moved : (fault : Option BatchFault) (said more : Result (List Stored) BatchFault) (rows moves : List Stored) → (said ≡ Ok rows → more ≡ Ok moves) → unless fault said ≡ Ok rows → unless fault more ≡ Ok moves
unless_moved None said more rows moves next is = next is
unless_moved (Some fault) said more rows moves next is = absurd (cc is)

-- what a batch gives by its fields and its records
abbrev judged : Fields → ℕ → List ℕ → Result (List Stored) BatchFault
judged fields place records = unless (fault_of fields) (rows_of (place + 57) fields.count fields.base (the_reading (place + 61) records))

judged_moved : (place : ℕ) (fields : Fields) (base by : ℤ) (records : List ℕ) (rows : List Stored) → base ≡ fields.base +ℤ by → judged fields place records ≡ Ok rows → Rises (pos 0) (map (moved by) rows)
    → judged (the_fields base fields.magic fields.crc fields.summed fields.attributes fields.count) place records ≡ Ok (map (moved by) rows)
judged_moved place fields base by records rows is reads rises =
    let end = the_reading (place + 61) records in
    unless_moved (fault_of fields) (rows_of (place + 57) fields.count fields.base end) (rows_of (place + 57) fields.count base end) rows (map (moved by) rows)
    (λ said. ap (λ b. rows_of (place + 57) fields.count b end) is ∙ rows_moved (place + 57) fields.count fields.base by end rows said rises) reads

front_base : (base : ℤ) (rest : List ℕ) → FitsSigned w64 base → int64_at (int64_bytes base ++ rest) ≡ base
front_base base rest fits = ap (λ n. to_z w64 n) (from_be_bytes-to_be_bytes_8 (cast_unsigned w64 base) (Fits-of_z fits).fits) ∙ to_z-of_z w64 base fits

based_fields : (base : ℤ) (batch : List ℕ) → FitsSigned w64 base
    → fields_of (with_base base batch) ≡ the_fields base (fields_of batch).magic (fields_of batch).crc (fields_of batch).summed (fields_of batch).attributes (fields_of batch).count
based_fields base batch fits =
    rw (drop-drop 8 8 batch, drop-drop 9 8 batch, drop-drop 13 8 batch, drop-drop 49 8 batch, front_base base (drop 8 batch) fits) refl

pub batch_moved : (base : ℤ) (batch : List ℕ) → FitsSigned w64 base → AreMoved (base -ℤ int64_at batch) batch (with_base base batch)
unfolding batch_at
batch_moved base batch fits place rows reads rises =
    let by : ℤ = base -ℤ int64_at batch in
    let is : base ≡ int64_at batch +ℤ by = omega (arith, ints) in
    let fields = fields_of batch in
    let there : drop 61 (with_base base batch) ≡ drop 61 batch = drop-drop 53 8 batch in
    ap (λ f. judged f place (drop 61 (with_base base batch))) (based_fields base batch fits)
    ∙ ap (judged (the_fields base fields.magic fields.crc fields.summed fields.attributes fields.count) place) there
    ∙ judged_moved place fields base by (drop 61 batch) rows is reads rises
