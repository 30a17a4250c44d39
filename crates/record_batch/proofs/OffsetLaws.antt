-- From records that read, to the bounds and the order of their offsets.
use Rattle.std.proofs.Common.{◌≡◌, ℕ, zero, suc, ◌+◌, ◌-◌, ◌^◌, List, [], ◌∷◌, ◌++◌, length, take, drop, ℤ, pos, negsuc, ◌+ℤ◌, ◌≤ℤ◌, ◌<ℤ◌, Option, None, Some, Result, Ok, Err, Bool, true, false, nat_le, refl, sym, ap, subst, inl, inr, arith}
use Rattle.std.specs.Prelude.{int_lt, int_le, ◌&&◌, All}
use Rattle.std.proofs.lemmas.Int.{ints}
use Rattle.std.proofs.lemmas.List.Elements.{All-nil, All-cons, All-append}
use Rattle.std.proofs.lemmas.Bool.{cases_Bool, false≢true}
use Rattle.std.proofs.lemmas.Float.{T_from_true}
use Rattle.wire_prim.specs.Reading.{Reading}
use Rattle.wire_prim.specs.Behind.{behind_int8, int8_at}
use Rattle.wire_prim.specs.Varint.{varint_at, behind_varlong}
use Rattle.broker_link.specs.declared.link.Stored.{Stored}
use Rattle.record_batch.specs.declared.fault.BatchFault.{BatchFault}
use Rattle.record_batch.specs.Read.{Read, onward, item}
use Rattle.record_batch.specs.Record.{integer_at, nullable_at, tail_at, none_left, bounded, delta_at, offset_at, body_at, body_of, record_at, records_at, chain, before}
use Rattle.record_batch.specs.Batch.{Rises, IsOffset, batch_at, fault_of, fields_of, unless, rows_of, named, joined, framed, frame_at, batches_at}

-- what two readings in turn gave
pub onward_ok : {A B : Type 0} (read : Read A) (more : A → Reading → Read B) (b : B × Reading) → onward read more ≡ Ok b → (got : A × Reading) × (read ≡ Ok got) × (more got.0 got.1 ≡ Ok b)
onward_ok (Ok got) more b is = (got, refl, is)
onward_ok (Err place) more b is = absurd (cc is)

-- an offset in the bounds
pub record InBounds (low offset : ℤ) : Type 0 where
  pub least : low ≤ℤ offset
  pub most : offset <ℤ pos (2 ^ 63 - 1)

both : (a b : Bool) → (a && b) ≡ true → (a ≡ true) × (b ≡ true)
both true b h = (refl, h)
both false b h = absurd (false≢true h)

abbrev done : {A : Type 0} → A × Reading → Read A
done got = Ok got

abbrev failed : {A : Type 0} → ℕ → Read A
failed place = Err place

pub ok_of : {A : Type 0} (got end : A × Reading) → done got ≡ Ok end → got ≡ end
ok_of got end is = cc is

pub err_is_no_ok : {A : Type 0} (place : ℕ) (got : A × Reading) → failed place ≡ Ok got → ⊥
err_is_no_ok place got is = cc is

bounded_ok : (place : ℕ) (low offset : ℤ) (at : Reading) (got : ℤ × Reading) → bounded place low offset at ≡ Ok got → InBounds low got.0
bounded_ok place low offset at got is =
    elim (cases_Bool (int_le low offset && int_lt offset (pos (2 ^ 63 - 1)))) [
      | inl inside ↦
          let same : (offset, at) ≡ got = ok_of _ _ (rw inside at is) in
          let tests = both _ _ inside in
          subst (λ (g : ℤ × Reading). InBounds low g.0) same (record { least = record { le = T_from_true _ tests.0 }; most = record { lt = T_from_true _ tests.1 } })
      | inr outside ↦ absurd (err_is_no_ok _ _ (rw outside at is))
    ]

abbrev pub the_row : ℤ → Option (List ℕ) → Option (List ℕ) → Stored
the_row offset key value = record { offset = offset; key = key; value = value }

abbrev pub the_reading : ℕ → List ℕ → Reading
the_reading place left = record { place = place; left = left }

rest_of : (got : Stored × Reading) (said more : Result (List Stored) ℕ) (rows : List Stored) → said ≡ more → before (got.0 ∷ []) said ≡ Ok rows
    → (rest : List Stored) × (more ≡ Ok rest) × (got.0 ∷ rest ≡ rows)
rest_of got (Ok rest) more rows is whole = (rest, sym is, cc whole)
rest_of got (Err place) more rows is whole = absurd (cc whole)

pub named_ok : (said : Result (List Stored) ℕ) (rows : List Stored) → named said ≡ Ok rows → said ≡ Ok rows
named_ok (Ok got) rows is = let same : got ≡ rows = cc is in ap (λ r. Ok r) same
named_ok (Err place) rows is = absurd (cc is)

none_rise : (low : ℤ) (place : ℕ) (left : List ℕ) (rows : List Stored) → none_left place left ≡ Ok rows → Rises low rows
none_rise low place [] rows is = let same : [] ≡ rows = cc is in subst (Rises low) same tt
none_rise low place (byte ∷ left) rows is = absurd (cc is)

offset_ok : (base low : ℤ) (at : Reading) (got : ℤ × Reading) → offset_at base low at ≡ Ok got → InBounds low got.0
offset_ok base low at got is =
    let first = onward_ok {A = ℤ} {B = ℤ} (item int8_at at (behind_int8 at.left)) (λ attributes r. onward (item varint_at r (behind_varlong r.left)) (λ stamp q. delta_at base low q)) got is in
    let r : Reading = first.0.1 in
    let second = onward_ok {A = ℤ} {B = ℤ} (item varint_at r (behind_varlong r.left)) (λ stamp q. delta_at base low q) got first.2 in
    let q : Reading = second.0.1 in
    let third = onward_ok {A = ℤ} {B = ℤ} (integer_at q) (λ delta behind. bounded q.place low (base +ℤ delta) behind) got second.2 in
    bounded_ok q.place low (base +ℤ third.0.0) third.0.1 got third.2

abbrev pub with_fields : ℤ → Reading → Read Stored
with_fields offset r = onward (nullable_at r) (λ key q. onward (nullable_at q) (λ value p. onward (tail_at p) (λ done end. Ok (record { offset = offset; key = key; value = value }, end))))

fields_ok : (offset : ℤ) (at : Reading) (got : Stored × Reading) → with_fields offset at ≡ Ok got → got.0.offset ≡ offset
fields_ok offset at got is =
    let first = onward_ok {A = Option (List ℕ)} {B = Stored} (nullable_at at) (λ key q. onward (nullable_at q) (λ value p. onward (tail_at p) (λ done end. Ok (the_row offset key value, end)))) got is in
    let key : Option (List ℕ) = first.0.0 in
    let q : Reading = first.0.1 in
    let second = onward_ok {A = Option (List ℕ)} {B = Stored} (nullable_at q) (λ value p. onward (tail_at p) (λ done end. Ok (the_row offset key value, end))) got first.2 in
    let value : Option (List ℕ) = second.0.0 in
    let p : Reading = second.0.1 in
    let third = onward_ok {A = Unit {0}} {B = Stored} (tail_at p) (λ done end. Ok (the_row offset key value, end)) got second.2 in
    let same : (the_row offset key value, third.0.1) ≡ got = ok_of _ _ third.2 in
    sym (ap (λ (g : Stored × Reading). g.0.offset) same)

body_ok : (base low : ℤ) (at : Reading) (got : Stored × Reading) → body_at base low at ≡ Ok got → InBounds low got.0.offset
unfolding body_at
body_ok base low at got is =
    let first = onward_ok {A = ℤ} {B = Stored} (offset_at base low at) with_fields got is in
    subst (InBounds low) (sym (fields_ok first.0.0 first.0.1 got first.2)) (offset_ok base low at first.0 first.1)

body_of_ok : (place : ℕ) (base low size : ℤ) (at : Reading) (got : Stored × Reading) → body_of place base low size at ≡ Ok got → InBounds low got.0.offset
body_of_ok place base low (pos n) at got is =
    elim (cases_Bool (nat_le n (length at.left))) [
      | inl inside ↦
          let whole = rw inside at is in
          let first = onward_ok {A = Stored} {B = Stored} (body_at base low (the_reading at.place (take n at.left))) (λ row end. Ok (row, the_reading (at.place + n) (drop n at.left))) got whole in
          let same : (first.0.0, the_reading (at.place + n) (drop n at.left)) ≡ got = ok_of _ _ first.2 in
          subst (λ (g : Stored × Reading). InBounds low g.0.offset) same (body_ok base low _ first.0 first.1)
      | inr outside ↦ absurd (err_is_no_ok _ _ (rw outside at is))
    ]
body_of_ok place base low (negsuc n) at got is = absurd (err_is_no_ok _ _ is)

record_ok : (base low : ℤ) (at : Reading) (got : Stored × Reading) → record_at base low at ≡ Ok got → InBounds low got.0.offset
unfolding record_at
record_ok base low at got is =
    let first = onward_ok {A = ℤ} {B = Stored} (integer_at at) (body_of at.place base low) got is in
    body_of_ok at.place base low first.0.0 first.0.1 got first.2

pub chain_ok : (read : Read Stored) (more : Stored → Reading → Result (List Stored) ℕ) (rows : List Stored) → chain read more ≡ Ok rows
    → (got : Stored × Reading) × (rest : List Stored) × (read ≡ Ok got) × (more got.0 got.1 ≡ Ok rest) × (got.0 ∷ rest ≡ rows)
chain_ok (Ok got) more rows is = let rest = rest_of got (more got.0 got.1) (more got.0 got.1) rows refl is in (got, rest.0, refl, rest.1, rest.2)
chain_ok (Err place) more rows is = absurd (cc is)

pub records_rise : (n : ℕ) (base low : ℤ) (at : Reading) (rows : List Stored) → records_at n base low at ≡ Ok rows → Rises low rows
records_rise zero base low at rows is = none_rise low at.place at.left rows is
records_rise (suc n) base low at rows is =
    let one = chain_ok (record_at base low at) (λ row behind. records_at n base (row.offset +ℤ pos 1) behind) rows is in
    let bounds = record_ok base low at one.0 one.2 in
    subst (Rises low) one.4 (bounds.least, bounds.most, records_rise n base (one.0.0.offset +ℤ pos 1) one.0.1 one.1 one.3)

rows_rise : (place : ℕ) (count base : ℤ) (at : Reading) (rows : List Stored) → rows_of place count base at ≡ Ok rows → Rises (pos 0) rows
rows_rise place (pos n) base at rows is = records_rise n base (pos 0) at rows (named_ok _ rows is)
rows_rise place (negsuc n) base at rows is = absurd (cc is)

pub unless_ok : (fault : Option BatchFault) (said : Result (List Stored) BatchFault) (rows : List Stored) → unless fault said ≡ Ok rows → said ≡ Ok rows
unless_ok None said rows is = is
unless_ok (Some fault) said rows is = absurd (cc is)

pub batch_rises : (at : Reading) (rows : List Stored) → batch_at at ≡ Ok rows → Rises (pos 0) rows
unfolding batch_at
batch_rises at rows is =
    let fields = fields_of at.left in
    let end = the_reading (at.place + 61) (drop 61 at.left) in
    rows_rise (at.place + 57) fields.count fields.base end rows (unless_ok (fault_of fields) (rows_of (at.place + 57) fields.count fields.base end) rows is)

rising_offsets : (low : ℤ) (rows : List Stored) → pos 0 ≤ℤ low → Rises low rows → All (λ row. IsOffset row.offset) rows
rising_offsets low [] least rises = All-nil (λ (row : Stored). IsOffset row.offset)
rising_offsets low (row ∷ rows) least rises =
    let here : low ≤ℤ row.offset = rises.0 in
    let own : pos 0 ≤ℤ row.offset = omega (arith, ints) in
    let next : pos 0 ≤ℤ (row.offset +ℤ pos 1) = omega (arith, ints) in
    All-cons (λ (r : Stored). IsOffset r.offset) row rows (own, rises.1) (rising_offsets (row.offset +ℤ pos 1) rows next rises.2)

joined_offsets : (batch more : Result (List Stored) BatchFault) (rows : List Stored) → ((rs : List Stored) → batch ≡ Ok rs → All (λ row. IsOffset row.offset) rs)
    → ((rs : List Stored) → more ≡ Ok rs → All (λ row. IsOffset row.offset) rs) → joined batch more ≡ Ok rows → All (λ row. IsOffset row.offset) rows
joined_offsets (Ok first) (Ok rest) rows own others is =
    let whole : first ++ rest ≡ rows = cc is in
    subst (All (λ (row : Stored). IsOffset row.offset)) whole (All-append (λ (row : Stored). IsOffset row.offset) first rest (own first refl) (others rest refl))
joined_offsets (Ok first) (Err fault) rows own others is = absurd (cc is)
joined_offsets (Err fault) more rows own others is = absurd (cc is)

batch_offsets : (at : Reading) (rows : List Stored) → batch_at at ≡ Ok rows → All (λ row. IsOffset row.offset) rows
batch_offsets at rows is = rising_offsets (pos 0) rows (omega (arith, ints)) (batch_rises at rows is)

framed_offsets : (said : Result (Option ℕ) ℕ) (at : Reading) (more : Reading → Result (List Stored) BatchFault) (rows : List Stored)
    → ((r : Reading) (rs : List Stored) → more r ≡ Ok rs → All (λ row. IsOffset row.offset) rs) → framed said at more ≡ Ok rows → All (λ row. IsOffset row.offset) rows
framed_offsets (Ok None) at more rows others is = let none : [] ≡ rows = cc is in subst (All (λ (row : Stored). IsOffset row.offset)) none (All-nil (λ (row : Stored). IsOffset row.offset))
framed_offsets (Ok (Some size)) at more rows others is =
    let first = the_reading at.place (take size at.left) in
    let behind = the_reading (at.place + size) (drop size at.left) in
    joined_offsets (batch_at first) (more behind) rows (batch_offsets first) (others behind) is
framed_offsets (Err place) at more rows others is = absurd (cc is)

pub batches_offsets : (n : ℕ) (at : Reading) (rows : List Stored) → batches_at n at ≡ Ok rows → All (λ row. IsOffset row.offset) rows
batches_offsets zero at rows is = let none : [] ≡ rows = cc is in subst (All (λ (row : Stored). IsOffset row.offset)) none (All-nil (λ (row : Stored). IsOffset row.offset))
batches_offsets (suc n) at rows is = framed_offsets (frame_at at) at (batches_at n) rows (batches_offsets n) is
