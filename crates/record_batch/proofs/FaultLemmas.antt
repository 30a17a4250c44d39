-- From the definition of a batch's fault, to that want of memory is none.
use Rattle.std.proofs.Common.{◌≡◌, ℕ, ◌+◌, List, drop, ℤ, pos, negsuc, Option, None, Some, Result, Ok, Err, Bool, true, false, refl, ap, ◌∙◌}
use Rattle.std.specs.Prelude.{if◌then◌else◌, ◌==◌, ◌/◌, ◌%◌}
use Rattle.std.specs.Ordering.{int_eq}
use Rattle.wire_prim.specs.Crc.{checksum}
use Rattle.wire_prim.specs.Reading.{Reading}
use Rattle.broker_link.specs.declared.link.Stored.{Stored}
use Rattle.record_batch.specs.declared.fault.BatchFault.{BatchFault}
use Rattle.record_batch.specs.declared.fault.BatchFault.TheVariants.{BadCrc, BadMagic, Codec, Control, Want}
use Rattle.record_batch.specs.Record.{records_at}
use Rattle.record_batch.specs.Batch.{Fields, batch_at, fault_of, fields_of, named, rows_of, unless}

named_has_a_cause : (rows : Result (List Stored) ℕ) → named rows ≡ Err Want → ⊥
named_has_a_cause (Ok rows) is = absurd (cc is)
named_has_a_cause (Err place) is = absurd (cc is)

rows_have_a_cause : (place : ℕ) (count base : ℤ) (at : Reading) → rows_of place count base at ≡ Err Want → ⊥
rows_have_a_cause place (pos n) base at is = named_has_a_cause (records_at n base (pos 0) at) is
rows_have_a_cause place (negsuc n) base at is = absurd (cc is)

past : (test : Bool) (fault : BatchFault) (rest : Option BatchFault) → (fault ≡ Want → ⊥) → (rest ≡ Some Want → ⊥) → (if test then rest else Some fault) ≡ Some Want → ⊥
past true fault rest not_fault not_rest is = not_rest is
past false fault rest not_fault not_rest is = let same : fault ≡ Want = cc is in not_fault same

not_magic : (magic : ℤ) → BadMagic magic ≡ Want → ⊥
not_magic magic is = absurd (cc is)

not_sum : (kept computed : ℕ) → BadCrc kept computed ≡ Want → ⊥
not_sum kept computed is = absurd (cc is)

not_codec : (codec : ℕ) → Codec codec ≡ Want → ⊥
not_codec codec is = absurd (cc is)

not_control : Control ≡ Want → ⊥
not_control is = absurd (cc is)

not_none : (fault : Option BatchFault) → fault ≡ None → fault ≡ Some Want → ⊥
not_none fault empty is = absurd (cc (empty, is))

fault_has_a_cause : (fields : Fields) → fault_of fields ≡ Some Want → ⊥
fault_has_a_cause fields is =
    past (int_eq fields.magic (pos 2)) (BadMagic fields.magic) _ (not_magic fields.magic)
    (past (fields.crc == checksum fields.summed) (BadCrc fields.crc (checksum fields.summed)) _ (not_sum fields.crc (checksum fields.summed))
    (past (fields.attributes % 8 == 0) (Codec (fields.attributes % 8)) _ (not_codec (fields.attributes % 8))
    (past (fields.attributes / 16 % 4 == 0) Control None not_control (not_none None refl)))) is

unless_has_a_cause : (fault : Option BatchFault) (rows : Result (List Stored) BatchFault) → (fault ≡ Some Want → ⊥) → (rows ≡ Err Want → ⊥) → unless fault rows ≡ Err Want → ⊥
unless_has_a_cause None rows not_fault not_rows is = not_rows is
unless_has_a_cause (Some fault) rows not_fault not_rows is = let same : fault ≡ Want = cc is in not_fault (ap (λ f. Some f) same)

pub batch_has_a_cause : (at : Reading) (fault : BatchFault) → batch_at at ≡ Err fault → fault ≡ Want → ⊥
unfolding batch_at
batch_has_a_cause at fault is want =
    let fields = fields_of at.left in
    let end : Reading = record { place = at.place + 61; left = drop 61 at.left } in
    unless_has_a_cause (fault_of fields) (rows_of (at.place + 57) fields.count fields.base end) (fault_has_a_cause fields) (rows_have_a_cause (at.place + 57) fields.count fields.base end) (is ∙ ap (λ f. Err f) want)
