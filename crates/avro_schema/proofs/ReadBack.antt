-- Each canonical form of what is read reads back, in canonical reading, as the same schema.
use Rattle.std.proofs.Common.{◌≡◌, ℕ, List, [], Bool, true, false, cond, length, Result, Ok, Err, refl, ap, ◌∙◌, subst}
use Rattle.std.specs.Prelude.{nat_le}
use Rattle.json_span.specs.Json.{Json, IsWithin}
use Rattle.json_span.specs.Text.{IsText}
use Rattle.json_span.specs.Refusals.{max_levels}
use Rattle.avro_schema.specs.Types.{AvroType}
use Rattle.avro_schema.specs.Canonical.{canonical_form}
use Rattle.avro_schema.specs.Reading.{Read, reader, short_enough, schema_of, ReadsAs}
use Rattle.avro_names.specs.Outcomes.{next}
use Rattle.avro_names.specs.declared.error.SchemaNo.{SchemaNo}
use Rattle.avro_names.specs.declared.error.SchemaNo.TheVariants.{TooLong}
use Rattle.avro_schema.proofs.Again.{json_of, again}
use Rattle.avro_schema.proofs.Spells.{form_laid}
use Rattle.avro_schema.proofs.GoodReading.{reader_good}

-- what was read, and that it is short enough
pub record Whole (canonical : Bool) (j : Json) (t : AvroType) : Type 0 where
  pub r : Read AvroType
  pub is : reader canonical 64 false [] [] j ≡ Ok r
  pub short : short_enough r.value ≡ Ok t

whole_by : (canonical : Bool) (j : Json) (t : AvroType) (o : Result (Read AvroType) SchemaNo) → reader canonical 64 false [] [] j ≡ o → next o (λ (x : Read AvroType). short_enough x.value) ≡ Ok t → Whole canonical j t
whole_by canonical j t (Ok r) e h = record { r = r; is = e; short = h }
whole_by canonical j t (Err x) e h = absurd cc

pub whole : (canonical : Bool) (j : Json) (t : AvroType) → schema_of canonical j ≡ Ok t → Whole canonical j t
unfolding schema_of
whole canonical j t h = whole_by canonical j t (reader canonical 64 false [] [] j) refl h

short_by : (u t : AvroType) (b : Bool) → cond b (Ok u) (Err TooLong) ≡ Ok t → u ≡ t
short_by u t true h = cc
short_by u t false h = absurd cc

pub short_is : (u t : AvroType) → short_enough u ≡ Ok t → u ≡ t
short_is u t h = short_by u t (nat_le (length (canonical_form u)) 65536) h

schema_again : (j : Json) (r : Read AvroType) (t : AvroType) → reader true 64 false [] [] j ≡ Ok r → short_enough r.value ≡ Ok t → schema_of true j ≡ Ok t
unfolding schema_of
schema_again j r t e h = ap (λ o. next o (λ (x : Read AvroType). short_enough x.value)) e ∙ h

-- the canonical form of what was read of a value that nests no deeper than texts do
pub form_reads : (canonical : Bool) (j : Json) (r : Read AvroType) (t : AvroType) → IsWithin max_levels j → reader canonical 64 false [] [] j ≡ Ok r → short_enough r.value ≡ Ok t → ReadsAs true (canonical_form t) t
form_reads canonical j r t within is short =
    let g = reader_good canonical 64 false [] [] j r tt is in
    let same : r.value ≡ t = short_is r.value t short in
    let P : AvroType → Type 0 = λ x. IsText max_levels (canonical_form x) (json_of x) × (schema_of true (json_of x) ≡ Ok t) in
    let both : P t = subst P same
    ((g.within max_levels within, form_laid 64 false [] r.value r.names g.good), schema_again (json_of r.value) r t (again 64 false [] [] r.value r.names g.good) short) in
    (json_of t, both.0, both.1)

pub reads_back : (canonical : Bool) (bytes : List ℕ) (t : AvroType) → ReadsAs canonical bytes t → ReadsAs true (canonical_form t) t
reads_back canonical bytes t h = let w = whole canonical h.0 t h.2 in form_reads canonical h.0 w.r t h.1.0 w.is w.short
