-- From what a datum's reading and its verdict say, to its spellings.
use Rattle.std.proofs.Common.{◌≡◌, ◌++◌, [], ℕ, List, Result, Ok, Err, sym, ap, ◌∙◌, subst, inl, inr}
use Rattle.std.specs.Prelude.{IfOk, IfErr, OnOk, MatchResult}
use Rattle.avro_schema.specs.Types.{AvroType}
use Rattle.avro_value.specs.declared.error.AvroNo.{AvroNo}
use Rattle.avro_value.specs.declared.error.AvroNo.TheVariants.{Want}
use Rattle.avro_datum.specs.declared.datum.Datum.{Datum}
use Rattle.avro_datum.specs.Data.{value_of}
use Rattle.avro_value.specs.Value.{Value, IsSmall}
use Rattle.avro_codec.specs.Spelling.{IsDatum}
use Rattle.avro_codec.specs.Plain.{plain}
use Rattle.avro_codec.specs.Reading.{datum_at}
use Rattle.avro_value.specs.Steps.{Fails}
use Rattle.avro_value.specs.Judging.{verdict}
use Rattle.avro_codec.proofs.ValueSound.{datum_sound}
use Rattle.avro_codec.proofs.ValueAgain.{datum_again}
use Rattle.avro_codec.proofs.PlainLaws.{verdict_sound}
use Rattle.avro_codec.proofs.JudgeLaws.{only_want}
use Rattle.avro_value.proofs.StepLemmas.{ok_is}

abbrev IsRead : AvroType → List ℕ → Result Datum AvroNo → Type 0
IsRead whole bs r = MatchResult r (λ d. datum_at whole bs ≡ Ok (value_of d)) (λ e. Fails e (datum_at whole bs))

pub read_spells : (whole : AvroType) (bs : List ℕ) (r : Result Datum AvroNo) → IsRead whole bs r → IfOk r (λ d. IsDatum whole whole (value_of d) bs × IsSmall (value_of d))
read_spells whole bs (Ok d) is = datum_sound whole bs (value_of d) is
read_spells whole bs (Err e) is = tt

pub read_only : (whole : AvroType) (bs : List ℕ) (r : Result Datum AvroNo) → IsRead whole bs r → (v : Value) → IsDatum whole whole v bs → IsSmall v → MatchResult r (λ d. value_of d ≡ v) (λ e. e ≡ Want)
read_only whole bs (Ok d) is v spells small = ok_is (value_of d) v (sym is ∙ datum_again whole bs v spells small)
read_only whole bs (Err e) is v spells small = elim is [ inl want ↦ want | inr no_datum ↦ absurd (let a = datum_again whole bs v spells small in cc) ]

abbrev IsWritten : {X : Type 0} → AvroType → Value → Result X AvroNo → Type 0
IsWritten whole v r = MatchResult r (λ out. (n : ℕ) × (verdict whole v ≡ Ok n)) (λ e. Fails e (verdict whole v))

pub written_spells : {X : Type 0} (whole : AvroType) (v : Value) (r : Result X AvroNo) → IsWritten whole v r → OnOk r (IsDatum whole whole v (plain v) × IsSmall v)
written_spells whole v (Ok out) is = verdict_sound whole v is.0 is.1
written_spells whole v (Err e) is = tt

pub written_only : {X : Type 0} (whole : AvroType) (v : Value) (r : Result X AvroNo) → IsWritten whole v r → (bs : List ℕ) → IsDatum whole whole v bs → IsSmall v → IfErr r (λ e. e ≡ Want)
written_only whole v (Ok out) is bs spells small = tt
written_only whole v (Err e) is bs spells small = only_want whole v bs e spells small is

pub written_refusal : {X : Type 0} (whole : AvroType) (v : Value) (r : Result X AvroNo) → IsWritten whole v r → IfErr r (λ e. Fails e (verdict whole v))
written_refusal whole v (Ok out) is = tt
written_refusal whole v (Err e) is = is

-- what is written behind nothing
pub written_fresh : {X : Type 0} (r : Result X AvroNo) (items : X → List ℕ) (front bs : List ℕ) → front ≡ [] → IfOk r (λ out. items out ≡ front ++ bs) → IfOk r (λ out. items out ≡ bs)
written_fresh (Ok out) items front bs empty is = is ∙ ap (λ (f : List ℕ). f ++ bs) empty
written_fresh (Err e) items front bs empty is = tt

pub fresh_spells : {X : Type 0} (r : Result X AvroNo) (items : X → List ℕ) (whole : AvroType) (v : Value) → IfOk r (λ out. items out ≡ plain v) → OnOk r (IsDatum whole whole v (plain v) × IsSmall v)
    → IfOk r (λ out. IsDatum whole whole v (items out) × IsSmall v)
fresh_spells (Ok out) items whole v is spells = (subst (IsDatum whole whole v) (sym is) spells.0, spells.1)
fresh_spells (Err e) items whole v is spells = tt
