-- From what reading and showing a datum answer, to the JSON values of data.
use Rattle.std.proofs.Common.{◌≡◌, ◌++◌, [], ℕ, List, Result, Ok, Err, refl, sym, ap, ◌∙◌, subst, inl, inr}
use Rattle.std.specs.Prelude.{IfOk, IfErr, MatchResult}
use Rattle.json.specs.Token.{Token}
use Rattle.json.specs.Print.{print}
use Rattle.json_span.specs.Json.{Json}
use Rattle.json_span.specs.Text.{IsText}
use Rattle.json_span.specs.Refusals.{max_levels}
use Rattle.avro_schema.specs.Types.{AvroType}
use Rattle.avro_schema.specs.Distinct.{HasNames}
use Rattle.avro_value.specs.declared.error.AvroNo.{AvroNo}
use Rattle.avro_value.specs.declared.error.AvroNo.TheVariants.{Want}
use Rattle.avro_datum.specs.declared.datum.Datum.{Datum}
use Rattle.avro_datum.specs.Data.{value_of}
use Rattle.avro_value.specs.Value.{Value, IsSmall, IsTyped}
use Rattle.avro_value.specs.Encoding.{IsJson}
use Rattle.avro_value.specs.Reading.{datum_at}
use Rattle.avro_datum.specs.Shown.{tokens_of}
use Rattle.avro_value.specs.Steps.{Fails}
use Rattle.avro_value.proofs.StepLemmas.{ok_is}
use Rattle.avro_datum.proofs.ReadSound.{read_sound}
use Rattle.avro_datum.proofs.ReadAgain.{read_again}
use Rattle.avro_datum.proofs.ShownAgain.{shown_again}
use Rattle.avro_datum.proofs.Glyphs.{escape_is, number_is, points_is}
use Rattle.avro_datum.proofs.TextAgain.{Glyphs, text_is}

abbrev IsRead : AvroType → Json → Result Datum AvroNo → Type 0
IsRead whole j r = MatchResult r (λ d. datum_at whole j ≡ Ok (value_of d)) (λ e. Fails e (datum_at whole j))

pub read_is_json : (whole : AvroType) (j : Json) (r : Result Datum AvroNo) → IsRead whole j r → IfOk r (λ d. IsJson whole whole (value_of d) j × IsSmall (value_of d))
read_is_json whole j (Ok d) is = read_sound whole j (value_of d) is
read_is_json whole j (Err e) is = tt

pub read_only : (whole : AvroType) (j : Json) (r : Result Datum AvroNo) → IsRead whole j r → (v : Value) → IsJson whole whole v j → IsSmall v → MatchResult r (λ d. value_of d ≡ v) (λ e. e ≡ Want)
read_only whole j (Ok d) is v json small = ok_is (value_of d) v (sym is ∙ read_again whole j v json small)
read_only whole j (Err e) is v json small = elim is [ inl want ↦ want | inr no_datum ↦ absurd (let a = read_again whole j v json small in cc) ]

glyphs : Glyphs
glyphs = record { escape_is = escape_is; number_is = number_is; points_is = points_is }

-- a text of the tokens is a JSON text of the value
text_again : (whole : AvroType) (v : Value) (bytes : List ℕ) → HasNames whole → IsTyped v → (ts : List Token) × (tokens_of whole v ≡ Ok ts) × (bytes ≡ print ts)
    → (j : Json) × IsText max_levels bytes j × IsJson whole whole v j
text_again whole v bytes names typed (ts, is, shows) =
    let all = text_is glyphs whole names v typed ts is in
    let P : List ℕ → Type 0 = λ x. IsText max_levels x all.0 in
    (all.0, subst P (sym shows) all.1, all.2)

-- the same of an answer whose bytes are these
pub text_all_again : {S : Type 0} (bytes : S → List ℕ) (whole : AvroType) (v : Value) (r : Result S AvroNo) → HasNames whole → IfOk r (λ s. IsTyped v)
    → IfOk r (λ s. (ts : List Token) × (tokens_of whole v ≡ Ok ts) × (bytes s ≡ print ts)) → IfOk r (λ s. (j : Json) × IsText max_levels (bytes s) j × IsJson whole whole v j)
text_all_again bytes whole v (Ok s) names typed is = text_again whole v (bytes s) names typed is
text_all_again bytes whole v (Err e) names typed is = tt

-- the answer of a text that was written behind nothing
pub text_alone : {S : Type 0} (bytes : S → List ℕ) (front : List ℕ) (whole : AvroType) (v : Value) (r : Result S AvroNo) → front ≡ []
    → IfOk r (λ s. (ts : List Token) × (tokens_of whole v ≡ Ok ts) × (bytes s ≡ front ++ print ts)) → IfOk r (λ s. (ts : List Token) × (tokens_of whole v ≡ Ok ts) × (bytes s ≡ print ts))
text_alone bytes front whole v (Ok s) nothing (ts, is, shows) = (ts, is, shows ∙ ap (λ (f : List ℕ). f ++ print ts) nothing)
text_alone bytes front whole v (Err e) nothing is = tt

-- what stands behind the front is a JSON text of the value
pub text_behind : {S : Type 0} (bytes : S → List ℕ) (front : List ℕ) (whole : AvroType) (v : Value) (r : Result S AvroNo) → HasNames whole → IfOk r (λ s. IsTyped v)
    → IfOk r (λ s. (ts : List Token) × (tokens_of whole v ≡ Ok ts) × (bytes s ≡ front ++ print ts))
    → IfOk r (λ s. (more : List ℕ) × (bytes s ≡ front ++ more) × (j : Json) × IsText max_levels more j × IsJson whole whole v j)
text_behind bytes front whole v (Ok s) names typed (ts, is, shows) = let a = text_again whole v (print ts) names typed (ts, is, refl) in (print ts, shows, a.0, a.1, a.2)
text_behind bytes front whole v (Err e) names typed is = tt

pub text_only : {S : Type 0} (whole : AvroType) (v : Value) (r : Result S AvroNo) → IfErr r (λ e. Fails e (tokens_of whole v)) → (j : Json) → IsJson whole whole v j → IsSmall v → IfErr r (λ e. e ≡ Want)
text_only whole v (Ok s) is j json small = tt
text_only whole v (Err e) is j json small = elim is [ inl want ↦ want | inr refused ↦ absurd (let a = (shown_again whole j v json small).1 in cc) ]
