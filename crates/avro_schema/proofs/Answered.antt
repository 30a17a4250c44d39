-- From what reading a value answers to what reading a text answers.
use Rattle.std.proofs.Common.{◌≡◌, ℕ, List, [], Bool, true, false, cond, Result, Ok, Err, IfOk, IfErr, inl, inr, refl, sym, ap, ◌∙◌, subst}
use Rattle.std.specs.Prelude.{nat_le}
use Rattle.std.proofs.Common.{length}
use Rattle.json_span.specs.Json.{Json}
use Rattle.json_span.specs.Text.{IsText}
use Rattle.json_span.specs.Refusals.{max_levels}
use Rattle.avro_schema.specs.Types.{AvroType}
use Rattle.avro_schema.specs.Canonical.{canonical_form}
use Rattle.avro_schema.specs.Nodes.{SchemaValue, tree_of}
use Rattle.avro_schema.specs.Reading.{Read, reader, short_enough, schema_of, ReadsAs}
use Rattle.avro_names.specs.Outcomes.{next}
use Rattle.avro_schema.specs.Refusals.{Answers, Refuses, IsRefused}
use Rattle.avro_schema.specs.Building.{names_of, Makes, Ends}
use Rattle.avro_names.specs.Outcomes.{Why}
use Rattle.avro_schema.specs.declared.parts.Parts.{Parts}
use Rattle.avro_names.specs.declared.error.SchemaNo.{SchemaNo}
use Rattle.avro_names.specs.declared.error.SchemaNo.TheVariants.{NotJson, BadType, UnknownName, Redefined, BadName, Float, TooDeep, TooLong, Want}
use Rattle.avro_schema.proofs.Proper.{schema_proper}

pub answers_along : (u v : Result AvroType SchemaNo) (r : Result SchemaValue SchemaNo) → u ≡ v → Answers v r → Answers u r
answers_along u v r e h = let P : Result AvroType SchemaNo → Type 0 = λ x. Answers x r in subst P (sym e) h

want_answers : (u : Result AvroType SchemaNo) → Answers u (Err Want)
want_answers (Ok t) = refl
want_answers (Err e) = inr refl

pub why_answers : (u : Result AvroType SchemaNo) (e : SchemaNo) → Why u e → Answers u (Err e)
why_answers u e (inl is) = answers_along u (Err e) (Err e) is (inl refl)
why_answers u e (inr want) = let P : SchemaNo → Type 0 = λ x. Answers u (Err x) in subst P (sym want) (want_answers u)

pub short_ends : (t : AvroType) (s : SchemaValue) → nat_le (length (canonical_form t)) 65536 ≡ true → tree_of s ≡ t → Ends t (Ok s)
short_ends t s test is = answers_along (short_enough t) (Ok t) (Ok s) (ap (λ b. cond b (Ok t) (Err TooLong)) test) is

pub long_ends : (t : AvroType) → nat_le (length (canonical_form t)) 65536 ≡ false → Ends t (Err TooLong)
long_ends t test = answers_along (short_enough t) (Err TooLong) (Err TooLong) (ap (λ b. cond b (Ok t) (Err TooLong)) test) (inl refl)

pub value_ok : (canonical : Bool) (j : Json) (p q : Parts) (k : ℕ) (r : Result SchemaValue SchemaNo) → names_of p ≡ [] → (m : Makes (reader canonical 64 false (names_of p) [] j) p q k) → Ends m.t r → Answers (schema_of canonical j) r
unfolding schema_of
value_ok canonical j p q k r none m ends =
    answers_along (schema_of canonical j) (short_enough m.t) r
    (ap (λ o. next o (λ (t : Read AvroType). short_enough t.value)) (ap (λ ns. reader canonical 64 false ns [] j) (sym none) ∙ m.is)) ends

pub value_err : (canonical : Bool) (j : Json) (p : Parts) (e : SchemaNo) → names_of p ≡ [] → Why (reader canonical 64 false (names_of p) [] j) e → Answers (schema_of canonical j) (Err e)
unfolding schema_of
value_err canonical j p e none (inl is) = why_answers (schema_of canonical j) e (inl (ap (λ o. next o (λ (t : Read AvroType). short_enough t.value)) (ap (λ ns. reader canonical 64 false ns [] j) (sym none) ∙ is)))
value_err canonical j p e none (inr want) = why_answers (schema_of canonical j) e (inr want)

-- ---- texts

refuses_is : (canonical : Bool) (bytes : List ℕ) (e : SchemaNo) → (e ≡ NotJson → ⊥) → IsRefused canonical bytes e → Refuses canonical bytes e
refuses_is canonical bytes NotJson p h = absurd (p refl)
refuses_is canonical bytes BadType p h = h
refuses_is canonical bytes UnknownName p h = h
refuses_is canonical bytes Redefined p h = h
refuses_is canonical bytes BadName p h = h
refuses_is canonical bytes Float p h = h
refuses_is canonical bytes TooDeep p h = inr h
refuses_is canonical bytes TooLong p h = h
refuses_is canonical bytes Want p h = tt

along : (canonical : Bool) (bytes : List ℕ) (e f : SchemaNo) → f ≡ e → Refuses canonical bytes e → Refuses canonical bytes f
along canonical bytes e f is h = let P : SchemaNo → Type 0 = λ x. Refuses canonical bytes x in subst P (sym is) h

pub text_ok : (canonical : Bool) (bytes : List ℕ) (j : Json) (u : Result AvroType SchemaNo) (r : Result SchemaValue SchemaNo) → IsText max_levels bytes j → schema_of canonical j ≡ u → Answers u r → IfOk r (λ s. ReadsAs canonical bytes (tree_of s))
text_ok canonical bytes j (Ok t) (Ok s) text is h = (j, text, is ∙ ap (λ x. Ok x) (sym h))
text_ok canonical bytes j (Ok t) (Err e) text is h = tt
text_ok canonical bytes j (Err e) (Ok s) text is h = absurd h
text_ok canonical bytes j (Err e) (Err f) text is h = tt

pub text_refused : (canonical : Bool) (bytes : List ℕ) (j : Json) (u : Result AvroType SchemaNo) (r : Result SchemaValue SchemaNo) → IsText max_levels bytes j → schema_of canonical j ≡ u → Answers u r → IfErr r (Refuses canonical bytes)
text_refused canonical bytes j (Ok t) (Ok s) text is h = tt
text_refused canonical bytes j (Ok t) (Err f) text is h = along canonical bytes Want f h tt
text_refused canonical bytes j (Err e) (Ok s) text is h = absurd h
text_refused canonical bytes j (Err e) (Err f) text is (inl same) = along canonical bytes e f same (refuses_is canonical bytes e (λ w. schema_proper canonical j (is ∙ ap (λ x. Err x) w)) (j, text, is))
text_refused canonical bytes j (Err e) (Err f) text is (inr want) = along canonical bytes Want f want tt
