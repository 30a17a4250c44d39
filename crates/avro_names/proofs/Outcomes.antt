-- From a refusal or a success in the first place to that of the whole.
use Rattle.std.proofs.Common.{◌≡◌, Result, Ok, inl, inr, ap, ◌∙◌}
use Rattle.avro_names.specs.Outcomes.{next}
use Rattle.avro_names.specs.Outcomes.{Why}
use Rattle.avro_names.specs.declared.error.SchemaNo.{SchemaNo}

pub next_ok : {S T : Type 0} (r : Result S SchemaNo) (x : S) (f : S → Result T SchemaNo) → r ≡ Ok x → next r f ≡ f x
next_ok r x f e = ap (λ q. next q f) e

pub why_along : {T : Type 0} (o u : Result T SchemaNo) (e : SchemaNo) → o ≡ u → Why u e → Why o e
why_along o u e is (inl w) = inl (is ∙ w)
why_along o u e is (inr w) = inr w

pub why_first : {S T : Type 0} (r : Result S SchemaNo) (f : S → Result T SchemaNo) (e : SchemaNo) → Why r e → Why (next r f) e
why_first r f e (inl w) = inl (ap (λ q. next q f) w)
why_first r f e (inr w) = inr w

pub why_next : {S T : Type 0} (r : Result S SchemaNo) (x : S) (f : S → Result T SchemaNo) (e : SchemaNo) → r ≡ Ok x → Why (f x) e → Why (next r f) e
why_next r x f e is w = why_along (next r f) (f x) e (next_ok r x f is) w
