-- One thing read after the other, and why an answer is a refusal.
use Rattle.std.specs.Prelude.{◌≡◌, Result, Ok, Err, ◌⊎◌}
use Rattle.avro_names.specs.declared.error.SchemaNo.{SchemaNo}
use Rattle.avro_names.specs.declared.error.SchemaNo.TheVariants.{Want}

-- what comes next, unless there is a refusal
abbrev pub next : {S T : Type 0} → Result S SchemaNo → (S → Result T SchemaNo) → Result T SchemaNo
next (Ok x) f = f x
next (Err e) f = Err e

-- the answer of reading is this refusal, or want of memory
abbrev pub Why : {T : Type 0} → Result T SchemaNo → SchemaNo → Type 0
Why o e = (o ≡ Err e) ⊎ (e ≡ Want)
