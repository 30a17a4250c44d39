-- One step after another, up to the first refusal.
use Rattle.std.specs.Prelude.{◌≡◌, ◌⊎◌, Result, Ok, Err}
use Rattle.avro_value.specs.declared.error.AvroNo.{AvroNo}
use Rattle.avro_value.specs.declared.error.AvroNo.TheVariants.{Want}

infixl 10 ◌>>=◌
abbrev pub ◌>>=◌ : {A B : Type 0} → Result A AvroNo → (A → Result B AvroNo) → Result B AvroNo
(Ok x) >>= f = f x
(Err e) >>= f = Err e

-- the cause is the one that is given, or want of memory
abbrev pub Fails : {Y : Type 0} → AvroNo → Result Y AvroNo → Type 0
Fails e read = (e ≡ Want) ⊎ (read ≡ Err e)
