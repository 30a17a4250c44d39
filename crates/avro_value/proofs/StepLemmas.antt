-- One step after another, taken apart.
use Rattle.std.proofs.Common.{◌≡◌, Result, Ok, Err, Bool, true, false, cond, refl, ap}
use Rattle.avro_value.specs.declared.error.AvroNo.{AvroNo}
use Rattle.avro_value.specs.Steps.{◌>>=◌}

pub bind_ok : {A B : Type 0} (r : Result A AvroNo) (f : A → Result B AvroNo) (y : B) → (r >>= f) ≡ Ok y → (x : A) × (r ≡ Ok x) × (f x ≡ Ok y)
bind_ok (Ok x) f y is = (x, refl, is)
bind_ok (Err e) f y is = absurd cc

pub bind_at : {A B : Type 0} (r : Result A AvroNo) (f : A → Result B AvroNo) (x : A) → r ≡ Ok x → (r >>= f) ≡ f x
bind_at {A} r f x is = ap (λ (y : Result A AvroNo). y >>= f) is

abbrev done : {A : Type 0} → A → Result A AvroNo
done x = Ok x

pub ok_is : {A : Type 0} (x y : A) → done x ≡ done y → x ≡ y
ok_is x y is = cc

pub chosen_ok : {X E : Type 0} (b : Bool) (e : E) (x y : X) → cond b (Ok x) (Err e) ≡ Ok y → (b ≡ true) × (x ≡ y)
chosen_ok true e x y is = (refl, cc)
chosen_ok false e x y is = absurd cc

pub chosen_else : {X E : Type 0} (b : Bool) (e : E) (r : Result X E) (y : X) → cond b (Err e) r ≡ Ok y → (b ≡ false) × (r ≡ Ok y)
chosen_else true e r y is = absurd cc
chosen_else false e r y is = (refl, is)

pub chosen_then : {X E : Type 0} (b : Bool) (e : E) (r : Result X E) (y : X) → cond b r (Err e) ≡ Ok y → (b ≡ true) × (r ≡ Ok y)
chosen_then true e r y is = (refl, is)
chosen_then false e r y is = absurd cc
