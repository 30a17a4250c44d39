-- From what the reader of a value says to what the reader of a body says.
use Rattle.std.proofs.Common.{◌≡◌, ℕ, ◌<◌, List, [], ◌∷◌, length, Option, Some, None, Result, Ok, Err, sym, refl, arith}
use Rattle.serde_json.specs.Data.{Data}
use Rattle.serde_json.specs.View.{view}
use Rattle.serde_json.specs.declared.value.Value.{Value}
use Rattle.rest_calls.specs.Json.{IsJson}
use Rattle.rest_calls.specs.Create.{created_by}
use Rattle.rest_calls.specs.Reading.{CreatedAs}
use Rattle.rest_calls.specs.Reads.{Reads, ReadsAs, Gives, created_view}
use Rattle.rest_calls.specs.declared.create.Created.{Created}
use Rattle.rest_calls.specs.declared.unread.Unread.{Unread}
use Rattle.rest_calls.specs.declared.unread.Unread.TheVariants.{Unreadable, Invalid, Want}

-- the body is JSON
pub read_on : {X Y : Type 0} (seen : X → Y) (f : Option Data → Option Y) (body : List ℕ) (d : Data) (result : Result X Unread) → IsJson body (Some d) → Reads seen result (f (Some d)) → ReadsAs seen result (λ y. (value : Option Data) × IsJson body value × (y ≡ f value))
read_on seen f body d (Ok x) is reads = (Some d, is, sym reads)
read_on seen f body d (Err Unreadable) is reads = (Some d, is, sym reads)
read_on seen f body d (Err Invalid) is reads = reads
read_on seen f body d (Err Want) is reads = tt

-- the body isn't JSON, so it gives nothing
pub read_none : {X Y : Type 0} (seen : X → Y) (f : Option Data → Option Y) (body : List ℕ) (e : Unread) → f None ≡ None → ReadsAs {X = Value} view (Err e) (IsJson body) → ReadsAs seen (Err e) (λ y. (value : Option Data) × IsJson body value × (y ≡ f value))
read_none seen f body Unreadable gives is = (None, is, sym gives)
read_none seen f body Invalid gives is = is
read_none seen f body Want gives is = tt

pub created_on : (body : List ℕ) (d : Data) (result : Result Created Unread) → 0 < length body → IsJson body (Some d) → Gives created_view result (λ r. r ≡ created_by (Some d)) → Gives created_view result (CreatedAs body)
created_on [] d result some is gives = absurd (omega (arith, some))
created_on (b ∷ bs) d (Ok x) some is gives = (Some d, is, gives)
created_on (b ∷ bs) d (Err Unreadable) some is gives = (Some d, is, gives)
created_on (b ∷ bs) d (Err Invalid) some is gives = (Some d, is, gives)
created_on (b ∷ bs) d (Err Want) some is gives = tt

pub created_none : (body : List ℕ) (e : Unread) → 0 < length body → ReadsAs {X = Value} view (Err e) (IsJson body) → Gives created_view (Err e) (CreatedAs body)
unfolding created_by
created_none [] e some is = absurd (omega (arith, some))
created_none (b ∷ bs) Unreadable some is = (None, is, refl)
created_none (b ∷ bs) Invalid some is = absurd is
created_none (b ∷ bs) Want some is = tt
