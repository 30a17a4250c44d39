-- A partition found by its place, as the code finds it.
use Rattle.std.proofs.Common.{◌≡◌, ℕ, List, get_or, Some, Result, Ok, Err, ap, sym, ◌∙◌}
use Rattle.std.specs.Prelude.{slice_get, slice_set, ℤ, pos, negsuc, IfOk}
use Rattle.std.specs.Int.{FitsUnsignedBits}
use lib.IntN.{nat_abs}
use Rattle.std.proofs.lemmas.Option.{get_or_from_slice_get}
use Rattle.model.specs.state.Log.{Topic, Part}
use Rattle.broker_link.specs.Stored.{appended}
use Rattle.broker_link.specs.declared.link.NewRecord.{NewRecord}

-- the topic with the records in its partition
abbrev pub with_records : Topic → ℕ → Part → List NewRecord → Topic
with_records t number part records = record { name = t.name; parts = slice_set t.parts number (appended part records) }

-- what the topic's append says, for the topic at its place
pub store_at : {E : Type 0} (inside log : List Topic) (place : ℕ) (d new : Topic) (r : Result ℕ E) (number : ℕ) (records : List NewRecord)
    → inside ≡ log → d ≡ get_or inside place d
    → IfOk r (λ base. (part : Part) → slice_get d.parts number ≡ Some part → (base ≡ part.end) × (new ≡ with_records d number part records))
    → IfOk r (λ base. (t : Topic) (part : Part) → slice_get log place ≡ Some t → slice_get t.parts number ≡ Some part
    → (base ≡ part.end) × (slice_set inside place new ≡ slice_set log place (with_records t number part records)))
store_at inside log place d new (Err e) number records same at said = tt
store_at inside log place d new (Ok base) number records same at said = λ t part there here.
    let is : d ≡ t = at ∙ (ap (λ l. get_or l place d) same ∙ get_or_from_slice_get log place t d there) in
    let got = said part (ap (λ (x : Topic). slice_get x.parts number) is ∙ here) in
    (got.0, ap (λ l. slice_set l place new) same ∙ ap (slice_set log place) (got.1 ∙ ap (λ (x : Topic). with_records x number part records) is))

-- a number that fits an unsigned type is not below 0
pub is_pos : (z : ℤ) (n : ℕ) → FitsUnsignedBits 64 z → n ≡ nat_abs z → z ≡ pos n
is_pos (pos m) n fits e = ap pos (sym e)
is_pos (negsuc m) n fits e = absurd fits
