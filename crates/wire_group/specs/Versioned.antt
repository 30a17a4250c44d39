-- What stands in a group's messages in any version: Kafka's ConsumerProtocolSubscription.json and ConsumerProtocolAssignment.json.
use Rattle.std.specs.Prelude.{ℤ, pos, negsuc, ℕ, ◌≡◌, ◌<◌, ◌^◌, List, [], ◌++◌, length, Result, Ok, Err, IfOk}
use Rattle.wire_prim.specs.declared.error.PrimNo.TheVariants.{Negative}
use Rattle.wire_prim.specs.Behind.{Behind, behind_int16, int16_at}
use Rattle.wire_prim.specs.Item.{int16_bytes}
use Rattle.wire_layout.specs.declared.error.WireNo.{WireNo}
use Rattle.wire_layout.specs.declared.error.WireNo.TheVariants.{Prim, Rest, Want}
use Rattle.wire_layout.specs.Layout.{Layout, Reach, next, placed, without_place}
use Rattle.wire_layout.specs.Whole.{IsOrWants}

-- a version from 0 on, the fields, and in a version above 0 any further bytes
pub record Spells {M : Type 0} (layout : Layout M) (m : M) (whole : List ℕ) : Type 0 where
  pub version : ℕ
  pub further : List ℕ
  pub small : version < 2 ^ 15
  pub bytes : whole ≡ int16_bytes (pos version) ++ (layout.spelling m ++ further)
  pub none : version ≡ 0 → further ≡ []

-- how far the fields behind a version reach; a version below 0 doesn't read
abbrev pub behind_version : ℤ → List ℕ → (List ℕ → Reach) → List ℕ → Reach
behind_version (pos n) whole fields left = fields left
behind_version (negsuc k) whole fields left = Err (Negative, whole)

-- how far a version and the fields behind it reach
abbrev pub behind_versioned : (List ℕ → Reach) → List ℕ → Reach
behind_versioned fields whole = next (placed (behind_int16 whole) whole) (behind_version (int16_at whole) whole fields)

-- the answer is the one that the bytes give: an item doesn't read, or so many bytes are left in version 0
abbrev pub VersionedEnds : {M : Type 0} → Result M WireNo → Behind → ℤ → Type 0
VersionedEnds (Ok m) behind version = (rest : List ℕ) × (behind ≡ Ok rest) × (version ≡ pos 0 → rest ≡ [])
VersionedEnds (Err (Prim cause)) behind version = behind ≡ Err cause
VersionedEnds (Err (Rest n)) behind version = (rest : List ℕ) × (behind ≡ Ok rest) × (version ≡ pos 0) × (length rest ≡ n) × (0 < n)
VersionedEnds (Err Want) behind version = Unit {0}

-- the bytes spell what is read, and what they spell is read
pub record IsVersionedRead {M : Type 0} (layout : Layout M) (whole : List ℕ) (result : Result M WireNo) : Type 0 where
  pub value : IfOk result (λ m. Spells layout m whole)
  pub fits : IfOk result layout.fits
  pub answer : VersionedEnds result (without_place (behind_versioned layout.behind whole)) (int16_at whole)
  pub exact : (m : M) → layout.fits m → Spells layout m whole → IsOrWants result m

-- the bytes are version 0 and the spelling of the fields, which have one, and they stand in BYTES
pub record IsVersionedWritten {M : Type 0} (layout : Layout M) (m : M) (out : List ℕ) : Type 0 where
  pub bytes : out ≡ int16_bytes (pos 0) ++ layout.spelling m
  pub fits : layout.fits m
  pub small : length out < 2 ^ 31
