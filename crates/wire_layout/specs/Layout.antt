-- How the values of a message are laid out: Kafka protocol guide, "Protocol Primitive Types" and "Notations".
use Rattle.std.specs.Prelude.{ℤ, negsuc, ℕ, zero, suc, ◌≡◌, ◌<◌, ◌^◌, ◌⊎◌, List, [], ◌∷◌, ◌++◌, length, Option, None, Some, FitsSigned, Result, Ok, Err}
use Rattle.std.specs.Int.{w8, w16, w32, w64}
use Rattle.std.specs.Str.{IsUtf8}
use Rattle.wire_prim.specs.declared.error.PrimNo.{PrimNo}
use Rattle.wire_prim.specs.declared.error.PrimNo.TheVariants.{Want}
use Rattle.wire_prim.specs.Behind.{Behind, behind_int8, behind_int16, behind_int32, behind_int64, behind_string, behind_nullable_string, behind_bytes_item, behind_nullable_bytes, behind_count, behind_nullable_count, count_at, nullable_count_at}
use Rattle.wire_prim.specs.Item.{int8_bytes, int16_bytes, int32_bytes, int64_bytes, string_item, nullable_string_item, bytes_item, nullable_bytes_item, count_item}

-- the bytes that follow a value, or why it doesn't read and the bytes from that item on
abbrev pub Reach : Type 0
Reach = Result (List ℕ) (PrimNo × List ℕ)

-- an item that is read whole or not at all
abbrev pub placed : Behind → List ℕ → Reach
placed (Ok rest) left = Ok rest
placed (Err cause) left = Err (cause, left)

-- the same without the place
abbrev pub without_place : Reach → Behind
without_place (Ok rest) = Ok rest
without_place (Err stop) = Err stop.0

-- what is left: what follows the value, or what begins with the item that doesn't read
abbrev pub left_of : Reach → List ℕ
left_of (Ok rest) = rest
left_of (Err stop) = stop.1

-- the answer is the one that the bytes give, and that is left which they say; or want of memory
abbrev pub ReachesOrWants : {T : Type 0} → Result T PrimNo → Reach → List ℕ → Type 0
ReachesOrWants (Ok value) reach left = reach ≡ Ok left
ReachesOrWants (Err cause) reach left = (cause ≡ Want) ⊎ (reach ≡ Err (cause, left))

-- how far two values in turn reach
abbrev pub next : Reach → (List ℕ → Reach) → Reach
next (Ok rest) value = value rest
next (Err stop) value = Err stop

-- how far so many equal values reach
abbrev pub behind_many : ℕ → (List ℕ → Reach) → List ℕ → Reach
behind_many zero value left = Ok left
behind_many (suc n) value left = next (value left) (behind_many n value)

-- how far the values of an array reach, of which there are none where it is null
abbrev pub behind_some : Option ℕ → (List ℕ → Reach) → List ℕ → Reach
behind_some None value left = Ok left
behind_some (Some n) value left = behind_many n value left

-- the bytes of a value, which values have them, and how far they reach in what is left to read
pub record Layout (T : Type 0) : Type 1 where
  pub spelling : T → List ℕ
  pub fits : T → Type 0
  pub behind : List ℕ → Reach

unfoldable pub int8 : Layout ℤ
int8 = record { spelling = int8_bytes; fits = FitsSigned w8; behind = λ left. placed (behind_int8 left) left }

unfoldable pub int16 : Layout ℤ
int16 = record { spelling = int16_bytes; fits = FitsSigned w16; behind = λ left. placed (behind_int16 left) left }

unfoldable pub int32 : Layout ℤ
int32 = record { spelling = int32_bytes; fits = FitsSigned w32; behind = λ left. placed (behind_int32 left) left }

unfoldable pub int64 : Layout ℤ
int64 = record { spelling = int64_bytes; fits = FitsSigned w64; behind = λ left. placed (behind_int64 left) left }

-- a text that a STRING holds
pub record IsString (text : List ℕ) : Type 0 where
  pub short : length text < 2 ^ 15
  pub utf8 : IsUtf8 text

unfoldable pub string : Layout (List ℕ)
string = record { spelling = string_item; fits = IsString; behind = λ left. placed (behind_string left) left }

-- what holds of a value that isn't null
abbrev pub unless_null : {T : Type 0} → (T → Type 0) → Option T → Type 0
unless_null fits None = Unit {0}
unless_null fits (Some value) = fits value

unfoldable pub nullable_string : Layout (Option (List ℕ))
nullable_string = record { spelling = nullable_string_item; fits = unless_null IsString; behind = λ left. placed (behind_nullable_string left) left }

-- BYTES
unfoldable pub bytes : Layout (List ℕ)
bytes = record { spelling = bytes_item; fits = λ piece. length piece < 2 ^ 31; behind = λ left. placed (behind_bytes_item left) left }

-- NULLABLE_BYTES
unfoldable pub nullable_bytes : Layout (Option (List ℕ))
nullable_bytes = record { spelling = nullable_bytes_item; fits = unless_null (λ piece. length piece < 2 ^ 31); behind = λ left. placed (behind_nullable_bytes left) left }

-- the items, one after another
abbrev pub spelled : {T : Type 0} → (T → List ℕ) → List T → List ℕ
spelled spelling [] = []
spelled spelling (item ∷ items) = spelling item ++ spelled spelling items

-- what holds of each item
abbrev pub each : {T : Type 0} → (T → Type 0) → List T → Type 0
each fits [] = Unit {0}
each fits (item ∷ items) = fits item × each fits items

-- an array's length and its items
abbrev pub array_bytes : {T : Type 0} → (T → List ℕ) → List T → List ℕ
array_bytes spelling items = count_item (length items) ++ spelled spelling items

-- the items that an array holds
pub record IsArray {T : Type 0} (fits : T → Type 0) (items : List T) : Type 0 where
  pub few : length items < 2 ^ 31
  pub each : each fits items

-- ARRAY: [x]
unfoldable pub array : {T : Type 0} → Layout T → Layout (List T)
array item = record {
  spelling = array_bytes item.spelling;
  fits = IsArray item.fits;
  behind = λ left. next (placed (behind_count left) left) (behind_many (count_at left) item.behind);
}

abbrev pub nullable_array_bytes : {T : Type 0} → (T → List ℕ) → Option (List T) → List ℕ
nullable_array_bytes spelling None = int32_bytes (negsuc 0)
nullable_array_bytes spelling (Some items) = array_bytes spelling items

-- ARRAY that may be null: [x]?
unfoldable pub nullable_array : {T : Type 0} → Layout T → Layout (Option (List T))
nullable_array item = record {
  spelling = nullable_array_bytes item.spelling;
  fits = unless_null (IsArray item.fits);
  behind = λ left. next (placed (behind_nullable_count left) left) (behind_some (nullable_count_at left) item.behind);
}

-- a field of a message
abbrev pub field : {M T : Type 0} → (M → T) → Layout T → Layout M
field get item = record { spelling = λ m. item.spelling (get m); fits = λ m. item.fits (get m); behind = item.behind }

infixr 5 ◌&◌
-- the first fields, and the others behind them
abbrev pub ◌&◌ : {M : Type 0} → Layout M → Layout M → Layout M
first & others = record {
  spelling = λ m. first.spelling m ++ others.spelling m;
  fits = λ m. first.fits m × others.fits m;
  behind = λ left. next (first.behind left) others.behind;
}

-- a field that always has this value and takes no bytes
abbrev pub fixed : {M T : Type 0} → (M → T) → T → Layout M
fixed get value = record { spelling = λ m. []; fits = λ m. get m ≡ value; behind = λ left. Ok left }

-- a message without fields
abbrev pub nothing : {M : Type 0} → Layout M
nothing = record { spelling = λ m. []; fits = λ m. Unit {0}; behind = λ left. Ok left }
