-- A body as JSON (RFC 8259): its value, where it is a text of JSON, and lists of what its items read as.
use Rattle.std.specs.Prelude.{◌≡◌, ℕ, List, [], ◌∷◌, Option, Some, None, IsUtf8}
use Rattle.serde_json.specs.Data.{Data, Items, no_items, item}
use Rattle.serde_json.specs.Read.{read}

-- the body is a text of JSON with this value, or isn't one
abbrev pub IsJson : List ℕ → Option Data → Type 0
IsJson body (Some d) = IsUtf8 body × (read body ≡ Some d)
IsJson body None = IsUtf8 body → read body ≡ None

-- a list, where its first item and the others read
abbrev pub put_first : {Y : Type 0} → Option Y → Option (List Y) → Option (List Y)
put_first (Some y) (Some more) = Some (y ∷ more)
put_first (Some y) None = None
put_first None more = None

-- what all items read as, in order
abbrev pub all_of : {Y : Type 0} → (Data → Option Y) → Items → Option (List Y)
all_of reader no_items = Some []
all_of reader (item d ds) = put_first (reader d) (all_of reader ds)
