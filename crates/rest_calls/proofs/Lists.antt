-- From the items read so far, and one more, to what the whole list reads as.
use Rattle.std.proofs.Common.{◌≡◌, ◌∙◌, ℕ, ◌+◌, ◌<◌, List, [], ◌∷◌, ◌++◌, length, get_or, drop, map, Option, None, Some, option_map, append_assoc, refl, sym, ap}
use Rattle.std.proofs.lemmas.List.{at_drop_more, map-append}
use Rattle.serde_json.specs.Data.{Data}
use Rattle.serde_json.specs.View.{view, items_view}
use Rattle.serde_json.specs.declared.value.Value.{Value}
use Rattle.rest_calls.specs.Json.{put_first, all_of}

-- what a list gives: the items before it, and then its own
abbrev pub behind : {X Y : Type 0} → (X → Y) → (Data → Option Y) → List X → List Value → Option (List Y)
behind seen reader xs vs = option_map (λ more. map seen xs ++ more) (all_of reader (items_view vs))

abbrev pub joined : {Y : Type 0} → List Y → Option Y → Option (List Y) → Option (List Y)
joined before found rest = option_map (λ more. before ++ more) (put_first found rest)

pub joined_some : {Y : Type 0} (before : List Y) (y : Y) (rest : Option (List Y)) → joined before (Some y) rest ≡ option_map (λ more. (before ++ y ∷ []) ++ more) rest
joined_some before y None = refl
joined_some before y (Some more) = ap (λ l. Some l) (sym (append_assoc before (y ∷ []) more))

-- the value at i, and then the rest
behind_at : {X Y : Type 0} (seen : X → Y) (reader : Data → Option Y) (vs : List Value) (i : ℕ) (v : Value) (xs : List X) → i < length vs → v ≡ get_or vs i v → behind seen reader xs (drop i vs) ≡ joined (map seen xs) (reader (view v)) (all_of reader (items_view (drop (i + 1) vs)))
behind_at seen reader vs i v xs within at =
    at_drop_more (behind seen reader xs) vs i v within
    ∙ ap (λ u. joined (map seen xs) (reader (view u)) (all_of reader (items_view (drop (i + 1) vs)))) (sym at)

pub one_more : {X Y : Type 0} (seen : X → Y) (reader : Data → Option Y) (vs : List Value) (i : ℕ) (v : Value) (xs : List X) (x : X) → i < length vs → v ≡ get_or vs i v → reader (view v) ≡ Some (seen x) → behind seen reader (xs ++ x ∷ []) (drop (i + 1) vs) ≡ behind seen reader xs (drop i vs)
one_more seen reader vs i v xs x within at reads =
    let rest = all_of reader (items_view (drop (i + 1) vs)) in
    ap (λ l. option_map (λ more. l ++ more) rest) (map-append seen xs (x ∷ []))
    ∙ sym (joined_some (map seen xs) (seen x) rest)
    ∙ ap (λ o. joined (map seen xs) o rest) (sym reads)
    ∙ sym (behind_at seen reader vs i v xs within at)

-- an item that doesn't read: nor does the list
pub none_more : {X Y : Type 0} (seen : X → Y) (reader : Data → Option Y) (vs : List Value) (i : ℕ) (v : Value) (xs : List X) → i < length vs → v ≡ get_or vs i v → reader (view v) ≡ None → behind seen reader xs (drop i vs) ≡ None
none_more seen reader vs i v xs within at reads =
    behind_at seen reader vs i v xs within at
    ∙ ap (λ o. joined (map seen xs) o (all_of reader (items_view (drop (i + 1) vs)))) reads
