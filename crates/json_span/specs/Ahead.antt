-- What may follow the tokens that were read: from the open arrays and objects to the tokens that complete the value.
-- Only private clauses cite it.
use Rattle.std.specs.Prelude.{◌≡◌, ℕ, suc, ◌+◌, ◌-◌, List, [], ◌∷◌, ◌++◌, length, Bool, true, false, ◌⊎◌}
use Rattle.json_span.specs.Json.{Json, Items, Members, array, object, no_items, item, no_members, member, tokens, item_tokens, more_item_tokens, member_tokens, more_member_tokens, IsWithin, ItemsWithin, MembersWithin}
use Rattle.json_token.specs.Tokens.{Token, end_array, colon, quoted}

-- an open array with the items before the one that is read, an open object with the members before and the name
pub data Frame : Type 0 where
  in_array : Items → Frame
  in_object : Members → List ℕ → Frame

abbrev pub join_items : Items → Items → Items
join_items no_items js = js
join_items (item j front) js = item j (join_items front js)

abbrev pub join_members : Members → Members → Members
join_members no_members ms = ms
join_members (member s j front) ms = member s j (join_members front ms)

-- the tokens that complete the value j inside the frames to the whole value; so many levels are left inside
abbrev pub After : ℕ → List Frame → Json → List Token → Json → Type 0
After levels [] j ts whole = (ts ≡ []) × (whole ≡ j)
After levels (in_array front ∷ frames) j ts whole =
    (js : Items) × (rest : List Token) × ItemsWithin levels js × (ts ≡ more_item_tokens js ++ rest) × After (suc levels) frames (array (join_items front (item j js))) rest whole
After levels (in_object front s ∷ frames) j ts whole =
    (ms : Members) × (rest : List Token) × MembersWithin levels ms × (ts ≡ more_member_tokens ms ++ rest) × After (suc levels) frames (object (join_members front (member s j ms))) rest whole

-- a value comes next
pub record Value (levels : ℕ) (frames : List Frame) (ts : List Token) (whole : Json) : Type 0 where
  pub j : Json
  pub rest : List Token
  pub inside : IsWithin levels j
  pub split : ts ≡ tokens j ++ rest
  pub after : After levels frames j rest whole

-- the first item of an array, or its end
pub record FirstItem (levels : ℕ) (frames : List Frame) (ts : List Token) (whole : Json) : Type 0 where
  pub js : Items
  pub rest : List Token
  pub inside : ItemsWithin levels js
  pub split : ts ≡ item_tokens js ++ rest
  pub after : After (suc levels) frames (array js) rest whole

-- the first member of an object, or its end
pub record FirstName (levels : ℕ) (frames : List Frame) (ts : List Token) (whole : Json) : Type 0 where
  pub ms : Members
  pub rest : List Token
  pub inside : MembersWithin levels ms
  pub split : ts ≡ member_tokens ms ++ rest
  pub after : After (suc levels) frames (object ms) rest whole

-- a name, after the members in front
pub record NextName (levels : ℕ) (frames : List Frame) (front : Members) (ts : List Token) (whole : Json) : Type 0 where
  pub s : List ℕ
  pub j : Json
  pub ms : Members
  pub rest : List Token
  pub inside : IsWithin levels j × MembersWithin levels ms
  pub split : ts ≡ quoted s ∷ (colon ∷ (tokens j ++ (more_member_tokens ms ++ rest)))
  pub after : After (suc levels) frames (object (join_members front (member s j ms))) rest whole

-- a colon, after the name
pub record Colon (levels : ℕ) (frames : List Frame) (front : Members) (s : List ℕ) (ts : List Token) (whole : Json) : Type 0 where
  pub j : Json
  pub ms : Members
  pub rest : List Token
  pub inside : IsWithin levels j × MembersWithin levels ms
  pub split : ts ≡ colon ∷ (tokens j ++ (more_member_tokens ms ++ rest))
  pub after : After (suc levels) frames (object (join_members front (member s j ms))) rest whole

-- from a number of levels beyond the limit to what completes the value
abbrev pub Ahead : Type 1
Ahead = ℕ → List Token → Json → Type 0

-- a value comes next inside the frames
abbrev pub ValueAt : List Frame → Ahead
ValueAt frames extra = Value (127 - length frames + extra) frames

-- the value j stands inside the frames
abbrev pub AfterAt : List Frame → Json → Ahead
AfterAt frames j extra = After (127 - length frames + extra) frames j

-- the array that has just begun ends at once
abbrev pub Closes : List Frame → Ahead
Closes [] extra ts j = ⊥
Closes (in_object front s ∷ outer) extra ts j = ⊥
Closes (in_array (item i front) ∷ outer) extra ts j = ⊥
Closes (in_array no_items ∷ outer) extra ts j = (rest : List Token) × (ts ≡ end_array ∷ rest) × AfterAt outer (array no_items) extra rest j

-- a value comes next inside the frames, or, where an array has just begun, its end
abbrev pub Expect : Bool → List Frame → Ahead
Expect false frames extra ts j = ValueAt frames extra ts j
Expect true frames extra ts j = ValueAt frames extra ts j ⊎ Closes frames extra ts j

-- an object has begun inside the frames
abbrev pub FirstNameAt : List Frame → Ahead
FirstNameAt frames extra = FirstName (127 - suc (length frames) + extra) frames

-- a name must come behind the members in front
abbrev pub NextNameAt : List Frame → Members → Ahead
NextNameAt frames front extra = NextName (127 - suc (length frames) + extra) frames front

-- a colon must come behind the name
abbrev pub ColonAt : List Frame → Members → List ℕ → Ahead
ColonAt frames front s extra = Colon (127 - suc (length frames) + extra) frames front s
