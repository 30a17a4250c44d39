-- A JSON value with the text of its numbers, texts and names (RFC 8259, sections 2 to 5).
use Rattle.std.specs.Prelude.{◌≡◌, ℕ, suc, List, [], ◌∷◌, ◌++◌, Bool, true, false, ⊤}
use Rattle.json_token.specs.Tokens.{Token, begin_array, end_array, begin_object, end_object, comma, colon, null_name, true_name, false_name, numeral, quoted}

mutual
  -- a text and a name have the bytes between their quotes, as they are spelled
  pub data Json : Type 0 where
    null : Json
    boolean : Bool → Json
    number : List ℕ → Json
    text : List ℕ → Json
    array : Items → Json
    object : Members → Json

  pub data Items : Type 0 where
    no_items : Items
    item : Json → Items → Items

  pub data Members : Type 0 where
    no_members : Members
    member : List ℕ → Json → Members → Members

-- array = [ value *( , value ) ] and object = { member *( , member ) }, where a member is a name, a colon and a value
abbrev mutual
  pub tokens : Json → List Token
  tokens null = null_name ∷ []
  tokens (boolean true) = true_name ∷ []
  tokens (boolean false) = false_name ∷ []
  tokens (number s) = numeral s ∷ []
  tokens (text s) = quoted s ∷ []
  tokens (array js) = begin_array ∷ item_tokens js
  tokens (object ms) = begin_object ∷ member_tokens ms

  -- up to the closing bracket
  pub item_tokens : Items → List Token
  item_tokens no_items = end_array ∷ []
  item_tokens (item j js) = tokens j ++ more_item_tokens js

  pub more_item_tokens : Items → List Token
  more_item_tokens no_items = end_array ∷ []
  more_item_tokens (item j js) = comma ∷ (tokens j ++ more_item_tokens js)

  pub member_tokens : Members → List Token
  member_tokens no_members = end_object ∷ []
  member_tokens (member s j ms) = quoted s ∷ (colon ∷ (tokens j ++ more_member_tokens ms))

  pub more_member_tokens : Members → List Token
  more_member_tokens no_members = end_object ∷ []
  more_member_tokens (member s j ms) = comma ∷ (quoted s ∷ (colon ∷ (tokens j ++ more_member_tokens ms)))

-- arrays and objects nest at most so many levels deep
abbrev mutual
  pub IsWithin : ℕ → Json → Type 0
  IsWithin levels null = ⊤
  IsWithin levels (boolean b) = ⊤
  IsWithin levels (number s) = ⊤
  IsWithin levels (text s) = ⊤
  IsWithin levels (array js) = (below : ℕ) × (levels ≡ suc below) × ItemsWithin below js
  IsWithin levels (object ms) = (below : ℕ) × (levels ≡ suc below) × MembersWithin below ms

  pub ItemsWithin : ℕ → Items → Type 0
  ItemsWithin levels no_items = ⊤
  ItemsWithin levels (item j js) = IsWithin levels j × ItemsWithin levels js

  pub MembersWithin : ℕ → Members → Type 0
  MembersWithin levels no_members = ⊤
  MembersWithin levels (member s j ms) = IsWithin levels j × MembersWithin levels ms
