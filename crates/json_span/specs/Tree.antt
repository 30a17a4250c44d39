-- What a tree's nodes stand for: each node has its source text without white space, and its parts are nodes of the tree.
use Rattle.std.specs.Prelude.{◌≡◌, ℕ, ◌-◌, ◌<◌, ◌≤◌, List, [], ◌∷◌, length, take, drop, slice_get, Option, Some, None, All}
use Rattle.json_span.specs.Json.{Json, Items, Members, null, boolean, number, text, array, object, no_items, item, no_members, member, tokens}
use Rattle.json_token.specs.Tokens.{AreTokens}
use Rattle.json_span.specs.Text.{compact, IsText}
use Rattle.json_span.specs.Refusals.{max_levels}
use Rattle.json_token.specs.Chars.{content, IsChars}
use Rattle.json_span.specs.declared.tree.Node.{Node}
use Rattle.json_span.specs.declared.tree.Form.{Form}
use Rattle.json_span.specs.declared.tree.Form.TheVariants.{Null, Bool as Flag, Number, Plain, Escaped, Array, Object}
use Rattle.json_span.specs.declared.tree.Member.{Member}

-- node k is n, and its source text is that of the value
pub record IsNode (nodes : List Node) (source : List ℕ) (k : ℕ) (n : Node) (j : Json) : Type 0 where
  pub is : slice_get nodes k ≡ Some n
  pub begins : n.start ≤ n.end
  pub ends : n.end ≤ length source
  pub spells : take (n.end - n.start) (drop n.start source) ≡ compact j
  pub valid : AreTokens (tokens j)

-- a text without escapes stands for itself
abbrev pub HasContent : Form → List ℕ → Type 0
HasContent Plain s = content s ≡ s
HasContent (Escaped t) s = content s ≡ t
HasContent Null s = ⊥
HasContent (Flag b) s = ⊥
HasContent Number s = ⊥
HasContent (Array v) s = ⊥
HasContent (Object v) s = ⊥

abbrev pub items_of : Form → Option (List ℕ)
items_of (Array ks) = Some ks
items_of Null = None
items_of (Flag b) = None
items_of Number = None
items_of Plain = None
items_of (Escaped t) = None
items_of (Object v) = None

abbrev pub members_of : Form → Option (List Member)
members_of (Object vs) = Some vs
members_of Null = None
members_of (Flag b) = None
members_of Number = None
members_of Plain = None
members_of (Escaped t) = None
members_of (Array v) = None

abbrev mutual
  -- node k stands for the value
  pub StandsIn : List Node → List ℕ → ℕ → Json → Type 0
  StandsIn nodes source k null = (n : Node) × IsNode nodes source k n null × (n.form ≡ Null)
  StandsIn nodes source k (boolean b) = (n : Node) × IsNode nodes source k n (boolean b) × (n.form ≡ Flag b)
  StandsIn nodes source k (number s) = (n : Node) × IsNode nodes source k n (number s) × (n.form ≡ Number)
  StandsIn nodes source k (text s) = (n : Node) × IsNode nodes source k n (text s) × HasContent n.form s
  StandsIn nodes source k (array js) = (n : Node) × IsNode nodes source k n (array js) × (ks : List ℕ) × (items_of n.form ≡ Some ks) × All (λ c. c < k) ks × ItemsIn nodes source ks js
  StandsIn nodes source k (object ms) = (n : Node) × IsNode nodes source k n (object ms) × (vs : List Member) × (members_of n.form ≡ Some vs) × All (λ m. m.node < k) vs × MembersIn nodes source vs ms

  -- these nodes stand for the items
  pub ItemsIn : List Node → List ℕ → List ℕ → Items → Type 0
  ItemsIn nodes source ks no_items = ks ≡ []
  ItemsIn nodes source ks (item j js) = (k : ℕ) × (rest : List ℕ) × (ks ≡ k ∷ rest) × StandsIn nodes source k j × ItemsIn nodes source rest js

  -- these members have the names, and their nodes stand for the values
  pub MembersIn : List Node → List ℕ → List Member → Members → Type 0
  MembersIn nodes source vs no_members = vs ≡ []
  MembersIn nodes source vs (member s j ms) = (m : Member) × (rest : List Member) × (vs ≡ m ∷ rest) × (m.name ≡ content s) × IsChars s × StandsIn nodes source m.node j × MembersIn nodes source rest ms

-- the bytes are the text of the value that the node stands for, and of no other
pub record IsRead (bytes : List ℕ) (nodes : List Node) (source : List ℕ) (node : ℕ) : Type 0 where
  pub value : Json
  pub text : IsText max_levels bytes value
  pub stands : StandsIn nodes source node value
  pub only : (levels : ℕ) (j : Json) → IsText levels bytes j → j ≡ value
